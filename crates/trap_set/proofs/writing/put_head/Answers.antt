-- put_head: puts the first two lines.
use Rattle.std.proofs.lemmas.Result.{err_from_is_err_and}
use Rattle.std.proofs.Common.{◌≡◌, ℕ, List, [], ◌∷◌, ◌++◌, length, get_or, ap, sym, ◌∙◌, refl}
use Rattle.std.specs.Prelude.{codes}
use Rattle.std.specs.List.{flat_map}
use Rattle.trap_set.specs.SetText.{head_of, number, page_line, title_line}
use Rattle.trap_set.proofs.HoldingLemmas.{puts_as, puts_then, puts_prefix}
use Rattle.trap_set.proofs.TextLemmas.{head_is}
use Rattle.std.proofs.lemmas.List.{get_or_default}
use Rattle.page_model.specs.declared.parts.Plane.{Plane}
use Rattle.page_model.specs.Planes.{plane_at, no_plane}
use Rattle.trap_set.proofs.writing.put_head.Goals as goal

pub returns : goal.returns
returns g c =
    let first : c.index-as_slice-0.result ≡ plane_at c.args.planes.now 0 = c.index-as_slice-0.is ∙ ap (λ (ps : List Plane). get_or ps 0 c.index-as_slice-0.result) c.as_slice.ensures ∙ get_or_default c.args.planes.now 0 c.index-as_slice-0.result no_plane c.requires.shape.some in
    puts_as c.put_plates.result (((title_line ++ codes "page") ++ flat_map number (c.index-as_slice-0.result.width ∷ c.index-as_slice-0.result.height ∷ c.index-as_slice-0.result.maxval ∷ [])) ++ ((codes " plates" ++ number (length c.args.planes.now)) ++ 10 ∷ [])) (title_line ++ page_line (head_of c.args.planes.now)) c.args.stored.now.items c.args.stored.now.items c.put_plates.new.stored.items (g.R.Rack.state c.args.rack.now) (g.R.Rack.state c.put_plates.new.rack) (ap (λ (p : Plane). ((title_line ++ codes "page") ++ flat_map number (p.width ∷ p.height ∷ p.maxval ∷ [])) ++ ((codes " plates" ++ number (length c.args.planes.now)) ++ 10 ∷ [])) first ∙ head_is (head_of c.args.planes.now)) refl
    (puts_then c.in_ok-put_sides.field-0 c.put_plates.result ((title_line ++ codes "page") ++ flat_map number (c.index-as_slice-0.result.width ∷ c.index-as_slice-0.result.height ∷ c.index-as_slice-0.result.maxval ∷ [])) ((codes " plates" ++ number (length c.args.planes.now)) ++ 10 ∷ []) c.args.stored.now.items c.put_sides.new.stored.items c.put_plates.new.stored.items
    (g.R.Rack.state c.args.rack.now) (g.R.Rack.state c.put_sides.new.rack) (g.R.Rack.state c.put_plates.new.rack) c.in_ok-put_sides.ensures
    (puts_as c.put_plates.result _ ((codes " plates" ++ number (length c.args.planes.now)) ++ 10 ∷ []) c.put_sides.new.stored.items c.put_sides.new.stored.items c.put_plates.new.stored.items (g.R.Rack.state c.put_sides.new.rack) (g.R.Rack.state c.put_plates.new.rack) (ap (λ (n : ℕ). (codes " plates" ++ number n) ++ 10 ∷ []) c.len-plates.ensures) refl c.put_plates.ensures))

pub returns-in_err-put_sides : goal.returns-in_err-put_sides
returns-in_err-put_sides g c =
    let p = err_from_is_err_and c.from_residual.result c.from_residual.ensures.1 in
    rw p.1 (
    let first : c.index-as_slice-0.result ≡ plane_at c.args.planes.now 0 = c.index-as_slice-0.is ∙ ap (λ (ps : List Plane). get_or ps 0 c.index-as_slice-0.result) c.as_slice.ensures ∙ get_or_default c.args.planes.now 0 c.index-as_slice-0.result no_plane c.requires.shape.some in
    puts_prefix c.in_err-put_sides.field-0.0 _ ((title_line ++ codes "page") ++ flat_map number (c.index-as_slice-0.result.width ∷ c.index-as_slice-0.result.height ∷ c.index-as_slice-0.result.maxval ∷ [])) ((codes " plates" ++ number (length c.args.planes.now)) ++ 10 ∷ []) (title_line ++ page_line (head_of c.args.planes.now)) c.args.stored.now.items c.put_sides.new.stored.items c.put_sides.new.stored.items
    (g.R.Rack.state c.args.rack.now) (g.R.Rack.state c.put_sides.new.rack) (sym (ap (λ (p : Plane). ((title_line ++ codes "page") ++ flat_map number (p.width ∷ p.height ∷ p.maxval ∷ [])) ++ ((codes " plates" ++ number (length c.args.planes.now)) ++ 10 ∷ [])) first ∙ head_is (head_of c.args.planes.now))) c.in_err-put_sides.ensures
    )
