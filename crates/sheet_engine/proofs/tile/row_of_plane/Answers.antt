-- row_of_plane: row y of a plane that has all new tints of plate c.
use Rattle.std.proofs.lemmas.Grind.{common_steps}
use Rattle.std.proofs.Common.{◌≡◌, ℕ, ◌<◌, ◌+◌, ◌*◌, ◌∙◌, ap, arith, List, slice_index}
use Rattle.std.proofs.lemmas.Nat.{mul-add-lt}
use Rattle.page_model.specs.declared.parts.At.{At}
use Rattle.page_model.specs.declared.parts.PageParts.{PageParts}
use Rattle.page_model.specs.declared.parts.Plane.{Plane}
use Rattle.page_model.specs.Page.{height, width}
use Rattle.page_model.specs.Tints.{new}
use Rattle.page_tally.proofs.StandingLemmas.{numbered}
use Rattle.page_tally.specs.Standing.{IsTrappedTo}
use Rattle.sheet_engine.proofs.tile.row_of_plane.Goals as goal

row_new : (page : PageParts) (plane : Plane) (c y x w : ℕ) (items row : List ℕ) → w ≡ width page → items ≡ plane.tints → slice_index row x ≡ slice_index items (y * w + x) → IsTrappedTo page c (height page * width page) plane → y < height page → x < width page → slice_index row x ≡ new page (record { x = x; y = y }) c
row_new page plane c y x w items row ew ei er is ly lx =
    let inside : y * width page + x < height page * width page = (let t = mul-add-lt y (width page) x (height page) ly lx in omega (arith, t)) in
    er ∙ (λ i. slice_index (ei i) (y * ew i + x)) ∙ is.done (y * width page + x) inside ∙ ap (λ (p : At). new page p c) (numbered page y x lx)

pub returns-clause-news : goal.returns-clause-news
returns-clause-news c = λ x l. row_new c.args.page.now c.args.plane.now c.args.c c.args.y x c.width-width.result c.as_slice.result.now c.row_of.result.now c.width-width.ensures.value c.as_slice.ensures (c.row_of.ensures.each x (let w = c.width-width.ensures.value in omega (arith, l, w))) c.requires.plane c.requires.row l

pub row_of-requires-clause-inside : goal.row_of-requires-clause-inside
row_of-requires-clause-inside c = grind (arith, common_steps)
