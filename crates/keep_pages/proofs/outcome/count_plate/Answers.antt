-- count_plate: entries that differ are pixels that change.
use Rattle.std.proofs.Common.{◌≡◌, List, length, ap, sym, ◌∙◌}
use Rattle.page_model.specs.declared.parts.Plane.{Plane}
use Rattle.page_model.specs.Planes.{plane_at}
use Rattle.keep_pages.specs.KeptPages.{kept_tints}
use Rattle.keepaway.proofs.RowLemmas.{plane_long}
use Rattle.keep_pages.proofs.PageLemmas.{changed_is, kept_at, kept_long}
use Rattle.keep_pages.proofs.outcome.count_plate.Goals as goal

pub count_changed-requires-clause-long : goal.count_changed-requires-clause-long
count_changed-requires-clause-long c =
    let page = c.args.page.now in
    let old = c.tints_at.result.now in
    let new = c.tints_at-2.result.now in
    let is_old : old ≡ (plane_at page.planes c.args.c).tints = c.tints_at.ensures ∙ ap (λ (ps : List Plane). (plane_at ps c.args.c).tints) c.planes.ensures.value in
    let is_new : new ≡ kept_tints page c.args.used.now c.args.c = c.tints_at-2.ensures ∙ ap (λ (ps : List Plane). (plane_at ps c.args.c).tints) c.requires.planes ∙ ap (λ (p : Plane). p.tints) (kept_at page c.args.used.now c.args.c c.requires.plate) in
    ap length is_new ∙ kept_long page c.args.used.now c.args.c ∙ sym (ap length is_old ∙ plane_long page c.args.c c.plates-valid.ensures.valid c.requires.plate)

pub returns : goal.returns
returns c =
    let page = c.args.page.now in
    let old = c.tints_at.result.now in
    let new = c.tints_at-2.result.now in
    let is_old : old ≡ (plane_at page.planes c.args.c).tints = c.tints_at.ensures ∙ ap (λ (ps : List Plane). (plane_at ps c.args.c).tints) c.planes.ensures.value in
    let is_new : new ≡ kept_tints page c.args.used.now c.args.c = c.tints_at-2.ensures ∙ ap (λ (ps : List Plane). (plane_at ps c.args.c).tints) c.requires.planes ∙ ap (λ (p : Plane). p.tints) (kept_at page c.args.used.now c.args.c c.requires.plate) in
    c.count_changed.ensures ∙ changed_is page c.args.used.now c.args.c (length old) old new is_old is_new (ap length is_old ∙ plane_long page c.args.c c.plates-valid.ensures.valid c.requires.plate)
