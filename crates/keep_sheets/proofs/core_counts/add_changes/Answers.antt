-- add_changes: the tints of a plane are the new tints of its plate.
use Rattle.std.proofs.Common.{List, ap, ◌∙◌, arith}
use Rattle.page_model.specs.declared.parts.Plane.{Plane}
use Rattle.page_model.specs.Planes.{plane_at}
use Rattle.keep_pages.proofs.PageLemmas.{kept_at}
use Rattle.keep_sheets.proofs.core_counts.add_changes.Goals as goal

pub changed_in-requires-clause-tints : goal.changed_in-requires-clause-tints
changed_in-requires-clause-tints c =
    c.tints_at.ensures
    ∙ ap (λ (planes : List Plane). (plane_at planes c.loop-c.c).tints) c.requires.planes
    ∙ ap (λ (plane : Plane). plane.tints) (kept_at c.args.page.now c.args.used.now c.loop-c.c (omega (arith, c.loop-c-test.true, c.plates-c-end.ensures.value)))
