-- copies_of: copies of all plates.
use Rattle.std.proofs.Common.{arith, ap, sym, subst, length, List, ◌∷◌, []}
use Rattle.std.proofs.lemmas.List.{length-append}
use Rattle.page_model.specs.declared.parts.Plane.{Plane}
use Rattle.page_model.specs.Planes.{plane_at}
use Rattle.page_tally.specs.Standing.{IsTrappedTo}
use Rattle.page_tally.proofs.StandingLemmas.{copied_next}
use Rattle.page_tally.proofs.planes.copies_of.Goals as goal

pub loop-c-preserved : goal.loop-c-preserved
loop-c-preserved c = record {
  end = c.loop-c.invariant.end;
  count = omega (arith, ap (λ (planes : List Plane). length planes) c.in_ok-push.ensures, length-append c.loop-c.planes (c.in_ok-copy_of.field-0 ∷ []), c.loop-c.invariant.count);
  each = λ j l. subst (λ (planes : List Plane). IsTrappedTo c.args.page.now j 0 (plane_at planes j)) (sym c.in_ok-push.ensures) (copied_next c.args.page.now c.loop-c.planes c.in_ok-copy_of.field-0 c.loop-c.c c.loop-c.invariant.count c.in_ok-copy_of.ensures c.loop-c.invariant.each j l);
}
