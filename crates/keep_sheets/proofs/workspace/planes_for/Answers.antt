-- planes_for: one plane more.
use Rattle.std.proofs.Common.{◌*◌, List, [], ◌∷◌, length, ap, sym, subst, arith}
use Rattle.std.proofs.lemmas.List.{length-append}
use Rattle.page_model.specs.declared.parts.Plane.{Plane}
use Rattle.page_model.specs.Page.{height, width}
use Rattle.page_model.specs.Planes.{plane_at}
use Rattle.std.specs.Prelude.{◌≡◌}
use Rattle.keep_sheets.proofs.WorkspaceLemmas.{plane_next}
use Rattle.keep_sheets.proofs.workspace.planes_for.Goals as goal

pub loop-c-preserved : goal.loop-c-preserved
loop-c-preserved c =
    let many = width c.args.page.now * height c.args.page.now in
    record {
      end = c.loop-c.invariant.end;
      count = omega (arith, ap (λ (planes : List Plane). length planes) c.in_ok-push.ensures, length-append c.loop-c.planes (c.in_ok-plane_for.field-0 ∷ []), c.loop-c.invariant.count);
      each = λ j l. subst (λ (planes : List Plane). length (plane_at planes j).tints ≡ many) (sym c.in_ok-push.ensures) (plane_next c.loop-c.planes c.in_ok-plane_for.field-0 many c.loop-c._c c.loop-c.invariant.count c.in_ok-plane_for.ensures c.loop-c.invariant.each j l);
    }
