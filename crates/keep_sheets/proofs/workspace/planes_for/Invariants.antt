-- The loop of planes_for: the planes so far have places for as many tints.
use Rattle.std.proofs.Common.{◌≡◌, ℕ, ◌*◌, ◌<◌, length}
use Rattle.page_model.specs.Page.{height, plates, width}
use Rattle.page_model.specs.Planes.{plane_at}
use Rattle.keep_sheets.proofs.workspace.planes_for.Given as goal

abbrev pub invariant-loop-c : goal.invariant-loop-c
invariant-loop-c l = record {
  end : l._c-end ≡ plates l.page;
  count : length l.planes ≡ l._c;
  each : (j : ℕ) → j < l._c → length (plane_at l.planes j).tints ≡ width l.page * height l.page;
}
