-- The loops of copy_planes: copies `kept` tints of each plane, those after the first `by`, to the
-- beginning of the plane of its number of the next strip; what stands after them there is to be
-- read.
use Rattle.std.proofs.Common.{◌≡◌, ℕ, ◌<◌, ◌≤◌, length}
use Rattle.page_model.specs.Planes.{plane_at}
use Rattle.sheet_stream.specs.Holding.{HasForm, IsCopied}
use Rattle.sheet_stream.proofs.common.copy_planes.Given as goal

abbrev pub invariant-loop-c : goal.invariant-loop-c
invariant-loop-c l = record {
  end : l.c-end ≡ length l.planes;
  count : length l.next ≡ length l.planes;
  done : (k : ℕ) → k < l.c → IsCopied l.by l.kept (plane_at l.planes k) (plane_at l.next k);
  left : (k : ℕ) → l.c ≤ k → k < length l.planes → HasForm (plane_at l.planes k) (plane_at l.next k);
}
