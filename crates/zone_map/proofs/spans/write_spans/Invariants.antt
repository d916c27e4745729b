-- The loops of write_spans: writes the zone wherever the crossings to the right do not cancel out.
use Rattle.std.proofs.Common.{◌≡◌, ◌+◌, ℕ, ◌<◌, ◌≤◌, if◌then◌else◌, length, pos, drop}
use Rattle.std.specs.Prelude.{slice_index, sum}
use Rattle.std.specs.Ordering.{int_eq}
use Rattle.zone_map.specs.Tallies.{left}
use Rattle.zone_map.proofs.spans.write_spans.Given as goal

abbrev pub invariant-loop-x : goal.invariant-loop-x
invariant-loop-x l = record {
  short : l.x ≤ length l.initial.out;
  long : length l.out ≡ length l.initial.out;
  up : l.up ≡ sum (drop (l.x + 1) l.ups);
  down : l.down ≡ sum (drop (l.x + 1) l.downs);
  kept : (k : ℕ) → k < l.x → slice_index l.out k ≡ slice_index l.initial.out k;
  done : (k : ℕ) → l.x ≤ k → k < length l.initial.out → slice_index l.out k ≡ (if int_eq (left l.ups l.downs k) (pos 0) then slice_index l.initial.out k else l.zone);
}

abbrev pub decreases-loop-x : goal.decreases-loop-x
decreases-loop-x l = l.x
