-- The loops of put_ahead: puts the value where a sample up to `lead` places ahead bares the place,
-- as far as that sample lies in the row.
use Rattle.std.proofs.Common.{◌≡◌, ◌+◌, ◌<◌, ◌≤◌, ℕ, nat_lt, slice_index, if◌then◌else◌}
use Rattle.misregister.specs.Sweep.{bared_until, is_clear}
use Rattle.misregister.proofs.row.put_ahead.Given as goal

abbrev pub invariant-loop-x : goal.invariant-loop-x
invariant-loop-x l = record {
  reach : l.reach ≡ bared_until (is_clear l.row) l.radius (l.x + l.lead);
  put : (k : ℕ) → k < l.x → slice_index l.until k ≡ (if nat_lt k (bared_until (is_clear l.row) l.radius (k + l.lead + 1)) then l.value else slice_index l.initial.until k);
  later : (k : ℕ) → l.x ≤ k → slice_index l.until k ≡ slice_index l.initial.until k;
}
