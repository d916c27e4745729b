use Rattle.std.proofs.Common.{◌≡◌, ◌<◌, ℕ, slice_index}
use Rattle.underprint.specs.Lists.{mark}
use Rattle.underprint.proofs.cover.write_marks.Given as goal

abbrev pub invariant-loop-x : goal.invariant-loop-x
invariant-loop-x l = (i : ℕ) → i < l.x → slice_index l.marks i ≡ mark l.page l.whites (record { x = i; y = l.y })
