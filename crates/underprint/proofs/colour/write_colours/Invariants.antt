use Rattle.std.proofs.Common.{◌≡◌, ◌<◌, ℕ, slice_index}
use Rattle.underprint.specs.Lists.{colour_level}
use Rattle.underprint.proofs.colour.write_colours.Given as goal

abbrev pub invariant-loop-x : goal.invariant-loop-x
invariant-loop-x l = (i : ℕ) → i < l.x → slice_index l.levels i ≡ colour_level l.page l.whites (record { x = i; y = l.y })
