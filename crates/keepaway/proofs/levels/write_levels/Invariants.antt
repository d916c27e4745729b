use Rattle.std.proofs.Common.{◌≡◌, ◌<◌, ℕ, slice_index}
use Rattle.lists.specs.Words.{greatest_below}
use Rattle.page_model.specs.Page.{width}
use Rattle.keepaway.specs.Keepaway.{plate_level}
use Rattle.keepaway.proofs.levels.write_levels.Given as goal

abbrev pub invariant-loop-c : goal.invariant-loop-c
invariant-loop-c l = (x : ℕ) → x < width l.page → slice_index l.levels x ≡ greatest_below (plate_level l.page l.limit (record { x = x; y = l.y })) l.c
