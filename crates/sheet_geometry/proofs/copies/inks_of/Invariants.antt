-- The loops of inks_of: a copy of inks.
use Rattle.std.proofs.Common.{◌≡◌, take}
use Rattle.sheet_geometry.proofs.copies.inks_of.Given as goal

abbrev pub invariant-loop-ink : goal.invariant-loop-ink
invariant-loop-ink l = l.copies ≡ take l.ink-index l.inks
