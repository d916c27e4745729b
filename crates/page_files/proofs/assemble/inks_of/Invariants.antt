-- How far the loops of `inks_of` have come.
use Rattle.std.proofs.Common.{◌≡◌, map, take}
use Rattle.page_files.specs.Assembly.{ink_of}
use Rattle.page_files.proofs.assemble.inks_of.Given as goal

abbrev pub invariant-loop-name : goal.invariant-loop-name
invariant-loop-name l = l.inks ≡ map (ink_of l.details) (take l.name-index l.names)
