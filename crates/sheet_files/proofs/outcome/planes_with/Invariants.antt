-- The loops of planes_with: the planes of these tints, with the sides and the maxval of a sheet.
use Rattle.std.proofs.Common.{◌≡◌, ◌++◌, map}
use Rattle.std.specs.Vec.Iter.{into_iter_items}
use Rattle.sheet_files.specs.Trapping.{plane_with}
use Rattle.sheet_files.proofs.outcome.planes_with.Given as goal

abbrev pub invariant-loop-plate : goal.invariant-loop-plate
invariant-loop-plate l = record {
  made : l.planes ≡ map (plane_with l.sheet) l.yielded;
  left : l.fn.tints ≡ l.yielded ++ into_iter_items l.plate-iterator;
}
