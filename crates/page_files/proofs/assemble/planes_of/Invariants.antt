-- The loops of planes_of: the planes of these plates, each with the tints that its samples stand
-- for.
use Rattle.std.proofs.Common.{◌≡◌, ◌++◌, map}
use Rattle.std.specs.Vec.Iter.{into_iter_items}
use Rattle.pgm_plates.specs.Planes.{plane_of}
use Rattle.page_files.proofs.assemble.planes_of.Given as goal

abbrev pub invariant-loop-plate : goal.invariant-loop-plate
invariant-loop-plate l = record {
  made : l.planes ≡ map plane_of l.yielded;
  left : l.fn.plates ≡ l.yielded ++ into_iter_items l.plate-iterator;
}
