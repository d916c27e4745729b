-- The format of a plate's file: what its bytes are.
use Rattle.std.specs.Prelude.{ℕ, List}
use Rattle.page_model.specs.declared.parts.Plane.{Plane}
use Rattle.pgm_plates.specs.Plates.{spelled}
use Rattle.pgm_plates.specs.Planes.{plate_of}

-- a plane as the bytes of a plate file: a raw PGM in its canonical spelling
abbrev pub encoded : Plane → List ℕ
encoded plane = spelled (plate_of plane)
