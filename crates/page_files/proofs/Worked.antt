-- Worked values: what the definitions say of a page of one sample in two inks.
use Rattle.std.proofs.Common.{◌≡◌, [], ◌∷◌, Some, None, refl}
use Rattle.page_model.specs.declared.parts.Plane.{Plane}
use Rattle.pgm_plates.specs.declared.plate.Plate.{Plate}
use Rattle.pgm_plates.specs.Plates.{spelled}
use Rattle.page_files.specs.Files.{plate_files, page_files, put_all}

abbrev no_ink : Plane
no_ink = record { width = 1; height = 1; maxval = 255; tints = 0 ∷ [] }

abbrev full_ink : Plane
full_ink = record { width = 1; height = 1; maxval = 300; tints = 300 ∷ [] }

-- no ink is white, and full ink is black
abbrev white : Plate
white = record { width = 1; height = 1; maxval = 255; samples = 255 ∷ [] }

abbrev black : Plate
black = record { width = 1; height = 1; maxval = 300; samples = 0 ∷ [] }

-- files `c` and `k`, and the report `r` of one LF
all_files : page_files ((99 ∷ []) ∷ (107 ∷ []) ∷ []) (no_ink ∷ full_ink ∷ []) (114 ∷ []) (10 ∷ []) ≡ record { name = 99 ∷ []; bytes = spelled white } ∷ record { name = 107 ∷ []; bytes = spelled black } ∷ record { name = 114 ∷ []; bytes = 10 ∷ [] } ∷ []
all_files = refl

-- one name for two planes is one file
one_file : plate_files ((99 ∷ []) ∷ []) (no_ink ∷ full_ink ∷ []) ≡ record { name = 99 ∷ []; bytes = spelled white } ∷ []
one_file = refl

-- a later file stands in place of an earlier one of its name
later_stands : put_all (record { name = 99 ∷ []; bytes = 1 ∷ [] } ∷ record { name = 107 ∷ []; bytes = 2 ∷ [] } ∷ record { name = 99 ∷ []; bytes = 3 ∷ [] } ∷ []) (λ name. None) (99 ∷ []) ≡ Some (3 ∷ [])
later_stands = refl

others_stay : put_all (record { name = 99 ∷ []; bytes = 1 ∷ [] } ∷ []) (λ name. Some (7 ∷ [])) (107 ∷ []) ≡ Some (7 ∷ [])
others_stay = refl
