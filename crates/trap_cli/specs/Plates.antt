-- Which plates may stand together.
use Rattle.std.specs.Prelude.{ℕ, ◌&&◌, if◌then◌else◌, List, map, Option, Some, None}
use Rattle.plain_words.specs.Parts.{PlateNames, parts_of}
use Rattle.plain_words.specs.Plates.{are_plates, stand_together}

-- the plates of the words that stand after the report's name
abbrev pub plates_of : List ℕ → List (List ℕ) → Option (List PlateNames)
plates_of report words = if are_plates words && stand_together report (map parts_of words)
    then Some (map parts_of words) else None
