-- The words NAME:IN:OUT of plates.
use Rattle.std.specs.Prelude.{ℕ, Bool, ◌&&◌, nat_le, List, ◌∷◌, length, map}
use Rattle.std.specs.List.{list_all}
use Rattle.plain_words.specs.Distinct.{are_distinct}
use Rattle.plain_words.specs.Parts.{PlateNames, is_plate, parts_of}
use Rattle.page_model.specs.Limits.{most_plates}

-- the names of the plates' colorants
abbrev pub names_of : List PlateNames → List (List ℕ)
names_of = map (λ p. p.name)

-- the files that the plates are read from
abbrev pub inputs_of : List PlateNames → List (List ℕ)
inputs_of = map (λ p. p.input)

-- the files that the plates are written into
abbrev pub outputs_of : List PlateNames → List (List ℕ)
outputs_of = map (λ p. p.output)

-- the plates have different names, and the files that are written are different ones, the report
-- among them
abbrev pub stand_together : List ℕ → List PlateNames → Bool
stand_together report plates =
    are_distinct (names_of plates) && are_distinct (report ∷ outputs_of plates)

-- one to sixteen words, each of them a plate's
abbrev pub are_plates : List (List ℕ) → Bool
are_plates words = nat_le 1 (length words) && nat_le (length words) most_plates
    && list_all (λ w. is_plate (parts_of w)) words
