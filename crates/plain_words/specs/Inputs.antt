-- The words NAME:IN of plates.
use Rattle.std.specs.Prelude.{ℕ, ◌≤◌, Bool, ◌&&◌, nat_le, if◌then◌else◌, List, length, map, Option}
use Rattle.std.specs.Prelude.{Some, None}
use Rattle.std.specs.List.{list_all}
use Rattle.plain_words.specs.Distinct.{are_distinct}
use Rattle.plain_words.specs.Parts.{InputNames, input_of, is_input}
use Rattle.page_model.specs.Limits.{most_plates}

-- as many as a page may have plates
pub record AreFew (count : ℕ) : Type 0 where
  pub some : 1 ≤ count
  pub few : count ≤ most_plates

-- the names of the plates' colorants
abbrev pub names_of : List InputNames → List (List ℕ)
names_of = map (λ p. p.name)

-- the files that the plates are read from
abbrev pub inputs_of : List InputNames → List (List ℕ)
inputs_of = map (λ p. p.input)

-- as many words as there may be plates
abbrev pub are_few : List (List ℕ) → Bool
are_few words = nat_le 1 (length words) && nat_le (length words) most_plates

-- one to sixteen words, each of them NAME:IN
abbrev pub are_inputs : List (List ℕ) → Bool
are_inputs words = are_few words && list_all (λ w. is_input (input_of w)) words

-- the plates of these words, where each has its form and no name stands there twice
abbrev pub named_plates : List (List ℕ) → Option (List InputNames)
named_plates words = if are_inputs words && are_distinct (names_of (map input_of words))
    then Some (map input_of words) else None
