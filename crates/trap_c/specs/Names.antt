-- The names that a call gives its plates.
use Rattle.std.specs.Prelude.{ℕ, Bool, ◌==◌, ◌&&◌, nat_le, if◌then◌else◌, List, [], ◌∷◌, ◌++◌}
use Rattle.std.specs.Prelude.{length}
use Rattle.std.specs.List.{list_all}
use Rattle.plain_words.specs.Distinct.{are_distinct}
use Rattle.plain_words.specs.Names.{is_name}
use Rattle.page_model.specs.Limits.{most_plates}

-- the names in the rest of a text, after the bytes of one that is begun
abbrev pub names_from : List ℕ → List ℕ → List (List ℕ)
names_from begun [] = begun ∷ []
names_from begun (b ∷ bs) =
    if b == 10 then begun ∷ names_from [] bs else names_from (begun ++ b ∷ []) bs

-- the names in a text, separated by LF
abbrev pub names_in : List ℕ → List (List ℕ)
names_in text = names_from [] text

-- the names of 1 to 16 colorants, none of them twice
abbrev pub are_names : List (List ℕ) → Bool
are_names names =
    nat_le 1 (length names) && nat_le (length names) most_plates
    && list_all is_name names && are_distinct names
