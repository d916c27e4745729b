-- What the words of `trapset` mean.
use Rattle.std.specs.Prelude.{ℕ, Bool, ◌&&◌, if◌then◌else◌, List, ◌∷◌, map, Option, Some, None}
use Rattle.std.specs.Prelude.{codes}
use Rattle.std.specs.List.{list_all}
use Rattle.std.specs.Option.{option_map}
use Rattle.std.specs.Str.{bytes_eq}
use Rattle.plain_words.specs.Distinct.{are_distinct}
use Rattle.plain_words.specs.Inputs.{are_few, named_plates}
use Rattle.plain_words.specs.Parts.{InputNames, CopyNames, copy_of, is_copy}

-- the traps of a page into a set: the job, the file of the set, and the plates
pub record TrapsWords : Type 0 where
  pub job : List ℕ
  pub set : List ℕ
  pub plates : List InputNames

-- a set onto plates: the file of the set, and for each plate the file that is read and the one that
-- is written
pub record ApplyWords : Type 0 where
  pub set : List ℕ
  pub plates : List CopyNames

-- either of them
pub data Command : Type 0 where
  Traps : TrapsWords → Command
  Apply : ApplyWords → Command

-- the files that the plates are written into
abbrev pub outputs_of : List CopyNames → List (List ℕ)
outputs_of = map (λ p. p.output)

-- one to sixteen words, each of them IN:OUT
abbrev pub are_copies : List (List ℕ) → Bool
are_copies words = are_few words && list_all (λ w. is_copy (copy_of w)) words

-- the plates of these words, where each has its form and no file is written twice
abbrev pub copied_plates : List (List ℕ) → Option (List CopyNames)
copied_plates words =
    if are_copies words && are_distinct (outputs_of (map copy_of words))
    then Some (map copy_of words) else None

-- JOB SET NAME:IN ..
abbrev pub traps_of : List (List ℕ) → Option TrapsWords
traps_of (job ∷ set ∷ words) =
    option_map (λ plates. record { job = job; set = set; plates = plates }) (named_plates words)
traps_of _ = None

-- SET IN:OUT ..
abbrev pub apply_of : List (List ℕ) → Option ApplyWords
apply_of (set ∷ words) =
    option_map (λ plates. record { set = set; plates = plates }) (copied_plates words)
apply_of _ = None

-- the command that the words after the program's name mean: `traps JOB SET NAME:IN ..` or
-- `apply SET IN:OUT ..`
abbrev pub command_of : List (List ℕ) → Option Command
command_of (first ∷ rest) =
    if bytes_eq first (codes "traps") then option_map Traps (traps_of rest) else
    (if bytes_eq first (codes "apply") then option_map Apply (apply_of rest) else None)
command_of _ = None
