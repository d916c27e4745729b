-- What the words of a pool mean.
use Rattle.std.specs.Prelude.{ℕ, List, [], ◌∷◌, Option, Some, None}
use Rattle.plain_words.specs.Numbers.{number_of}
use Rattle.trappool_cli.specs.declared.words.TrappoolArgs.{TrappoolArgs}
use Rattle.page_model.specs.Limits.{most_workers}

-- the number of workers, and the file of the list
pub record AskedWords : Type 0 where
  pub workers : ℕ
  pub list : List ℕ

abbrev pub asked_by : Option ℕ → List ℕ → Option AskedWords
asked_by (Some workers) list = Some (record { workers = workers; list = list })
asked_by None list = None

-- WORKERS LIST, of 1 to 64 workers
abbrev pub asked_of : List (List ℕ) → Option AskedWords
asked_of (workers ∷ list ∷ []) = asked_by (number_of 1 most_workers workers) list
asked_of _ = None

-- what the program holds of it
abbrev pub asked_in : TrappoolArgs → AskedWords
asked_in asked = record { workers = asked.workers; list = asked.list.now }
