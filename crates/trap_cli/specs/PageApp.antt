-- The command `page`, as it is described to `clap`, and what `clap` makes of words.
use Rattle.std.specs.Prelude.{Bool, true, false, List, [], ◌∷◌, Some, codes}
use Rattle.clap.specs.Lexer.{usize_max}
use Rattle.clap.specs.Walk.{Row, Rule, Text}
use Rattle.clap.specs.Simple.{App, matches_of, new_app, new_rule, with_rule}
use Rattle.clap.specs.Faults.{fault_of}
use Rattle.clap.specs.Kinds.{Kinds}

-- an option with one text, as `--band 8` or `--band=8`
abbrev pub option_rule : Text → Rule
option_rule name = record (new_rule name) { long = Some name }

-- a word that has to be there
abbrev pub word_rule : Text → Rule
word_rule name = record (new_rule name) { required = true }

-- one word or more
abbrev pub words_rule : Text → Rule
words_rule name = record (word_rule name)
    { range = Some (record { start_inclusive = 1; end_inclusive = usize_max }) }

-- page [--workers N] [--band B] JOB REPORT PLATE ..
abbrev pub page_app : App
page_app =
    with_rule (with_rule (with_rule (with_rule (with_rule (new_app (codes "page"))
    (option_rule (codes "workers")))
    (option_rule (codes "band")))
    (word_rule (codes "job")))
    (word_rule (codes "report")))
    (words_rule (codes "plate"))

-- no fault among these
abbrev pub is_faultless : Kinds → Bool
is_faultless [] = true
is_faultless (k ∷ ks) = false

-- `clap` finds no fault in the words, `page` being the first of them; a wish for help is a fault
unfoldable pub is_taken : List Text → Bool
is_taken words = is_faultless (fault_of page_app words)

-- what `clap` then finds for each option and each word
unfoldable pub rows_in : List Text → List Row
rows_in words = matches_of page_app words
