-- The numbers of options.
use Rattle.std.specs.Prelude.{ℕ, List, Option, Some, None}
use Rattle.plain_words.specs.Numbers.{number_of}

-- the number of an option's text, and `absent` where the option is not there
abbrev pub option_number : ℕ → ℕ → ℕ → Option (List ℕ) → Option ℕ
option_number least most absent None = Some absent
option_number least most absent (Some word) = number_of least most word
