-- The numbers among the words.
use Rattle.std.specs.Prelude.{ℕ, Bool, ◌&&◌, nat_le, if◌then◌else◌, List, length, Option, Some}
use Rattle.std.specs.Prelude.{None}
use Rattle.std.specs.List.{list_all}
use Rattle.std.specs.Char.{is_ascii_digit}
use Rattle.std.specs.Str.Parse.{digits_value}

-- one to ten digits, and no sign
abbrev pub is_number : List ℕ → Bool
is_number word = nat_le 1 (length word) && nat_le (length word) 10 && list_all is_ascii_digit word

-- the number, if it is one from `least` to `most`
abbrev pub in_range : ℕ → ℕ → ℕ → Option ℕ
in_range least most n = if nat_le least n && nat_le n most then Some n else None

-- the number that the word writes, from `least` to `most`
abbrev pub number_of : ℕ → ℕ → List ℕ → Option ℕ
number_of least most word =
    if is_number word then in_range least most (digits_value 10 word) else None
