-- The numbers of a line, as they are read from its beginning.
use Rattle.std.specs.Prelude.{◌≡◌, ℕ, ◌<◌, ◌≤◌, false, List, ◌++◌, slice_index}
use Rattle.std.specs.Char.{is_ascii_digit}
use Rattle.std.specs.Fmt.{decimal}
use Rattle.std.specs.List.{All, flat_map}
use Rattle.trap_set.specs.SetText.{number}

-- one more than the greatest number of five digits; each number of a set is below it
abbrev pub past_numbers : ℕ
past_numbers = 100000

-- the text does not begin with a digit
abbrev pub NoDigit : List ℕ → Type 0
NoDigit text = is_ascii_digit (slice_index text 0) ≡ false

-- the first `count` bytes of the text, all of them digits, may be a number: one to five, and no
-- zero before others
pub record IsPlain (text : List ℕ) (count : ℕ) : Type 0 where
  pub some : 0 < count
  pub few : count ≤ 5
  pub no_zero : slice_index text 0 ≡ 48 → count ≤ 1

-- the text begins with the digits of n, and goes on with the rest
pub record BeginsDigits (text : List ℕ) (n : ℕ) (rest : List ℕ) : Type 0 where
  pub whole : text ≡ decimal n ++ rest
  pub below : n < past_numbers
  pub ends : NoDigit rest

-- the text begins with these numbers, a space before each, and goes on with the rest
pub record BeginsNumbers (text numbers rest : List ℕ) : Type 0 where
  pub whole : text ≡ flat_map number numbers ++ rest
  pub below : All (λ n. n < past_numbers) numbers
  pub ends : NoDigit rest
