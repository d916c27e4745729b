-- Numbers among the words, in ten-thousandths: digits, with a point or without.
use Rattle.std.specs.Prelude.{ℕ, Bool, ◌&&◌, ◌==◌, ◌+◌, ◌-◌, ◌*◌, nat_lt, nat_le, List, [], ◌∷◌}
use Rattle.std.specs.Prelude.{length, drop, fold, slice_index_or, if◌then◌else◌, Option, Some, None}
use Rattle.std.specs.List.{prefix_len, take_while, list_all}
use Rattle.page_model.specs.Limits.{scale}

abbrev pub is_digit : ℕ → Bool
is_digit b = nat_le 48 b && nat_le b 57

-- the digits that a word begins with
abbrev pub whole_digits : List ℕ → List ℕ
whole_digits word = take_while is_digit word

-- what stands after them
abbrev pub after_whole : List ℕ → List ℕ
after_whole word = drop (prefix_len is_digit word) word

-- a point and digits, with a digit before it or after it
abbrev pub is_fraction : List ℕ → List ℕ → Bool
is_fraction whole [] = nat_lt 0 (length whole)
is_fraction whole (b ∷ digits) =
    (b == 46) && list_all is_digit digits && nat_lt 0 (length whole + length digits)

-- the number that digits spell
abbrev pub decimal : List ℕ → ℕ
decimal = fold (λ n d. 10 * n + (d - 48)) 0

-- a digit's value, 0 where there is none
abbrev pub digit_at : List ℕ → ℕ → ℕ
digit_at digits k = slice_index_or digits k 48 - 48

-- the first four digits after the point, filled with zeros; the others are cut
abbrev pub fraction_of : List ℕ → ℕ
fraction_of digits =
    1000 * digit_at digits 0 + 100 * digit_at digits 1 + 10 * digit_at digits 2 + digit_at digits 3

-- the value of a word that is a number
abbrev pub value_of : List ℕ → ℕ
value_of word = scale * decimal (whole_digits word) + fraction_of (drop 1 (after_whole word))

-- the number that a word writes, if it is at most so much
abbrev pub points_of : ℕ → List ℕ → Option ℕ
points_of most word = if is_fraction (whole_digits word) (after_whole word)
    && nat_le (value_of word) most then Some (value_of word) else None
