-- Runs of regular bytes: which are numbers, and their values in ten-thousandths.
use Rattle.std.specs.Prelude.{ℕ, ℤ, pos, Bool, true, false, List, length, drop, fold, ◌||◌, ◌&&◌}
use Rattle.std.specs.Prelude.{◌==◌, ◌+◌, ◌-◌, ◌*◌, nat_lt, slice_index_or, if◌then◌else◌}
use Rattle.std.specs.List.{prefix_len, take_while, list_all}
use Rattle.std.proofs.Common.{neg_ℤ}
use Rattle.ps_tokens.specs.Bytes.{is_digit, first_passes, begins_with}
use Rattle.page_model.specs.Limits.{scale}

-- the run without its sign
abbrev pub unsigned : List ℕ → List ℕ
unsigned run = if begins_with 43 run || begins_with 45 run then drop 1 run else run

-- the digits before the point
abbrev pub whole_digits : List ℕ → List ℕ
whole_digits run = take_while is_digit (unsigned run)

-- what stands after those digits
abbrev pub after_whole : List ℕ → List ℕ
after_whole run = drop (prefix_len is_digit (unsigned run)) (unsigned run)

-- what stands after the point
abbrev pub fraction_digits : List ℕ → List ℕ
fraction_digits run = drop 1 (after_whole run)

-- whether these are digits, or digits and a point, or digits, a point and digits, or a point and
-- digits
abbrev pub is_unsigned_number : List ℕ → List ℕ → Bool
is_unsigned_number whole suffix =
    (nat_lt 0 (length whole) && (length suffix == 0))
    || (begins_with 46 suffix && list_all is_digit (drop 1 suffix)
    && nat_lt 1 (length whole + length suffix))

-- whether the run is a number: such digits, after a sign or none
abbrev pub is_number : List ℕ → Bool
is_number run = is_unsigned_number (whole_digits run) (after_whole run)

-- whether the run begins with a digit, a sign or a point
abbrev pub begins_like_number : List ℕ → Bool
begins_like_number = first_passes (λ b. is_digit b || (b == 43) || (b == 45) || (b == 46))

-- the number that digits spell
abbrev pub decimal : List ℕ → ℕ
decimal = fold (λ n d. 10 * n + (d - 48)) 0

-- a digit's value, 0 where there is none
abbrev pub digit_at : List ℕ → ℕ → ℕ
digit_at digits k = slice_index_or digits k 48 - 48

-- the first four digits after the point, filled with zeros
abbrev pub fraction_of : List ℕ → ℕ
fraction_of digits =
    1000 * digit_at digits 0 + 100 * digit_at digits 1 + 10 * digit_at digits 2 + digit_at digits 3

-- a number with its sign
abbrev pub signed : Bool → ℕ → ℤ
signed true n = neg_ℤ (pos n)
signed false n = pos n

-- a number's value
abbrev pub value_of : List ℕ → ℤ
value_of run = signed (begins_with 45 run)
    (scale * decimal (whole_digits run) + fraction_of (fraction_digits run))
