-- The bytes of a job: whitespace, delimiters, and the regular bytes that names, words and
-- numbers are made of.
use Rattle.std.specs.Prelude.{ℕ, Bool, false, List, [], ◌∷◌, not, ◌||◌, ◌&&◌, ◌==◌, nat_le}

-- NUL, TAB, LF, FF, CR and space
unfoldable pub is_whitespace : ℕ → Bool
is_whitespace b = (b == 0) || (b == 9) || (b == 10) || (b == 12) || (b == 13) || (b == 32)

-- all but whitespace and ( ) < > [ ] { } / %
unfoldable pub is_regular : ℕ → Bool
is_regular b =
    not (is_whitespace b || (b == 40) || (b == 41) || (b == 60) || (b == 62) || (b == 91)
    || (b == 93) || (b == 123) || (b == 125) || (b == 47) || (b == 37))

-- 0 to 9
unfoldable pub is_digit : ℕ → Bool
is_digit b = nat_le 48 b && nat_le b 57

-- 0 to 9, A to F, a to f, and whitespace
unfoldable pub is_hexadecimal : ℕ → Bool
is_hexadecimal b =
    is_digit b || (nat_le 65 b && nat_le b 70) || (nat_le 97 b && nat_le b 102) || is_whitespace b

-- all but LF, FF and CR, which end a comment
unfoldable pub is_in_comment : ℕ → Bool
is_in_comment b = not ((b == 10) || (b == 12) || (b == 13))

-- whether there is a first byte that passes
abbrev pub first_passes : (ℕ → Bool) → List ℕ → Bool
first_passes passes [] = false
first_passes passes (b ∷ bs) = passes b

-- whether the first byte is this one
abbrev pub begins_with : ℕ → List ℕ → Bool
begins_with c = first_passes (λ b. b == c)
