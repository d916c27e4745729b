-- Which texts are tokens, and of which kind.
use Rattle.std.specs.Prelude.{◌≡◌, ◌<◌, ◌≤◌, ℕ, ℤ, true, false, List, [], ◌∷◌, ◌++◌, length, ◌+◌}
use Rattle.std.specs.Prelude.{◌*◌}
use Rattle.std.specs.List.{list_all}
use Rattle.ps_tokens.specs.declared.token.TokenKind.{TokenKind}
use Rattle.ps_tokens.specs.declared.token.TokenKind.TheVariants.{OpenDict, CloseDict, OpenArray}
use Rattle.ps_tokens.specs.declared.token.TokenKind.TheVariants.{CloseArray, Literal, Word, Number}
use Rattle.ps_tokens.specs.declared.token.TokenKind.TheVariants.{Text}
use Rattle.ps_tokens.specs.Bytes.{is_regular, is_digit, is_hexadecimal, begins_with}
use Rattle.ps_tokens.specs.Limits.{largest_whole}
use Rattle.ps_tokens.specs.Numbers.{begins_like_number, decimal, fraction_of, signed}
use Rattle.ps_tokens.specs.Balance.{IsBalanced}
use Rattle.page_model.specs.Limits.{scale}

-- no sign, `+` or `-`
pub data IsSign : List ℕ → Type 0 where
  unsigned : IsSign []
  plus : IsSign (43 ∷ [])
  minus : IsSign (45 ∷ [])

-- Digits, digits and a point, digits, a point and digits, or a point and digits: the text, the
-- digits before the point
-- and those after it.
pub data AreDigits : List ℕ → List ℕ → List ℕ → Type 0 where
  whole_alone : (whole : List ℕ) → list_all is_digit whole ≡ true → 0 < length whole
      → AreDigits whole whole []
  with_point : (whole fraction text : List ℕ) → list_all is_digit whole ≡ true
      → list_all is_digit fraction ≡ true → 0 < length whole + length fraction
      → text ≡ whole ++ 46 ∷ fraction → AreDigits text whole fraction

-- A text that is written as a number: perhaps a sign, and digits.
pub record IsNumeral (text : List ℕ) : Type 0 where
  pub sign : List ℕ
  pub unsigned : List ℕ
  pub whole : List ℕ
  pub fraction : List ℕ
  pub has_sign : IsSign sign
  pub has_digits : AreDigits unsigned whole fraction
  pub written : text ≡ sign ++ unsigned

-- A number, and its value in ten-thousandths.
pub record IsNumber (value : ℤ) (text : List ℕ) : Type 0 where
  pub numeral : IsNumeral text
  pub not_too_large : decimal numeral.whole ≤ largest_whole
  pub valued : value ≡ signed (begins_with 45 numeral.sign)
      (scale * decimal numeral.whole + fraction_of numeral.fraction)

-- What is written as a number, of a whole part that is too large.
pub record IsTooLarge (text : List ℕ) : Type 0 where
  pub numeral : IsNumeral text
  pub too_large : largest_whole < decimal numeral.whole

-- A word: some regular bytes, of which the first is no digit, sign or point.
pub record IsWord (text : List ℕ) : Type 0 where
  pub some : 0 < length text
  pub regular : list_all is_regular text ≡ true
  pub no_number : begins_like_number text ≡ false

-- A name after a `/`, empty or of regular bytes.
pub record IsName (text : List ℕ) : Type 0 where
  pub name : List ℕ
  pub regular : list_all is_regular name ≡ true
  pub written : text ≡ 47 ∷ name

-- A string: balanced bytes in parentheses, or hexadecimal digits and whitespace between `<` and
-- `>`.
pub data IsString : List ℕ → Type 0 where
  in_parentheses : (inner text : List ℕ) → IsBalanced inner → text ≡ 40 ∷ (inner ++ 41 ∷ [])
      → IsString text
  hexadecimal : (digits text : List ℕ) → list_all is_hexadecimal digits ≡ true
      → text ≡ 60 ∷ (digits ++ 62 ∷ []) → IsString text

-- this text is a token of this kind
abbrev pub IsToken : TokenKind → List ℕ → Type 0
IsToken OpenDict text = text ≡ 60 ∷ 60 ∷ []
IsToken CloseDict text = text ≡ 62 ∷ 62 ∷ []
IsToken OpenArray text = text ≡ 91 ∷ []
IsToken CloseArray text = text ≡ 93 ∷ []
IsToken Literal text = IsName text
IsToken Word text = IsWord text
IsToken (Number value) text = IsNumber value text
IsToken Text text = IsString text
