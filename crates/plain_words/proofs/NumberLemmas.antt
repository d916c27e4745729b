-- A word of digits that is no number of 32 bits.
use Rattle.std.proofs.Common.{◌≡◌, ◌&&◌, ℕ, ◌<◌, ◌≤◌, Bool, true, false, List, [], ◌∷◌, Option, Some, None, cond, refl, sym, ap, subst, ◌∙◌, arith, leb}
use Rattle.std.proofs.lemmas.Bool.{and_parts, leb-true, lt-leb}
use Rattle.std.proofs.lemmas.Str.{digit_value_digit}
use Rattle.std.proofs.lemmas.Str.Parse.{without_leading_plus_none}
use Rattle.std.specs.List.{list_all}
use Rattle.std.specs.Char.{digit_value, is_ascii_digit}
use Rattle.std.specs.Str.Parse.{AllDigits, IsNumeral, digits_value, without_leading_plus}
use Rattle.plain_words.specs.Numbers.{in_range, is_number, number_of}

is_digit : (d : ℕ) → is_ascii_digit d ≡ true → digit_value d < 10
is_digit d e =
    let parts = and_parts _ _ e in
    let low : 48 ≤ d = leb-true _ _ parts.0 in
    let high : d ≤ 57 = leb-true _ _ parts.1 in
    omega (arith, digit_value_digit d (low, high))

are_digits : (ds : List ℕ) → list_all is_ascii_digit ds ≡ true → AllDigits 10 ds
are_digits [] e = tt
are_digits (d ∷ ds) e =
    let parts = and_parts _ _ e in
    (is_digit d parts.0, are_digits ds parts.1)

no_plus : (d : ℕ) (ds : List ℕ) → list_all is_ascii_digit (d ∷ ds) ≡ true → without_leading_plus (d ∷ ds) ≡ d ∷ ds
no_plus d ds e =
    let first = and_parts _ _ (and_parts _ _ e).0 in
    let low : 48 ≤ d = leb-true _ _ first.0 in
    without_leading_plus_none (d ∷ ds) (λ (h : d ≡ 43). absurd (omega arith))

above : (low high : Bool) (n : ℕ) → high ≡ false → ◌≡◌ {A = Option ℕ} (cond (low && high) (Some n) None) None
above true high n e = ap (λ (t : Bool). cond t (Some n) None) e
above false high n e = refl

-- no number in range is written by digits whose number has more than 32 bits
pub too_large : (least most : ℕ) (word : List ℕ) → most < 4294967296 → is_number word ≡ true → (IsNumeral 10 (without_leading_plus word) × (digits_value 10 (without_leading_plus word) < 4294967296) → ⊥) → number_of least most word ≡ None
too_large least most [] fits number refused = refl
too_large least most (d ∷ ds) fits number refused =
    let word : List ℕ = d ∷ ds in
    let digits : list_all is_ascii_digit word ≡ true = (and_parts _ _ number).1 in
    let same : without_leading_plus word ≡ word = no_plus d ds digits in
    let small : (digits_value 10 word < 4294967296) → ⊥ = λ h. refused (
    subst (λ (w : List ℕ). IsNumeral 10 w × (digits_value 10 w < 4294967296)) (sym same) (((omega arith), are_digits word digits), h)
    ) in
    let large : 4294967296 ≤ digits_value 10 word = omega arith in
    ap (λ (t : Bool). cond t (in_range least most (digits_value 10 word)) None) number
    ∙ above (leb least (digits_value 10 word)) (leb (digits_value 10 word) most) (digits_value 10 word) (lt-leb _ _ (omega arith))
