-- Texts that are numbers, and the runs that are read as numbers.
use Rattle.std.proofs.Common.{◌≡◌, ℕ, suc, ◌+◌, ◌*◌, ◌<◌, true, false, eqb, ltb, leb, not, ◌||◌, ◌&&◌, List, [], ◌∷◌, ◌++◌, length, drop, refl, sym, ap, ◌∙◌, subst, ⊎_elim, arith}
use Rattle.std.specs.List.{prefix_len, take_while, list_all}
use Rattle.std.proofs.lemmas.Bool.{cases_Bool, and_parts, and_from, or_cases, or_left, or_right, eqb-true, ne_eqb, ltb-true, ltb-false, lt-ltb, leb-true, agree_below_at}
use Rattle.std.proofs.lemmas.List.{append-nil}
use Rattle.std.proofs.lemmas.List.Folds.{list_all-append}
use Rattle.ps_tokens.specs.Bytes.{is_whitespace, is_regular, is_digit, begins_with}
use Rattle.ps_tokens.specs.Numbers as numbers
use Rattle.ps_tokens.specs.Numbers.{whole_digits, after_whole, fraction_digits, is_unsigned_number, is_number, begins_like_number, decimal, fraction_of, signed, value_of}
use Rattle.ps_laws.specs.Shapes.{IsSign, unsigned, plus, minus, AreDigits, whole_alone, with_point, IsNumeral, IsNumber, IsTooLarge}
use Rattle.ps_laws.proofs.Prefixes.{take_while-prefix, drop-prefix, list_all-take_while, prefix_and_rest}

-- digits are regular bytes
digit_is_regular : (b : ℕ) → is_digit b ≡ true → is_regular b ≡ true
unfolding is_digit is_regular is_whitespace
digit_is_regular b digit =
    let both = and_parts (leb 48 b) (leb b 57) digit in
    let most : b < 58 = omega (arith, leb-true b 57 both.1) in
    let table = agree_below_at (λ c. not (is_digit c) || is_regular c) (λ c. true) 58 b refl most in
    rw digit at table

digits_are_regular : (digits : List ℕ) → list_all is_digit digits ≡ true → list_all is_regular digits ≡ true
digits_are_regular [] all = refl
digits_are_regular (d ∷ digits) all =
    let both = and_parts (is_digit d) (list_all is_digit digits) all in
    and_from (is_regular d) (list_all is_regular digits) (digit_is_regular d both.0) (digits_are_regular digits both.1)

-- a digit is no sign
digit_is_no_sign : (b : ℕ) → is_digit b ≡ true → (eqb b 43 ≡ false) × (eqb b 45 ≡ false)
unfolding is_digit
digit_is_no_sign b digit =
    let both = and_parts (leb 48 b) (leb b 57) digit in
    let least = leb-true 48 b both.0 in
    (ne_eqb b 43 (λ e. omega arith), ne_eqb b 45 (λ e. omega arith))

-- where the point stands no digit does
point_is_no_digit : is_digit 46 ≡ false
unfolding is_digit
point_is_no_digit = refl

point_is_regular : is_regular 46 ≡ true
unfolding is_regular is_whitespace
point_is_regular = refl

-- what a text of digits is read as: its whole digits, and what stands after them
record IsRead (text whole fraction : List ℕ) : Type 0 where
  whole_digits_are : take_while is_digit text ≡ whole
  fraction_is : drop 1 (drop (prefix_len is_digit text) text) ≡ fraction
  counts : is_unsigned_number (take_while is_digit text) (drop (prefix_len is_digit text) text) ≡ true
  regular : list_all is_regular text ≡ true
  no_plus : begins_with 43 text ≡ false
  no_minus : begins_with 45 text ≡ false
  like : begins_like_number text ≡ true

begins_no_sign : (whole rest : List ℕ) → list_all is_digit whole ≡ true → 0 < length whole → (begins_with 43 (whole ++ rest) ≡ false) × (begins_with 45 (whole ++ rest) ≡ false)
begins_no_sign [] rest all some = absurd (omega arith)
begins_no_sign (d ∷ whole) rest all some = digit_is_no_sign d (and_parts (is_digit d) (list_all is_digit whole) all).0

begins_like : (whole rest : List ℕ) → list_all is_digit whole ≡ true → 0 < length whole → begins_like_number (whole ++ rest) ≡ true
begins_like [] rest all some = absurd (omega arith)
begins_like (d ∷ whole) rest all some =
    or_left (is_digit d || eqb d 43 || eqb d 45) (eqb d 46)
    (or_left (is_digit d || eqb d 43) (eqb d 45)
    (or_left (is_digit d) (eqb d 43) (and_parts (is_digit d) (list_all is_digit whole) all).0))

unsigned-alone : (whole : List ℕ) → list_all is_digit whole ≡ true → 0 < length whole → is_unsigned_number whole [] ≡ true
unsigned-alone whole all some =
    or_left (ltb 0 (length whole) && eqb 0 0) (begins_with 46 [] && list_all is_digit (drop 1 []) && ltb 1 (length whole + 0))
    (and_from (ltb 0 (length whole)) (eqb 0 0) (lt-ltb 0 (length whole) some) refl)

unsigned-point : (whole fraction : List ℕ) → list_all is_digit fraction ≡ true → 0 < length whole + length fraction → is_unsigned_number whole (46 ∷ fraction) ≡ true
unsigned-point whole fraction all some =
    or_right (ltb 0 (length whole) && eqb (suc (length fraction)) 0) (begins_with 46 (46 ∷ fraction) && list_all is_digit fraction && ltb 1 (length whole + suc (length fraction)))
    (and_from (begins_with 46 (46 ∷ fraction) && list_all is_digit fraction) (ltb 1 (length whole + suc (length fraction)))
    (and_from (begins_with 46 (46 ∷ fraction)) (list_all is_digit fraction) refl all)
    (lt-ltb 1 (length whole + suc (length fraction)) (omega arith)))

read-alone : (whole : List ℕ) → list_all is_digit whole ≡ true → 0 < length whole → IsRead (whole ++ []) whole []
read-alone whole all some =
    let e = take_while-prefix is_digit whole [] all refl in
    let d = drop-prefix is_digit whole [] all refl in
    let signs = begins_no_sign whole [] all some in
    record {
      whole_digits_are = e;
      fraction_is = ap (drop 1) d;
      counts = rw (e, d) (unsigned-alone whole all some);
      regular = rw (append-nil whole) (digits_are_regular whole all);
      no_plus = signs.0;
      no_minus = signs.1;
      like = begins_like whole [] all some;
    }

point_no_sign : (whole fraction : List ℕ) → list_all is_digit whole ≡ true → (begins_with 43 (whole ++ 46 ∷ fraction) ≡ false) × (begins_with 45 (whole ++ 46 ∷ fraction) ≡ false)
point_no_sign [] fraction all = (refl, refl)
point_no_sign (d ∷ whole) fraction all = begins_no_sign (d ∷ whole) (46 ∷ fraction) all (omega arith)

point_like : (whole fraction : List ℕ) → list_all is_digit whole ≡ true → begins_like_number (whole ++ 46 ∷ fraction) ≡ true
point_like [] fraction all = or_right (is_digit 46 || eqb 46 43 || eqb 46 45) (eqb 46 46) refl
point_like (d ∷ whole) fraction all = begins_like (d ∷ whole) (46 ∷ fraction) all (omega arith)

read-point : (whole fraction : List ℕ) → list_all is_digit whole ≡ true → list_all is_digit fraction ≡ true → 0 < length whole + length fraction → IsRead (whole ++ 46 ∷ fraction) whole fraction
read-point whole fraction all more some =
    let e = take_while-prefix is_digit whole (46 ∷ fraction) all point_is_no_digit in
    let d = drop-prefix is_digit whole (46 ∷ fraction) all point_is_no_digit in
    let signs = point_no_sign whole fraction all in
    record {
      whole_digits_are = e;
      fraction_is = ap (drop 1) d;
      counts = rw (e, d) (unsigned-point whole fraction more some);
      regular = list_all-append is_regular whole (46 ∷ fraction)
          ∙ and_from (list_all is_regular whole) (list_all is_regular (46 ∷ fraction)) (digits_are_regular whole all) (and_from (is_regular 46) (list_all is_regular fraction) point_is_regular (digits_are_regular fraction more));
      no_plus = signs.0;
      no_minus = signs.1;
      like = point_like whole fraction all;
    }

digits-read : (text whole fraction : List ℕ) → AreDigits text whole fraction → IsRead text whole fraction
digits-read text whole fraction (whole_alone w all some) = subst (λ t. IsRead t w []) (append-nil w) (read-alone w all some)
digits-read text whole fraction (with_point w f t all more some is) = subst (λ t. IsRead t w f) (sym is) (read-point w f all more some)

-- what a number is read as
pub record IsReadNumber (sign digits whole fraction : List ℕ) : Type 0 where
  pub whole_digits_are : whole_digits (sign ++ digits) ≡ whole
  pub fraction_is : fraction_digits (sign ++ digits) ≡ fraction
  pub minus_is : begins_with 45 (sign ++ digits) ≡ begins_with 45 sign
  pub counts : is_number (sign ++ digits) ≡ true
  pub regular : list_all is_regular (sign ++ digits) ≡ true
  pub like : begins_like_number (sign ++ digits) ≡ true

signed-read : (run digits whole fraction : List ℕ) → numbers.unsigned run ≡ digits → IsRead digits whole fraction
    → (whole_digits run ≡ whole) × (fraction_digits run ≡ fraction) × (is_number run ≡ true)
signed-read run digits whole fraction is read = (
  ap (take_while is_digit) is ∙ read.whole_digits_are,
  ap (λ u. drop 1 (drop (prefix_len is_digit u) u)) is ∙ read.fraction_is,
  ap (λ u. is_unsigned_number (take_while is_digit u) (drop (prefix_len is_digit u) u)) is ∙ read.counts,
)

pub number-read : (sign digits whole fraction : List ℕ) → IsSign sign → AreDigits digits whole fraction → IsReadNumber sign digits whole fraction
unfolding is_regular is_whitespace is_digit
number-read sign digits whole fraction unsigned are =
    let read = digits-read digits whole fraction are in
    let is : numbers.unsigned digits ≡ digits = rw (read.no_plus, read.no_minus) refl in
    let parts = signed-read digits digits whole fraction is read in
    record { whole_digits_are = parts.0; fraction_is = parts.1; minus_is = read.no_minus; counts = parts.2; regular = read.regular; like = read.like }
number-read sign digits whole fraction plus are =
    let read = digits-read digits whole fraction are in
    let parts = signed-read (43 ∷ digits) digits whole fraction refl read in
    record { whole_digits_are = parts.0; fraction_is = parts.1; minus_is = refl; counts = parts.2; regular = read.regular; like = refl }
number-read sign digits whole fraction minus are =
    let read = digits-read digits whole fraction are in
    let parts = signed-read (45 ∷ digits) digits whole fraction refl read in
    record { whole_digits_are = parts.0; fraction_is = parts.1; minus_is = refl; counts = parts.2; regular = read.regular; like = refl }

parts-from : (text whole rest : List ℕ) → text ≡ whole ++ rest → list_all is_digit whole ≡ true → is_unsigned_number whole rest ≡ true → AreDigits text whole (drop 1 rest)
parts-from text whole [] is all counts =
    let some : ltb 0 (length whole) ≡ true = ⊎_elim
    (λ (t : (ltb 0 (length whole) && eqb 0 0) ≡ true). (and_parts (ltb 0 (length whole)) (eqb 0 0) t).0)
    (λ t. cc)
    (or_cases (ltb 0 (length whole) && eqb 0 0) (begins_with 46 [] && list_all is_digit (drop 1 []) && ltb 1 (length whole + 0)) counts) in
    subst (λ t. AreDigits t whole []) (sym (is ∙ append-nil whole)) (whole_alone whole all (ltb-true 0 (length whole) some))
parts-from text whole (b ∷ rest) is all counts =
    let point : (eqb b 46 && list_all is_digit rest && ltb 1 (length whole + suc (length rest))) ≡ true = ⊎_elim
    (λ (t : (ltb 0 (length whole) && eqb (suc (length rest)) 0) ≡ true). absurd (omega (arith, eqb-true (suc (length rest)) 0 (and_parts (ltb 0 (length whole)) (eqb (suc (length rest)) 0) t).1)))
    (λ t. t)
    (or_cases (ltb 0 (length whole) && eqb (suc (length rest)) 0) (eqb b 46 && list_all is_digit rest && ltb 1 (length whole + suc (length rest))) counts) in
    let outer = and_parts (eqb b 46 && list_all is_digit rest) (ltb 1 (length whole + suc (length rest))) point in
    let inner = and_parts (eqb b 46) (list_all is_digit rest) outer.0 in
    let more = ltb-true 1 (length whole + suc (length rest)) outer.1 in
    with_point whole rest text all inner.1 (omega arith) (is ∙ ap (λ c. whole ++ c ∷ rest) (eqb-true b 46 inner.0))

-- digits that are read are digits
digits-from : (text : List ℕ) → is_unsigned_number (take_while is_digit text) (drop (prefix_len is_digit text) text) ≡ true
    → AreDigits text (take_while is_digit text) (drop 1 (drop (prefix_len is_digit text) text))
digits-from text counts =
    let whole = take_while is_digit text in
    let rest = drop (prefix_len is_digit text) text in
    let is = prefix_and_rest is_digit text in
    let all = list_all-take_while is_digit text in
    parts-from text whole rest is all counts

-- a sign, and what stands after it
record HasSign (run : List ℕ) : Type 0 where
  sign : List ℕ
  digits : List ℕ
  is_sign : IsSign sign
  whole : run ≡ sign ++ digits
  suffix : numbers.unsigned run ≡ digits
  minus_is : begins_with 45 run ≡ begins_with 45 sign

sign-of : (run : List ℕ) → HasSign run
sign-of [] = record { sign = []; digits = []; is_sign = unsigned; whole = refl; suffix = refl; minus_is = refl }
sign-of (b ∷ run) =
    ⊎_elim
    (λ (t : eqb b 43 ≡ true).
    let is = eqb-true b 43 t in
    record { sign = 43 ∷ []; digits = run; is_sign = plus; whole = ap (λ c. c ∷ run) is; suffix = rw t refl; minus_is = ap (λ c. eqb c 45) is })
    (λ (f : eqb b 43 ≡ false).
    ⊎_elim
    (λ (t : eqb b 45 ≡ true).
    let is = eqb-true b 45 t in
    record { sign = 45 ∷ []; digits = run; is_sign = minus; whole = ap (λ c. c ∷ run) is; suffix = rw (f, t) refl; minus_is = ap (λ c. eqb c 45) is })
    (λ (g : eqb b 45 ≡ false). record { sign = []; digits = b ∷ run; is_sign = unsigned; whole = refl; suffix = rw (f, g) refl; minus_is = g })
    (cases_Bool (eqb b 45)))
    (cases_Bool (eqb b 43))

-- a run that is read as a number is written as one
pub numeral-from : (run : List ℕ) → is_number run ≡ true → IsNumeral run
numeral-from run counts =
    let s = sign-of run in
    record {
      sign = s.sign;
      unsigned = numbers.unsigned run;
      whole = whole_digits run;
      fraction = fraction_digits run;
      has_sign = s.is_sign;
      has_digits = digits-from (numbers.unsigned run) counts;
      written = s.whole ∙ ap (λ u. s.sign ++ u) (sym s.suffix);
    }

-- and is a number, or too large
pub number-from : (run : List ℕ) → is_number run ≡ true → ltb 1000000 (decimal (whole_digits run)) ≡ false → IsNumber (value_of run) run
unfolding numeral-from
number-from run counts small =
    record {
      numeral = numeral-from run counts;
      not_too_large = ltb-false 1000000 (decimal (whole_digits run)) small;
      valued = ap (λ b. signed b (10000 * decimal (whole_digits run) + fraction_of (fraction_digits run))) (sign-of run).minus_is;
    }

pub too_large-from : (run : List ℕ) → is_number run ≡ true → ltb 1000000 (decimal (whole_digits run)) ≡ true → IsTooLarge run
unfolding numeral-from
too_large-from run counts large = record { numeral = numeral-from run counts; too_large = ltb-true 1000000 (decimal (whole_digits run)) large }

-- a run that is a number begins like one
pub is_number-like : (run : List ℕ) → is_number run ≡ true → begins_like_number run ≡ true
is_number-like run counts =
    let n = numeral-from run counts in
    ap begins_like_number n.written ∙ (number-read n.sign n.unsigned n.whole n.fraction n.has_sign n.has_digits).like
