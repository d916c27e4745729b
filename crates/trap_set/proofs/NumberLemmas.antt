-- Digits at the beginning of a text, and the number that they write.
use Rattle.std.proofs.Common.{◌≡◌, ℕ, zero, suc, ◌+◌, ◌-◌, ◌<◌, ◌≤◌, ◌^◌, true, List, [], ◌∷◌, ◌++◌, length, take, drop, get_or, refl, sym, ap, ◌∙◌, subst, inl, inr, arith}
use Rattle.std.specs.Char.{is_ascii_digit, digit_value}
use Rattle.std.specs.Fmt.{decimal}
use Rattle.std.specs.Int.{IsInRange}
use Rattle.std.specs.List.{prefix_len}
use Rattle.std.specs.Str.Parse.{digits_value}
use Rattle.std.proofs.lemmas.Bool.Decides.{nat_tests}
use Rattle.std.proofs.lemmas.Bool.{and_parts, leb-true, cases_lt}
use Rattle.std.proofs.lemmas.Fmt.{decimal_digit, decimal_is_IsNumeral, decimal_nonempty, length-decimal-le, first_decimal, decimal-digits_value, decimal_injective}
use Rattle.std.proofs.lemmas.List.{get_or-take, get_or-drop, get_or_past, get_or_append_left, get_or-append_right, length-append, length-take-le, take-append-drop, take_at, drop_at, drop_more, take_more_set, append-nil, append_assoc}
use Rattle.std.proofs.lemmas.List.Sums.{prefix_len_is, prefix_len_passes, prefix_len_stops, prefix_len-le-length}
use Rattle.std.proofs.lemmas.Str.{digit_value_digit}
use Rattle.std.proofs.lemmas.Str.Parse.{IsNumeralModel, numerals_by_value, tells_by_index, digits_value_short, digit_at}
use Rattle.std.specs.List.{All, flat_map}
use Rattle.std.proofs.Math.ListN.{set}
use Rattle.std.proofs.lemmas.Grind.{flat_map-append}
use Rattle.std.proofs.lemmas.List.Concat.{flat_map-cons}
use Rattle.std.proofs.lemmas.List.Elements.{All-push}
use Rattle.trap_set.specs.Numbers.{NoDigit, IsPlain, BeginsDigits, BeginsNumbers, past_numbers}
use Rattle.trap_set.specs.SetText.{number}

-- each byte is a digit
abbrev pub AreDigits : List ℕ → Type 0
AreDigits ds = (k : ℕ) → k < length ds → is_ascii_digit (get_or ds k 0) ≡ true

digit_in : (c : ℕ) → is_ascii_digit c ≡ true → IsInRange 48 57 c
digit_in c e = let parts = and_parts _ _ e in (leb-true _ _ parts.0, leb-true _ _ parts.1)

own : IsNumeralModel (λ (ds : List ℕ). (i : ℕ) → i < length ds → IsInRange 48 57 (get_or ds i 0)) (digits_value 10)
own = numerals_by_value _ tells_by_index

in_range : (ds : List ℕ) → AreDigits ds → (i : ℕ) → i < length ds → IsInRange 48 57 (get_or ds i 0)
in_range ds h i l = digit_in _ (h i l)

pub digit_range : (ds : List ℕ) (i : ℕ) → AreDigits ds → i < length ds → (48 ≤ get_or ds i 0) × (get_or ds i 0 ≤ 57)
digit_range ds i h l = in_range ds h i l

pub digit_worth : (ds : List ℕ) (i : ℕ) → AreDigits ds → i < length ds → digit_value (get_or ds i 0) + 48 ≡ get_or ds i 0
digit_worth ds i h l = digit_value_digit _ (in_range ds h i l)

prefix_digits : (ds : List ℕ) (i : ℕ) → AreDigits ds → i ≤ length ds → AreDigits (take i ds)
prefix_digits ds i h few k l =
    let short : k < i = omega (arith, length-take-le i ds few) in
    ap is_ascii_digit (get_or-take i ds k 0 short) ∙ h k (omega arith)

pub prefix_short : (ds : List ℕ) (i : ℕ) → AreDigits ds → i < length ds → length ds ≤ 5 → digits_value 10 (take i ds) < 10000
prefix_short ds i h l short = digits_value_short own (take i ds) 4 (in_range (take i ds) (prefix_digits ds i h (omega arith))) (omega (arith, length-take-le i ds (omega arith)))

-- the digits that a text begins with
pub counted : (text : List ℕ) (n : ℕ) → n ≡ prefix_len is_ascii_digit text → n ≤ length text
counted text n e = omega (arith, prefix_len-le-length is_ascii_digit text)

pub counted_digits : (text : List ℕ) (n : ℕ) → n ≡ prefix_len is_ascii_digit text → AreDigits (take n text)
counted_digits text n e k l =
    let short : k < n = omega (arith, length-take-le n text (counted text n e)) in
    ap is_ascii_digit (get_or-take n text k 0 short) ∙ prefix_len_passes is_ascii_digit text k 0 (omega arith)

-- after them stands no digit
pub counted_ends : (text : List ℕ) (n : ℕ) → n ≡ prefix_len is_ascii_digit text → NoDigit (drop n text)
counted_ends text n e = elim (cases_lt n (length text)) [
  | inl l ↦ (
      let stops = prefix_len_stops is_ascii_digit text 0 (omega arith) in
      ap is_ascii_digit (get_or-drop n text 0 0) ∙ ap (λ (k : ℕ). is_ascii_digit (get_or text k 0)) (let s : n + 0 ≡ prefix_len is_ascii_digit text = omega arith in s) ∙ stops)
  | inr past ↦ ap is_ascii_digit (get_or-drop n text 0 0 ∙ get_or_past text (n + 0) 0 (omega arith))
]

-- digits without a leading zero are those of their number
pub begins_digits : (text : List ℕ) (n : ℕ) → n ≡ prefix_len is_ascii_digit text → IsPlain text n → BeginsDigits text (digits_value 10 (take n text)) (drop n text)
begins_digits text n e plain = record {
  whole = sym (take-append-drop n text) ∙ ap (λ (ds : List ℕ). ds ++ drop n text) (sym written);
  below = below;
  ends = counted_ends text n e;
} where
  long : length (take n text) ≡ n
  long = length-take-le n text (counted text n e)

  below : digits_value 10 (take n text) < past_numbers
  below = digits_value_short own (take n text) 5 (in_range (take n text) (counted_digits text n e)) (omega (arith, long, plain.few))

  written : decimal (digits_value 10 (take n text)) ≡ take n text
  written = decimal-digits_value own (take n text) (in_range (take n text) (counted_digits text n e)) (omega (arith, long, plain.some))
      (λ z. omega (arith, long, plain.no_zero (sym (get_or-take n text 0 0 plain.some) ∙ z)))
      (omega (arith, below))

is_digit : (c : ℕ) → IsInRange 48 57 c → is_ascii_digit c ≡ true
is_digit c h = let low : 48 ≤ c = h.0 in let high : c ≤ 57 = h.1 in grind (arith, nat_tests)

pub decimal_digits : (n : ℕ) → n < 2 ^ 64 → AreDigits (decimal n)
decimal_digits n small k l = is_digit _ (digit_at (decimal n) k (decimal_is_IsNumeral n small).0.1 l)

-- the digits of a number that are at the beginning of a text are all that the text begins with
pub digits_prefix : (text : List ℕ) (n : ℕ) (rest : List ℕ) → BeginsDigits text n rest → prefix_len is_ascii_digit text ≡ length (decimal n)
digits_prefix text n rest h =
    let small : n < 2 ^ 64 = omega (arith, h.below) in
    let ds = decimal n in
    ap (prefix_len is_ascii_digit) h.whole ∙ prefix_len_is is_ascii_digit (ds ++ rest) (length ds) 0 (omega (arith, length-append ds rest))
    (λ k l. ap is_ascii_digit (get_or_append_left ds rest 0 k l) ∙ decimal_digits n small k l)
    (λ _. ap is_ascii_digit (get_or-append_right ds rest (length ds) (length ds) 0 refl (omega arith) ∙ ap (λ (i : ℕ). get_or rest i 0) (let z : length ds - length ds ≡ 0 = omega arith in z)) ∙ h.ends)

zero_alone : (n : ℕ) → n < 2 ^ 64 → get_or (decimal n) 0 0 ≡ 48 → length (decimal n) ≤ 1
zero_alone zero small z = omega (arith, ap (length {A = ℕ}) (decimal_digit 0 (omega arith)))
zero_alone (suc n) small z = absurd (omega (arith, first_decimal (suc n) (omega arith) small))

-- so a text that begins with no digit, with too many, or with a zero and more begins with no number
pub plain_prefix : (text : List ℕ) (n : ℕ) (rest : List ℕ) → BeginsDigits text n rest → IsPlain text (prefix_len is_ascii_digit text)
plain_prefix text n rest h =
    let small : n < 2 ^ 64 = omega (arith, h.below) in
    let prefix = digits_prefix text n rest h in
    let some = decimal_nonempty n small in
    let first : get_or text 0 0 ≡ get_or (decimal n) 0 0 = ap (λ (t : List ℕ). get_or t 0 0) h.whole ∙ get_or_append_left (decimal n) rest 0 0 some in
    record {
      some = omega (arith, prefix, some);
      few = omega (arith, prefix, length-decimal-le 5 n (omega arith) (omega (arith, h.below)) small);
      no_zero = λ z. omega (arith, prefix, zero_alone n small (sym first ∙ z));
    }

-- a text begins with one number at most
same_digits : (text : List ℕ) (m n : ℕ) (r s : List ℕ) → BeginsDigits text m r → BeginsDigits text n s → (m ≡ n) × (r ≡ s)
same_digits text m n r s one other = (
  decimal_injective m n (omega (arith, one.below)) (omega (arith, other.below)) (sym (prefix m r one) ∙ ap (λ (k : ℕ). take k text) same ∙ prefix n s other),
  sym (suffix m r one) ∙ ap (λ (k : ℕ). drop k text) same ∙ suffix n s other,
) where
  same : length (decimal m) ≡ length (decimal n)
  same = sym (digits_prefix text m r one) ∙ digits_prefix text n s other

  prefix : (k : ℕ) (t : List ℕ) → BeginsDigits text k t → take (length (decimal k)) text ≡ decimal k
  prefix k t h = ap (take (length (decimal k))) h.whole ∙ take_at (decimal k) t (length (decimal k)) refl

  suffix : (k : ℕ) (t : List ℕ) → BeginsDigits text k t → drop (length (decimal k)) text ≡ t
  suffix k t h = ap (drop (length (decimal k))) h.whole ∙ drop_at (decimal k) t (length (decimal k)) refl

pub after_number : (ns : List ℕ) (s : List ℕ) → NoDigit s → NoDigit (flat_map number ns ++ s)
after_number [] s h = h
after_number (n ∷ ns) s h = ap (λ (t : List ℕ). is_ascii_digit (get_or (t ++ s) 0 0)) (flat_map-cons number n ns)

-- after the space
digits_of : (text : List ℕ) (n : ℕ) (ns s : List ℕ) → BeginsNumbers text (n ∷ ns) s → BeginsDigits (drop 1 text) n (flat_map number ns ++ s)
digits_of text n ns s h = record {
  whole = ap (drop 1) (h.whole ∙ ap (λ (t : List ℕ). t ++ s) (flat_map-cons number n ns) ∙ append_assoc (number n) (flat_map number ns) s);
  below = h.below 0 0 (omega arith);
  ends = after_number ns s h.ends;
}

-- the first number that was read is the first that was meant, and the others are after it
pub first_number : (text : List ℕ) (m : ℕ) (r : List ℕ) (n : ℕ) (ns s : List ℕ) → BeginsNumbers text (m ∷ []) r → BeginsNumbers text (n ∷ ns) s → (m ≡ n) × BeginsNumbers r ns s
first_number text m r n ns s one all =
    let same = same_digits (drop 1 text) m n r (flat_map number ns ++ s) (digits_of text m [] r one) (digits_of text n ns s all) in
    (same.0, record { whole = same.1; below = λ k d l. all.below (suc k) d (omega arith); ends = all.ends })

-- one number more
pub numbers_on : (text numbers rest : List ℕ) (i n : ℕ) (more : List ℕ) → i < length numbers → text ≡ flat_map number (take i numbers) ++ rest → BeginsNumbers rest (n ∷ []) more → text ≡ flat_map number (take (i + 1) (set numbers i n)) ++ more
numbers_on text numbers rest i n more l whole one =
    whole ∙ ap (λ (t : List ℕ). flat_map number (take i numbers) ++ t) one.whole ∙ sym (append_assoc (flat_map number (take i numbers)) (flat_map number (n ∷ [])) more)
    ∙ ap (λ (t : List ℕ). t ++ more) (sym (flat_map-append number (take i numbers) (n ∷ [])) ∙ ap (flat_map number) (sym (take_more_set numbers i n l)))

pub below_on : (numbers : List ℕ) (i n : ℕ) → i < length numbers → All (λ (k : ℕ). k < past_numbers) (take i numbers) → n < past_numbers → All (λ (k : ℕ). k < past_numbers) (take (i + 1) (set numbers i n))
below_on numbers i n l h below = subst (All (λ (k : ℕ). k < past_numbers)) (sym (take_more_set numbers i n l)) (All-push (λ (k : ℕ). k < past_numbers) (take i numbers) n h below)

pub meant_on : (text rest : List ℕ) (m i : ℕ) (more meant s : List ℕ) → i < length meant → BeginsNumbers rest (m ∷ []) more → BeginsNumbers rest (drop i meant) s → BeginsNumbers more (drop (i + 1) meant) s
meant_on text rest m i more meant s l one all =
    (first_number rest m more (get_or meant i 0) (drop (i + 1) meant) s one (subst (λ (ns : List ℕ). BeginsNumbers rest ns s) (drop_more meant i 0 l) all)).1

pub no_first : (rest : List ℕ) (i : ℕ) (meant s : List ℕ) → i < length meant → ((n : ℕ) (more : List ℕ) → BeginsNumbers rest (n ∷ []) more → ⊥) → BeginsNumbers rest (drop i meant) s → ⊥
no_first rest i meant s l none all =
    let ns = drop (i + 1) meant in
    let n = get_or meant i 0 in
    let here = subst (λ (ms : List ℕ). BeginsNumbers rest ms s) (drop_more meant i 0 l) all in
    none n (flat_map number ns ++ s) (record {
      whole = here.whole ∙ ap (λ (t : List ℕ). t ++ s) (flat_map-cons number n ns) ∙ append_assoc (number n) (flat_map number ns) s ∙ ap (λ (t : List ℕ). t ++ (flat_map number ns ++ s)) (sym (append-nil (number n)) ∙ sym (flat_map-cons number n []));
      below = λ k d j. (let z : k ≡ 0 = omega arith in subst (λ (p : ℕ). get_or (n ∷ []) p d < past_numbers) (sym z) (here.below 0 0 (omega arith)));
      ends = after_number ns s here.ends;
    })
