-- The canonical spelling of a plate is a plate file of it.
use Rattle.std.proofs.Common.{◌≡◌, ℕ, ◌<◌, ◌≤◌, ◌+◌, ◌-◌, ◌^◌, true, List, [], ◌∷◌, ◌++◌, length, map, refl, sym, ap, ◌∙◌, arith}
use Rattle.std.proofs.lemmas.Bool.{and_from}
use Rattle.std.proofs.lemmas.Bool.Decides.{nat_tests}
use Rattle.std.proofs.lemmas.List.{append_assoc, length-append, length_push}
use Rattle.std.proofs.lemmas.Fmt.{decimal-digits_of, decimal_nonempty, length-decimal-le}
use Rattle.std.proofs.lemmas.Int.Digits.{number_digits_of, all_below_base_digits_of}
use Rattle.std.specs.Fmt.{decimal}
use Rattle.std.specs.List.{list_all}
use Rattle.std.specs.Int.Digits.{AllBelowBase, digits_of, number_from_digits}
use Rattle.pgm_plates.specs.declared.bounds.Bounds.{Bounds}
use Rattle.pgm_plates.specs.declared.bounds.Bounds.TheVariants.{Page}
use Rattle.pgm_plates.specs.Header.{is_digit, is_space, IsGap, IsNumber, Numbers, IsHeader}
use Rattle.pgm_plates.specs.Header.IsItem.{space}
use Rattle.pgm_plates.specs.Header.IsGap.{one}
use Rattle.pgm_plates.specs.Plates.{spelled_header}
use Rattle.pgm_plates.specs.Laws.{SpelledReadsWithin}
use Rattle.pgm_plates.proofs.Numbers.{small_side}

digits_back : (ds : List ℕ) → map (λ (b : ℕ). b - 48) (map (λ (d : ℕ). 48 + d) ds) ≡ ds
digits_back [] = refl
digits_back (d ∷ ds) =
    let e : 48 + d - 48 ≡ d = omega arith in
    ap (λ (x : ℕ). x ∷ map (λ (b : ℕ). b - 48) (map (λ (d : ℕ). 48 + d) ds)) e ∙ ap (λ (x : List ℕ). d ∷ x) (digits_back ds)

digit_here : (d : ℕ) → d < 10 → is_digit (48 + d) ≡ true
digit_here d less = grind (arith, nat_tests)

digits_are : (ds : List ℕ) → AllBelowBase 10 ds → list_all is_digit (map (λ (d : ℕ). 48 + d) ds) ≡ true
digits_are [] all = refl
digits_are (d ∷ ds) all =
    and_from (is_digit (48 + d)) (list_all is_digit (map (λ (x : ℕ). 48 + x) ds)) (digit_here d all.0) (digits_are ds all.1)

-- a number in decimal is its digits
decimal_number : (n : ℕ) → 0 < n → n < 2 ^ 64 → IsNumber (decimal n) n
decimal_number n some small =
    let e : decimal n ≡ map (λ (d : ℕ). 48 + d) (digits_of 10 n) = decimal-digits_of n some small in (
      decimal_nonempty n small,
      ap (list_all is_digit) e ∙ digits_are (digits_of 10 n) (all_below_base_digits_of 10 n (omega arith)),
      sym (ap (λ (x : List ℕ). number_from_digits 10 (map (λ (b : ℕ). b - 48) x)) e ∙ ap (number_from_digits 10) (digits_back (digits_of 10 n)) ∙ number_digits_of 10 n (omega arith)),
    )

one_space : (b : ℕ) → is_space b ≡ true → IsGap (b ∷ [])
one_space b is = one (b ∷ []) (space (b ∷ []) b is refl)

small_number : (n : ℕ) → n ≤ 262144 → n < 2 ^ 64
small_number n le = omega arith

abbrev start : List ℕ
start = 80 ∷ 53 ∷ 10 ∷ []

first_number : (w : ℕ) → 0 < w → w ≤ 262144 → Numbers (start ++ decimal w) (w ∷ [])
first_number w some le = (80 ∷ 53 ∷ [], 10 ∷ [], decimal w, refl, one_space 10 refl, decimal_number w some (small_number w le), refl)

next_number : (prefix : List ℕ) (earlier : List ℕ) (b n : ℕ) → Numbers prefix earlier → is_space b ≡ true → 0 < n → n ≤ 262144 → Numbers (prefix ++ b ∷ [] ++ decimal n) (n ∷ earlier)
next_number prefix earlier b n numbers is some le = (prefix, b ∷ [], decimal n, numbers, one_space b is, decimal_number n some (small_number n le), refl)

abbrev two_numbers : ℕ → ℕ → List ℕ
two_numbers w h = start ++ decimal w ++ 32 ∷ [] ++ decimal h

abbrev three_numbers : ℕ → ℕ → ℕ → List ℕ
three_numbers w h m = two_numbers w h ++ 10 ∷ [] ++ decimal m

header_as : (w h m : ℕ) → start ++ (decimal w ++ 32 ∷ []) ++ (decimal h ++ 10 ∷ []) ++ (decimal m ++ 10 ∷ []) ≡ three_numbers w h m ++ 10 ∷ []
header_as w h m =
    ap (λ (x : List ℕ). x ++ (decimal h ++ 10 ∷ []) ++ (decimal m ++ 10 ∷ [])) (sym (append_assoc start (decimal w) (32 ∷ [])))
    ∙ ap (λ (x : List ℕ). x ++ (decimal m ++ 10 ∷ [])) (sym (append_assoc (start ++ decimal w ++ 32 ∷ []) (decimal h) (10 ∷ [])))
    ∙ sym (append_assoc (two_numbers w h ++ 10 ∷ []) (decimal m) (10 ∷ []))

is_header : (w h m : ℕ) → 0 < w → w ≤ 262144 → 0 < h → h ≤ 262144 → 0 < m → m ≤ 262144 → IsHeader (start ++ (decimal w ++ 32 ∷ []) ++ (decimal h ++ 10 ∷ []) ++ (decimal m ++ 10 ∷ [])) w h m
is_header w h m w0 w1 h0 h1 m0 m1 = (
  three_numbers w h m,
  10,
  next_number (two_numbers w h) (h ∷ w ∷ []) 10 m (next_number (start ++ decimal w) (w ∷ []) 32 h (first_number w w0 w1) refl h0 h1) refl m0 m1,
  refl,
  header_as w h m,
)

short_number : (n : ℕ) → n ≤ 262144 → length (decimal n) ≤ 6
short_number n le = length-decimal-le 6 n (omega arith) (omega arith) (small_number n le)

short_header : (w h m : ℕ) → w ≤ 262144 → h ≤ 262144 → m ≤ 262144 → length (start ++ (decimal w ++ 32 ∷ []) ++ (decimal h ++ 10 ∷ []) ++ (decimal m ++ 10 ∷ [])) ≤ 65536
short_header w h m w1 h1 m1 =
    let a = short_number w w1 in
    let b = short_number h h1 in
    let c = short_number m m1 in
    omega (arith, length-append (start ++ (decimal w ++ 32 ∷ []) ++ (decimal h ++ 10 ∷ [])) (decimal m ++ 10 ∷ []), length-append (start ++ (decimal w ++ 32 ∷ [])) (decimal h ++ 10 ∷ []), length-append start (decimal w ++ 32 ∷ []), length_push (decimal w) 32, length_push (decimal h) 10, length_push (decimal m) 10)

module _ (bounds : Bounds) where
  pub spelled_reads_within : SpelledReadsWithin bounds
  spelled_reads_within plate ok =
      let w1 : plate.width ≤ 262144 = omega (arith, ok.width.1, small_side bounds) in
      let m1 : plate.maxval ≤ 262144 = omega (arith, ok.maxval) in
      let h1 : plate.height ≤ 262144 = omega (arith, ok.height.1, small_side bounds) in
      record {
        header = spelled_header plate;
        is_header = is_header plate.width plate.height plate.maxval ok.width.0 w1 ok.height.0 h1 ok.positive m1;
        short = short_header plate.width plate.height plate.maxval w1 h1 m1;
        plate_ok = ok;
        whole = refl;
      }

-- The same of a page's plates.
pub spelled_reads : SpelledReadsWithin Page
spelled_reads = spelled_reads_within Page
