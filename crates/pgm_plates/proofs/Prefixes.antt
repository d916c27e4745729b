-- A header in range has no fault at any of its prefixes.
use Rattle.std.proofs.Common.{◌≡◌, ◌⊎◌, ℕ, ◌<◌, ◌≤◌, ◌+◌, ◌*◌, true, false, List, [], ◌∷◌, ◌++◌, length, take, drop, Option, Some, None, refl, sym, ap, ◌∙◌, subst, inl, inr, arith}
use Rattle.std.proofs.lemmas.List.{append_assoc, append-nil, take-append-drop, length-append}
use Rattle.std.specs.Option.{option_and_then}
use Rattle.pgm_plates.specs.declared.bounds.Bounds.{Bounds}
use Rattle.pgm_plates.specs.declared.header_state.HeaderState.{HeaderState}
use Rattle.pgm_plates.specs.declared.header_state.HeaderState.TheVariants.{Start, Letter, Magic, Gap, Comment, Digits, Ended}
use Rattle.pgm_plates.specs.declared.plate.PlateFault.{PlateFault}
use Rattle.pgm_plates.specs.declared.plate.PlateFault.TheVariants.{BadMagic, BadHeader, SideRange, TooManySamples, MaxvalRange, SampleAboveMaxval, Truncated, TrailingBytes}
use Rattle.pgm_plates.specs.Header.{is_digit, IsHeader}
use Rattle.pgm_plates.specs.Limits.{samples_within}
use Rattle.pgm_plates.specs.Plates.{IsSideWithin, sample_bytes, raster}
use Rattle.pgm_plates.specs.Faults.{DecidesWithin, NumberFault, EndsNumber, HoldsNoHeader}
use Rattle.pgm_plates.specs.Steps.{step}
use Rattle.pgm_plates.specs.Standing.{numbers_then}
use Rattle.pgm_plates.specs.Runs.{Reached, run}
use Rattle.pgm_plates.specs.Scanning.{IsClean}
use Rattle.pgm_plates.proofs.HeaderSound.{no_step}
use Rattle.pgm_plates.proofs.HeaderRun.{reached, run_then, header_run}
use Rattle.pgm_plates.proofs.Shapes.{one_header, holds_header}
use Rattle.pgm_plates.proofs.Numbers.{Ends, ends_run, fault_ends}
use Rattle.pgm_plates.proofs.Scans.{some_bytes, Lands, lands}

-- the numbers that no later byte changes
abbrev settled : HeaderState → List ℕ → List ℕ
settled Digits [] = []
settled Digits (n ∷ earlier) = earlier
settled other ns = ns

-- what comes before a list's end
abbrev Before : List ℕ → List ℕ → Type 0
Before all back = (prefix : List ℕ) × (all ≡ prefix ++ back)

before_digits : (n : ℕ) (all ns : List ℕ) → Before all (n ∷ ns) → Before all ns
before_digits n all ns is = (is.0 ++ n ∷ [], is.1 ∙ sym (append_assoc is.0 (n ∷ []) ns))

abbrev Other : HeaderState → Type 0
Other Digits = ⊥
Other stand = Unit {0}

other_then : (stand next : HeaderState) (ns all : List ℕ) (b : ℕ) → Other stand → Before all (settled next (numbers_then stand next ns b)) → Before all ns
other_then Digits next ns all b other is = absurd other
other_then Start Digits ns all b other is = is
other_then Letter Digits ns all b other is = is
other_then Magic Digits ns all b other is = is
other_then Gap Digits ns all b other is = is
other_then Comment Digits ns all b other is = is
other_then Ended Digits ns all b other is = is
other_then stand next ns all b other is = is

settled_then : (stand next : HeaderState) (ns all : List ℕ) (b : ℕ) → Before all (settled next (numbers_then stand next ns b)) → Before all (settled stand ns)
settled_then Digits Digits [] all b is = is
settled_then Digits Digits (n ∷ earlier) all b is = is
settled_then Digits Start [] all b is = is
settled_then Digits Letter [] all b is = is
settled_then Digits Magic [] all b is = is
settled_then Digits Gap [] all b is = is
settled_then Digits Comment [] all b is = is
settled_then Digits Ended [] all b is = is
settled_then Digits Start (n ∷ earlier) all b is = before_digits n all earlier is
settled_then Digits Letter (n ∷ earlier) all b is = before_digits n all earlier is
settled_then Digits Magic (n ∷ earlier) all b is = before_digits n all earlier is
settled_then Digits Gap (n ∷ earlier) all b is = before_digits n all earlier is
settled_then Digits Comment (n ∷ earlier) all b is = before_digits n all earlier is
settled_then Digits Ended (n ∷ earlier) all b is = before_digits n all earlier is
settled_then Start next ns all b is = other_then Start next ns all b tt is
settled_then Letter next ns all b is = other_then Letter next ns all b tt is
settled_then Magic next ns all b is = other_then Magic next ns all b tt is
settled_then Gap next ns all b is = other_then Gap next ns all b tt is
settled_then Comment next ns all b is = other_then Comment next ns all b tt is
settled_then Ended next ns all b is = other_then Ended next ns all b tt is

settled_end : (stand : HeaderState) (ns : List ℕ) → Before ns (settled stand ns)
settled_end Digits [] = ([], refl)
settled_end Digits (n ∷ earlier) = (n ∷ [], refl)
settled_end Start ns = ([], refl)
settled_end Letter ns = ([], refl)
settled_end Magic ns = ([], refl)
settled_end Gap ns = ([], refl)
settled_end Comment ns = ([], refl)
settled_end Ended ns = ([], refl)

-- A run keeps the numbers that are settled.
keeps_settled : (stand : HeaderState) (ns bs : List ℕ) (r : Reached) → run stand ns bs ≡ Some r → Before r.numbers (settled stand ns)
keeps_settled stand ns [] r e =
    let same : reached stand ns ≡ r = cc in
    subst (λ (q : Reached). Before q.numbers (settled stand ns)) same (settled_end stand ns)
keeps_settled stand ns (b ∷ bs) r e =
    let by_step : (o : Option HeaderState) → option_and_then (λ (s : HeaderState). run s (numbers_then stand s ns b) bs) o ≡ Some r → Before r.numbers (settled stand ns) =
    λ o. elim o as (λ o. option_and_then (λ (s : HeaderState). run s (numbers_then stand s ns b) bs) o ≡ Some r → Before r.numbers (settled stand ns)) [
      | None ↦ λ h. absurd (no_step r h)
      | Some next ↦ λ h. settled_then stand next ns r.numbers b (keeps_settled next (numbers_then stand next ns b) bs r h)
    ] in
    by_step (step stand (length ns) b) e

after_digits : (next : HeaderState) (n : ℕ) (earlier all : List ℕ) (b : ℕ) → Lands Digits next (length (n ∷ earlier)) b → is_digit b ≡ false → Before all (settled next (numbers_then Digits next (n ∷ earlier) b)) → Before all (n ∷ earlier)
after_digits Digits n earlier all b on other is = absurd (let e : true ≡ false = sym on ∙ other in cc)
after_digits Gap n earlier all b on other is = is
after_digits Comment n earlier all b on other is = is
after_digits Ended n earlier all b on other is = is
after_digits Start n earlier all b on other is = absurd on
after_digits Letter n earlier all b on other is = absurd on
after_digits Magic n earlier all b on other is = absurd on

which_prefix : (m h w n : ℕ) (earlier prefix : List ℕ) → m ∷ h ∷ w ∷ [] ≡ prefix ++ n ∷ earlier → ((earlier ≡ []) × (n ≡ w)) ⊎ (((earlier ≡ w ∷ []) × (n ≡ h)) ⊎ ((earlier ≡ h ∷ w ∷ []) × (n ≡ m)))
which_prefix m h w n earlier [] e =
    let a : n ≡ m = cc in
    let b : earlier ≡ h ∷ w ∷ [] = cc in
    inr (inr (b, a))
which_prefix m h w n earlier (x ∷ []) e =
    let a : n ≡ h = cc in
    let b : earlier ≡ w ∷ [] = cc in
    inr (inl (b, a))
which_prefix m h w n earlier (x ∷ y ∷ []) e =
    let a : n ≡ w = cc in
    let b : earlier ≡ [] = cc in
    inl (b, a)
which_prefix m h w n earlier (x ∷ y ∷ z ∷ prefix) e = absurd (omega (arith, ap length e, length-append prefix (n ∷ earlier)))

-- After the byte that ends a number, the number is settled.
ended_settled : (prefix rest ns : List ℕ) (b n : ℕ) (earlier : List ℕ) (r : Reached) → run Start [] prefix ≡ Some (reached Digits (n ∷ earlier)) → is_digit b ≡ false → run Start [] (prefix ++ b ∷ rest) ≡ Some r → Before r.numbers (n ∷ earlier)
ended_settled prefix rest ns b n earlier r ran other whole =
    let on : run Digits (n ∷ earlier) (b ∷ rest) ≡ Some r = sym (run_then Start Digits [] (n ∷ earlier) prefix (b ∷ rest) ran) ∙ whole in
    let by_step : (o : Option HeaderState) → step Digits (length (n ∷ earlier)) b ≡ o → option_and_then (λ (s : HeaderState). run s (numbers_then Digits s (n ∷ earlier) b) rest) o ≡ Some r → Before r.numbers (n ∷ earlier) =
    λ o. elim o as (λ o. step Digits (length (n ∷ earlier)) b ≡ o → option_and_then (λ (s : HeaderState). run s (numbers_then Digits s (n ∷ earlier) b) rest) o ≡ Some r → Before r.numbers (n ∷ earlier)) [
      | None ↦ λ is h. absurd (no_step r h)
      | Some next ↦ λ is h. after_digits next n earlier r.numbers b (lands Digits next (length (n ∷ earlier)) b is) other (keeps_settled next (numbers_then Digits next (n ∷ earlier) b) rest r h)
    ] in
    by_step (step Digits (length (n ∷ earlier)) b) refl on

-- which number of the header it is
which : (m h w n : ℕ) (earlier : List ℕ) → Before (m ∷ h ∷ w ∷ []) (n ∷ earlier) → ((earlier ≡ []) × (n ≡ w)) ⊎ (((earlier ≡ w ∷ []) × (n ≡ h)) ⊎ ((earlier ≡ h ∷ w ∷ []) × (n ≡ m)))
which m h w n earlier is = which_prefix m h w n earlier is.0 is.1

-- the numbers that end in a prefix of a header are the header's
header_ends : (header prefix back : List ℕ) (w h m : ℕ) → IsHeader header w h m → prefix ++ back ≡ header → (e : Ends prefix) → Before (m ∷ h ∷ w ∷ []) (e.number ∷ e.earlier)
header_ends header prefix back w h m is whole e =
    let ends = e.ends in
    let start = ends.prefix ++ ends.gap ++ ends.digits in
    let same : start ++ ends.next ∷ [] ≡ prefix = sym ends.whole in
    let ran = ends_run start ends.next e.at e.number e.earlier (subst (λ (x : List ℕ). EndsNumber x e.at e.number e.earlier) ends.whole ends) e.few in
    let all : start ++ ends.next ∷ back ≡ header = sym (append_assoc start (ends.next ∷ []) back) ∙ ap (λ (x : List ℕ). x ++ back) same ∙ whole in
    ended_settled start back [] ends.next e.number e.earlier (reached Ended (m ∷ h ∷ w ∷ [])) ran.0 ran.1 (ap (run Start []) all ∙ header_run header w h m is)

empty_list : (xs : List ℕ) → length xs ≡ 0 → xs ≡ []
empty_list [] none = refl
empty_list (x ∷ xs) none = absurd (omega arith)

-- no header lies within a prefix of another
no_inside : (header prefix back inner x y : List ℕ) (w h m w' h' m' : ℕ) → IsHeader header w h m → IsHeader inner w' h' m' → prefix ++ back ≡ header → prefix ≡ inner ++ x ++ y → 0 < length y → ⊥
no_inside header prefix back inner x y w h m w' h' m' is inside whole same some =
    let e : header ++ [] ≡ inner ++ (x ++ y ++ back) =
    append-nil header ∙ sym whole ∙ ap (λ (z : List ℕ). z ++ back) same ∙ append_assoc (inner ++ x) y back ∙ append_assoc inner x (y ++ back) ∙ ap (λ (z : List ℕ). inner ++ z) (sym (append_assoc x y back)) in
    let one = one_header header [] inner (x ++ y ++ back) w h m w' h' m' is inside e in
    omega (arith, ap length one.rest, length-append (x ++ y) back, length-append x y)

module _ (bounds : Bounds) where
  abbrev InHeader : ℕ → ℕ → ℕ → Type 0
  InHeader w h m = IsSideWithin bounds w × IsSideWithin bounds h × (w * h ≤ samples_within bounds) × (0 < m) × (m ≤ 65535)

  -- no number of a header in range has a fault
  no_number : (w h m : ℕ) (bytes : List ℕ) (fault : PlateFault) → InHeader w h m → ((e : Ends bytes) → Before (m ∷ h ∷ w ∷ []) (e.number ∷ e.earlier)) → NumberFault bounds bytes fault → ⊥
  unfolding fault_ends
  no_number w h m bytes (SideRange at) range is d =
      elim (which m h w d.0 d.1 (is (fault_ends bounds bytes (SideRange at) d))) [
        | inl a ↦ d.4 (subst (IsSideWithin bounds) (sym a.1) range.0)
        | inr more ↦ elim more [
          | inl b ↦ d.4 (subst (IsSideWithin bounds) (sym b.1) range.1)
          | inr c ↦ omega (arith, d.3, ap length c.0)
        ]
      ]
  no_number w h m bytes (TooManySamples at) range is d =
      elim (which m h w d.1 (d.0 ∷ []) (is (fault_ends bounds bytes (TooManySamples at) d))) [
        | inl a ↦ omega (arith, ap length a.0)
        | inr more ↦ elim more [
          | inl b ↦
              let same : d.0 ≡ w = let e : d.0 ∷ [] ≡ w ∷ [] = b.0 in cc in
              let product : d.0 * d.1 ≡ w * h = ap (λ (x : ℕ). x * d.1) same ∙ ap (λ (x : ℕ). w * x) b.1 in
              omega (arith, d.5, range.2)
          | inr c ↦ omega (arith, ap length c.0)
        ]
      ]
  no_number w h m bytes (MaxvalRange at) range is d =
      elim (which m h w d.2 (d.1 ∷ d.0 ∷ []) (is (fault_ends bounds bytes (MaxvalRange at) d))) [
        | inl a ↦ omega (arith, ap length a.0)
        | inr more ↦ elim more [
          | inl b ↦ omega (arith, ap length b.0)
          | inr c ↦ elim d.4 [ inl none_at_all ↦ omega (arith, range.3, c.1) | inr big ↦ omega (arith, range.4, c.1) ]
        ]
      ]
  no_number w h m bytes (BadMagic at) range is d = d
  no_number w h m bytes (BadHeader at) range is d = d
  no_number w h m bytes (SampleAboveMaxval at) range is d = d
  no_number w h m bytes (Truncated at) range is d = d
  no_number w h m bytes (TrailingBytes at) range is d = d

  -- What begins a header in range decides nothing.
  quiet_prefix : (header prefix back : List ℕ) (w h m : ℕ) → IsHeader header w h m → InHeader w h m → length header ≤ 65536 → prefix ++ back ≡ header → (fault : PlateFault) → DecidesWithin bounds prefix fault → ⊥
  quiet_prefix header prefix back w h m is range short whole (BadMagic at) d = d.1.broken (back, (w, h, m, subst (λ (x : List ℕ). IsHeader x w h m) (sym whole) is))
  quiet_prefix header prefix back w h m is range short whole (BadHeader at) d =
      elim d [
        | inl broken ↦ broken.1.broken (back, (w, h, m, subst (λ (x : List ℕ). IsHeader x w h m) (sym whole) is))
        | inr long ↦
            let none : back ≡ [] = empty_list back (omega (arith, long.1.long, ap length whole, length-append prefix back)) in
            let all : header ≡ prefix = sym whole ∙ ap (λ (x : List ℕ). prefix ++ x) none ∙ append-nil prefix in
            holds_header header [] w h m is (subst HoldsNoHeader (sym all ∙ sym (append-nil header)) long.1.unended)
      ]
  quiet_prefix header prefix back w h m is range short whole (SideRange at) d = no_number w h m prefix (SideRange at) range (header_ends header prefix back w h m is whole) d
  quiet_prefix header prefix back w h m is range short whole (TooManySamples at) d = no_number w h m prefix (TooManySamples at) range (header_ends header prefix back w h m is whole) d
  quiet_prefix header prefix back w h m is range short whole (MaxvalRange at) d = no_number w h m prefix (MaxvalRange at) range (header_ends header prefix back w h m is whole) d
  quiet_prefix header prefix back w h m is range short whole (SampleAboveMaxval at) d =
      no_inside header prefix back d.header (raster d.maxval d.samples) (sample_bytes d.maxval d.sample) w h m d.width d.height d.maxval is d.is_header whole d.whole (some_bytes d.maxval d.sample)
  quiet_prefix header prefix back w h m is range short whole (TrailingBytes at) d =
      no_inside header prefix back d.header (raster d.maxval d.samples) (d.last ∷ []) w h m d.width d.height d.maxval is d.is_header whole d.whole (omega arith)
  quiet_prefix header prefix back w h m is range short whole (Truncated at) d = d

  -- A header in range has no fault.
  pub clean_header : (header : List ℕ) (w h m : ℕ) → IsHeader header w h m → IsSideWithin bounds w → IsSideWithin bounds h → w * h ≤ samples_within bounds → 0 < m → m ≤ 65535 → length header ≤ 65536 → IsClean bounds header (length header + 1)
  clean_header header w h m is width height product positive maxval short n fault less d =
      quiet_prefix header (take n header) (drop n header) w h m is (width, height, product, positive, maxval) short (take-append-drop n header) fault d
