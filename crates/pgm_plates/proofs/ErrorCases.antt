-- Of bytes the last byte decides one fault at most.
use Rattle.std.proofs.Common.{◌≡◌, ℕ, ◌<◌, ◌≤◌, ◌+◌, ◌*◌, Bool, true, false, cond, ltb, List, [], ◌∷◌, ◌++◌, length, Some, refl, sym, ap, ◌∙◌, subst, inl, inr, arith}
use Rattle.std.proofs.lemmas.Bool.{cond-true, cond-false, lt-ltb, le-ltb}
use Rattle.std.proofs.lemmas.Bool.Decides.{nat_tests}
use Rattle.std.proofs.lemmas.List.{append_assoc, same_from_push, length-append, length_push}
use Rattle.std.proofs.Math.Nat.{add-mul, mul-le-mul_right}
use Rattle.std.specs.List.{list_all}
use Rattle.pgm_plates.specs.declared.bounds.Bounds.{Bounds}
use Rattle.pgm_plates.specs.declared.bounds.Bounds.TheVariants.{Page}
use Rattle.pgm_plates.specs.declared.header_state.HeaderState.TheVariants.{Digits}
use Rattle.pgm_plates.specs.declared.plate.PlateFault.{PlateFault}
use Rattle.pgm_plates.specs.declared.plate.PlateFault.TheVariants.{BadMagic, BadHeader, SideRange, TooManySamples, MaxvalRange, SampleAboveMaxval, Truncated, TrailingBytes}
use Rattle.pgm_plates.specs.Header.{is_digit, is_line_end, IsItem, IsGap, IsHeader, IsBegun}
use Rattle.pgm_plates.specs.Header.IsItem.{space, comment}
use Rattle.pgm_plates.specs.Header.IsGap.{one, more}
use Rattle.pgm_plates.specs.Plates.{IsSideWithin, sample_bytes, sample_size, raster}
use Rattle.pgm_plates.specs.Faults.{DecidesWithin, Breaks, NumberFault, EndsNumber, EndsAboveMaxval, EndsAfterRaster, EndsTooLong, HoldsNoHeader}
use Rattle.pgm_plates.specs.Runs.{Reached}
use Rattle.pgm_plates.proofs.HeaderSound.{and_true}
use Rattle.pgm_plates.proofs.HeaderRun.{reached, space_other}
use Rattle.pgm_plates.proofs.Shapes.{one_header, begun_stops, holds_header}
use Rattle.pgm_plates.proofs.Numbers.{Ends, ends_run, fault_ends}
use Rattle.pgm_plates.proofs.Scans.{some_bytes}
use Rattle.pgm_plates.proofs.Decisions.{bytes_size, raster_size, no_break}

-- a header and more within the bytes
record Beyond (bytes : List ℕ) : Type 0 where
  header : List ℕ
  back : List ℕ
  width : ℕ
  height : ℕ
  maxval : ℕ
  is_header : IsHeader header width height maxval
  whole : bytes ≡ header ++ back
  some : 0 < length back

above_beyond : (bytes : List ℕ) (at : ℕ) → EndsAboveMaxval bytes at → Beyond bytes
above_beyond bytes at d =
    let last = some_bytes d.maxval d.sample in
    record {
      header = d.header;
      back = raster d.maxval d.samples ++ sample_bytes d.maxval d.sample;
      width = d.width;
      height = d.height;
      maxval = d.maxval;
      is_header = d.is_header;
      whole = d.whole ∙ append_assoc d.header (raster d.maxval d.samples) (sample_bytes d.maxval d.sample);
      some = omega (arith, length-append (raster d.maxval d.samples) (sample_bytes d.maxval d.sample));
    }

after_beyond : (bytes : List ℕ) (at : ℕ) → EndsAfterRaster bytes at → Beyond bytes
after_beyond bytes at d = record {
  header = d.header;
  back = raster d.maxval d.samples ++ d.last ∷ [];
  width = d.width;
  height = d.height;
  maxval = d.maxval;
  is_header = d.is_header;
  whole = d.whole ∙ append_assoc d.header (raster d.maxval d.samples) (d.last ∷ []);
  some = omega (arith, length_push (raster d.maxval d.samples) d.last);
}

breaks_beyond : (bytes : List ℕ) (at : ℕ) → Breaks bytes at → Beyond bytes → ⊥
breaks_beyond bytes at broken b = no_break b.header b.back b.width b.height b.maxval at b.is_header b.some (subst (λ (x : List ℕ). Breaks x at) b.whole broken)

begun_beyond : (bytes : List ℕ) → IsBegun bytes → Beyond bytes → ⊥
begun_beyond bytes begun b =
    let none = begun_stops b.header b.back b.width b.height b.maxval b.is_header (subst IsBegun b.whole begun) in
    omega (arith, b.some, ap length none)

breaks_place : (bytes : List ℕ) (at : ℕ) → Breaks bytes at → length bytes ≡ at + 1
breaks_place bytes at broken = ap length broken.whole ∙ length_push broken.prefix broken.last ∙ ap (λ (n : ℕ). n + 1) broken.place

above_place : (bytes : List ℕ) (at : ℕ) (d : EndsAboveMaxval bytes at) → length bytes ≡ at + sample_size d.maxval
above_place bytes at d = ap length d.whole ∙ length-append (d.header ++ raster d.maxval d.samples) (sample_bytes d.maxval d.sample) ∙ ap (λ (n : ℕ). n + length (sample_bytes d.maxval d.sample)) d.place ∙ ap (λ (n : ℕ). at + n) (bytes_size d.maxval d.sample)

after_place : (bytes : List ℕ) (at : ℕ) → EndsAfterRaster bytes at → length bytes ≡ at + 1
after_place bytes at d = ap length d.whole ∙ length_push (d.header ++ raster d.maxval d.samples) d.last ∙ ap (λ (n : ℕ). n + 1) d.place

one_above : (bytes : List ℕ) (at at' : ℕ) → EndsAboveMaxval bytes at → EndsAboveMaxval bytes at' → at ≡ at'
one_above bytes at at' d e =
    let first = above_beyond bytes at d in
    let second = above_beyond bytes at' e in
    let same = one_header d.header (raster d.maxval d.samples ++ sample_bytes d.maxval d.sample) e.header (raster e.maxval e.samples ++ sample_bytes e.maxval e.sample) d.width d.height d.maxval e.width e.height e.maxval d.is_header e.is_header
    (sym (append_assoc d.header (raster d.maxval d.samples) (sample_bytes d.maxval d.sample)) ∙ sym d.whole ∙ e.whole ∙ append_assoc e.header (raster e.maxval e.samples) (sample_bytes e.maxval e.sample)) in
    omega (arith, above_place bytes at d, above_place bytes at' e, ap sample_size same.maxval)

fewer_times : (k n size : ℕ) → k < n → k * size + size ≤ n * size
fewer_times k n size less =
    let e : (k + 1) * size ≡ k * size + size = add-mul k 1 size ∙ ap (λ (x : ℕ). k * size + x) (let f : 1 * size ≡ size = omega arith in f) in
    subst (λ (x : ℕ). x ≤ n * size) e (mul-le-mul_right size (let le : k + 1 ≤ n = omega arith in le))

above_after : (bytes : List ℕ) (at at' : ℕ) → EndsAboveMaxval bytes at → EndsAfterRaster bytes at' → ⊥
above_after bytes at at' d e =
    let same = one_header d.header (raster d.maxval d.samples ++ sample_bytes d.maxval d.sample) e.header (raster e.maxval e.samples ++ e.last ∷ []) d.width d.height d.maxval e.width e.height e.maxval d.is_header e.is_header
    (sym (append_assoc d.header (raster d.maxval d.samples) (sample_bytes d.maxval d.sample)) ∙ sym d.whole ∙ e.whole ∙ append_assoc e.header (raster e.maxval e.samples) (e.last ∷ [])) in
    let m = d.maxval in
    let all : length e.samples ≡ d.width * d.height = e.all ∙ ap (λ (n : ℕ). n * e.height) (sym same.width) ∙ ap (λ (n : ℕ). d.width * n) (sym same.height) in
    let one : length (raster m d.samples ++ sample_bytes m d.sample) ≡ length d.samples * sample_size m + sample_size m =
    length-append (raster m d.samples) (sample_bytes m d.sample) ∙ ap (λ (n : ℕ). n + length (sample_bytes m d.sample)) (raster_size m d.samples) ∙ ap (λ (n : ℕ). length d.samples * sample_size m + n) (bytes_size m d.sample) in
    let two : length (raster e.maxval e.samples ++ e.last ∷ []) ≡ d.width * d.height * sample_size m + 1 =
    length_push (raster e.maxval e.samples) e.last ∙ ap (λ (n : ℕ). n + 1) (raster_size e.maxval e.samples ∙ ap (λ (n : ℕ). length e.samples * sample_size n) (sym same.maxval) ∙ ap (λ (n : ℕ). n * sample_size m) all) in
    let less = fewer_times (length d.samples) (d.width * d.height) (sample_size m) d.within in
    omega (arith, ap length same.rest)

-- how many digits end the bytes
abbrev digits_end : List ℕ → ℕ → ℕ
digits_end [] k = k
digits_end (b ∷ bs) k = cond (is_digit b) (digits_end bs (k + 1)) (digits_end bs 0)

either_way : (t : Bool) (x y z : ℕ) → x ≡ z → y ≡ z → cond t x y ≡ z
either_way true x y z p q = p
either_way false x y z p q = q

digits_after : (prefix digits : List ℕ) (x k : ℕ) → is_digit x ≡ false → digits_end (prefix ++ x ∷ digits) k ≡ digits_end digits 0
digits_after [] digits x k other = cond-false (is_digit x) (digits_end digits (k + 1)) (digits_end digits 0) other
digits_after (b ∷ bs) digits x k other =
    either_way (is_digit b) (digits_end (bs ++ x ∷ digits) (k + 1)) (digits_end (bs ++ x ∷ digits) 0) (digits_end digits 0) (digits_after bs digits x (k + 1) other) (digits_after bs digits x 0 other)

digits_all : (digits : List ℕ) (k : ℕ) → list_all is_digit digits ≡ true → digits_end digits k ≡ k + length digits
digits_all [] k all = omega arith
digits_all (b ∷ bs) k all =
    let parts = and_true (is_digit b) (list_all is_digit bs) all in
    cond-true (is_digit b) (digits_end bs (k + 1)) (digits_end bs 0) parts.0 ∙ digits_all bs (k + 1) parts.1 ∙ (let e : k + 1 + length bs ≡ k + length (b ∷ bs) = omega arith in e)

-- a gap's last byte is no digit
record GapEnd (gap : List ℕ) : Type 0 where
  prefix : List ℕ
  last : ℕ
  is : gap ≡ prefix ++ last ∷ []
  other : is_digit last ≡ false

line_other : (b : ℕ) → is_line_end b ≡ true → is_digit b ≡ false
line_other b h = grind (arith, nat_tests)

item_end : (item : List ℕ) → IsItem item → GapEnd item
item_end item (space bytes b h e) = record { prefix = []; last = b; is = e; other = space_other b h }
item_end item (comment bytes text last plain end e) = record { prefix = 35 ∷ text; last = last; is = e; other = line_other last end }

gap_end : (gap : List ℕ) → IsGap gap → GapEnd gap
gap_end gap (one item it) = item_end gap it
gap_end gap (more bytes prefix item is_gap it e) =
    let end = item_end item it in
    record { prefix = prefix ++ end.prefix; last = end.last; is = e ∙ ap (λ (x : List ℕ). prefix ++ x) end.is ∙ sym (append_assoc prefix end.prefix (end.last ∷ [])); other = end.other }

-- where the digits of a number that ends here begin
ends_place : (bytes : List ℕ) (b at n : ℕ) (earlier : List ℕ) → EndsNumber (bytes ++ b ∷ []) at n earlier → length bytes ≡ at + digits_end bytes 0
ends_place bytes b at n earlier ends =
    let both = same_from_push bytes (ends.prefix ++ ends.gap ++ ends.digits) b ends.next ends.whole in
    let end = gap_end ends.gap ends.is_gap in
    let split : bytes ≡ (ends.prefix ++ end.prefix) ++ end.last ∷ ends.digits =
    both.0 ∙ ap (λ (x : List ℕ). ends.prefix ++ x ++ ends.digits) end.is
    ∙ ap (λ (x : List ℕ). x ++ ends.digits) (sym (append_assoc ends.prefix end.prefix (end.last ∷ [])))
    ∙ append_assoc (ends.prefix ++ end.prefix) (end.last ∷ []) ends.digits in
    let count : digits_end bytes 0 ≡ length ends.digits = ap (λ (x : List ℕ). digits_end x 0) split ∙ digits_after (ends.prefix ++ end.prefix) ends.digits end.last 0 end.other ∙ digits_all ends.digits 0 ends.is_number.1 ∙ (let z : 0 + length ends.digits ≡ length ends.digits = omega arith in z) in
    let size : length bytes ≡ at + length ends.digits = ap length both.0 ∙ length-append (ends.prefix ++ ends.gap) ends.digits ∙ ap (λ (x : ℕ). x + length ends.digits) ends.place in
    size ∙ ap (λ (x : ℕ). at + x) (sym count)

one_end : (bytes : List ℕ) (d e : Ends bytes) → (d.at ≡ e.at) × (d.number ≡ e.number) × (d.earlier ≡ e.earlier)
one_end bytes d e =
    let prefix = d.ends.prefix ++ d.ends.gap ++ d.ends.digits in
    let b = d.ends.next in
    let whole : bytes ≡ prefix ++ b ∷ [] = d.ends.whole in
    let dd : EndsNumber (prefix ++ b ∷ []) d.at d.number d.earlier = subst (λ (x : List ℕ). EndsNumber x d.at d.number d.earlier) whole d.ends in
    let ee : EndsNumber (prefix ++ b ∷ []) e.at e.number e.earlier = subst (λ (x : List ℕ). EndsNumber x e.at e.number e.earlier) whole e.ends in
    let runs : Some (reached Digits (d.number ∷ d.earlier)) ≡ Some (reached Digits (e.number ∷ e.earlier)) =
    sym ((ends_run prefix b d.at d.number d.earlier dd d.few).0) ∙ (ends_run prefix b e.at e.number e.earlier ee e.few).0 in
    let same : reached Digits (d.number ∷ d.earlier) ≡ reached Digits (e.number ∷ e.earlier) = cc in
    let ns : d.number ∷ d.earlier ≡ e.number ∷ e.earlier = ap (λ (r : Reached). r.numbers) same in
    let at : d.at ≡ e.at = omega (arith, ends_place prefix b d.at d.number d.earlier dd, ends_place prefix b e.at e.number e.earlier ee) in
    let number : d.number ≡ e.number = cc in
    let earlier : d.earlier ≡ e.earlier = cc in
    (at, number, earlier)

header_fault_at : (a b : ℕ) → a ≡ b → cond (ltb a 2) (BadMagic a) (BadHeader a) ≡ cond (ltb b 2) (BadMagic b) (BadHeader b)
header_fault_at a b same = ap (λ (n : ℕ). cond (ltb n 2) (BadMagic n) (BadHeader n)) same

module _ (bounds : Bounds) where
  -- what the last byte does
  data Error (bytes : List ℕ) (fault : PlateFault) : Type 0 where
    breaks : (at : ℕ) → Breaks bytes at → fault ≡ cond (ltb at 2) (BadMagic at) (BadHeader at) → Error bytes fault
    long : EndsTooLong bounds bytes → fault ≡ BadHeader 65536 → Error bytes fault
    number : NumberFault bounds bytes fault → Error bytes fault
    above : (at : ℕ) → EndsAboveMaxval bytes at → fault ≡ SampleAboveMaxval at → Error bytes fault
    suffix : (at : ℕ) → EndsAfterRaster bytes at → fault ≡ TrailingBytes at → Error bytes fault

  reason : (bytes : List ℕ) (fault : PlateFault) → DecidesWithin bounds bytes fault → Error bytes fault
  reason bytes (BadMagic at) d = breaks at d.1 (sym (cond-true (ltb at 2) (BadMagic at) (BadHeader at) (lt-ltb at 2 d.0)))
  reason bytes (BadHeader at) d =
      elim d [
        | inl broken ↦ breaks at broken.1 (sym (cond-false (ltb at 2) (BadMagic at) (BadHeader at) (le-ltb at 2 broken.0)))
        | inr far ↦ long far.1 (ap (λ (n : ℕ). BadHeader n) far.0)
      ]
  reason bytes (SideRange at) d = number d
  reason bytes (TooManySamples at) d = number d
  reason bytes (MaxvalRange at) d = number d
  reason bytes (SampleAboveMaxval at) d = above at d refl
  reason bytes (Truncated at) d = absurd d
  reason bytes (TrailingBytes at) d = suffix at d refl

  long_beyond : (bytes : List ℕ) → EndsTooLong bounds bytes → Beyond bytes → ⊥
  long_beyond bytes far b = holds_header b.header b.back b.width b.height b.maxval b.is_header (subst HoldsNoHeader b.whole far.unended)

  number_begun : (bytes : List ℕ) (fault : PlateFault) → NumberFault bounds bytes fault → IsBegun bytes
  number_begun bytes fault d = let e = fault_ends bounds bytes fault d in e.ends.begun

  one_number : (bytes : List ℕ) (f g : PlateFault) → NumberFault bounds bytes f → NumberFault bounds bytes g → f ≡ g
  unfolding fault_ends
  one_number bytes (SideRange a) (SideRange b) d e = ap (λ (n : ℕ). SideRange n) ((one_end bytes (fault_ends bounds bytes (SideRange a) d) (fault_ends bounds bytes (SideRange b) e)).0)
  one_number bytes (SideRange a) (TooManySamples b) d e =
      let same = one_end bytes (fault_ends bounds bytes (SideRange a) d) (fault_ends bounds bytes (TooManySamples b) e) in
      absurd (d.4 (subst (IsSideWithin bounds) (sym same.1) e.4))
  one_number bytes (SideRange a) (MaxvalRange b) d e =
      let same = one_end bytes (fault_ends bounds bytes (SideRange a) d) (fault_ends bounds bytes (MaxvalRange b) e) in
      absurd (omega (arith, d.3, ap length same.2))
  one_number bytes (TooManySamples a) (SideRange b) d e =
      let same = one_end bytes (fault_ends bounds bytes (TooManySamples a) d) (fault_ends bounds bytes (SideRange b) e) in
      absurd (e.4 (subst (IsSideWithin bounds) same.1 d.4))
  one_number bytes (TooManySamples a) (TooManySamples b) d e = ap (λ (n : ℕ). TooManySamples n) ((one_end bytes (fault_ends bounds bytes (TooManySamples a) d) (fault_ends bounds bytes (TooManySamples b) e)).0)
  one_number bytes (TooManySamples a) (MaxvalRange b) d e =
      let same = one_end bytes (fault_ends bounds bytes (TooManySamples a) d) (fault_ends bounds bytes (MaxvalRange b) e) in
      absurd (omega (arith, ap length same.2))
  one_number bytes (MaxvalRange a) (SideRange b) d e =
      let same = one_end bytes (fault_ends bounds bytes (MaxvalRange a) d) (fault_ends bounds bytes (SideRange b) e) in
      absurd (omega (arith, e.3, ap length same.2))
  one_number bytes (MaxvalRange a) (TooManySamples b) d e =
      let same = one_end bytes (fault_ends bounds bytes (MaxvalRange a) d) (fault_ends bounds bytes (TooManySamples b) e) in
      absurd (omega (arith, ap length same.2))
  one_number bytes (MaxvalRange a) (MaxvalRange b) d e = ap (λ (n : ℕ). MaxvalRange n) ((one_end bytes (fault_ends bounds bytes (MaxvalRange a) d) (fault_ends bounds bytes (MaxvalRange b) e)).0)
  one_number bytes (BadMagic a) g d e = absurd d
  one_number bytes (BadHeader a) g d e = absurd d
  one_number bytes (SampleAboveMaxval a) g d e = absurd d
  one_number bytes (Truncated a) g d e = absurd d
  one_number bytes (TrailingBytes a) g d e = absurd d
  one_number bytes f g d e = absurd e

  one_error : (bytes : List ℕ) (f g : PlateFault) → Error bytes f → Error bytes g → f ≡ g
  one_error bytes f g (breaks a d p) (breaks b e q) = p ∙ header_fault_at a b (omega (arith, breaks_place bytes a d, breaks_place bytes b e)) ∙ sym q
  one_error bytes f g (breaks a d p) (long e q) = absurd (d.broken e.begun)
  one_error bytes f g (breaks a d p) (number e) = absurd (d.broken (number_begun bytes g e))
  one_error bytes f g (breaks a d p) (above b e q) = absurd (breaks_beyond bytes a d (above_beyond bytes b e))
  one_error bytes f g (breaks a d p) (suffix b e q) = absurd (breaks_beyond bytes a d (after_beyond bytes b e))
  one_error bytes f g (long d p) (breaks b e q) = absurd (e.broken d.begun)
  one_error bytes f g (long d p) (long e q) = p ∙ sym q
  one_error bytes f g (long d p) (number e) = absurd (d.no_number g e)
  one_error bytes f g (long d p) (above b e q) = absurd (long_beyond bytes d (above_beyond bytes b e))
  one_error bytes f g (long d p) (suffix b e q) = absurd (long_beyond bytes d (after_beyond bytes b e))
  one_error bytes f g (number d) (breaks b e q) = absurd (e.broken (number_begun bytes f d))
  one_error bytes f g (number d) (long e q) = absurd (e.no_number f d)
  one_error bytes f g (number d) (number e) = one_number bytes f g d e
  one_error bytes f g (number d) (above b e q) = absurd (begun_beyond bytes (number_begun bytes f d) (above_beyond bytes b e))
  one_error bytes f g (number d) (suffix b e q) = absurd (begun_beyond bytes (number_begun bytes f d) (after_beyond bytes b e))
  one_error bytes f g (above a d p) (breaks b e q) = absurd (breaks_beyond bytes b e (above_beyond bytes a d))
  one_error bytes f g (above a d p) (long e q) = absurd (long_beyond bytes e (above_beyond bytes a d))
  one_error bytes f g (above a d p) (number e) = absurd (begun_beyond bytes (number_begun bytes g e) (above_beyond bytes a d))
  one_error bytes f g (above a d p) (above b e q) = p ∙ ap (λ (n : ℕ). SampleAboveMaxval n) (one_above bytes a b d e) ∙ sym q
  one_error bytes f g (above a d p) (suffix b e q) = absurd (above_after bytes a b d e)
  one_error bytes f g (suffix a d p) (breaks b e q) = absurd (breaks_beyond bytes b e (after_beyond bytes a d))
  one_error bytes f g (suffix a d p) (long e q) = absurd (long_beyond bytes e (after_beyond bytes a d))
  one_error bytes f g (suffix a d p) (number e) = absurd (begun_beyond bytes (number_begun bytes g e) (after_beyond bytes a d))
  one_error bytes f g (suffix a d p) (above b e q) = absurd (above_after bytes b a e d)
  one_error bytes f g (suffix a d p) (suffix b e q) = p ∙ ap (λ (n : ℕ). TrailingBytes n) (let same : a ≡ b = omega (arith, after_place bytes a d, after_place bytes b e) in same) ∙ sym q

  pub one_decided_within : (bytes : List ℕ) (f g : PlateFault) → DecidesWithin bounds bytes f → DecidesWithin bounds bytes g → f ≡ g
  one_decided_within bytes f g d e = one_error bytes f g (reason bytes f d) (reason bytes g e)

-- The same of a page's plates.
pub one_decided : (bytes : List ℕ) (f g : PlateFault) → DecidesWithin Page bytes f → DecidesWithin Page bytes g → f ≡ g
one_decided = one_decided_within Page
