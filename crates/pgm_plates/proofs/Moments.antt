-- Moments of faults.
use Rattle.std.proofs.Common.{◌≡◌, ℕ, ◌≤◌, ◌+◌, List, [], ◌∷◌, ◌++◌, length, take, refl, sym, ◌∙◌, subst, inl, inr, arith}
use Rattle.std.proofs.lemmas.Bool.{cases_lt}
use Rattle.std.proofs.lemmas.List.{take-append-le, take_all, length_push, length-append}
use Rattle.std.proofs.Math.Seq.{take-length}
use Rattle.pgm_plates.specs.declared.bounds.Bounds.{Bounds}
use Rattle.pgm_plates.specs.declared.bounds.Bounds.TheVariants.{Page}
use Rattle.pgm_plates.specs.declared.plate.Plate.{Plate}
use Rattle.pgm_plates.specs.declared.plate.PlateFault.{PlateFault}
use Rattle.pgm_plates.specs.declared.plate.PlateFault.TheVariants.{BadMagic, BadHeader, SideRange, TooManySamples, MaxvalRange, SampleAboveMaxval, Truncated, TrailingBytes}
use Rattle.pgm_plates.specs.Plates.{IsPlateFileWithin}
use Rattle.pgm_plates.specs.Faults.{DecidesWithin, FaultAtWithin, IsFaultWithin}
use Rattle.pgm_plates.specs.Reading.{IsTruncated}
use Rattle.pgm_plates.specs.Scanning.{IsClean}

module _ (bounds : Bounds) where
  pub clean_none : IsClean bounds [] 0
  clean_none m fault less d = absurd (omega arith)

  -- One byte more leaves the earlier moments as they were.
  pub clean_more : (bytes more : List ℕ) (end : ℕ) → end ≤ length bytes + 1 → IsClean bounds bytes end → IsClean bounds (bytes ++ more) end
  clean_more bytes more end le clean m fault less d =
      clean m fault less (subst (λ (x : List ℕ). DecidesWithin bounds x fault) (take-append-le m bytes more (omega arith)) d)

  -- where the last moment decides nothing either
  pub clean_all : (bytes : List ℕ) → IsClean bounds bytes (length bytes) → ((fault : PlateFault) → DecidesWithin bounds bytes fault → ⊥) → IsClean bounds bytes (length bytes + 1)
  clean_all bytes clean last m fault less d =
      elim (cases_lt m (length bytes)) [
        | inl before ↦ clean m fault before d
        | inr at ↦ last fault (subst (λ (x : List ℕ). DecidesWithin bounds x fault) (take_all m bytes at) d)
      ]

  pub clean_push : (bytes : List ℕ) (b : ℕ) → IsClean bounds bytes (length bytes + 1) → IsClean bounds (bytes ++ b ∷ []) (length (bytes ++ b ∷ []))
  clean_push bytes b clean m fault less d =
      clean_more bytes (b ∷ []) (length bytes + 1) (omega arith) clean m fault (omega (arith, length_push bytes b)) d

  -- no fault at an early moment
  pub late : (bytes : List ℕ) (end : ℕ) → end ≤ length bytes + 1 → IsClean bounds bytes end → (m : ℕ) (other : PlateFault) → FaultAtWithin bounds bytes m other → end ≤ m
  late bytes end le clean m (Truncated at) stands = omega (arith, stands.late)
  late bytes end le clean m (BadMagic at) stands = elim (cases_lt m end) [ inl less ↦ absurd (clean m (BadMagic at) less stands.1) | inr ge ↦ ge ]
  late bytes end le clean m (BadHeader at) stands = elim (cases_lt m end) [ inl less ↦ absurd (clean m (BadHeader at) less stands.1) | inr ge ↦ ge ]
  late bytes end le clean m (SideRange at) stands = elim (cases_lt m end) [ inl less ↦ absurd (clean m (SideRange at) less stands.1) | inr ge ↦ ge ]
  late bytes end le clean m (TooManySamples at) stands = elim (cases_lt m end) [ inl less ↦ absurd (clean m (TooManySamples at) less stands.1) | inr ge ↦ ge ]
  late bytes end le clean m (MaxvalRange at) stands = elim (cases_lt m end) [ inl less ↦ absurd (clean m (MaxvalRange at) less stands.1) | inr ge ↦ ge ]
  late bytes end le clean m (SampleAboveMaxval at) stands = elim (cases_lt m end) [ inl less ↦ absurd (clean m (SampleAboveMaxval at) less stands.1) | inr ge ↦ ge ]
  late bytes end le clean m (TrailingBytes at) stands = elim (cases_lt m end) [ inl less ↦ absurd (clean m (TrailingBytes at) less stands.1) | inr ge ↦ ge ]

  pub stands_now_within : (bytes : List ℕ) (m : ℕ) (fault : PlateFault) → m ≤ length bytes → DecidesWithin bounds (take m bytes) fault → FaultAtWithin bounds bytes m fault
  stands_now_within bytes m (Truncated at) le d = absurd d
  stands_now_within bytes m (BadMagic at) le d = (le, d)
  stands_now_within bytes m (BadHeader at) le d = (le, d)
  stands_now_within bytes m (SideRange at) le d = (le, d)
  stands_now_within bytes m (TooManySamples at) le d = (le, d)
  stands_now_within bytes m (MaxvalRange at) le d = (le, d)
  stands_now_within bytes m (SampleAboveMaxval at) le d = (le, d)
  stands_now_within bytes m (TrailingBytes at) le d = (le, d)

  -- What these bytes decide first is their fault, whatever stands after them.
  pub decided : (bytes more : List ℕ) (fault : PlateFault) → IsClean bounds bytes (length bytes) → DecidesWithin bounds bytes fault → IsFaultWithin bounds (bytes ++ more) fault
  decided bytes more fault clean d =
      let all : take (length bytes) (bytes ++ more) ≡ bytes = take-append-le (length bytes) bytes more (omega arith) ∙ take-length bytes in
      record {
        moment = length bytes;
        stands = stands_now_within (bytes ++ more) (length bytes) fault (omega (arith, length-append bytes more)) (subst (λ (x : List ℕ). DecidesWithin bounds x fault) (sym all) d);
        first = late (bytes ++ more) (length bytes) (omega (arith, length-append bytes more)) (clean_more bytes more (length bytes) (omega arith) clean);
      }

  -- Bytes that decide nothing and are no plate file end early.
  pub truncated : (bytes : List ℕ) → IsClean bounds bytes (length bytes + 1) → ((plate : Plate) → IsPlateFileWithin bounds bytes plate → ⊥) → IsFaultWithin bounds bytes (Truncated (length bytes))
  truncated bytes clean none = record {
    moment = length bytes + 1;
    stands = record { place = refl; late = refl; no_plate = none };
    first = late bytes (length bytes + 1) (omega arith) clean;
  }

  late_no : (bytes : List ℕ) (m : ℕ) (fault : PlateFault) → IsClean bounds bytes (length bytes + 1) → FaultAtWithin bounds bytes m fault → IsTruncated fault
  late_no bytes m (Truncated at) clean stands = tt
  late_no bytes m (BadMagic at) clean stands = absurd (clean m (BadMagic at) (omega (arith, stands.0)) stands.1)
  late_no bytes m (BadHeader at) clean stands = absurd (clean m (BadHeader at) (omega (arith, stands.0)) stands.1)
  late_no bytes m (SideRange at) clean stands = absurd (clean m (SideRange at) (omega (arith, stands.0)) stands.1)
  late_no bytes m (TooManySamples at) clean stands = absurd (clean m (TooManySamples at) (omega (arith, stands.0)) stands.1)
  late_no bytes m (MaxvalRange at) clean stands = absurd (clean m (MaxvalRange at) (omega (arith, stands.0)) stands.1)
  late_no bytes m (SampleAboveMaxval at) clean stands = absurd (clean m (SampleAboveMaxval at) (omega (arith, stands.0)) stands.1)
  late_no bytes m (TrailingBytes at) clean stands = absurd (clean m (TrailingBytes at) (omega (arith, stands.0)) stands.1)

  -- Bytes that decide nothing have no fault but that they may end early.
  pub only_truncated : (bytes : List ℕ) → IsClean bounds bytes (length bytes + 1) → (fault : PlateFault) → IsFaultWithin bounds bytes fault → IsTruncated fault
  only_truncated bytes clean fault is = late_no bytes is.moment fault clean is.stands

-- The same of a page's plates.
pub stands_now : (bytes : List ℕ) (m : ℕ) (fault : PlateFault) → m ≤ length bytes → DecidesWithin Page (take m bytes) fault → FaultAtWithin Page bytes m fault
stands_now = stands_now_within Page
