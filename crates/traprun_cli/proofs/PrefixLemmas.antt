-- Plate files at the start of bytes, and what stands after them.
use Rattle.std.proofs.Common.{◌≡◌, ◌⊎◌, ℕ, ◌<◌, ◌≤◌, ◌+◌, List, [], ◌∷◌, ◌++◌, length, take, drop, inl, inr, refl, sym, ap, ◌∙◌, subst, arith}
use Rattle.std.proofs.Math.Seq.{take-append_seam, take-append-add}
use Rattle.std.proofs.lemmas.Bool.{cases_lt}
use Rattle.std.proofs.lemmas.List.{append-nil, append_assoc, append_cancel_left, length-append, take-append-drop, take-append-le}
use Rattle.pgm_plates.specs.declared.plate.Plate.{Plate}
use Rattle.pgm_plates.specs.declared.plate.PlateFault.{PlateFault}
use Rattle.pgm_plates.specs.declared.plate.PlateFault.TheVariants.{BadMagic, BadHeader, SideRange, TooManySamples, MaxvalRange, SampleAboveMaxval, Truncated, TrailingBytes}
use Rattle.pgm_plates.specs.Faults.{Decides, FaultAt, IsFault}
use Rattle.pgm_plates.specs.Plates.{IsPlate, IsPlateFile, raster, spelled}
use Rattle.pgm_plates.specs.Reading.{IsTruncated}
use Rattle.pgm_plates.specs.Sequences.{IsSequence, IsOfImage}
use Rattle.pgm_plates.proofs.ErrorCases.{one_decided}
use Rattle.pgm_plates.proofs.Facts.{cut_or_not, fault_stays, moment_of, no_prefix, not_both}
use Rattle.pgm_plates.proofs.Moments.{stands_now}
use Rattle.pgm_plates.proofs.OneSequence.{one_image, some_bytes}
use Rattle.pgm_plates.proofs.Spelling.{spelled_reads}

-- bytes that begin with a plate file
pub record Begins (bytes : List ℕ) : Type 0 where
  pub file : List ℕ
  pub plate : Plate
  pub later : List ℕ
  pub whole : bytes ≡ file ++ later
  pub is_file : IsPlateFile file plate

pub nothing_begins : (bytes : List ℕ) → [] ≡ bytes → Begins bytes → ⊥
nothing_begins bytes none begins = omega (arith, some_bytes begins.file begins.plate begins.is_file, ap length none, ap length begins.whole, length-append begins.file begins.later)

-- what stands after a plate file is its fault
after_file : (file : List ℕ) (b : ℕ) (bs : List ℕ) (plate : Plate) → IsPlateFile file plate → FaultAt (file ++ b ∷ bs) (length file + 1) (TrailingBytes (length file))
after_file file b bs plate is =
    let whole : take (length file + 1) (file ++ b ∷ bs) ≡ is.header ++ raster plate.maxval plate.samples ++ b ∷ [] =
    take-append-add file (b ∷ bs) 1 ∙ ap (λ (x : List ℕ). x ++ b ∷ []) is.whole in (
      omega (arith, length-append file (b ∷ bs)),
      record {
        header = is.header;
        width = plate.width;
        height = plate.height;
        maxval = plate.maxval;
        samples = plate.samples;
        last = b;
        is_header = is.is_header;
        all = is.plate_ok.count;
        whole = whole;
        place = sym (ap length is.whole);
      },
    )

-- a fault that stands within a plate file of longer bytes would be its own
within_file : (file more : List ℕ) (plate : Plate) (found : PlateFault) → IsPlateFile file plate → (is : IsFault (file ++ more) found) → is.moment ≤ length file → Decides (take is.moment (file ++ more)) found → ⊥
within_file file more plate found is_file is le d =
    not_both file plate found is_file (record {
      moment = is.moment;
      stands = stands_now file is.moment found le (subst (λ (x : List ℕ). Decides x found) (take-append-le is.moment file more le) d);
      first = λ k other stands. elim (moment_of file k other stands) [
        | inr end ↦ omega (arith, end.0)
        | inl e ↦ is.first k other (stands_now (file ++ more) k other (omega (arith, e.0, length-append file more)) (subst (λ (x : List ℕ). Decides x other) (sym (take-append-le k file more e.0)) e.1))
      ];
    })

-- bytes that begin with a plate file have no fault, but that something stands after it
no_other_fault : (file more : List ℕ) (plate : Plate) (found : PlateFault) → IsPlateFile file plate → IsFault (file ++ more) found → IsOfImage found → ⊥
no_other_fault file [] plate found is_file is of_image = not_both file plate found is_file (subst (λ (x : List ℕ). IsFault x found) (append-nil file) is)
no_other_fault file (b ∷ bs) plate found is_file is of_image =
    let at = after_file file b bs plate is_file in
    let le : is.moment ≤ length file + 1 = is.first (length file + 1) (TrailingBytes (length file)) at in
    elim (moment_of (file ++ b ∷ bs) is.moment found is.stands) [
      | inr end ↦ omega (arith, end.0, le, length-append file (b ∷ bs))
      | inl d ↦ elim (cases_lt is.moment (length file + 1)) [
        | inl before ↦ within_file file (b ∷ bs) plate found is_file is (omega arith) d.1
        | inr ge ↦
            let same : length file + 1 ≡ is.moment = omega arith in
            let trailing : found ≡ TrailingBytes (length file) = one_decided (take is.moment (file ++ b ∷ bs)) found (TrailingBytes (length file)) d.1 (subst (λ (m : ℕ). Decides (take m (file ++ b ∷ bs)) (TrailingBytes (length file))) same at.1) in
            subst IsOfImage trailing of_image
      ]
    ]

pub begins_faultless : (bytes : List ℕ) (found : PlateFault) → Begins bytes → IsFault bytes found → IsOfImage found → ⊥
begins_faultless bytes found begins is of_image = no_other_fault begins.file begins.later begins.plate found begins.is_file (subst (λ (x : List ℕ). IsFault x found) begins.whole is) of_image

cut_at_once : (found : PlateFault) → IsTruncated found → IsFault [] found → IsOfImage found → ⊥
cut_at_once (Truncated at) cut is some = let place = is.stands.place in omega arith
cut_at_once (BadMagic at) cut is some = cut
cut_at_once (BadHeader at) cut is some = cut
cut_at_once (SideRange at) cut is some = cut
cut_at_once (TooManySamples at) cut is some = cut
cut_at_once (MaxvalRange at) cut is some = cut
cut_at_once (SampleAboveMaxval at) cut is some = cut
cut_at_once (TrailingBytes at) cut is some = cut

-- a plate of one sample
one_sample : Plate
one_sample = record { width = 1; height = 1; maxval = 1; samples = 0 ∷ [] }

is_one_sample : IsPlate one_sample
unfolding one_sample
is_one_sample = record {
  width = (omega arith, omega arith);
  height = (omega arith, omega arith);
  product = omega arith;
  positive = omega arith;
  maxval = omega arith;
  count = refl;
  samples = λ k d within. let first : k ≡ 0 = omega arith in subst (λ (j : ℕ). Rattle.std.proofs.Common.get_or (0 ∷ []) j d ≤ 1) (sym first) (omega arith);
}

-- no bytes are no image, and have no fault
pub nothing_faultless : (found : PlateFault) → IsFault [] found → IsOfImage found → ⊥
nothing_faultless found is of_image =
    elim (cut_or_not found) [
      | inl cut ↦ cut_at_once found cut is of_image
      | inr whole ↦ not_both (spelled one_sample) one_sample found (spelled_reads one_sample is_one_sample) (fault_stays [] (spelled one_sample) found whole is)
    ]

-- Of two rows of plate files at the start of the same bytes, the one with no fewer is the other and some more.
pub record Further (f g x y : List ℕ) (ps qs : List Plate) : Type 0 where
  pub mid : List ℕ
  pub rest : List Plate
  pub sequence : IsSequence mid rest
  pub counted : length qs ≡ length ps + length rest
  pub suffix : x ≡ mid ++ y
  pub longer : g ≡ f ++ mid

pub further : (f g x y : List ℕ) (ps qs : List Plate) → f ++ x ≡ g ++ y → IsSequence f ps → IsSequence g qs → length ps ≤ length qs → Further f g x y ps qs
further f g x y [] qs same first second le = record {
  mid = g;
  rest = qs;
  sequence = second;
  counted = omega arith;
  suffix = ap (λ (z : List ℕ). z ++ x) (sym first) ∙ same;
  longer = ap (λ (z : List ℕ). z ++ g) (sym first);
}
further f g x y (p ∷ ps) [] same first second le = absurd (omega arith)
further f g x y (p ∷ ps) (q ∷ qs) same first second le =
    let i = first.0 in
    let l = first.1 in
    let j = second.0 in
    let m = second.1 in
    let apart : i ++ (l ++ x) ≡ j ++ (m ++ y) = sym (append_assoc i l x) ∙ ap (λ (z : List ℕ). z ++ x) (sym first.2) ∙ same ∙ ap (λ (z : List ℕ). z ++ y) second.2 ∙ append_assoc j m y in
    let image : i ≡ j = one_image i (l ++ x) j (m ++ y) p q apart first.3 second.3 in
    let later : l ++ x ≡ m ++ y = append_cancel_left i (l ++ x) (m ++ y) (apart ∙ ap (λ (z : List ℕ). z ++ (m ++ y)) (sym image)) in
    let rest = further l m x y ps qs later first.4 second.4 (omega arith) in
    record {
      mid = rest.mid;
      rest = rest.rest;
      sequence = rest.sequence;
      counted = omega (arith, rest.counted);
      suffix = rest.suffix;
      longer = second.2 ∙ ap (λ (z : List ℕ). z ++ m) (sym image) ∙ ap (λ (z : List ℕ). i ++ z) rest.longer ∙ sym (append_assoc i l rest.mid) ∙ ap (λ (z : List ℕ). z ++ rest.mid) (sym first.2);
    }

-- no plate file, or one at least
pub none_or_some : (mid : List ℕ) (rest : List Plate) (y : List ℕ) → IsSequence mid rest → ((mid ≡ []) × (length rest ≡ 0)) ⊎ (Begins (mid ++ y) × (0 < length rest))
none_or_some mid [] y is = inl (is, refl)
none_or_some mid (q ∷ qs) y is = inr (
  record { file = is.0; plate = q; later = is.1 ++ y; whole = ap (λ (z : List ℕ). z ++ y) is.2 ∙ append_assoc is.0 is.1 y; is_file = is.3 },
  omega arith,
)
