-- Image k of a plate's file: bytes have one such plate, or one fault, or no such image.
use Rattle.std.proofs.Common.{◌≡◌, ℕ, ◌≤◌, List, [], ◌++◌, length, inl, inr, refl, sym, ap, ◌∙◌, subst, arith}
use Rattle.std.proofs.lemmas.Bool.{cases_lt}
use Rattle.std.proofs.lemmas.List.{append-nil}
use Rattle.pgm_plates.specs.declared.plate.Plate.{Plate}
use Rattle.pgm_plates.specs.declared.plate.PlateFault.{PlateFault}
use Rattle.pgm_plates.specs.Faults.{IsFault}
use Rattle.pgm_plates.specs.Plates.{IsPlateFile}
use Rattle.pgm_plates.specs.Sequences.{StandsAfter, further as further_on}
use Rattle.pgm_plates.proofs.Facts.{one_fault, one_plate}
use Rattle.traprun_cli.specs.Images.{HasImage, HasImageFault, HasNoImage, page_decoder}
use Rattle.traprun_cli.proofs.PrefixLemmas.{Begins, Further, begins_faultless, further, none_or_some, nothing_begins, nothing_faultless}
use Rattle.pgm_plates.proofs.OneSequence.{one_image}
use Rattle.page_files.proofs.VerdictLemmas.{PlateLaws}

-- what stands after the shorter row, seen from the longer one
after_prefixes : (bytes x y : List ℕ) (m n : ℕ) (s : StandsAfter bytes m x) (t : StandsAfter bytes n y) → length s.plates ≤ length t.plates → Further s.prefix t.prefix x y s.plates t.plates
after_prefixes bytes x y m n s t le = further s.prefix t.prefix x y s.plates t.plates (sym s.whole ∙ t.whole) s.sequence t.sequence le

-- an image begins with a plate file, and so does what stands before it
image_begins : (k : ℕ) (bytes : List ℕ) (p : Plate) (x : List ℕ) (m : ℕ) (s : StandsAfter bytes m x) → length s.plates ≤ k → HasImage k bytes p → Begins x
image_begins k bytes p x m s le im =
    let r = after_prefixes bytes x (im.image ++ im.later) m k s im.prefix (omega (arith, im.counted)) in
    elim (none_or_some r.mid r.rest (im.image ++ im.later) r.sequence) [
      | inl none ↦ record { file = im.image; plate = p; later = im.later; whole = r.suffix ∙ ap (λ (z : List ℕ). z ++ (im.image ++ im.later)) none.0; is_file = im.is_image }
      | inr some ↦ subst Begins (sym r.suffix) some.0
    ]

pub image_or_fault : (k : ℕ) (bytes : List ℕ) (p : Plate) (f : PlateFault) → HasImage k bytes p → HasImageFault k bytes f → ⊥
image_or_fault k bytes p f im broken = begins_faultless broken.image broken.found (image_begins k bytes p broken.image k broken.prefix broken.prefix.few im) broken.is_fault broken.of_image

-- a whole file as a row of plate files
abbrev whole_row : (k : ℕ) (bytes : List ℕ) → (none : HasNoImage k bytes) → StandsAfter bytes k []
whole_row k bytes none = record { prefix = bytes; plates = none.0; sequence = none.1; few = none.2; whole = sym (append-nil bytes) }

pub image_or_end : (k : ℕ) (bytes : List ℕ) (p : Plate) → HasImage k bytes p → HasNoImage k bytes → ⊥
image_or_end k bytes p im none = nothing_begins [] refl (image_begins k bytes p [] k (whole_row k bytes none) none.2 im)

pub fault_or_end : (k : ℕ) (bytes : List ℕ) (f : PlateFault) → HasImageFault k bytes f → HasNoImage k bytes → ⊥
fault_or_end k bytes f broken none =
    let s = whole_row k bytes none in
    elim (cases_lt (length none.0) (length broken.prefix.plates)) [
      | inl less ↦
          let r = after_prefixes bytes [] broken.image k k s broken.prefix (omega arith) in
          elim (none_or_some r.mid r.rest broken.image r.sequence) [
            | inl empty ↦ omega (arith, r.counted, empty.1)
            | inr some ↦ nothing_begins (r.mid ++ broken.image) r.suffix some.0
          ]
      | inr le ↦
          let r = after_prefixes bytes broken.image [] k k broken.prefix s le in
          elim (none_or_some r.mid r.rest [] r.sequence) [
            | inl empty ↦ nothing_faultless broken.found (subst (λ (z : List ℕ). IsFault z broken.found) (r.suffix ∙ ap (λ (z : List ℕ). z ++ []) empty.0) broken.is_fault) broken.of_image
            | inr some ↦ begins_faultless broken.image broken.found (subst Begins (sym r.suffix) some.0) broken.is_fault broken.of_image
          ]
    ]

pub image_one : (k : ℕ) (bytes : List ℕ) (p q : Plate) → HasImage k bytes p → HasImage k bytes q → p ≡ q
image_one k bytes p q a b =
    let r = after_prefixes bytes (a.image ++ a.later) (b.image ++ b.later) k k a.prefix b.prefix (omega (arith, a.counted, b.counted)) in
    elim (none_or_some r.mid r.rest (b.image ++ b.later) r.sequence) [
      | inr some ↦ absurd (omega (arith, r.counted, a.counted, b.counted, some.1))
      | inl none ↦
          let same : a.image ++ a.later ≡ b.image ++ b.later = r.suffix ∙ ap (λ (z : List ℕ). z ++ (b.image ++ b.later)) none.0 in
          let image : a.image ≡ b.image = one_image a.image a.later b.image b.later p q same a.is_image b.is_image in
          one_plate b.image p q (subst (λ (z : List ℕ). IsPlateFile z p) image a.is_image) b.is_image
    ]

one_fault_le : (k : ℕ) (bytes : List ℕ) (f g : PlateFault) (a : HasImageFault k bytes f) (b : HasImageFault k bytes g) → length a.prefix.plates ≤ length b.prefix.plates → f ≡ g
one_fault_le k bytes f g a b le =
    let r = after_prefixes bytes a.image b.image k k a.prefix b.prefix le in
    elim (none_or_some r.mid r.rest b.image r.sequence) [
      | inr some ↦ absurd (begins_faultless a.image a.found (subst Begins (sym r.suffix) some.0) a.is_fault a.of_image)
      | inl none ↦
          let image : a.image ≡ b.image = r.suffix ∙ ap (λ (z : List ℕ). z ++ b.image) none.0 in
          let found : a.found ≡ b.found = one_fault b.image a.found b.found (subst (λ (z : List ℕ). IsFault z a.found) image a.is_fault) b.is_fault in
          let prefix : b.prefix.prefix ≡ a.prefix.prefix = r.longer ∙ ap (λ (z : List ℕ). a.prefix.prefix ++ z) none.0 ∙ append-nil a.prefix.prefix in
          a.place ∙ ap (λ (h : PlateFault). further_on (length a.prefix.prefix) h) found ∙ ap (λ (z : List ℕ). further_on (length z) b.found) (sym prefix) ∙ sym b.place
    ]

pub fault_one : (k : ℕ) (bytes : List ℕ) (f g : PlateFault) → HasImageFault k bytes f → HasImageFault k bytes g → f ≡ g
fault_one k bytes f g a b =
    elim (cases_lt (length b.prefix.plates) (length a.prefix.plates)) [
      | inl less ↦ sym (one_fault_le k bytes g f b a (omega arith))
      | inr le ↦ one_fault_le k bytes f g a b le
    ]

-- the images of one number keep the laws of a plate's file
pub page_laws : (k : ℕ) → PlateLaws (page_decoder k)
page_laws k = record { not_both = image_or_fault k; one_plate = image_one k; one_fault = fault_one k }
