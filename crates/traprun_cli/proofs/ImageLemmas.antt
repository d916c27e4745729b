-- An image of a page, and what stands after the last page, as a file's bytes say.
use Rattle.std.proofs.Common.{◌≡◌, ℕ, List, [], ◌++◌, length, Option, Some, None, Result, Ok, Err, IsTrue, inl, inr, refl, sym, ap, ◌∙◌, subst, arith}
use Rattle.std.proofs.lemmas.List.{append_assoc, append-nil}
use Rattle.outside.specs.Tray.{TrayState, KeepsTray}
use Rattle.page_model.specs.declared.parts.Plane.{Plane}
use Rattle.page_files.specs.Inputs.{Holds}
use Rattle.page_files.specs.Looks.{HoldsOne, LooksAt, Refuses}
use Rattle.page_files.specs.Steps.{IsPlaneOfPage}
use Rattle.page_files.proofs.PlateLemmas.{kept_count}
use Rattle.pgm_plates.specs.declared.plate.Plate.{Plate as PlateRead}
use Rattle.pgm_plates.specs.declared.plate.PlateFault.{PlateFault}
use Rattle.pgm_plates.specs.declared.plate.PlateError.{PlateError}
use Rattle.pgm_plates.specs.declared.plate.PlateError.TheVariants.{Fault, ReadFault}
use Rattle.pgm_plates.specs.Planes.{plate_of}
use Rattle.pgm_plates.specs.Sequences.{AreFewOfPage, IsSequence, ReadsPage, StandsAfter}
use Rattle.pgm_plates.proofs.Facts.{cut_or_not, fault_stays}
use Rattle.traprun_cli.specs.InHand.{MayHold, TakesImage}
use Rattle.traprun_cli.specs.Reading.{ExpectsEnd, IsUnbroken, ends_sought, images_sought}
use Rattle.traprun_cli.specs.declared.error.TraprunError.{TraprunError}
use Rattle.traprun_cli.specs.declared.error.TraprunError.TheVariants.{Whole, AtPage, Ends, Extra}
use Rattle.traprun_cli.specs.Images.{HasImage, HasImageFault, HasNoImage}
use Rattle.common_errors.specs.declared.common.CommonError.TheVariants.{Plate, Read}

-- what stands after plate files, where more is left of the file
abbrev longer : (bytes image left : List ℕ) (k : ℕ) → StandsAfter bytes k image → StandsAfter (bytes ++ left) k (image ++ left)
longer bytes image left k s = record {
  prefix = s.prefix;
  plates = s.plates;
  sequence = s.sequence;
  few = s.few;
  whole = ap (λ (z : List ℕ). z ++ left) s.whole ∙ append_assoc s.prefix image left;
}

all_taken : (file : Option (List ℕ)) (bytes left : List ℕ) → file ≡ Some (bytes ++ left) → left ≡ [] → file ≡ Some bytes
all_taken file bytes left is none = is ∙ ap (λ (x : List ℕ). Some (bytes ++ x)) none ∙ ap (λ (x : List ℕ). Some x) (append-nil bytes)

module _ (name : List ℕ) (k : ℕ) (a b : TrayState) where
  pub has_image : (plate : PlateRead) → ReadsPage name k a b (Ok (Some plate)) → IsTrue a.tells → Holds a.file name (λ bytes. HasImage k bytes plate)
  has_image plate reads tells = (
    reads.bytes ++ b.left,
    reads.taken reads.answer.0 tells,
    record {
      image = reads.answer.1;
      later = b.left;
      prefix = longer reads.bytes reads.answer.1 b.left k reads.answer.2;
      counted = reads.answer.3;
      is_image = reads.answer.4;
    },
  )

  pub has_none : ReadsPage name k a b (Ok None) → IsTrue a.tells → Holds a.file name (HasNoImage k)
  has_none reads tells =
      let s = reads.answer.1 in
      let prefix : s.prefix ≡ reads.bytes = sym (s.whole ∙ append-nil s.prefix) in (
        reads.bytes,
        all_taken (a.file name) reads.bytes b.left (reads.taken reads.answer.0 tells) (reads.answer.2 tells),
        (s.plates, subst (λ (x : List ℕ). IsSequence x s.plates) prefix s.sequence, s.few),
      )

  pub has_fault : (fault : PlateFault) → ReadsPage name k a b (Err (Fault fault)) → IsTrue a.tells → Holds a.file name (λ bytes. HasImageFault k bytes fault)
  has_fault fault reads tells =
      let answer = reads.answer in
      elim (cut_or_not answer.3) [
        | inl cut ↦ (
          reads.bytes,
          all_taken (a.file name) reads.bytes b.left (reads.taken answer.0 tells) (answer.7 cut tells),
          record { image = answer.1; prefix = answer.2; found = answer.3; is_fault = answer.4; of_image = answer.5; place = answer.6 },
        )
        | inr whole ↦ (
          reads.bytes ++ b.left,
          reads.taken answer.0 tells,
          record {
            image = answer.1 ++ b.left;
            prefix = longer reads.bytes answer.1 b.left k answer.2;
            found = answer.3;
            is_fault = fault_stays answer.1 b.left answer.3 whole answer.4;
            of_image = answer.5;
            place = answer.6;
          },
        )
      ]

  pub unbroken : ReadsPage name k a b (Err ReadFault) → IsUnbroken k name a b
  unbroken reads begun tells = (reads.bytes, reads.taken begun tells, (reads.answer.1, reads.answer.2, reads.answer.3))

-- what was taken of the file
takes_image : (name : List ℕ) (k : ℕ) (a b : TrayState) (result : Result (Option PlateRead) PlateError) → ReadsPage name k a b result → TakesImage k name a b
takes_image name k a b result reads = record { bytes = reads.bytes; taken = reads.taken; few = reads.few }

module _ (k plate : ℕ) (name : List ℕ) (a b : TrayState) where
  pub image_read : (plane : Plane) → IsPlaneOfPage plane → ReadsPage name k a b (Ok (Some (plate_of plane))) → LooksAt (images_sought k) plate name a b (Ok plane)
  image_read plane fine reads = record { keeps = reads.keeps; asked = reads.asked; takes = takes_image name k a b _ reads; answer = (fine, reads.count, has_image name k a b (plate_of plane) reads) }

  pub image_ends : ReadsPage name k a b (Ok None) → LooksAt (images_sought k) plate name a b (Err (Ends k plate))
  image_ends reads = record { keeps = reads.keeps; asked = reads.asked; takes = takes_image name k a b _ reads; answer = Refuses.refused None refl (λ open_. reads.count) (has_none name k a b reads) }

  pub image_fails : (fault : PlateFault) → ReadsPage name k a b (Err (Fault fault)) → LooksAt (images_sought k) plate name a b (Err (AtPage k (Plate plate fault)))
  image_fails fault reads = record { keeps = reads.keeps; asked = reads.asked; takes = takes_image name k a b _ reads; answer = Refuses.refused (Some fault) refl (kept_count (Option PlateRead) a b fault reads.count) (has_fault name k a b fault reads) }

  pub image_unread : ReadsPage name k a b (Err ReadFault) → LooksAt (images_sought k) plate name a b (Err (AtPage k (Read (Some plate))))
  image_unread reads = record { keeps = reads.keeps; asked = reads.asked; takes = takes_image name k a b _ reads; answer = Refuses.unread refl reads.answer.0 (unbroken name k a b reads) }

  pub end_extra : (image : PlateRead) → ReadsPage name k a b (Ok (Some image)) → LooksAt (ends_sought k) plate name a b (Err (Extra plate))
  end_extra image reads = record {
    keeps = reads.keeps;
    asked = reads.asked;
    takes = takes_image name k a b _ reads;
    answer = Refuses.refused None refl (λ open_. reads.count) (λ tells. let there = has_image name k a b image reads tells in (there.0, there.1, (image, there.2)));
  }

  pub end_fails : (fault : PlateFault) → ReadsPage name k a b (Err (Fault fault)) → LooksAt (ends_sought k) plate name a b (Err (Whole (Plate plate fault)))
  end_fails fault reads = record { keeps = reads.keeps; asked = reads.asked; takes = takes_image name k a b _ reads; answer = Refuses.refused (Some fault) refl (kept_count (Option PlateRead) a b fault reads.count) (has_fault name k a b fault reads) }

  pub end_unread : ReadsPage name k a b (Err ReadFault) → LooksAt (ends_sought k) plate name a b (Err (Whole (Read (Some plate))))
  end_unread reads = record { keeps = reads.keeps; asked = reads.asked; takes = takes_image name k a b _ reads; answer = Refuses.unread refl reads.answer.0 (unbroken name k a b reads) }

-- what may be in hand where images of a page were sought
pub may_hold : (page : ℕ) (names : List (List ℕ)) (count : ℕ) (a b : TrayState) → HoldsOne (AreFewOfPage page) names count a b → MayHold names page a b
may_hold page names count a b (inl none) = inl none.1
may_hold page names count a b (inr there) = inr (record { plate = there.0; known = there.1; page = page; within = omega arith; takes = there.2 })

-- a look after the last page keeps the tray
pub ends_keep : (pages : ℕ) (names : List (List ℕ)) (a b : TrayState) (result : Result (Unit {0}) TraprunError) → ExpectsEnd pages names a b result → KeepsTray a b × MayHold names pages a b
ends_keep pages names a b (Ok nothing) looks = (looks.1.keeps, may_hold pages names (length names) a b looks.1.in_hand)
ends_keep pages names a b (Err error) looks = (looks.keeps, may_hold pages names (length names) a b looks.in_hand)
