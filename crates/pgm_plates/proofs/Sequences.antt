-- Plate files that are read one after the other.
use Rattle.std.proofs.Common.{◌≡◌, ◌≢◌, ℕ, zero, suc, ◌<◌, ◌≤◌, ◌+◌, ◌*◌, ◌^◌, true, false, List, [], ◌∷◌, ◌++◌, length, Option, Some, None, Result, Ok, Err, IsTrue, refl, sym, ap, ◌∙◌, subst, inl, inr, arith}
use Rattle.std.proofs.lemmas.List.{append_assoc, append-nil, length-append, length_push}
use Rattle.outside.specs.declared.tray.DeviceError.{DeviceError}
use Rattle.outside.specs.ErrorCases.{Asks}
use Rattle.outside.specs.Tray.{TrayState, KeepsTray, Begins}
use Rattle.outside.proofs.Steps.{kept_tray, takes_then, rose_before}
use Rattle.pgm_plates.specs.declared.bounds.Bounds.TheVariants.{Page}
use Rattle.pgm_plates.specs.declared.header.Header.{Header}
use Rattle.pgm_plates.specs.declared.plate.Plate.{Plate}
use Rattle.pgm_plates.specs.declared.plate.PlateFault.{PlateFault}
use Rattle.pgm_plates.specs.declared.plate.PlateFault.TheVariants.{BadMagic, BadHeader, SideRange, TooManySamples, MaxvalRange, SampleAboveMaxval, Truncated, TrailingBytes}
use Rattle.pgm_plates.specs.declared.plate.PlateError.{PlateError}
use Rattle.pgm_plates.specs.declared.plate.PlateError.TheVariants.{Fault, ReadFault, OutOfMemory}
use Rattle.pgm_plates.specs.declared.values.Values.{Values}
use Rattle.pgm_plates.specs.Plates.{IsPlateFile, raster, sample_size}
use Rattle.pgm_plates.specs.Images.{IsNear, IsNearError, ReadsImage, Passed, PageAnswers, further_error}
use Rattle.pgm_plates.specs.Reading.{AreFew, KeepsCount}
use Rattle.pgm_plates.specs.Readers.{Answers, HeaderRead, RasterTaken}
use Rattle.pgm_plates.specs.Sequences.{IsSequence, StandsAfter, IsOfImage, AnswersPage, ReadsPage, further}
use Rattle.pgm_plates.proofs.Headers.{takes_none, reported_on, scanned_none, fresh}
use Rattle.pgm_plates.proofs.Moments.{clean_none, clean_all, only_truncated}
use Rattle.pgm_plates.proofs.Scans.{quiet}
use Rattle.pgm_plates.proofs.Wholes.{few_after, file_of, no_shape, raster_within, kept_count}

-- one plate file more
sequence_push : (prefix : List ℕ) (plates : List Plate) (image : List ℕ) (plate : Plate) → IsSequence prefix plates → IsPlateFile image plate → IsSequence (prefix ++ image) (plates ++ plate ∷ [])
sequence_push prefix [] image plate none file = (image, [], ap (λ (x : List ℕ). x ++ image) none ∙ sym (append-nil image), file, refl)
sequence_push prefix (first ∷ plates) image plate some file = (some.0, some.1 ++ image, ap (λ (x : List ℕ). x ++ image) some.2 ∙ append_assoc some.0 some.1 image, some.3, sequence_push some.1 plates image plate some.4 file)

pub image_read : (a b c : TrayState) (header : Header) (start size : ℕ) (samples : List ℕ) → HeaderRead Page a b header start → RasterTaken header.maxval (header.width * header.height) b c samples → size ≡ start + header.width * header.height * sample_size header.maxval
    → ReadsImage a c (Ok (Some (record { width = header.width; height = header.height; maxval = header.maxval; samples = samples }, size)))
image_read a b c header start size samples read taken is =
    let back = raster header.maxval samples in
    let size_of : length back ≡ header.width * header.height * sample_size header.maxval = raster_within header.maxval (header.width * header.height) samples taken.all in (
      read.bytes ++ back,
      takes_then read.bytes back a b c read.takes taken.takes,
      file_of Page a b c header start samples read taken,
      length-append read.bytes back ∙ ap (λ (n : ℕ). n + length back) read.size ∙ ap (λ (n : ℕ). start + n) size_of ∙ sym is,
      few_after read.bytes back header.width header.height header.maxval read.is_header (omega (arith, read.size, read.short)) (omega (arith, size_of)),
    )

pub passed_none : (a : TrayState) → IsTrue a.begun → Passed a a 0 0
passed_none a begun = record { bytes = []; plates = []; takes = takes_none a begun; sequence = refl; counted = refl; sized = refl; well = refl; small = omega arith }

pub passed_more : (a b c : TrayState) (count start size : ℕ) (plate : Plate) → Passed a b count start → ReadsImage b c (Ok (Some (plate, size))) → c.faults ≡ b.faults → size < 2 ^ 30 → Passed a c (count + 1) (start + size)
passed_more a b c count start size plate passed image well small = record {
  bytes = passed.bytes ++ image.0;
  plates = passed.plates ++ plate ∷ [];
  takes = takes_then passed.bytes image.0 a b c passed.takes image.1;
  sequence = sequence_push passed.bytes passed.plates image.0 plate passed.sequence image.2;
  counted = length_push passed.plates plate ∙ ap (λ (n : ℕ). n + 1) passed.counted;
  sized = length-append passed.bytes image.0 ∙ ap (λ (n : ℕ). n + length image.0) passed.sized ∙ ap (λ (n : ℕ). start + n) image.3;
  well = well ∙ passed.well;
  small = omega (arith, passed.small, small);
}

-- the images that were passed, and what stands after them
abbrev suffix : (a b : TrayState) (page count start : ℕ) (passed : Passed a b count start) (image : List ℕ) → count ≤ page → StandsAfter (passed.bytes ++ image) page image
suffix a b page count start passed image le = record { prefix = passed.bytes; plates = passed.plates; sequence = passed.sequence; few = omega (arith, passed.counted); whole = refl }

pub page_found : (a b c : TrayState) (page count start size : ℕ) (plate : Plate) → count ≡ page → Passed a b count start → ReadsImage b c (Ok (Some (plate, size))) → PageAnswers page a c (Ok (Some plate))
page_found a b c page count start size plate same passed image = record {
  bytes = passed.bytes ++ image.0;
  takes = takes_then passed.bytes image.0 a b c passed.takes image.1;
  few = (image.0, suffix a b page count start passed image.0 (omega (arith, same)), image.4);
  answer = (image.1.begun, image.0, suffix a b page count start passed image.0 (omega (arith, same)), passed.counted ∙ same, image.2);
}

-- no bytes are few
few_none : AreFew []
few_none = inl (omega arith, no_shape)

abbrev refusing : PlateError → Result (Option (Values × ℕ)) PlateError
refusing error = Err error

some_place : (at : ℕ) → refusing (Fault (Truncated at)) ≢ refusing (Fault (Truncated 0)) → 0 < at
some_place zero not_none = absurd (not_none refl)
some_place (suc at) not_none = omega arith

of_image : (fault : PlateFault) → IsNear fault → refusing (Fault fault) ≢ refusing (Fault (Truncated 0)) → IsOfImage fault
of_image (BadMagic at) near some = tt
of_image (BadHeader at) near some = tt
of_image (SideRange at) near some = tt
of_image (TooManySamples at) near some = tt
of_image (MaxvalRange at) near some = tt
of_image (SampleAboveMaxval at) near some = tt
of_image (Truncated at) near some = some_place at some
of_image (TrailingBytes at) near some = absurd near

pub page_refused : (a b c : TrayState) (page count start : ℕ) (error : PlateError) → count ≤ page → Passed a b count start → Answers Page b c (Err error) → IsNearError error → refusing error ≢ refusing (Fault (Truncated 0))
    → PageAnswers page a c (Err (further_error start error))
page_refused a b c page count start (Fault fault) le passed answers near some = record {
  bytes = passed.bytes ++ answers.bytes;
  takes = takes_then passed.bytes answers.bytes a b c passed.takes answers.takes;
  few = (answers.bytes, suffix a b page count start passed answers.bytes le, answers.few);
  answer = (
    answers.takes.begun,
    answers.bytes,
    suffix a b page count start passed answers.bytes le,
    fault,
    answers.answer.1,
    of_image fault near some,
    ap (λ (n : ℕ). further n fault) (sym passed.sized),
    λ cut tells. answers.answer.2 cut (reported_on passed.bytes a b passed.takes tells),
  );
}
page_refused a b c page count start ReadFault le passed answers near some = record {
  bytes = passed.bytes ++ answers.bytes;
  takes = takes_then passed.bytes answers.bytes a b c passed.takes answers.takes;
  few = (answers.bytes, suffix a b page count start passed answers.bytes le, answers.few);
  answer = (
    rose_before a.faults b.faults c.faults passed.takes.keeps.faults answers.answer.0,
    answers.bytes,
    suffix a b page count start passed answers.bytes le,
    answers.answer.1,
  );
}
page_refused a b c page count start OutOfMemory le passed answers near some = record {
  bytes = passed.bytes ++ answers.bytes;
  takes = takes_then passed.bytes answers.bytes a b c passed.takes answers.takes;
  few = (answers.bytes, suffix a b page count start passed answers.bytes le, answers.few);
  answer = answers.takes.begun;
}

answers_from : (a b c : TrayState) (page : ℕ) (bytes : List ℕ) (result : Result (Option Plate) PlateError) → KeepsTray a b → AnswersPage page bytes b c result → AnswersPage page bytes a c result
answers_from a b c page bytes (Ok (Some plate)) keeps answer = answer
answers_from a b c page bytes (Ok None) keeps answer = (answer.0, answer.1, λ tells. answer.2 (keeps.tells ∙ tells))
answers_from a b c page bytes (Err (Fault fault)) keeps answer = (answer.0, answer.1, answer.2, answer.3, answer.4, answer.5, answer.6, λ cut tells. answer.7 cut (keeps.tells ∙ tells))
answers_from a b c page bytes (Err ReadFault) keeps answer = (rose_before a.faults b.faults c.faults keeps.faults answer.0, answer.1, answer.2, answer.3)
answers_from a b c page bytes (Err OutOfMemory) keeps answer = answer

pub page_begun : (name : List ℕ) (page : ℕ) (a b c : TrayState) (x : Unit {0}) (result : Result (Option Plate) PlateError) → Begins {E = DeviceError} name a b (Ok x) → PageAnswers page b c result → KeepsCount b c result → ReadsPage name page a c result
page_begun name page a b c x result begun answers count = record {
  keeps = kept_tray a b c begun.keeps answers.takes.keeps;
  asked = subst (λ o. Asks a.asked o (name ∷ [])) (sym answers.takes.asked) begun.asked;
  bytes = answers.bytes;
  taken = λ is tells. begun.left tells ∙ ap (λ (x : List ℕ). Some x) (answers.takes.taken (begun.keeps.tells ∙ tells));
  few = answers.few;
  answer = answers_from a b c page answers.bytes result begun.keeps answers.answer;
  count = kept_count a b c result begun.well count;
}

no_images : (page : ℕ) → StandsAfter [] page []
no_images page = record { prefix = []; plates = []; sequence = refl; few = omega arith; whole = refl }

pub page_not_begun : {E : Type 0} (name : List ℕ) (page : ℕ) (a b : TrayState) (e : E) → Begins {T = Unit {0}} name a b (Err e) → ReadsPage name page a b (Err ReadFault)
page_not_begun name page a b e begun = record {
  keeps = begun.keeps;
  asked = begun.asked;
  bytes = [];
  taken = λ is tells. absurd (let no : true ≡ false = sym is ∙ begun.begun in cc);
  few = ([], no_images page, few_none);
  answer = (
    begun.reason,
    [],
    no_images page,
    only_truncated Page [] (clean_all Page [] (clean_none Page) (quiet Page [] fresh scanned_none (inr (omega arith)))),
  );
  count = tt;
}
