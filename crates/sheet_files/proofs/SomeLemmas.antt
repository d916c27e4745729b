-- Where all files are there, a verdict on the sheet stands.
use Rattle.std.proofs.Common.{◌≡◌, ◌⊎◌, ℕ, zero, suc, ◌<◌, ◌≤◌, ◌+◌, All, List, [], ◌∷◌, ◌++◌, length, Option, Some, None, Result, Ok, Err, inl, inr, refl, subst, arith, sym, ap, ◌∙◌, length-append, below_more}
use Rattle.job_reader.specs.declared.job.Job.{Job as JobRead}
use Rattle.job_reader.specs.Jobs.{job_of}
use Rattle.ps_tokens.specs.declared.faults.JobFault.{JobFault}
use Rattle.page_files.specs.Assembly.{assembled, without_details}
use Rattle.pgm_plates.specs.declared.bounds.Bounds.TheVariants.{Sheet}
use Rattle.pgm_plates.specs.declared.plate.Plate.{Plate as PlateRead}
use Rattle.pgm_plates.specs.declared.plate.PlateFault.{PlateFault}
use Rattle.pgm_plates.specs.Laws.{PlateOrFaultWithin}
use Rattle.common_errors.specs.declared.common.CommonError.TheVariants.{Job, NoDetails, Plate}
use Rattle.sheet_geometry.specs.declared.sheet_errors.SheetError.{SheetError}
use Rattle.sheet_geometry.specs.CommonErrors.{sheet_error}
use Rattle.sheet_files.specs.Inputs.{AreSpelled, StoredBytes, PlateFails, Spells}
use Rattle.sheet_files.specs.Verdicts.{SheetVerdict, IsSheetVerdict, SomeSheetVerdict}
use Rattle.sheet_files.specs.Verdicts.SheetVerdict.{Accepted, Refused}
use Rattle.sheet_files.specs.declared.error.TrapsheetError.TheVariants.{Common, OfSheet}
use Rattle.std.specs.List.{All}
use Rattle.std.proofs.lemmas.List.{get_or_append_left}
use Rattle.std.proofs.Math.Seq.{get_or-append_seam}
use Rattle.page_files.specs.Inputs.{plate_at, no_plate}
use Rattle.sheet_files.specs.SheetFiles.{IsSheetFile}

-- one plate more is spelled
spelled_more : (stored : ℕ → Option (List ℕ)) (k : ℕ) (plates : List PlateRead) (plate : PlateRead) → AreSpelled stored k plates → Spells (stored k) (λ bytes. IsSheetFile bytes plate) → AreSpelled stored (k + 1) (plates ++ plate ∷ [])
spelled_more stored k plates plate before here = record {
  all = length-append plates (plate ∷ []) ∙ ap (λ (n : ℕ). n + 1) before.all;
  each = below_more (λ (j : ℕ). Spells (stored j) (λ bytes. IsSheetFile bytes (plate_at (plates ++ plate ∷ []) j))) k
      (λ j less.
      let lt : j < length plates = omega (arith, before.all) in
      subst (λ (p : PlateRead). Spells (stored j) (λ bytes. IsSheetFile bytes p)) (sym (get_or_append_left plates (plate ∷ []) no_plate j lt)) (before.each j less))
      (subst (λ (p : PlateRead). Spells (stored k) (λ bytes. IsSheetFile bytes p)) (sym (ap (λ (n : ℕ). plate_at (plates ++ plate ∷ []) n) (sym before.all) ∙ get_or-append_seam plates plate [] no_plate)) here);
}

module _ (plate_or_fault : PlateOrFaultWithin Sheet) (stored : StoredBytes) (names : List (List ℕ)) (plates_there : (k : ℕ) → k < length names → Spells (stored.plate k) (λ bytes. All (λ b. b < 256) bytes)) where
  abbrev Stands : Type 0
  Stands = (verdict : SheetVerdict) × IsSheetVerdict stored names verdict

  -- The first plates are read, or one of them is the first with a fault.
  abbrev ReadTo : ℕ → Type 0
  ReadTo n = ((plates : List PlateRead) × AreSpelled stored.plate n plates) ⊎ ((k : ℕ) × (fault : PlateFault) × PlateFails stored (length names) k fault)

  module _ (job : JobRead) (job_read : Spells stored.job (λ bytes. job_of bytes ≡ Ok job)) where
    one_more : (n : ℕ) → n < length names → ((plates : List PlateRead) × AreSpelled stored.plate n plates) → ReadTo (n + 1)
    one_more n within read =
        let there = plates_there n within in
        elim (plate_or_fault there.0 there.2) [
          | inl plate ↦ inl (read.0 ++ plate.0 ∷ [], spelled_more stored.plate n read.0 plate.0 read.1 (there.0, there.1, plate.1))
          | inr fault ↦ inr (n, fault.0, record { job = job; plates = read.0; job_read = job_read; before = read.1; known = within; broken = (there.0, there.1, fault.1) })
        ]

    read_to : (n : ℕ) → n ≤ length names → ReadTo n
    read_to zero within = inl ([], record { all = refl; each = λ k less. absurd (omega arith) })
    read_to (suc n) within = elim (read_to n (omega arith)) [
      | inl read ↦ subst (λ (m : ℕ). ReadTo m) (omega arith) (one_more n (omega arith) read)
      | inr broken ↦ inr broken
    ]

    by_fault : (plates : List PlateRead) → AreSpelled stored.plate (length names) plates → without_details job names ≡ None → (o : Option SheetError) → sheet_error (assembled job plates names) ≡ o → Stands
    by_fault plates read none None is = (Accepted (assembled job plates names), (job, plates, record { job_read = job_read; plates_read = read }, rw (none, is) refl))
    by_fault plates read none (Some common_error) is = (Refused (OfSheet common_error), (job, plates, record { job_read = job_read; plates_read = read }, rw (none, is) refl))

    by_details : (plates : List PlateRead) → AreSpelled stored.plate (length names) plates → (o : Option ℕ) → without_details job names ≡ o → Stands
    by_details plates read None is = by_fault plates read is (sheet_error (assembled job plates names)) refl
    by_details plates read (Some plate) is = (Refused (Common (NoDetails plate)), (job, plates, record { job_read = job_read; plates_read = read }, rw is refl))

    with_job : Stands
    with_job = elim (read_to (length names) (omega arith)) [
      | inl read ↦ by_details read.0 read.1 (without_details job names) refl
      | inr broken ↦ (Refused (Common (Plate broken.0 broken.1)), broken.2)
    ]

  by_job : (bytes : List ℕ) → stored.job ≡ Some bytes → (result : Result JobRead JobFault) → job_of bytes ≡ result → Stands
  by_job bytes found (Ok job) is = with_job job (bytes, found, is)
  by_job bytes found (Err fault) is = (Refused (Common (Job fault)), (bytes, found, is))

-- Where the job and all plates have files, a verdict stands.
pub some_verdict : PlateOrFaultWithin Sheet → SomeSheetVerdict
some_verdict plate_or_fault stored names job_there plates_there =
    by_job plate_or_fault stored names plates_there job_there.0 job_there.1 (job_of job_there.0) refl
