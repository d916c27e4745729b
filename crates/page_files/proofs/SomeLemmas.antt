-- Where all files are there, a verdict stands.
use Rattle.std.proofs.Common.{◌≡◌, ◌⊎◌, ℕ, zero, suc, ◌<◌, ◌≤◌, ◌+◌, All, List, [], ◌∷◌, ◌++◌, length, Option, Some, Result, Ok, Err, inl, inr, refl, subst, arith}
use Rattle.job_reader.specs.declared.job.Job.{Job as JobRead}
use Rattle.ps_tokens.specs.declared.faults.JobFault.{JobFault}
use Rattle.page_model.specs.declared.parts.PageParts.{PageParts}
use Rattle.pgm_plates.specs.declared.plate.Plate.{Plate as PlateRead}
use Rattle.pgm_plates.specs.declared.plate.PlateFault.{PlateFault}
use Rattle.page_files.specs.Assembly.{assembly, assembled, without_details}
use Rattle.page_files.specs.Inputs.{Sources, Decoder, Holds, AreRead, PlateFails, Makes, name_at, no_plate}
use Rattle.page_files.proofs.GatherLemmas.{NoneOther, none_other}
use Rattle.page_files.proofs.LookLemmas.{found_more}
use Rattle.common_errors.specs.declared.common.CommonError.{CommonError}
use Rattle.common_errors.specs.declared.common.CommonError.TheVariants.{Usage, Job, NoDetails, Plate, Page, Read, Write, Memory}
use Rattle.page_files.specs.Verdicts.{Verdict, Targets, IsVerdict, IsFile, SomeVerdict, outcome}
use Rattle.page_files.specs.Verdicts.Verdict.{Refused, Out}

module _ (decoder : Decoder) (plate_or_fault : (bytes : List ℕ) → All (λ b. b < 256) bytes → ((plate : PlateRead) × decoder.plate bytes plate) ⊎ ((fault : PlateFault) × decoder.fault bytes fault)) (files : List ℕ → Option (List ℕ)) (source : Sources) (target : Targets) (plates_there : (k : ℕ) → k < length source.inputs → IsFile files (name_at source.inputs k)) where
  abbrev Stands : Type 0
  Stands = (verdict : Verdict) × IsVerdict decoder files source target verdict

  -- The first plates are read, or one of them is the first with a fault.
  abbrev ReadTo : JobRead → ℕ → Type 0
  ReadTo job n = ((plates : List PlateRead) × AreRead decoder files source.inputs n plates) ⊎ ((k : ℕ) × (fault : PlateFault) × PlateFails decoder files source k fault)

  module _ (job : JobRead) (job_read : Holds files source.job (λ bytes. decoder.job bytes ≡ Ok job)) where
    one_more : (n : ℕ) → n < length source.inputs → ((plates : List PlateRead) × AreRead decoder files source.inputs n plates) → ReadTo job (n + 1)
    one_more n within read =
        let there = plates_there n within in
        elim (plate_or_fault there.0 there.2) [
          | inl plate ↦ inl (read.0 ++ plate.0 ∷ [], found_more decoder.plate no_plate files source.inputs n read.0 plate.0 read.1 (there.0, there.1, plate.1))
          | inr fault ↦ inr (n, fault.0, record { job = job; plates = read.0; job_read = job_read; before = read.1; known = within; broken = (there.0, there.1, fault.1) })
        ]

    read_to : (n : ℕ) → n ≤ length source.inputs → ReadTo job n
    read_to zero within = inl ([], record { all = refl; each = λ k less. absurd (omega arith) })
    read_to (suc n) within = elim (read_to n (omega arith)) [
      | inl read ↦ subst (λ (m : ℕ). ReadTo job m) (omega arith) (one_more n (omega arith) read)
      | inr broken ↦ inr broken
    ]

    refused : (error : CommonError) → NoneOther (Err error) → Makes decoder files source (Err error) → Stands
    refused (NoDetails plate) other makes = (Refused (NoDetails plate), makes)
    refused (Page fault) other makes = (Refused (Page fault), makes)
    refused Memory other makes = absurd other
    refused Usage other makes = absurd other
    refused (Job fault) other makes = absurd other
    refused (Plate plate fault) other makes = absurd other
    refused (Read file) other makes = absurd other
    refused (Write file) other makes = absurd other

    made : (plates : List PlateRead) → AreRead decoder files source.inputs (length source.inputs) plates → (result : Result PageParts CommonError) → assembly job plates source.names ≡ result → Stands
    made plates read (Ok page) is = (Out (outcome target page), (page, (job, plates, record { job_read = job_read; plates_read = read }, is), refl))
    made plates read (Err error) is = refused error (none_other (without_details job source.names) (assembled job plates source.names) error is) (job, plates, record { job_read = job_read; plates_read = read }, is)

    with_job : Stands
    with_job = elim (read_to (length source.inputs) (omega arith)) [
      | inl read ↦ made read.0 read.1 (assembly job read.0 source.names) refl
      | inr broken ↦ (Refused (Plate broken.0 broken.1), broken.2)
    ]

  by_job : (bytes : List ℕ) → files source.job ≡ Some bytes → (result : Result JobRead JobFault) → decoder.job bytes ≡ result → Stands
  by_job bytes found (Ok job) is = with_job job (bytes, found, is)
  by_job bytes found (Err fault) is = (Refused (Job fault), (bytes, found, is))

-- Where the job and all plates are among the files, a verdict stands.
pub some_verdict : (decoder : Decoder) → ((bytes : List ℕ) → All (λ b. b < 256) bytes → ((plate : PlateRead) × decoder.plate bytes plate) ⊎ ((fault : PlateFault) × decoder.fault bytes fault)) → SomeVerdict decoder
some_verdict decoder plate_or_fault files source target job_there plates_there =
    by_job decoder plate_or_fault files source target plates_there job_there.0 job_there.1 (decoder.job job_there.0) refl
