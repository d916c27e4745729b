-- The job by its first bytes: as many as it may have, and one.
use Rattle.std.proofs.Common.{◌≡◌, ℕ, ◌<◌, min, true, ltb, List, [], ◌∷◌, length, take, Result, Ok, Err, IfOk, IsTrue, inl, inr, refl, sym, ap, ◌∙◌, subst, arith}
use Rattle.std.proofs.lemmas.Bool.{cases_lt}
use Rattle.std.proofs.lemmas.Bool.Decides.{nat_tests}
use Rattle.std.proofs.lemmas.List.{take_all, length-take}
use Rattle.job_reader.specs.declared.job.Job.{Job}
use Rattle.job_reader.specs.Jobs.{job_of}
use Rattle.job_reader.specs.InRange.{IsJob}
use Rattle.outside.specs.ErrorCases.{Asks}
use Rattle.outside.specs.Tray.{TrayState, KeepsTray}
use Rattle.outside.specs.Reading.{TakesPrefix}
use Rattle.ps_tokens.specs.declared.faults.JobFault.{JobFault}
use Rattle.ps_tokens.specs.declared.faults.FaultKind.TheVariants.{JobTooLong}
use Rattle.ps_tokens.specs.declared.faults.JobError.{JobError as JobErrors}
use Rattle.ps_tokens.specs.declared.faults.JobError.TheVariants.{Fault, OutOfMemory}
use Rattle.ps_tokens.specs.Tokens.{Gives}
use Rattle.common_errors.specs.declared.common.CommonError.{CommonError}
use Rattle.page_files.specs.Inputs.{Holds}
use Rattle.page_files.specs.Steps.{ReadsJob, Judges, TakesJob, most_of_job}

-- a job that is too long has that fault alone
too_long : (bytes : List ℕ) → 1048576 < length bytes → job_of bytes ≡ Err (record { kind = JobTooLong; at = 1048576 })
unfolding job_of
too_long bytes long =
    let test : ltb 1048576 (length bytes) ≡ true = grind (arith, nat_tests) in
    rw test refl

-- of bytes among which long ones are all told alike, the first are enough: as many as are not long, and one
pub first_enough : {R : Type 0} (reported : List ℕ → R) (long : R) → ((bytes : List ℕ) → 1048576 < length bytes → reported bytes ≡ long) → (most : ℕ) → 1048576 < most → (bytes : List ℕ) → reported (take most bytes) ≡ reported bytes
first_enough reported long alike most enough bytes = elim (cases_lt 1048576 (length bytes)) [
  | inl here ↦ (
      let there : length (take most bytes) ≡ min most (length bytes) = length-take most bytes in
      alike (take most bytes) (omega arith) ∙ sym (alike bytes here)
      )
  | inr short ↦ ap reported (take_all most bytes (omega arith))
]

-- what is told of the first bytes of a file holds of the whole file
pub reported_of_file : {R : Type 0} (reported : List ℕ → R) (most : ℕ) → ((bytes : List ℕ) → reported (take most bytes) ≡ reported bytes) → (name : List ℕ) (a b : TrayState) (bytes : List ℕ) (r : R) → TakesPrefix name most a b bytes → reported bytes ≡ r → Holds a.file name (λ all. reported all ≡ r)
reported_of_file reported most enough name a b bytes r prefix is = (prefix.all, prefix.found, sym (enough prefix.all) ∙ ap reported (sym prefix.taken) ∙ is)

job_of_file : (name : List ℕ) (a b : TrayState) (bytes : List ℕ) (r : Result Job JobFault) → TakesPrefix name most_of_job a b bytes → job_of bytes ≡ r → Holds a.file name (λ all. job_of all ≡ r)
job_of_file name a b bytes r prefix is = reported_of_file job_of most_of_job (first_enough job_of _ too_long most_of_job (omega arith)) name a b bytes r prefix is

pub job_judged : (name : List ℕ) (a b : TrayState) (bytes : List ℕ) (read : Result Job JobErrors) (result : Result Job CommonError) → KeepsTray a b → Asks a.asked b.asked (name ∷ []) → (IsTrue a.tells → TakesPrefix name most_of_job a b bytes) → TakesJob name a b → b.faults ≡ a.faults → Gives read (job_of bytes) → IfOk read IsJob → Judges read result → ReadsJob name a b result
job_judged name a b bytes (Ok job) result keeps asked taken few count given in_range judged =
    subst (λ (r : Result Job CommonError). ReadsJob name a b r) (sym judged) (record {
      keeps = keeps;
      asked = asked;
      few = few;
      count = count;
      answer = (in_range, λ tells. job_of_file name a b bytes _ (taken tells) given);
    })
job_judged name a b bytes (Err (Fault fault)) result keeps asked taken few count given in_range judged =
    subst (λ (r : Result Job CommonError). ReadsJob name a b r) (sym judged) (record {
      keeps = keeps;
      asked = asked;
      few = few;
      count = count;
      answer = λ tells. job_of_file name a b bytes _ (taken tells) given;
    })
job_judged name a b bytes (Err OutOfMemory) result keeps asked taken few count given in_range judged =
    subst (λ (r : Result Job CommonError). ReadsJob name a b r) (sym judged) (record { keeps = keeps; asked = asked; few = few; count = count; answer = tt })
