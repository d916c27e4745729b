-- The job of a run by its first bytes.
use Rattle.std.proofs.Common.{◌≡◌, ℕ, ◌<◌, ◌≤◌, true, false, ltb, List, [], ◌∷◌, length, take, Some, Result, Ok, Err, IsTrue, inl, inr, refl, sym, ap, ◌∙◌, arith}
use Rattle.std.proofs.lemmas.Bool.{cases_lt}
use Rattle.std.proofs.lemmas.Bool.Decides.{nat_tests}
use Rattle.std.proofs.lemmas.List.{take_all}
use Rattle.outside.specs.ErrorCases.{Asks}
use Rattle.outside.specs.Tray.{TrayState, KeepsTray}
use Rattle.outside.specs.Reading.{TakesPrefix}
use Rattle.job_pages.specs.declared.run.RunError.{RunError}
use Rattle.job_pages.specs.declared.run.RunError.TheVariants.{Fault, TooManyPages as HasTooMany}
use Rattle.job_pages.specs.Runs.{count_of}
use Rattle.page_files.specs.Inputs.{Holds}
use Rattle.page_files.specs.Steps.{TakesJob}
use Rattle.page_files.proofs.JobLemmas.{first_enough, reported_of_file}
use Rattle.ps_tokens.specs.declared.faults.FaultKind.TheVariants.{JobTooLong}
use Rattle.traprun_cli.specs.Reading.{AnswersRunJob, JudgesRun, ReadsRunJob}
use Rattle.traprun_cli.specs.Reading.{JudgesRun as judges, AnswersRunJob as answers}
use Rattle.traprun_cli.specs.declared.error.TraprunError.{TraprunError}
use Rattle.traprun_cli.specs.Pages.{pages_of}

pub too_long : (bytes : List ℕ) → 1048576 < length bytes → pages_of bytes ≡ Err (Fault (record { kind = JobTooLong; at = 1048576 }))
too_long bytes long =
    let test : ltb 1048576 (length bytes) ≡ true = grind (arith, nat_tests) in
    rw test refl

pub not_long : (bytes : List ℕ) → length bytes ≤ 1048576 → pages_of bytes ≡ count_of bytes
not_long bytes short =
    let test : ltb 1048576 (length bytes) ≡ false = grind (arith, nat_tests) in
    rw test refl

-- a job that has pages is not too long
is_short : (bytes : List ℕ) (count : ℕ) → pages_of bytes ≡ Ok count → length bytes ≤ 1048576
is_short bytes count has = elim (cases_lt 1048576 (length bytes)) [
  | inl here ↦ (let same : ◌≡◌ {A = Result ℕ RunError} (Err (Fault (record { kind = JobTooLong; at = 1048576 }))) (Ok count) = sym (too_long bytes here) ∙ has in absurd cc)
  | inr short ↦ omega arith
]

pub counted : (bytes : List ℕ) (count : ℕ) → pages_of bytes ≡ Ok count → count_of bytes ≡ Ok count
counted bytes count has = sym (not_long bytes (is_short bytes count has)) ∙ has

-- The first bytes of a job are enough: as many as it may have, and one.
module _ (most : ℕ) (enough : 1048576 < most) where
  -- a job that has pages was taken whole
  whole : (bytes : List ℕ) (count : ℕ) → pages_of bytes ≡ Ok count → take most bytes ≡ bytes
  whole bytes count has = let short = is_short bytes count has in take_all most bytes (omega arith)

  first_reported : (all : List ℕ) (r : Result ℕ RunError) → pages_of (take most all) ≡ r → pages_of all ≡ r
  first_reported all r is = sym (first_enough pages_of _ too_long most enough all) ∙ is

  module _ (name : List ℕ) (a b : TrayState) (bytes : List ℕ) (taken : IsTrue a.tells → TakesPrefix name most a b bytes) where
    said : (r : Result ℕ RunError) → pages_of bytes ≡ r → IsTrue a.tells → Holds a.file name (λ all. pages_of all ≡ r)
    said r is tells = reported_of_file pages_of most (first_enough pages_of _ too_long most enough) name a b bytes r (taken tells) is

    found_whole : (count : ℕ) → pages_of bytes ≡ Ok count → IsTrue a.tells → a.file name ≡ Some bytes
    found_whole count is tells =
        let prefix = taken tells in
        prefix.found ∙ ap (λ (x : List ℕ). Some x) (sym (prefix.taken ∙ whole prefix.all count (first_reported prefix.all (Ok count) (ap pages_of (sym prefix.taken) ∙ is))))

    answered : (result : Result (List ℕ) TraprunError) → b.faults ≡ a.faults → JudgesRun bytes result → AnswersRunJob name a b result
    answered result calm (judges.read count is has) = answers.read bytes count is has calm (found_whole count has)
    answered result calm (judges.refused fault is has) = answers.refused fault is calm (said (Err (Fault fault)) has)
    answered result calm (judges.too_many at is has) = answers.too_many at is calm (said (Err (HasTooMany at)) has)
    answered result calm (judges.no_memory is) = answers.no_memory is calm

  pub job_judged : (name : List ℕ) (a b : TrayState) (bytes : List ℕ) (result : Result (List ℕ) TraprunError) → KeepsTray a b → Asks a.asked b.asked (name ∷ []) → TakesJob name a b → (IsTrue a.tells → TakesPrefix name most a b bytes) → b.faults ≡ a.faults → JudgesRun bytes result → ReadsRunJob name a b result
  job_judged name a b bytes result keeps asked few taken calm judged = record { keeps = keeps; asked = asked; few = few; answer = answered name a b bytes taken result calm judged }
