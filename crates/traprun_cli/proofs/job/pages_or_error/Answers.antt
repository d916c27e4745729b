-- pages_or_stop: the pages of a job of these bytes, or its first error.
use Rattle.std.proofs.Common.{ℕ, ◌≤◌, length, Result, Ok, Err, List, refl, ap, ◌∙◌, arith}
use Rattle.job_pages.specs.declared.statement_spans.StatementSpan.{StatementSpan}
use Rattle.job_pages.specs.declared.run.RunError.{RunError}
use Rattle.job_pages.specs.declared.run.RunError.TheVariants.{Fault, TooManyPages}
use Rattle.job_pages.specs.Runs.{IsManyPages, count_from}
use Rattle.traprun_cli.specs.Reading.{JudgesRun as judges}
use Rattle.traprun_cli.proofs.JobLemmas.{not_long, too_long}
use Rattle.traprun_cli.proofs.job.pages_or_error.Goals as goal

pub returns-then-len-gt-LONGEST_JOB : goal.returns-then-len-gt-LONGEST_JOB
returns-then-len-gt-LONGEST_JOB c = judges.refused _ refl (too_long c.args.bytes (omega arith))

pub returns-in-Ok : goal.returns-in-Ok
returns-in-Ok c =
    let short : length c.args.bytes ≤ 1048576 = omega arith in
    let read : IsManyPages c.args.bytes (Ok c.in-Ok.job) = c.in-Ok.ensures in
    judges.read read.1.0 (ap (λ (bytes : List ℕ). Ok bytes) read.0) (not_long c.args.bytes short ∙ read.1.1)

pub returns-in-Err-Fault : goal.returns-in-Err-Fault
returns-in-Err-Fault c =
    let short : length c.args.bytes ≤ 1048576 = omega arith in
    let refused : IsManyPages c.args.bytes (Err (Fault c.in-Err-Fault.fault)) = rw c.in-Err-Fault.field-0-is at c.in-Err-Fault.ensures in
    judges.refused c.in-Err-Fault.fault refl (not_long c.args.bytes short ∙ ap (λ (r : Result (List StatementSpan) RunError). count_from r) refused)

pub returns-in-Err-TooManyPages : goal.returns-in-Err-TooManyPages
returns-in-Err-TooManyPages c =
    let short : length c.args.bytes ≤ 1048576 = omega arith in
    let refused : IsManyPages c.args.bytes (Err (TooManyPages c.in-Err-TooManyPages.at)) = rw c.in-Err-TooManyPages.field-0-is at c.in-Err-TooManyPages.ensures in
    judges.too_many c.in-Err-TooManyPages.at refl (not_long c.args.bytes short ∙ ap (λ (r : Result (List StatementSpan) RunError). count_from r) refused)
