-- The pages of a run, and the files that they are written into.
use Rattle.std.specs.Prelude.{ℕ, zero, suc, List, [], ◌∷◌, ◌++◌, length, map, nat_lt, if◌then◌else◌}
use Rattle.std.specs.Prelude.{Option, Result, Ok, Err, codes, decimal}
use Rattle.page_files.specs.Inputs.{Sources, Makes}
use Rattle.job_pages.specs.declared.run.RunError.{RunError}
use Rattle.job_pages.specs.declared.run.RunError.TheVariants.{Fault}
use Rattle.job_pages.specs.Runs.{count_of}
use Rattle.page_model.specs.declared.parts.PageParts.{PageParts}
use Rattle.page_files.specs.Files.{Written}
use Rattle.ps_tokens.specs.declared.faults.FaultKind.TheVariants.{JobTooLong}
use Rattle.ps_tokens.specs.Limits.{longest_job}
use Rattle.traprun_cli.specs.Images.{page_decoder}
use Rattle.page_files.specs.Verdicts.{Targets, outcome, written_names}

-- a name followed by `.` and a page's number
abbrev pub numbered : ℕ → List ℕ → List ℕ
numbered page name = name ++ codes "." ++ decimal page

-- the files that page k is written into
abbrev pub target_at : Targets → ℕ → Targets
target_at target k = record {
  outputs = map (numbered k) target.outputs;
  report = numbered k target.report;
}

-- how many pages a job has, or its first error; that it is too long comes first
abbrev pub pages_of : List ℕ → Result ℕ RunError
pages_of bytes =
    if nat_lt longest_job (length bytes) then
    Err (Fault (record { kind = JobTooLong; at = longest_job }))
    else count_of bytes

-- These are the first pages of the run, the last of them first.
abbrev pub AreMade : (List ℕ → Option (List ℕ)) → Sources → List PageParts → Type 0
AreMade files source [] = Unit {0}
AreMade files source (page ∷ earlier) =
    AreMade files source earlier × Makes (page_decoder (length earlier)) files source (Ok page)

-- the files that the first pages are written into, in the order in which they are written; the last
-- page is given first
abbrev pub run_files : Targets → List PageParts → List Written
run_files target [] = []
run_files target (page ∷ earlier) =
    run_files target earlier ++ outcome (target_at target (length earlier)) page

-- the names of the files of some first pages, in the order in which they are written
abbrev pub run_names : Targets → ℕ → List (List ℕ)
run_names target zero = []
run_names target (suc k) = run_names target k ++ written_names (target_at target k)

-- the files that are read for some first pages, in their order: the job, and then for each page
-- each plate
abbrev pub run_reads : Sources → ℕ → List (List ℕ)
run_reads source zero = source.job ∷ []
run_reads source (suc k) = run_reads source k ++ source.inputs
