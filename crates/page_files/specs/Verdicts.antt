-- What is to come of a page, by the bytes of its files. Nothing else is looked at.
use Rattle.std.specs.Prelude.{◌≡◌, ℕ, ◌<◌, All, List, ◌∷◌, [], ◌++◌, length, Option, Ok, Err}
use Rattle.page_model.specs.declared.parts.PageParts.{PageParts}
use Rattle.page_model.specs.Counts.{page_counts}
use Rattle.page_model.specs.Tints.{trapped_planes}
use Rattle.page_files.specs.Inputs.{Sources, Decoder, Holds, PlateFails, Makes, name_at}
use Rattle.page_files.specs.Files.{Written, page_files}
use Rattle.common_errors.specs.declared.common.CommonError.{CommonError}
use Rattle.common_errors.specs.declared.common.CommonError.TheVariants.{Job, NoDetails, Plate, Page}
use Rattle.trap_report.specs.Report.{report_of}

-- what is to come
pub data Verdict : Type 0 where
  -- the job, a plate or the page is refused
  Refused : CommonError → Verdict
  -- these files are to be written, in this order
  Out : List Written → Verdict

-- the files that a page is written into: one for each plate, and the report
pub record Targets : Type 0 where
  pub outputs : List (List ℕ)
  pub report : List ℕ

-- all of them, in the order in which they are written
abbrev pub written_names : Targets → List (List ℕ)
written_names target = target.outputs ++ target.report ∷ []

-- what becomes of a page: its trapped planes as plates, and the report of what changed
abbrev pub outcome : Targets → PageParts → List Written
outcome target page = page_files target.outputs (trapped_planes page) target.report
    (report_of page (page_counts page))

-- The job is judged first, then each plate in order, then what they make. Where a file that this
-- comes to is not there, there is no verdict.
abbrev pub IsVerdict : Decoder → (List ℕ → Option (List ℕ)) → Sources → Targets → Verdict → Type 0
IsVerdict decoder files source target (Refused (Job fault)) =
    Holds files source.job (λ bytes. decoder.job bytes ≡ Err fault)
IsVerdict decoder files source target (Refused (Plate plate fault)) =
    PlateFails decoder files source plate fault
IsVerdict decoder files source target (Refused (NoDetails plate)) =
    Makes decoder files source (Err (NoDetails plate))
IsVerdict decoder files source target (Refused (Page fault)) =
    Makes decoder files source (Err (Page fault))
IsVerdict decoder files source target (Refused other) = ⊥
IsVerdict decoder files source target (Out written) =
    (page : PageParts) × Makes decoder files source (Ok page) × (written ≡ outcome target page)

-- No two verdicts stand on the same files.
abbrev pub OneVerdict : Decoder → Type 0
OneVerdict decoder = (files : List ℕ → Option (List ℕ)) (source : Sources) (target : Targets)
    (one two : Verdict) → IsVerdict decoder files source target one
    → IsVerdict decoder files source target two → one ≡ two

-- There is a file of that name, of bytes.
abbrev pub IsFile : (List ℕ → Option (List ℕ)) → List ℕ → Type 0
IsFile files name = Holds files name (λ bytes. All (λ b. b < 256) bytes)

-- Where the job and all plates are among the files, a verdict stands.
abbrev pub SomeVerdict : Decoder → Type 0
SomeVerdict decoder = (files : List ℕ → Option (List ℕ)) (source : Sources) (target : Targets)
    → IsFile files source.job
    → ((k : ℕ) → k < length source.inputs → IsFile files (name_at source.inputs k))
    → (verdict : Verdict) × IsVerdict decoder files source target verdict
