-- What is to come of a job of many pages, by the bytes of its files. Nothing else is looked at.
use Rattle.std.specs.Prelude.{◌≡◌, ℕ, ◌<◌, List, length, Option, Ok, Err}
use Rattle.page_files.specs.Inputs.{Sources, Holds, AreRead, name_at}
use Rattle.job_pages.specs.declared.run.RunError.TheVariants.{Fault as JobFails}
use Rattle.job_pages.specs.declared.run.RunError.TheVariants.{TooManyPages as HasTooMany}
use Rattle.page_model.specs.declared.parts.PageParts.{PageParts}
use Rattle.page_files.specs.Files.{Written}
use Rattle.pgm_plates.specs.declared.plate.Plate.{Plate as PlateRead}
use Rattle.job_reader.specs.declared.job.Job.{Job as JobRead}
use Rattle.traprun_cli.specs.declared.error.TraprunError.{TraprunError}
use Rattle.traprun_cli.specs.declared.error.TraprunError.TheVariants.{Whole, TooManyPages}
use Rattle.traprun_cli.specs.declared.error.TraprunError.TheVariants.{AtPage}
use Rattle.traprun_cli.specs.declared.error.TraprunError.TheVariants.{Ends, Extra}
use Rattle.traprun_cli.specs.Images.{HasImage, HasImageFault, HasNoImage, page_decoder}
use Rattle.traprun_cli.specs.Pages.{AreMade, pages_of, run_files, target_at}
use Rattle.common_errors.specs.declared.common.CommonError.TheVariants.{Job, Plate}
use Rattle.common_errors.specs.Statuses.{done}
use Rattle.traprun_cli.specs.Errors.{status_of_error}
use Rattle.page_files.specs.Verdicts.{Targets, IsFile, IsVerdict, Refused as PageRefused}

-- what is to come
pub data RunVerdict : Type 0 where
  -- the run stops so
  Stopped : TraprunError → RunVerdict
  -- these files are to be written, in this order
  Out : List Written → RunVerdict

-- The job has `count` pages.
abbrev pub HasPages : (List ℕ → Option (List ℕ)) → Sources → ℕ → Type 0
HasPages files source count = Holds files source.job (λ bytes. pages_of bytes ≡ Ok count)

-- These are all pages before page k, which the job has too. The last of them stands first.
pub record ComesTo (files : List ℕ → Option (List ℕ)) (source : Sources) (k : ℕ) : Type 0 where
  pub count : ℕ
  pub has : HasPages files source count
  pub within : k < count
  pub pages : List PageParts
  pub number : length pages ≡ k
  pub made : AreMade files source pages

-- The job of page k and the plates before this one are read; the file of this one has no image for
-- it.
pub record PlateEnds (files : List ℕ → Option (List ℕ)) (source : Sources) (k plate : ℕ)
    : Type 0 where
  pub job : JobRead
  pub plates : List PlateRead
  pub job_read : Holds files source.job (λ bytes. (page_decoder k).job bytes ≡ Ok job)
  pub before : AreRead (page_decoder k) files source.inputs plate plates
  pub known : plate < length source.inputs
  pub ended : Holds files (name_at source.inputs plate) (HasNoImage k)

-- All pages of the job. The last of them stands first.
pub record AllMade (files : List ℕ → Option (List ℕ)) (source : Sources) : Type 0 where
  pub pages : List PageParts
  pub has : HasPages files source (length pages)
  pub made : AreMade files source pages

-- The files of the first `plates` plates have no image after that of the last page.
abbrev pub AllEnd : (List ℕ → Option (List ℕ)) → Sources → ℕ → ℕ → Type 0
AllEnd files source count plates = (plate : ℕ) → plate < plates →
    Holds files (name_at source.inputs plate) (HasNoImage count)

-- All pages are made, and the files of the plates before this one end after the last image; of
-- this one that is not so.
pub record LooksLast (files : List ℕ → Option (List ℕ)) (source : Sources) (plate : ℕ)
    (Fact : ℕ → List ℕ → Type 0) : Type 0 where
  pub all : AllMade files source
  pub known : plate < length source.inputs
  pub before : AllEnd files source (length all.pages) plate
  pub here : Holds files (name_at source.inputs plate) (Fact (length all.pages))

-- The whole job is judged first, by its tokens, its objects and its pages; then each page in order,
-- by its own job, its plates and what these make; and at last whether each plate's file ends. Where
-- a file that this comes to is not there, there is no verdict.
abbrev pub IsRunVerdict : (List ℕ → Option (List ℕ)) → Sources → Targets → RunVerdict → Type 0
IsRunVerdict files source target (Stopped (Whole (Job fault))) =
    Holds files source.job (λ bytes. pages_of bytes ≡ Err (JobFails fault))
IsRunVerdict files source target (Stopped (TooManyPages at)) =
    Holds files source.job (λ bytes. pages_of bytes ≡ Err (HasTooMany at))
IsRunVerdict files source target (Stopped (AtPage k common_error)) =
    ComesTo files source k × IsVerdict (page_decoder k) files source (target_at target k)
    (PageRefused common_error)
IsRunVerdict files source target (Stopped (Ends k plate)) =
    ComesTo files source k × PlateEnds files source k plate
IsRunVerdict files source target (Stopped (Whole (Plate plate fault))) =
    LooksLast files source plate (λ count bytes. HasImageFault count bytes fault)
IsRunVerdict files source target (Stopped (Extra plate)) =
    LooksLast files source plate
    (λ count bytes. (another : PlateRead) × HasImage count bytes another)
IsRunVerdict files source target (Stopped (Whole other)) = ⊥
IsRunVerdict files source target (Out written) =
    (all : AllMade files source) × AllEnd files source (length all.pages) (length source.inputs) ×
    (written ≡ run_files target all.pages)

-- No two verdicts stand on the same files.
abbrev pub OneRunVerdict : Type 0
OneRunVerdict = (files : List ℕ → Option (List ℕ)) (source : Sources) (target : Targets)
    (one two : RunVerdict) → IsRunVerdict files source target one →
    IsRunVerdict files source target two → one ≡ two

-- Where the job and all plates are among the files, a verdict stands.
abbrev pub SomeRunVerdict : Type 0
SomeRunVerdict = (files : List ℕ → Option (List ℕ)) (source : Sources) (target : Targets) →
    IsFile files source.job →
    ((k : ℕ) → k < length source.inputs → IsFile files (name_at source.inputs k)) →
    (verdict : RunVerdict) × IsRunVerdict files source target verdict

-- the status that a verdict asks for
abbrev pub status_of_verdict : RunVerdict → ℕ
status_of_verdict (Stopped error) = status_of_error error
status_of_verdict (Out written) = done
