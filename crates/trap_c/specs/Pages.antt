-- The page that a call is for.
use Rattle.std.specs.Prelude.{◌≡◌, ◌⊎◌, ℕ, List, length, Option, Some, None, Result, Ok, Err}
use Rattle.job_reader.specs.declared.job.Job.{Job}
use Rattle.job_reader.specs.Jobs.{job_of}
use Rattle.page_files.specs.Assembly.{assembly_of_planes}
use Rattle.page_model.specs.declared.parts.PageParts.{PageParts}
use Rattle.page_model.specs.declared.parts.Plane.{Plane}
use Rattle.page_model.specs.Page.{plates, width, height, maxval}
use Rattle.ps_tokens.specs.declared.faults.JobFault.{JobFault}
use Rattle.common_errors.specs.declared.common.CommonError.{CommonError}
use Rattle.common_errors.specs.declared.common.CommonError.TheVariants.{Job as JobError, Memory}
use Rattle.trap_c.specs.declared.layout.Layout.{Layout}
use Rattle.trap_c.specs.declared.error.CallFault.{CallFault}
use Rattle.trap_c.specs.declared.error.CallError.{CallError}
use Rattle.trap_c.specs.declared.error.CallError.TheVariants.{Call, Page}
use Rattle.trap_c.specs.Requests.{Asked}
use Rattle.trap_c.specs.Names.{names_in}
use Rattle.trap_c.specs.Fit.{call_fault, first_above}
use Rattle.trap_c.specs.Planes.{planes_in}

-- the page that is made, where no tint is above the maxval
abbrev pub page_unless : Option CommonError → Result PageParts CommonError → Result PageParts CommonError
page_unless (Some common_error) made = Err common_error
page_unless None made = made

-- the page of a job and these planes
abbrev pub page_with : Job → List (List ℕ) → List Plane → Result PageParts CommonError
page_with job names planes =
    page_unless (first_above planes) (assembly_of_planes job planes names)

-- the page of a job that was read, or the job's fault
abbrev pub page_by :
    Result Job JobFault → List (List ℕ) → List Plane → Result PageParts CommonError
page_by (Ok job) names planes = page_with job names planes
page_by (Err fault) names planes = Err (JobError fault)

-- the page, or why there is none: the job is judged, then the tints, then what they make
abbrev pub page_of : List ℕ → List (List ℕ) → List Plane → Result PageParts CommonError
page_of job names planes = page_by (job_of job) names planes

-- a page that was made, or the error
abbrev pub error_or : Result PageParts CommonError → Result PageParts CallError
error_or (Ok page) = Ok page
error_or (Err common_error) = Err (Page common_error)

-- where the arguments have no fault
abbrev pub call_unless : Option CallFault → Result PageParts CommonError → Result PageParts CallError
call_unless (Some fault) made = Err (Call fault)
call_unless None made = error_or made

-- the page of these names: the arguments are judged, and then the job and the planes
abbrev pub named_page : ℕ → List ℕ → List (List ℕ) → Layout → List ℕ → Result PageParts CallError
named_page most job names layout samples =
    call_unless (call_fault most names layout (length samples))
    (page_of job names (planes_in layout samples (length names)))

-- the page that a call is for, or why there is none
abbrev pub call_page : ℕ → Asked → List ℕ → Result PageParts CallError
call_page most asked samples =
    named_page most asked.job (names_in asked.names) asked.layout samples

-- A result of what is asked for, or that memory was refused.
abbrev pub Gives : Result PageParts CommonError → Result PageParts CommonError → Type 0
Gives made (Ok page) = made ≡ Ok page
Gives made (Err common_error) = (common_error ≡ Memory) ⊎ (made ≡ Err common_error)

-- A page of that layout, with `count` plates.
pub record Fills (layout : Layout) (count : ℕ) (page : PageParts) : Type 0 where
  pub wide : width page ≡ layout.width
  pub tall : height page ≡ layout.height
  pub deep : maxval page ≡ layout.maxval
  pub all : plates page ≡ count
