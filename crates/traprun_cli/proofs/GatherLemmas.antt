-- One page of a run: its job, the images of its plates, and what these make.
use Rattle.std.proofs.Common.{◌≡◌, ◌⊎◌, ℕ, ◌≤◌, ◌+◌, List, length, map, Some, None, Result, Ok, Err, IsTrue, inl, inr, refl, sym, ap, ◌∙◌, subst, arith}
use Rattle.outside.specs.Tray.{TrayState}
use Rattle.outside.proofs.Names.{asks_all, asks_none, asks_none_of, asks_prefix}
use Rattle.job_reader.specs.declared.job.Job.{Job as JobRead}
use Rattle.page_files.proofs.GatherLemmas.{plates_made}
use Rattle.page_files.specs.Assembly.{CanAssemblePlanes, assembly_of_planes, parts_of_planes, without_details}
use Rattle.page_files.specs.Inputs.{Sources, Holds, Makes, name_at}
use Rattle.page_files.proofs.GatherLemmas.{NoneOther, none_other}
use Rattle.job_pages.specs.Runs.{page_job_of}
use Rattle.page_model.specs.declared.parts.PageParts.{PageParts}
use Rattle.page_model.specs.declared.parts.Plane.{Plane}
use Rattle.page_model.specs.Page.{plates}
use Rattle.pgm_plates.specs.Planes.{plate_of}
use Rattle.pgm_plates.proofs.Facts.{plane_turns_back}
use Rattle.ps_tokens.specs.declared.faults.JobFault.{JobFault}
use Rattle.ps_tokens.specs.declared.faults.JobError.{JobError as JobErrors}
use Rattle.ps_tokens.specs.declared.faults.JobError.TheVariants.{Fault as JobFails, OutOfMemory}
use Rattle.ps_tokens.specs.Tokens.{Gives}
use Rattle.traprun_cli.specs.Gathering.{GathersPage, IsJobOf, StopsPage, job_error}
use Rattle.traprun_cli.specs.Gathering.{StopsPage as stops}
use Rattle.traprun_cli.specs.Reading.{ReadsImages, images_sought}
use Rattle.traprun_cli.proofs.ImageLemmas.{may_hold}
use Rattle.page_files.specs.Looks.{Refuses, StopsAt}
use Rattle.page_files.proofs.PlaneLemmas.{planes_back, plates_found}
use Rattle.page_files.proofs.PlateLemmas.{plate_count}
use Rattle.traprun_cli.specs.declared.error.TraprunError.{TraprunError}
use Rattle.traprun_cli.specs.declared.error.TraprunError.TheVariants.{Whole, AtPage}
use Rattle.traprun_cli.specs.Images.{HasImage, page_decoder}
use Rattle.traprun_cli.specs.Errors.{error_at}
use Rattle.common_errors.specs.declared.common.CommonError.{CommonError}
use Rattle.common_errors.specs.declared.common.CommonError.TheVariants.{Usage, Job, NoDetails, Plate, Page, Read, Write, Memory}

module _ (source : Sources) (bytes : List ℕ) (k : ℕ) (a b : TrayState) where
  -- the job of page k is refused, before a plate is read
  job_refused : (fault : JobFault) → page_job_of bytes k ≡ Err fault → GathersPage source bytes k a a (Err (AtPage k (Job fault)))
  job_refused fault is = record {
    keeps = record { tells = refl; file = refl; faults = omega arith };
    in_hand = inl refl;
    count = tt;
    answer = λ known. stops.refused (Job fault) refl (inl refl) refl (asks_none a.asked) (λ tells target. (bytes, known tells, is));
  }

  no_job_memory : GathersPage source bytes k a a (Err (Whole Memory))
  no_job_memory = record {
    keeps = record { tells = refl; file = refl; faults = omega arith };
    in_hand = inl refl;
    count = tt;
    answer = λ known. stops.no_memory refl refl (asks_none_of a.asked source.inputs);
  }

  -- the job of page k is not read
  pub job_stopped : (common_error : JobErrors) → Gives {X = JobRead} (Err common_error) (page_job_of bytes k) → GathersPage source bytes k a a (Err (job_error k common_error))
  job_stopped (JobFails fault) is = job_refused fault is
  job_stopped OutOfMemory is = no_job_memory

  module _ (job : JobRead) (given : page_job_of bytes k ≡ Ok job) where
    job_read : IsJobOf source bytes a → IsTrue a.tells → Holds a.file source.job (λ all. (page_decoder k).job all ≡ Ok job)
    job_read known tells = (bytes, known tells, given)

    stopped_by : (error : TraprunError) (plate : ℕ) → IsJobOf source bytes a → StopsAt (images_sought k) source.inputs plate a b → Refuses (images_sought k) plate (name_at source.inputs plate) a b error → StopsPage source k a b error
    stopped_by error plate known at (Refuses.refused None is count stored) =
        stops.ends plate is (count refl) at.asked
        (λ tells. record { job = job; plates = map plate_of at.found; job_read = job_read known tells; before = plates_found (HasImage k) a.file source.inputs plate at.found (at.before_it tells); known = at.known; ended = stored tells })
    stopped_by error plate known at (Refuses.refused (Some fault) is count stored) =
        stops.refused (Plate plate fault) is (inr refl) (plate_count (Unit {0}) plate a b fault count) at.asked
        (λ tells target. record { job = job; plates = map plate_of at.found; job_read = job_read known tells; before = plates_found (HasImage k) a.file source.inputs plate at.found (at.before_it tells); known = at.known; broken = stored tells })
    stopped_by error plate known at (Refuses.unread is rose stored) =
        stops.unread plate is rose at.asked
        (record { job = job; plates = map plate_of at.found; job_read = job_read known; before_it = λ tells. plates_found (HasImage k) a.file source.inputs plate at.found (at.before_it tells); in_hand = stored })
    stopped_by error plate known at (Refuses.no_memory is calm) = stops.no_memory is calm (asks_prefix a.asked b.asked (plate + 1) source.inputs at.asked)

    -- an image is refused
    pub images_refused : (error : TraprunError) → ReadsImages k source.inputs a b (Err error) → GathersPage source bytes k a b (Err error)
    images_refused error reads = record { keeps = reads.keeps; in_hand = may_hold k source.inputs (length source.inputs) a b reads.in_hand; count = tt; answer = λ known. stopped_by error reads.answer.0 known reads.answer.1 reads.answer.2 }

    makes : (read : List Plane) (made : Result PageParts CommonError) → IsJobOf source bytes a → ReadsImages k source.inputs a b (Ok read) → assembly_of_planes job read source.names ≡ made → IsTrue a.tells → Makes (page_decoder k) a.file source made
    makes read made known reads is tells = (
      job,
      map plate_of read,
      record { job_read = job_read known tells; plates_read = plates_found (HasImage k) a.file source.inputs (length source.inputs) read (reads.answer.4 tells) },
      ap (λ (planes : List Plane). assembly_of_planes job planes source.names) (planes_back plane_turns_back read (λ j d within. (reads.answer.2 j d within).0)) ∙ is,
    )

    -- the page is made
    pub page_made : (read : List Plane) (page : PageParts) → ReadsImages k source.inputs a b (Ok read) → assembly_of_planes job read source.names ≡ Ok page → GathersPage source bytes k a b (Ok page)
    page_made read page reads is =
        let count : plates page ≡ length source.inputs = plates_made (without_details job source.names) (parts_of_planes job read source.names) page is ∙ reads.answer.1 in
        record { keeps = reads.keeps; in_hand = may_hold k source.inputs (length source.inputs) a b reads.in_hand; count = count; answer = λ known. record { count = count; calm = reads.answer.3; asked = reads.answer.0; makes = makes read (Ok page) known reads is } }

    refused_by : (read : List Plane) (common_error : CommonError) → IsJobOf source bytes a → ReadsImages k source.inputs a b (Ok read) → NoneOther (Err common_error) → assembly_of_planes job read source.names ≡ Err common_error → StopsPage source k a b (error_at k common_error)
    refused_by read (NoDetails plate) known reads other is = stops.refused (NoDetails plate) refl (inl refl) reads.answer.3 reads.answer.0 (λ tells target. makes read (Err (NoDetails plate)) known reads is tells)
    refused_by read (Page fault) known reads other is = stops.refused (Page fault) refl (inr refl) reads.answer.3 reads.answer.0 (λ tells target. makes read (Err (Page fault)) known reads is tells)
    refused_by read Memory known reads other is = absurd other
    refused_by read Usage known reads other is = absurd other
    refused_by read (Job fault) known reads other is = absurd other
    refused_by read (Plate plate fault) known reads other is = absurd other
    refused_by read (Read file) known reads other is = absurd other
    refused_by read (Write file) known reads other is = absurd other

    error_of : (read : List Plane) (common_error : CommonError) (error : TraprunError) → error ≡ error_at k common_error → IsJobOf source bytes a → ReadsImages k source.inputs a b (Ok read) → (common_error ≡ Memory) ⊎ (assembly_of_planes job read source.names ≡ Err common_error) → StopsPage source k a b error
    error_of read common_error error same known reads (inl memory) = stops.no_memory (same ∙ ap (error_at k) memory) reads.answer.3 (asks_all a.asked b.asked source.inputs reads.answer.0)
    error_of read common_error error same known reads (inr is) = subst (λ (s : TraprunError). StopsPage source k a b s) (sym same) (refused_by read common_error known reads (none_other (without_details job source.names) (parts_of_planes job read source.names) common_error is) is)

    -- what the job and the images make is refused, or there was no memory
    pub page_refused : (read : List Plane) (common_error : CommonError) (error : TraprunError) → error ≡ error_at k common_error → ReadsImages k source.inputs a b (Ok read) → (common_error ≡ Memory) ⊎ (assembly_of_planes job read source.names ≡ Err common_error) → GathersPage source bytes k a b (Err error)
    page_refused read common_error error same reads why = record { keeps = reads.keeps; in_hand = may_hold k source.inputs (length source.inputs) a b reads.in_hand; count = tt; answer = λ known. error_of read common_error error same known reads why }

-- images that were read can be put together with as many names
pub can_assemble : (k : ℕ) (inputs names : List (List ℕ)) (a b : TrayState) (read : List Plane) → 1 ≤ length inputs → length inputs ≤ 16 → length names ≡ length inputs → ReadsImages k inputs a b (Ok read) → CanAssemblePlanes read names
can_assemble k inputs names a b read some few named reads = record { some = omega (arith, reads.answer.1); few = omega (arith, reads.answer.1); named = named ∙ sym reads.answer.1; in_range = λ j d within. (reads.answer.2 j d within).0 }

-- an error of the page, by the names of its words
pub error_named : (job : JobRead) (read : List Plane) (common_error : CommonError) {names others : List (List ℕ)} → others ≡ names → (common_error ≡ Memory) ⊎ (assembly_of_planes job read others ≡ Err common_error) → (common_error ≡ Memory) ⊎ (assembly_of_planes job read names ≡ Err common_error)
error_named job read common_error same (inl memory) = inl memory
error_named job read common_error same (inr is) = inr (ap (λ (ns : List (List ℕ)). assembly_of_planes job read ns) (sym same) ∙ is)
