-- Where all files are there, a verdict on the run stands.
use Rattle.std.proofs.Common.{◌≡◌, ◌⊎◌, ℕ, zero, suc, ◌<◌, ◌≤◌, Bool, true, false, cond, List, [], ◌∷◌, length, Option, Some, None, Result, Ok, Err, inl, inr, refl, sym, ap, subst, arith}
use Rattle.std.specs.Option.{option_map}
use Rattle.std.proofs.lemmas.Bool.{cases_lt}
use Rattle.lists.specs.Words.{or_else}
use Rattle.page_files.specs.Inputs.{Sources, Decoder, Holds, AreRead, Makes, name_at}
use Rattle.job_pages.specs.declared.statement_spans.StatementSpan.{StatementSpan}
use Rattle.job_pages.specs.declared.run.RunError.{RunError}
use Rattle.job_pages.specs.declared.run.RunError.TheVariants.{Fault, TooManyPages as HasTooMany, OutOfMemory}
use Rattle.job_pages.specs.Runs.{count_from, excess, objects_in, page_job_of, run_from, run_of, run_unless}
use Rattle.page_model.specs.declared.parts.PageParts.{PageParts}
use Rattle.pgm_plates.specs.declared.plate.Plate.{Plate as PlateRead}
use Rattle.pgm_plates.specs.declared.plate.PlateFault.{PlateFault}
use Rattle.pgm_plates.specs.declared.plate.PlateFault.TheVariants.{TrailingBytes}
use Rattle.ps_tokens.specs.declared.faults.JobFault.{JobFault}
use Rattle.ps_tokens.specs.declared.object.Object.{Object}
use Rattle.traprun_cli.specs.declared.error.TraprunError.{TraprunError}
use Rattle.traprun_cli.specs.declared.error.TraprunError.TheVariants.{Whole, TooManyPages, AtPage, Ends, Extra}
use Rattle.traprun_cli.specs.Images.{HasImage, HasImageFault, HasNoImage, page_decoder}
use Rattle.traprun_cli.specs.Pages.{AreMade, pages_of, run_files, target_at}
use Rattle.traprun_cli.specs.RunVerdicts.{RunVerdict, AllEnd, AllMade, ComesTo, HasPages, IsRunVerdict, SomeRunVerdict}
use Rattle.traprun_cli.specs.RunVerdicts.RunVerdict.{Stopped, Out}
use Rattle.traprun_cli.proofs.SomeImageLemmas.{Judged, image_judged}
use Rattle.common_errors.specs.declared.common.CommonError.TheVariants.{Usage, Job, NoDetails, Plate, Page, Read, Write, Memory}
use Rattle.page_files.specs.Verdicts.{Verdict, IsFile, IsVerdict, Targets}
use Rattle.page_files.specs.Verdicts.Verdict.{Refused, Out as PageOut}
use Rattle.page_files.proofs.SomeLemmas.{some_verdict}

-- A job of many pages is counted or refused, and never for lack of memory.
no_memory_error : (end : Option JobFault) (more : Option StatementSpan) → or_else (option_map Fault end) (excess more) ≡ Some OutOfMemory → ⊥
no_memory_error (Some fault) more is = let e : Some (Fault fault) ≡ Some OutOfMemory = is in absurd cc
no_memory_error None (Some p) is = let e : Some (HasTooMany p.at) ≡ Some OutOfMemory = is in absurd cc
no_memory_error None None is = let e : None ≡ Some OutOfMemory = is in absurd cc

no_memory_unless : (common_error : Option RunError) (spans : List StatementSpan) → (common_error ≡ Some OutOfMemory → ⊥) → run_unless common_error spans ≡ Err OutOfMemory → ⊥
no_memory_unless None spans other is = let e : ◌≡◌ {A = Result (List StatementSpan) RunError} (Ok spans) (Err OutOfMemory) = is in absurd cc
no_memory_unless (Some common_error) spans other is =
    let e : ◌≡◌ {A = Result (List StatementSpan) RunError} (Err common_error) (Err OutOfMemory) = is in
    let same : common_error ≡ OutOfMemory = cc in
    other (ap (λ (r : RunError). Some r) same)

no_memory_from : (len : ℕ) (objects : Result (List Object) JobFault) → run_from len objects ≡ Err OutOfMemory → ⊥
no_memory_from len (Err fault) is = let e : ◌≡◌ {A = Result (List StatementSpan) RunError} (Err (Fault fault)) (Err OutOfMemory) = is in absurd cc
no_memory_from len (Ok objects) is = no_memory_unless _ _ (no_memory_error _ _) is

no_memory_run : (bytes : List ℕ) → run_of bytes ≡ Err OutOfMemory → ⊥
unfolding run_of
no_memory_run bytes is = no_memory_from (length bytes) (objects_in bytes) is

no_memory_count : (run : Result (List StatementSpan) RunError) → (run ≡ Err OutOfMemory → ⊥) → count_from run ≡ Err OutOfMemory → ⊥
no_memory_count (Ok spans) other is = let e : ◌≡◌ {A = Result ℕ RunError} (Ok _) (Err OutOfMemory) = is in absurd cc
no_memory_count (Err common_error) other is =
    let e : ◌≡◌ {A = Result ℕ RunError} (Err common_error) (Err OutOfMemory) = is in
    let same : common_error ≡ OutOfMemory = cc in
    other (ap (λ (r : RunError). Err r) same)

no_memory_if : (long : Bool) (fault : JobFault) (counted : Result ℕ RunError) → (counted ≡ Err OutOfMemory → ⊥) → cond long (Err (Fault fault)) counted ≡ Err OutOfMemory → ⊥
no_memory_if true fault counted other is = let e : ◌≡◌ {A = Result ℕ RunError} (Err (Fault fault)) (Err OutOfMemory) = is in absurd cc
no_memory_if false fault counted other is = other is

never_memory : (bytes : List ℕ) → pages_of bytes ≡ Err OutOfMemory → ⊥
never_memory bytes is = no_memory_if _ _ _ (no_memory_count (run_of bytes) (no_memory_run bytes)) is

-- Page k with the end of a plate's file as one of its faults, so that the law of a page's verdict speaks of both.
abbrev with_ends : ℕ → Decoder
with_ends k = record { job = λ bytes. page_job_of bytes k; plate = HasImage k; fault = λ bytes fault. HasImageFault k bytes fault ⊎ HasNoImage k bytes }

image_or_not : (k : ℕ) (bytes : List ℕ) → Judged k bytes → ((plate : PlateRead) × HasImage k bytes plate) ⊎ ((fault : PlateFault) × (HasImageFault k bytes fault ⊎ HasNoImage k bytes))
image_or_not k bytes (inl image) = inl image
image_or_not k bytes (inr (inl fault)) = inr (fault.0, inl fault.1)
image_or_not k bytes (inr (inr ended)) = inr (TrailingBytes 0, inr ended)

module _ (files : List ℕ → Option (List ℕ)) (source : Sources) (target : Targets) (job_there : IsFile files source.job) (plates_there : (k : ℕ) → k < length source.inputs → IsFile files (name_at source.inputs k)) where
  abbrev Stands : Type 0
  Stands = (verdict : RunVerdict) × IsRunVerdict files source target verdict

  -- Page k is made, or the run stops there.
  data PageEnd (k : ℕ) : Type 0 where
    made : (page : PageParts) → Makes (page_decoder k) files source (Ok page) → PageEnd k
    stops : (error : TraprunError) → (ComesTo files source k → IsRunVerdict files source target (Stopped error)) → PageEnd k

  are_read : (k n : ℕ) (plates : List PlateRead) → AreRead (with_ends k) files source.inputs n plates → AreRead (page_decoder k) files source.inputs n plates
  are_read k n plates read = record { all = read.all; each = read.each }

  makes : (k : ℕ) (result : Result PageParts _) → Makes (with_ends k) files source result → Makes (page_decoder k) files source result
  makes k result is = (is.0, is.1, record { job_read = is.2.job_read; plates_read = are_read k (length source.inputs) is.1 is.2.plates_read }, is.3)

  page_end : (k : ℕ) (verdict : Verdict) → IsVerdict (with_ends k) files source (target_at target k) verdict → PageEnd k
  page_end k (Refused (Job fault)) is = stops (AtPage k (Job fault)) (λ comes. (comes, is))
  page_end k (Refused (Plate p fault)) is =
      let before = are_read k p is.plates is.before in
      let broken = is.broken in
      elim broken.2 [
        | inl fails ↦ stops (AtPage k (Plate p fault)) (λ comes. (comes, record { job = is.job; plates = is.plates; job_read = is.job_read; before = before; known = is.known; broken = (broken.0, broken.1, fails) }))
        | inr ended ↦ stops (Ends k p) (λ comes. (comes, record { job = is.job; plates = is.plates; job_read = is.job_read; before = before; known = is.known; ended = (broken.0, broken.1, ended) }))
      ]
  page_end k (Refused (NoDetails p)) is = stops (AtPage k (NoDetails p)) (λ comes. (comes, makes k (Err (NoDetails p)) is))
  page_end k (Refused (Page fault)) is = stops (AtPage k (Page fault)) (λ comes. (comes, makes k (Err (Page fault)) is))
  page_end k (Refused Usage) is = absurd is
  page_end k (Refused (Read file)) is = absurd is
  page_end k (Refused (Write file)) is = absurd is
  page_end k (Refused Memory) is = absurd is
  page_end k (PageOut written) is = made is.0 (makes k (Ok is.0) is.1)

  page_ends : (k : ℕ) → PageEnd k
  page_ends k =
      let verdict = some_verdict (with_ends k) (λ bytes byte. image_or_not k bytes (image_judged k bytes byte)) files source (target_at target k) job_there plates_there in
      page_end k verdict.0 verdict.1

  -- So many pages are made, or the run stops before.
  abbrev Came : ℕ → Type 0
  Came n = ((pages : List PageParts) × (length pages ≡ n) × AreMade files source pages) ⊎ Stands

  next_page : (count n : ℕ) → HasPages files source count → n < count → (pages : List PageParts) → length pages ≡ n → AreMade files source pages → PageEnd n → Came (suc n)
  next_page count n has within pages number before (made page is) = inl (page ∷ pages, ap suc number, (before, subst (λ (k : ℕ). Makes (page_decoder k) files source (Ok page)) (sym number) is))
  next_page count n has within pages number before (stops error is) = inr (Stopped error, is (record { count = count; has = has; within = within; pages = pages; number = number; made = before }))

  pages_to : (count : ℕ) → HasPages files source count → (n : ℕ) → n ≤ count → Came n
  pages_to count has zero within = inl ([], refl, tt)
  pages_to count has (suc n) within = elim (pages_to count has n (omega (arith, within))) [
    | inr stands ↦ inr stands
    | inl so ↦ next_page count n has (omega (arith, within)) so.0 so.1 so.2 (page_ends n)
  ]

  -- After the last page the files of so many plates end, or the run stops at one of them.
  abbrev Looked : AllMade files source → ℕ → Type 0
  Looked all n = AllEnd files source (length all.pages) n ⊎ Stands

  look_at : (all : AllMade files source) (p : ℕ) → p < length source.inputs → AllEnd files source (length all.pages) p → (bytes : List ℕ) → files (name_at source.inputs p) ≡ Some bytes → Judged (length all.pages) bytes → Looked all (suc p)
  look_at all p known before bytes found (inl image) = inr (Stopped (Extra p), record { all = all; known = known; before = before; here = (bytes, found, image) })
  look_at all p known before bytes found (inr (inl fault)) = inr (Stopped (Whole (Plate p fault.0)), record { all = all; known = known; before = before; here = (bytes, found, fault.1) })
  look_at all p known before bytes found (inr (inr ended)) = inl (λ plate less. elim (cases_lt plate p) [
    | inl earlier ↦ before plate earlier
    | inr here ↦
        let same : p ≡ plate = omega (arith, less, here) in
        subst (λ (q : ℕ). Holds files (name_at source.inputs q) (HasNoImage (length all.pages))) same (bytes, found, ended)
  ])

  looked : (all : AllMade files source) (n : ℕ) → n ≤ length source.inputs → Looked all n
  looked all zero within = inl (λ plate less. absurd (omega (arith, less)))
  looked all (suc p) within = elim (looked all p (omega (arith, within))) [
    | inr stands ↦ inr stands
    | inl before ↦
        let there = plates_there p (omega (arith, within)) in
        look_at all p (omega (arith, within)) before there.0 there.1 (image_judged (length all.pages) there.0 there.2)
  ]

  all_looked : AllMade files source → Stands
  all_looked all = elim (looked all (length source.inputs) (omega arith)) [
    | inr stands ↦ stands
    | inl ended ↦ (Out (run_files target all.pages), (all, ended, refl))
  ]

  with_pages : (count : ℕ) → HasPages files source count → Stands
  with_pages count has = elim (pages_to count has count (omega arith)) [
    | inr stands ↦ stands
    | inl so ↦ all_looked (record { pages = so.0; has = subst (HasPages files source) (sym so.1) has; made = so.2 })
  ]

  by_pages : (said : Result ℕ RunError) → pages_of job_there.0 ≡ said → Stands
  by_pages (Ok count) is = with_pages count (job_there.0, job_there.1, is)
  by_pages (Err (Fault fault)) is = (Stopped (Whole (Job fault)), (job_there.0, job_there.1, is))
  by_pages (Err (HasTooMany at)) is = (Stopped (TooManyPages at), (job_there.0, job_there.1, is))
  by_pages (Err OutOfMemory) is = absurd (never_memory job_there.0 is)

-- Where the job and all plates are among the files, a verdict stands.
pub some_run_verdict : SomeRunVerdict
some_run_verdict files source target job_there plates_there = by_pages files source target job_there plates_there (pages_of job_there.0) refl
