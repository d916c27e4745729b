-- A run, from its job to the look after its last page.
use Rattle.std.proofs.Common.{◌≡◌, ℕ, ◌<◌, ◌+◌, List, [], ◌∷◌, ◌++◌, length, Some, None, Result, Ok, Err, IsTrue, inl, inr, refl, sym, ap, ◌∙◌, subst, arith}
use Rattle.outside.specs.ErrorCases.{Asks}
use Rattle.outside.specs.Tray.{TrayState, KeepsTray}
use Rattle.outside.specs.Rack.{RackState}
use Rattle.outside.proofs.Names.{asks_prefix, asks_then}
use Rattle.outside.proofs.Steps.{kept_tray, rose_before}
use Rattle.page_files.specs.Inputs.{Sources, Holds, name_at}
use Rattle.page_files.specs.Steps.{TakesJob}
use Rattle.page_files.specs.Looks.{Refuses, StopsAt}
use Rattle.page_files.proofs.LookLemmas.{stored_before, taken_before}
use Rattle.page_files.proofs.PlateLemmas.{plate_count}
use Rattle.page_model.specs.declared.parts.PageParts.{PageParts}
use Rattle.traprun_cli.specs.Endings.{AnswersRun, PagesDone, Runs, RunsFrom}
use Rattle.traprun_cli.proofs.PageLemmas.{prefix_more, hold_more, no_page_done}
use Rattle.pgm_plates.specs.declared.plate.Plate.{Plate as PlateRead}
use Rattle.job_pages.specs.declared.run.RunError.{RunError}
use Rattle.job_pages.specs.Runs.{count_of}
use Rattle.traprun_cli.specs.Gathering.{OpensJob, IsJobOf, JobOpened}
use Rattle.traprun_cli.specs.Opened.{order_in}
use Rattle.traprun_cli.specs.InHand.{InHand}
use Rattle.traprun_cli.specs.Words.{sources_of, targets_of}
use Rattle.traprun_cli.specs.declared.gather.OpenJob.{OpenJob}
use Rattle.traprun_cli.specs.declared.words.TraprunArgs.{TraprunArgs}
use Rattle.traprun_cli.proofs.JobLemmas.{counted}
use Rattle.traprun_cli.specs.Reading.{AnswersRunJob, AreUnbroken, ExpectsEnd, ReadsRunJob, ends_sought}
use Rattle.traprun_cli.proofs.ImageLemmas.{ends_keep}
use Rattle.traprun_cli.specs.declared.error.TraprunError.{TraprunError}
use Rattle.traprun_cli.specs.declared.error.TraprunError.TheVariants.{Whole, TooManyPages, Extra}
use Rattle.traprun_cli.specs.Images.{HasImage, HasImageFault, HasNoImage}
use Rattle.traprun_cli.specs.Pages.{pages_of, run_reads}
use Rattle.traprun_cli.specs.RunVerdicts.{AllEnd, AllMade, HasPages, LooksLast}
use Rattle.common_errors.specs.declared.common.CommonError.TheVariants.{Job, Plate, Read, Memory}
use Rattle.page_files.specs.Verdicts.{Targets}

module _ (source : Sources) (target : Targets) (t b c : TrayState) (r r' : RackState) (pages : List PageParts) (done : PagesDone source target t b r r' pages) (keeps : KeepsTray b c) (bytes : List ℕ) (known : IsJobOf source bytes t) (has : pages_of bytes ≡ Ok (length pages)) where
  has_pages : IsTrue t.tells → HasPages t.file source (length pages)
  has_pages tells = (bytes, known tells, has)

  abbrev all_made : IsTrue t.tells → AllMade t.file source
  all_made tells = record { pages = pages; has = has_pages tells; made = done.written.made tells }

  asked_more : (names : List (List ℕ)) → Asks b.asked c.asked names → Asks t.asked c.asked (run_reads source (length pages) ++ names)
  asked_more names asked = asks_then t.asked b.asked c.asked (run_reads source (length pages)) names done.written.asked asked

  ended_before : (n : ℕ) → (IsTrue b.tells → (p : ℕ) → p < n → Holds b.file (name_at source.inputs p) (HasNoImage (length pages))) → IsTrue t.tells → AllEnd t.file source (length pages) n
  ended_before n ended tells p within = stored_before t b (name_at source.inputs p) (HasNoImage (length pages)) done.tray_keeps (λ there. ended there p within) tells

  looks_last : (plate : ℕ) (Fact : ℕ → List ℕ → Type 0) → StopsAt (ends_sought (length pages)) source.inputs plate b c → (IsTrue b.tells → Holds b.file (name_at source.inputs plate) (Fact (length pages))) → IsTrue t.tells → LooksLast t.file source plate Fact
  looks_last plate Fact at here tells = record {
    all = all_made tells;
    known = at.known;
    before = ended_before plate (λ there. (at.before_it there).each) tells;
    here = stored_before t b (name_at source.inputs plate) (Fact (length pages)) done.tray_keeps here tells;
  }

  answer_error : (error : TraprunError) (plate : ℕ) → InHand source (length pages) t c → StopsAt (ends_sought (length pages)) source.inputs plate b c → Refuses (ends_sought (length pages)) plate (name_at source.inputs plate) b c error → AnswersRun source target t c r r' (Err error)
  answer_error error plate in_hand at (Refuses.refused None is count here) =
      AnswersRun.refused pages b (Extra plate) (ap (λ (s : TraprunError). Err s) is) (inr refl) done.written has_pages (count refl ∙ done.written.calm) (asked_more _ at.asked) (looks_last plate (λ n all. (another : PlateRead) × HasImage n all another) at here) in_hand
  answer_error error plate in_hand at (Refuses.refused (Some fault) is count here) =
      AnswersRun.refused pages b (Whole (Plate plate fault)) (ap (λ (s : TraprunError). Err s) is) (inr refl) done.written has_pages (plate_count (Unit {0}) plate t c fault (λ open_. count open_ ∙ done.written.calm)) (asked_more _ at.asked) (looks_last plate (λ n all. HasImageFault n all fault) at here) in_hand
  answer_error error plate in_hand at (Refuses.unread is rose stored) =
      AnswersRun.unread pages b (Whole (Read (Some plate))) (ap (λ (s : TraprunError). Err s) is) refl done.written (rose_before t.faults b.faults c.faults done.tray_keeps.faults rose) (asked_more _ at.asked)
      ((λ tells. (has_pages tells, ended_before plate (λ there. (at.before_it there).each) tells)), taken_before (AreUnbroken (length pages)) t b c (name_at source.inputs plate) done.tray_keeps stored) in_hand
  answer_error error plate in_hand at (Refuses.no_memory is calm) =
      AnswersRun.no_memory pages b (ap (λ (s : TraprunError). Err s) is) done.written (calm ∙ done.written.calm) (prefix_more t.asked b.asked c.asked (run_reads source (length pages)) source.inputs done.written.asked (asks_prefix b.asked c.asked (plate + 1) source.inputs at.asked)) in_hand

  answer_look : (result : Result (Unit {0}) TraprunError) → InHand source (length pages) t c → ExpectsEnd (length pages) source.inputs b c result → AnswersRun source target t c r r' result
  answer_look (Ok nothing) in_hand (ends, looks) =
      AnswersRun.done pages b refl done.written (looks.answer.3 ∙ done.written.calm) (asked_more source.inputs looks.answer.0) (λ tells. (has_pages tells, ended_before (length source.inputs) (λ there. (looks.answer.4 there).each) tells)) in_hand
  answer_look (Err error) in_hand looks = answer_error error looks.answer.0 in_hand looks.answer.1 looks.answer.2

  -- it is looked after the last page
  pub looked : (result : Result (Unit {0}) TraprunError) → ExpectsEnd (length pages) source.inputs b c result → Runs source target t c r r' result
  looked result looks = record {
    tray_keeps = kept_tray t b c done.tray_keeps keeps;
    rack_keeps = done.rack_keeps;
    reported = done.reported;
    answer = answer_look result (hold_more source target t b c r r' r' pages done keeps (ends_keep (length pages) source.inputs b c result looks).1) looks;
  }

module _ (source : Sources) (target : Targets) (t t' : TrayState) (r : RackState) where
  answer_job : (error : TraprunError) → Asks t.asked t'.asked (source.job ∷ []) → KeepsTray t t' → TakesJob source.job t t' → AnswersRunJob source.job t t' (Err error) → AnswersRun source target t t' r r (Err error)
  answer_job error asked keeps few (AnswersRunJob.read bytes count is has calm found) = absurd (let e : ◌≡◌ {A = Result (List ℕ) TraprunError} (Err error) (Ok bytes) = is in cc)
  answer_job error asked keeps few (AnswersRunJob.refused fault is calm stored) =
      let same : error ≡ Whole (Job fault) = (let e : ◌≡◌ {A = Result (List ℕ) TraprunError} (Err error) (Err (Whole (Job fault))) = is in cc) in
      AnswersRun.refused [] t' (Whole (Job fault)) (ap (λ (s : TraprunError). Err s) same) (inl refl) (no_page_done source target t t' r keeps calm asked few).written refl calm asked stored (inl few)
  answer_job error asked keeps few (AnswersRunJob.too_many at is calm stored) =
      let same : error ≡ TooManyPages at = (let e : ◌≡◌ {A = Result (List ℕ) TraprunError} (Err error) (Err (TooManyPages at)) = is in cc) in
      AnswersRun.refused [] t' (TooManyPages at) (ap (λ (s : TraprunError). Err s) same) (inl refl) (no_page_done source target t t' r keeps calm asked few).written refl calm asked stored (inl few)
  answer_job error asked keeps few (AnswersRunJob.unread is rose) =
      let same : error ≡ Whole (Read None) = (let e : ◌≡◌ {A = Result (List ℕ) TraprunError} (Err error) (Err (Whole (Read None))) = is in cc) in
      AnswersRun.unread_job (ap (λ (s : TraprunError). Err s) same) refl rose asked few
  answer_job error asked keeps few (AnswersRunJob.no_memory is calm) =
      let same : error ≡ Whole Memory = (let e : ◌≡◌ {A = Result (List ℕ) TraprunError} (Err error) (Err (Whole Memory)) = is in cc) in
      AnswersRun.no_job_memory (ap (λ (s : TraprunError). Err s) same) refl calm asked few

  -- the job was not read
  pub not_stored : (error : TraprunError) → ReadsRunJob source.job t t' (Err error) → Runs source target t t' r r (Err error)
  not_stored error reads = record {
    tray_keeps = reads.keeps;
    rack_keeps = record { tells = refl; faults = omega arith };
    reported = λ tells. refl;
    answer = answer_job error reads.asked reads.keeps reads.few reads.answer;
  }

-- nothing was begun, since there was no memory
pub not_begun : (source : Sources) (target : Targets) (t : TrayState) (r : RackState) → Runs source target t t r r (Err (Whole Memory))
not_begun source target t r = record {
  tray_keeps = record { tells = refl; file = refl; faults = omega arith };
  rack_keeps = record { tells = refl; faults = omega arith };
  reported = λ tells. refl;
  answer = AnswersRun.not_begun refl refl refl;
}

-- a job has one number of pages
pub same_count : (bytes : List ℕ) (count n : ℕ) → pages_of bytes ≡ Ok count → count_of bytes ≡ Ok n → n ≡ count
same_count bytes count n has counts = let e : ◌≡◌ {A = Result ℕ RunError} (Ok n) (Ok count) = sym counts ∙ counted bytes count has in cc

-- all pages are trapped, and it is looked after the last one
pub looked_after : (source : Sources) (target : Targets) (bytes : List ℕ) (n count : ℕ) (t b c : TrayState) (r r' : RackState) (result : Result (Unit {0}) TraprunError) → n ≡ count → IsJobOf source bytes t → pages_of bytes ≡ Ok count → (every : (pages : List PageParts) × (length pages ≡ count) × PagesDone source target t b r r' pages) → ExpectsEnd n source.inputs b c result → Runs source target t c r r' result
looked_after source target bytes n count t b c r r' result one known has every looks =
    let here : ExpectsEnd (length every.0) source.inputs b c result = subst (λ (m : ℕ). ExpectsEnd m source.inputs b c result) (one ∙ sym every.1) looks in
    looked source target t b c r r' every.0 every.2 (ends_keep n source.inputs b c result looks).0 bytes known (has ∙ ap (λ (m : ℕ). Ok m) (sym every.1)) result here

-- a run that is held is carried out
pub carried : (order : TraprunArgs) (t b t' : TrayState) (r r' : RackState) (run : OpenJob) (result : Result (Unit {0}) TraprunError) → OpensJob order t b (Ok run) → RunsFrom (sources_of (order_in run.order.now)) (targets_of (order_in run.order.now)) run.job b t' r r' result → Runs (sources_of (order_in order)) (targets_of (order_in order)) t t' r r' result
carried order t b t' r r' run result (OpensJob.not_begun is same) runs = absurd (let e : ◌≡◌ {A = Result OpenJob TraprunError} (Ok run) (Err (Whole Memory)) = is in cc)
carried order t b t' r r' run result (OpensJob.stopped error is reads) runs = absurd (let e : ◌≡◌ {A = Result OpenJob TraprunError} (Ok run) (Err error) = is in cc)
carried order t b t' r r' run result (OpensJob.opened other is stored same opened) runs =
    let one : other ≡ run = (let e : ◌≡◌ {A = Result OpenJob TraprunError} (Ok run) (Ok other) = is in cc) in
    let order_is : run.order.now ≡ order = ap (λ (h : OpenJob). h.order.now) (sym one) ∙ same in
    let opened_is : JobOpened (sources_of (order_in order)) run.job t b = subst (λ (h : OpenJob). JobOpened (sources_of (order_in order)) h.job t b) one opened in
    let from : RunsFrom (sources_of (order_in order)) (targets_of (order_in order)) run.job b t' r r' result = subst (λ (o : TraprunArgs). RunsFrom (sources_of (order_in o)) (targets_of (order_in o)) run.job b t' r r' result) order_is runs in
    from t opened_is

-- it is not held
pub not_carried : (order : TraprunArgs) (t b : TrayState) (r : RackState) (error : TraprunError) → OpensJob order t b (Err error) → Runs (sources_of (order_in order)) (targets_of (order_in order)) t b r r (Err error)
not_carried order t b r error (OpensJob.not_begun is same) =
    let one : error ≡ Whole Memory = (let e : ◌≡◌ {A = Result OpenJob TraprunError} (Err error) (Err (Whole Memory)) = is in cc) in
    subst (λ (s : TraprunError). Runs (sources_of (order_in order)) (targets_of (order_in order)) t b r r (Err s)) (sym one)
    (subst (λ (x : TrayState). Runs (sources_of (order_in order)) (targets_of (order_in order)) t x r r (Err (Whole Memory))) (sym same) (not_begun (sources_of (order_in order)) (targets_of (order_in order)) t r))
not_carried order t b r error (OpensJob.stopped other is reads) =
    let one : other ≡ error = (let e : ◌≡◌ {A = Result OpenJob TraprunError} (Err error) (Err other) = is in cc) in
    subst (λ (s : TraprunError). Runs (sources_of (order_in order)) (targets_of (order_in order)) t b r r (Err s)) one (not_stored (sources_of (order_in order)) (targets_of (order_in order)) t b r other reads)
not_carried order t b r error (OpensJob.opened other is stored same opened) = absurd (let e : ◌≡◌ {A = Result OpenJob TraprunError} (Err error) (Ok other) = is in cc)
