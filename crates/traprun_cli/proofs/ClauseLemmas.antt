-- The clauses of the top call, by how the run of the words ended.
use Rattle.std.proofs.Common.{◌≡◌, ◌≢◌, ◌⊎◌, ℕ, suc, ◌<◌, ◌≤◌, List, [], ◌++◌, length, take, Option, Some, None, Result, Ok, Err, Bool, IsTrue, IsFalse, inl, inr, refl, sym, ap, ◌∙◌, subst, arith}
use Rattle.std.proofs.lemmas.List.Elements.{All-cons}
use Rattle.outside.specs.ErrorCases.{Rose, RoseOnce, Asks, AsksPrefix}
use Rattle.outside.specs.Tray.{TrayState}
use Rattle.outside.specs.Rack.{RackState, KeepsRack}
use Rattle.outside.proofs.Names.{asks_before, asks_none, asks_none_of}
use Rattle.outside.proofs.Steps.{rose_after, rose_before}
use Rattle.page_model.specs.declared.parts.PageParts.{PageParts}
use Rattle.page_model.specs.Conditions.{IsPage}
use Rattle.traprun_cli.specs.Clauses.{Mean, Whole, EveryPage, FailsToRead, FailsToWrite, KeepsPages, Success, Usage, RefusesPages, RefusedInput, ReadFault, WriteFault, LeavesPages, FaultLine, Completeness}
use Rattle.traprun_cli.specs.Endings.{AnswersRun, BreaksRun, Closes, EndsRun, EndsWords, Written, error_reads}
use Rattle.traprun_cli.specs.Text.{usage_line}
use Rattle.page_files.specs.Files.{Written as File, put_all}
use Rattle.page_files.specs.Writing.{FinishesAll}
use Rattle.page_files.proofs.Reported.{breaks_error, file_breaks, line_after}
use Rattle.traprun_cli.specs.InHand.{InHand}
use Rattle.traprun_cli.specs.Words.{RunWords, order_of, sources_of, targets_of}
use Rattle.traprun_cli.specs.declared.error.TraprunError.{TraprunError}
use Rattle.traprun_cli.specs.declared.error.TraprunError.TheVariants as stops
use Rattle.traprun_cli.specs.Pages.{run_files, run_names, run_reads, target_at}
use Rattle.traprun_cli.specs.RunVerdicts.{RunVerdict, AllEnd, HasPages, IsRunVerdict, status_of_verdict}
use Rattle.traprun_cli.specs.RunVerdicts.RunVerdict.{Stopped, Out}
use Rattle.traprun_cli.specs.Errors.{RefusesRun, line_of_error, status_of_error}
use Rattle.traprun_cli.proofs.RunVerdictLemmas.{one_run_verdict}
use Rattle.traprun_cli.proofs.SomeRunLemmas.{some_run_verdict}
use Rattle.common_errors.specs.declared.common.CommonError.TheVariants as errors
use Rattle.traprun_cli.proofs.PageLemmas.{some_run_files}
use Rattle.common_errors.specs.CommonErrors.{line_of}
use Rattle.common_errors.specs.Telling.{KeepsFiles, TellsText, TellsAfterFault}
use Rattle.page_files.specs.Inputs.{Sources, name_at}
use Rattle.page_files.specs.Verdicts.{IsFile, Targets, outcome}

-- How a run of these words ended.
data Ending (order : RunWords) (t t' : TrayState) (r r' : RackState) (status : ℕ) : Type 0 where
  done : status ≡ 0 → (t'.faults ≡ t.faults) × (r'.faults ≡ r.faults) → (pages : List PageParts) → Whole order t t' r r' pages → (IsTrue t.tells → HasPages t.file (sources_of order) (length pages) × AllEnd t.file (sources_of order) (length pages) (length (sources_of order).inputs)) → Asks t.asked t'.asked (run_reads (sources_of order) (suc (length pages))) → (IsTrue r.tells → r'.reported ≡ r.reported) → Ending order t t' r r' status
  refused : (error : TraprunError) (pages : List PageParts) → (status ≡ 3) ⊎ (status ≡ 4) → RefusesPages order t t' r r' status error pages → Ending order t t' r r' status
  unread : (error : TraprunError) (pages : List PageParts) → status ≡ 5 → Rose t.faults t'.faults → status ≡ status_of_error error → Whole order t t' r r' pages → Asks t.asked t'.asked (error_reads (sources_of order) (length pages) error) → BreaksRun (sources_of order) (length pages) t t' error → TellsText (line_of_error error) r r' → Ending order t t' r r' status
  unwritten : status ≡ 6 → Rose r.faults r'.faults → t'.faults ≡ t.faults → FailsToWrite order t t' r r' → Ending order t t' r r' status
  no_memory : (pages : List PageParts) → status ≡ 7 → t'.faults ≡ t.faults → AsksPrefix t.asked t'.asked (run_reads (sources_of order) (suc (length pages))) → Whole order t t' r r' pages → TellsText (line_of_error (stops.Whole errors.Memory)) r r' → Ending order t t' r r' status

module _ (order : RunWords) (t t' : TrayState) (r m r' : RackState) (status : ℕ) (rack_keeps : KeepsRack r m) (reported : IsTrue r.tells → m.reported ≡ r.reported) where
  abbrev source : Sources
  source = sources_of order

  abbrev target : Targets
  target = targets_of order

  -- a stop's line, seen from the rack as it was at first, where no call failed before it
  line_from : (text : List ℕ) → m.faults ≡ r.faults → TellsText text m r' → TellsText text r r'
  line_from text calm (inl whole) = inl (whole.0 ∙ calm, λ tells. whole.1 (rack_keeps.tells ∙ tells) ∙ ap (λ (x : List ℕ). x ++ text) (reported tells))
  line_from text calm (inr part) = inr (subst (λ (n : ℕ). RoseOnce n r'.faults) calm part.0, λ tells. (let cut = part.1 (rack_keeps.tells ∙ tells) in (cut.0, cut.1 ∙ ap (λ (x : List ℕ). x ++ take cut.0 text) (reported tells))))

  line_after_write : (text : List ℕ) → RoseOnce r.faults m.faults → TellsText text m r' → TellsAfterFault text r r'
  line_after_write text once line = line_after text r m r' reported rack_keeps.tells once line

  created_then : (names : List (List ℕ)) → Asks r.asked m.asked names → KeepsFiles m r' → Asks r.asked r'.asked names
  created_then names asked files = subst (λ (o : Option (List (List ℕ))). Asks r.asked o names) (sym files.asked) asked

  finished_by : (names : List (List ℕ)) → FinishesAll names r m → KeepsFiles m r' → FinishesAll names r r'
  finished_by names before files tells = subst (λ (o : Option (List (List ℕ))). Asks r.finished o names) (sym files.finished) (before tells)

  -- pages that were written are whole, after what changes no file
  whole_then : (u : TrayState) (pages : List PageParts) → Written source target t u r m pages → InHand source (length pages) t t' → KeepsFiles m r' → Whole order t t' r r' pages
  whole_then u pages written in_hand files = record {
    valid = written.valid;
    made = written.made;
    files = λ tells. files.files (rack_keeps.tells ∙ tells) ∙ written.wrote.whole tells;
    shut = λ some. subst (λ (b : Bool). IsFalse b) (sym files.is_open) (written.wrote.shut (some_run_files target pages some));
    created = created_then (run_names target (length pages)) written.created files;
    finished = finished_by (run_names target (length pages)) written.finished files;
    in_hand = in_hand;
  }

  -- no page was written
  whole_none : m ≡ r → InHand source 0 t t' → KeepsFiles m r' → Whole order t t' r r' []
  whole_none same in_hand files = record {
    valid = λ k d within. absurd (omega arith);
    made = λ tells. tt;
    files = λ tells. files.files (rack_keeps.tells ∙ tells) ∙ ap (λ (x : RackState). x.file) same;
    shut = λ some. absurd (omega arith);
    created = created_then [] (subst (λ (x : RackState). Asks r.asked x.asked []) (sym same) (asks_none r.asked)) files;
    finished = finished_by [] (subst (λ (x : RackState). FinishesAll [] r x) (sym same) (λ tells. asks_none r.finished)) files;
    in_hand = in_hand;
  }

  closes_err : (result : Result (Unit {0}) TraprunError) (error : TraprunError) → result ≡ Err error → Closes result m r' status → RefusesRun error m r' status
  closes_err result error is closed = subst (λ (x : Result (Unit {0}) TraprunError). Closes x m r' status) is closed

  closes_ok : (result : Result (Unit {0}) TraprunError) → result ≡ Ok tt → Closes result m r' status → (r' ≡ m) × (status ≡ 0)
  closes_ok result is closed = subst (λ (x : Result (Unit {0}) TraprunError). Closes x m r' status) is closed

  ended_done : (pages : List PageParts) (u : TrayState) → Written source target t u r m pages → InHand source (length pages) t t' → t'.faults ≡ t.faults → Asks t.asked t'.asked (run_reads source (suc (length pages))) → (IsTrue t.tells → HasPages t.file source (length pages) × AllEnd t.file source (length pages) (length source.inputs)) → (r' ≡ m) × (status ≡ 0) → Ending order t t' r r' status
  ended_done pages u written in_hand calm asked ended closed =
      let same : m ≡ r' = sym closed.0 in
      done closed.1 (calm, subst (λ (x : RackState). x.faults ≡ r.faults) same written.wrote.well) pages
      (record { valid = written.valid; made = written.made; files = subst (λ (x : RackState). IsTrue r.tells → x.file ≡ put_all (run_files target pages) r.file) same written.wrote.whole; shut = λ some. subst (λ (x : RackState). IsFalse x.is_open) same (written.wrote.shut (some_run_files target pages some)); created = subst (λ (x : RackState). Asks r.asked x.asked (run_names target (length pages))) same written.created; finished = subst (λ (x : RackState). FinishesAll (run_names target (length pages)) r x) same written.finished; in_hand = in_hand })
      ended asked (subst (λ (x : RackState). IsTrue r.tells → x.reported ≡ r.reported) same reported)

  ending_of : (result : Result (Unit {0}) TraprunError) → AnswersRun source target t t' r m result → Closes result m r' status → Ending order t t' r r' status
  ending_of result (AnswersRun.not_begun is same_tray same) closed =
      let refuses = closes_err result (stops.Whole errors.Memory) is closed in
      no_memory [] refuses.status_is (ap (λ (x : TrayState). x.faults) same_tray) (subst (λ (x : TrayState). AsksPrefix t.asked x.asked (run_reads source 1)) (sym same_tray) (asks_none_of t.asked (run_reads source 1))) (whole_none same (inr (inl same_tray)) refuses.files) (line_from _ (ap (λ (x : RackState). x.faults) same) refuses.line)
  ending_of result (AnswersRun.unread_job is same rose asked few) closed =
      let refuses = closes_err result (stops.Whole (errors.Read None)) is closed in
      unread (stops.Whole (errors.Read None)) [] refuses.status_is rose refuses.status_is (whole_none same (inl few) refuses.files) asked refl (line_from _ (ap (λ (x : RackState). x.faults) same) refuses.line)
  ending_of result (AnswersRun.no_job_memory is same calm asked few) closed =
      let refuses = closes_err result (stops.Whole errors.Memory) is closed in
      no_memory [] refuses.status_is calm (asks_before t.asked t'.asked (run_reads source 0) source.inputs asked) (whole_none same (inl few) refuses.files) (line_from _ (ap (λ (x : RackState). x.faults) same) refuses.line)
  ending_of result (AnswersRun.done pages u is written calm asked ended in_hand) closed = ended_done pages u written in_hand calm asked ended (closes_ok result is closed)
  ending_of result (AnswersRun.refused pages u error is which written place count asked verdict in_hand) closed =
      let refuses = closes_err result error is closed in
      refused error pages (elim which [ inl three ↦ inl (refuses.status_is ∙ three) | inr four ↦ inr (refuses.status_is ∙ four) ]) (record {
        status_is = refuses.status_is;
        verdict = verdict;
        whole = whole_then u pages written in_hand refuses.files;
        place = place;
        begun = asked;
        count = count;
        line = line_from _ written.wrote.well refuses.line;
      })
  ending_of result (AnswersRun.unread pages u error is five written rose asked breaks in_hand) closed =
      let refuses = closes_err result error is closed in
      unread error pages (refuses.status_is ∙ five) rose refuses.status_is (whole_then u pages written in_hand refuses.files) asked breaks (line_from _ written.wrote.well refuses.line)
  ending_of result (AnswersRun.unwritten pages u mid page file is written keeps wrote_keeps calm asked valid made breaks created once in_hand) closed =
      let refuses = closes_err result (stops.AtPage (length pages) (errors.Write file)) is closed in
      let reason = breaks_error (length target.outputs) (outcome (target_at target (length pages)) page) file mid m breaks in
      let rose : Rose r.faults m.faults = rose_before r.faults mid.faults m.faults keeps.faults reason in
      unwritten refuses.status_is (rose_after r.faults m.faults r'.faults rack_keeps.faults refuses.files.keeps.faults rose) calm (record {
        pages = pages;
        page = page;
        file = file;
        between = mid;
        keeps = keeps;
        wrote = written.wrote;
        created = written.created;
        finished = written.finished;
        begun = asked;
        in_hand = in_hand;
        valid = All-cons IsPage page pages valid written.valid;
        made = made;
        breaks = file_breaks (length target.outputs) (outcome (target_at target (length pages)) page) file mid m r' wrote_keeps breaks refuses.files;
        line = line_after_write _ once refuses.line;
      })
  ending_of result (AnswersRun.no_memory pages u is written calm asked in_hand) closed =
      let refuses = closes_err result (stops.Whole errors.Memory) is closed in
      no_memory pages refuses.status_is calm asked (whole_then u pages written in_hand refuses.files) (line_from _ written.wrote.well refuses.line)

module _ (words : List (List ℕ)) (t t' : TrayState) (r r' : RackState) (status : ℕ) where
  abbrev EndingOf : RunWords → Type 0
  EndingOf order = Ending order t t' r r' status

  ending : (order : RunWords) → EndsRun order t t' r r' status → EndingOf order
  ending order ended = ending_of order t t' r ended.between r' status ended.runs.rack_keeps ended.runs.reported ended.result ended.runs.answer ended.closed

  same_order : (one two : RunWords) → Mean words one → Mean words two → one ≡ two
  same_order one two a b = let same : ◌≡◌ {A = Option RunWords} (Some one) (Some two) = sym a ∙ b in cc

  no_meaning : (order : RunWords) → Mean words order → order_of words ≡ None → ⊥
  no_meaning order means none = let e : ◌≡◌ {A = Option RunWords} None (Some order) = sym none ∙ means in absurd cc

  order_ending : (order : RunWords) → Mean words order → EndsWords words t t' r r' status → EndingOf order
  order_ending order means (EndsWords.no_run none same refuses) = absurd (no_meaning order means none)
  order_ending order means (EndsWords.run other also ended) = subst EndingOf (same_order other order also means) (ending other ended)

  -- what each ending says of its status
  record Statuses (order : RunWords) : Type 0 where
    pub known : (status ≡ 0) ⊎ ((3 ≤ status) × (status ≤ 7))
    pub calm : status ≡ 0 → (t'.faults ≡ t.faults) × (r'.faults ≡ r.faults)
    pub read : status ≡ 5 → Rose t.faults t'.faults
    pub wrote : status ≡ 6 → Rose r.faults r'.faults
    pub still : (status ≡ 6) ⊎ (status ≡ 7) → t'.faults ≡ t.faults
    pub line : status ≢ 0 → status ≢ 6 → (error : TraprunError) × (status ≡ status_of_error error) × TellsText (line_of_error error) r r'
    pub memory : status ≡ 7 → TellsText (line_of errors.Memory) r r'

  statuses_of : (order : RunWords) → EndingOf order → Statuses order
  statuses_of order (done is calm pages whole ended begun reported) = record {
    known = inl is;
    calm = λ s. calm;
    read = λ s. absurd (omega arith);
    wrote = λ s. absurd (omega arith);
    still = λ s. elim s [ inl six ↦ absurd (omega arith) | inr seven ↦ absurd (omega arith) ];
    line = λ some other. absurd (some is);
    memory = λ s. absurd (omega arith);
  }
  statuses_of order (refused error pages (inl three) says) = record {
    known = inr (omega arith, omega arith);
    calm = λ s. absurd (omega arith);
    read = λ s. absurd (omega arith);
    wrote = λ s. absurd (omega arith);
    still = λ s. elim s [ inl six ↦ absurd (omega arith) | inr seven ↦ absurd (omega arith) ];
    line = λ some other. (error, says.status_is, says.line);
    memory = λ s. absurd (omega arith);
  }
  statuses_of order (refused error pages (inr four) says) = record {
    known = inr (omega arith, omega arith);
    calm = λ s. absurd (omega arith);
    read = λ s. absurd (omega arith);
    wrote = λ s. absurd (omega arith);
    still = λ s. elim s [ inl six ↦ absurd (omega arith) | inr seven ↦ absurd (omega arith) ];
    line = λ some other. (error, says.status_is, says.line);
    memory = λ s. absurd (omega arith);
  }
  statuses_of order (unread error pages is rose also whole begun breaks line) = record {
    known = inr (omega arith, omega arith);
    calm = λ s. absurd (omega arith);
    read = λ s. rose;
    wrote = λ s. absurd (omega arith);
    still = λ s. elim s [ inl six ↦ absurd (omega arith) | inr seven ↦ absurd (omega arith) ];
    line = λ some other. (error, also, line);
    memory = λ s. absurd (omega arith);
  }
  statuses_of order (unwritten is rose calm breaking) = record {
    known = inr (omega arith, omega arith);
    calm = λ s. absurd (omega arith);
    read = λ s. absurd (omega arith);
    wrote = λ s. rose;
    still = λ s. calm;
    line = λ some other. absurd (other is);
    memory = λ s. absurd (omega arith);
  }
  statuses_of order (no_memory pages is calm begun whole line) = record {
    known = inr (omega arith, omega arith);
    calm = λ s. absurd (omega arith);
    read = λ s. absurd (omega arith);
    wrote = λ s. absurd (omega arith);
    still = λ s. calm;
    line = λ some other. (stops.Whole errors.Memory, is, line);
    memory = λ s. line;
  }

  abbrev every_page : (order : RunWords) (pages : List PageParts) → Whole order t t' r r' pages → (IsTrue t.tells → HasPages t.file (sources_of order) (length pages) × AllEnd t.file (sources_of order) (length pages) (length (sources_of order).inputs)) → Asks t.asked t'.asked (run_reads (sources_of order) (suc (length pages))) → (IsTrue r.tells → r'.reported ≡ r.reported) → EveryPage order t t' r r'
  every_page order pages whole ended begun reported = record { pages = pages; whole = whole; all = λ tells. (ended tells).0; ended = λ tells. (ended tells).1; begun = begun; silent = reported }

  done_by : (order : RunWords) → EndingOf order → status ≡ 0 → EveryPage order t t' r r'
  done_by order (done is calm pages whole ended begun reported) s = every_page order pages whole ended begun reported
  done_by order (refused error pages (inl three) says) s = absurd (omega arith)
  done_by order (refused error pages (inr four) says) s = absurd (omega arith)
  done_by order (unread error pages is rose also whole begun breaks line) s = absurd (omega arith)
  done_by order (unwritten is rose calm breaking) s = absurd (omega arith)
  done_by order (no_memory pages is calm begun whole line) s = absurd (omega arith)

  -- the verdict where all pages are whole
  out_of : (order : RunWords) (d : EveryPage order t t' r r') → IsTrue t.tells → IsRunVerdict t.file (sources_of order) (targets_of order) (Out (run_files (targets_of order) d.pages))
  out_of order d tells = (record { pages = d.pages; has = d.all tells; made = d.whole.made tells }, d.ended tells, refl)

  calm_of : EndsWords words t t' r r' status → status ≡ 0 → (t'.faults ≡ t.faults) × (r'.faults ≡ r.faults)
  calm_of (EndsWords.no_run none same refuses) s = let e : status ≡ 2 = refuses.status_is in absurd (omega arith)
  calm_of (EndsWords.run order also ended) s = (statuses_of order (ending order ended)).calm s

  pub success : EndsWords words t t' r r' status → Success words t t' r r' status
  success ended = record {
    calm = calm_of ended;
    pages = λ order means s. done_by order (order_ending order means ended) s;
    verdict = λ order means s tells. let d = done_by order (order_ending order means ended) s in (run_files (targets_of order) d.pages, out_of order d tells, d.whole.files);
  }

  usage_only : EndsWords words t t' r r' status → status ≡ 2 → order_of words ≡ None
  usage_only (EndsWords.no_run none same refuses) s = none
  usage_only (EndsWords.run order also ended) s = elim ((statuses_of order (ending order ended)).known) [ inl is ↦ absurd (omega arith) | inr within ↦ absurd (omega (arith, within.0)) ]

  usage_always : EndsWords words t t' r r' status → order_of words ≡ None → (status ≡ 2) × TellsText usage_line r r' × (t'.asked ≡ t.asked) × KeepsFiles r r'
  usage_always (EndsWords.no_run none same refuses) nothing = (refuses.status_is, refuses.line, ap (λ (u : TrayState). u.asked) same, refuses.files)
  usage_always (EndsWords.run order also ended) nothing = absurd (no_meaning order also nothing)

  pub usage_ends : EndsWords words t t' r r' status → Usage words t t' r r' status
  usage_ends ended = record {
    only = usage_only ended;
    always = λ none. (usage_always ended none).0;
    line = λ none. (usage_always ended none).1;
    no_begin = λ none. (usage_always ended none).2;
    no_create = λ none. (usage_always ended none).3.asked;
    files = λ none. (usage_always ended none).3.files;
  }

  only_by : (order : RunWords) → EndingOf order → (status ≡ 3) ⊎ (status ≡ 4) → (error : TraprunError) × (pages : List PageParts) × RefusesPages order t t' r r' status error pages
  only_by order (refused error pages which says) s = (error, pages, says)
  only_by order (done is calm pages whole ended begun reported) (inl s) = absurd (omega arith)
  only_by order (done is calm pages whole ended begun reported) (inr s) = absurd (omega arith)
  only_by order (unread error pages is rose also whole begun breaks line) (inl s) = absurd (omega arith)
  only_by order (unread error pages is rose also whole begun breaks line) (inr s) = absurd (omega arith)
  only_by order (unwritten is rose calm breaking) (inl s) = absurd (omega arith)
  only_by order (unwritten is rose calm breaking) (inr s) = absurd (omega arith)
  only_by order (no_memory pages is calm begun whole line) (inl s) = absurd (omega arith)
  only_by order (no_memory pages is calm begun whole line) (inr s) = absurd (omega arith)

  one_verdict : (order : RunWords) (v w : RunVerdict) → IsRunVerdict t.file (sources_of order) (targets_of order) v → IsRunVerdict t.file (sources_of order) (targets_of order) w → v ≡ w
  one_verdict order v w a b = one_run_verdict t.file (sources_of order) (targets_of order) v w a b

  always_by : (order : RunWords) (error : TraprunError) → EndingOf order → IsTrue t.tells → IsRunVerdict t.file (sources_of order) (targets_of order) (Stopped error) → ¬ Rose t.faults t'.faults → ¬ Rose r.faults r'.faults → (status ≡ status_of_error error) ⊎ (status ≡ 7)
  always_by order error (done is calm pages whole ended begun reported) tells judged still_tray still =
      let d : EveryPage order t t' r r' = every_page order pages whole ended begun reported in
      let same : Out (run_files (targets_of order) pages) ≡ Stopped error = one_verdict order (Out (run_files (targets_of order) pages)) (Stopped error) (out_of order d tells) judged in
      absurd cc
  always_by order error (refused other pages which says) tells judged still_tray still =
      let same : Stopped other ≡ Stopped error = one_verdict order (Stopped other) (Stopped error) (says.verdict tells) judged in
      let one : other ≡ error = cc in
      inl (says.status_is ∙ ap status_of_error one)
  always_by order error (unread other pages is rose also whole begun breaks line) tells judged still_tray still = absurd (still_tray rose)
  always_by order error (unwritten is rose calm breaking) tells judged still_tray still = absurd (still rose)
  always_by order error (no_memory pages is calm begun whole line) tells judged still_tray still = inr is

  pub refused_input : EndsWords words t t' r r' status → RefusedInput words t t' r r' status
  refused_input ended = record {
    only = λ order means s. only_by order (order_ending order means ended) s;
    always = λ order error means tells judged still_tray still. always_by order error (order_ending order means ended) tells judged still_tray still;
  }

  read_by : (order : RunWords) → EndingOf order → status ≡ 5 → FailsToRead order t t' r r' status
  read_by order (unread error pages is rose also whole begun breaks line) s = record { error = error; pages = pages; status_is = also; whole = whole; begun = begun; breaks = breaks; line = line }
  read_by order (done is calm pages whole ended begun reported) s = absurd (omega arith)
  read_by order (refused error pages (inl three) says) s = absurd (omega arith)
  read_by order (refused error pages (inr four) says) s = absurd (omega arith)
  read_by order (unwritten is rose calm breaking) s = absurd (omega arith)
  read_by order (no_memory pages is calm begun whole line) s = absurd (omega arith)

  read_error : EndsWords words t t' r r' status → status ≡ 5 → Rose t.faults t'.faults
  read_error (EndsWords.no_run none same refuses) s = let e : status ≡ 2 = refuses.status_is in absurd (omega arith)
  read_error (EndsWords.run order also ended) s = (statuses_of order (ending order ended)).read s

  calm_still : EndsWords words t t' r r' status → (status ≡ 6) ⊎ (status ≡ 7) → t'.faults ≡ t.faults
  calm_still (EndsWords.no_run none same refuses) s = ap (λ (u : TrayState). u.faults) same
  calm_still (EndsWords.run order also ended) s = (statuses_of order (ending order ended)).still s

  pub read_fault : EndsWords words t t' r r' status → ReadFault words t t' r r' status
  read_fault ended = record {
    reason = read_error ended;
    breaks = λ order means s. read_by order (order_ending order means ended) s;
    calm = calm_still ended;
  }

  broken_by : (order : RunWords) → EndingOf order → status ≡ 6 → FailsToWrite order t t' r r'
  broken_by order (unwritten is rose calm breaking) s = breaking
  broken_by order (done is calm pages whole ended begun reported) s = absurd (omega arith)
  broken_by order (refused error pages (inl three) says) s = absurd (omega arith)
  broken_by order (refused error pages (inr four) says) s = absurd (omega arith)
  broken_by order (unread error pages is rose also whole begun breaks line) s = absurd (omega arith)
  broken_by order (no_memory pages is calm begun whole line) s = absurd (omega arith)

  write_error : EndsWords words t t' r r' status → status ≡ 6 → Rose r.faults r'.faults
  write_error (EndsWords.no_run none same refuses) s = let e : status ≡ 2 = refuses.status_is in absurd (omega arith)
  write_error (EndsWords.run order also ended) s = (statuses_of order (ending order ended)).wrote s

  pub write_fault : EndsWords words t t' r r' status → WriteFault words t t' r r' status
  write_fault ended = record {
    reason = write_error ended;
    breaks = λ order means s. broken_by order (order_ending order means ended) s;
  }

  kept : (order : RunWords) (pages : List PageParts) → Whole order t t' r r' pages → (status ≡ 7 → AsksPrefix t.asked t'.asked (run_reads (sources_of order) (suc (length pages)))) → KeepsPages order t t' r r' status
  kept order pages whole begun = record { pages = pages; whole = whole; begun = begun }

  left_by : (order : RunWords) → EndingOf order → status ≢ 6 → KeepsPages order t t' r r' status
  left_by order (done is calm pages whole ended begun reported) other = kept order pages whole (λ s. absurd (omega arith))
  left_by order (refused error pages (inl three) says) other = kept order pages says.whole (λ s. absurd (omega arith))
  left_by order (refused error pages (inr four) says) other = kept order pages says.whole (λ s. absurd (omega arith))
  left_by order (unread error pages is rose also whole begun breaks line) other = kept order pages whole (λ s. absurd (omega arith))
  left_by order (unwritten is rose calm breaking) other = absurd (other is)
  left_by order (no_memory pages is calm begun whole line) other = kept order pages whole (λ s. begun)

  pub leaves_pages : EndsWords words t t' r r' status → LeavesPages words t t' r r' status
  leaves_pages ended order means other = left_by order (order_ending order means ended) other

  line_by : EndsWords words t t' r r' status → status ≢ 0 → status ≢ 2 → status ≢ 6 → (error : TraprunError) × (status ≡ status_of_error error) × TellsText (line_of_error error) r r'
  line_by (EndsWords.no_run none same refuses) some words_mean other = absurd (words_mean refuses.status_is)
  line_by (EndsWords.run order also ended) some words_mean other = (statuses_of order (ending order ended)).line some other

  memory_line : EndsWords words t t' r r' status → status ≡ 7 → TellsText (line_of errors.Memory) r r'
  memory_line (EndsWords.no_run none same refuses) s = let e : status ≡ 2 = refuses.status_is in absurd (omega arith)
  memory_line (EndsWords.run order also ended) s = (statuses_of order (ending order ended)).memory s

  pub fault_line : EndsWords words t t' r r' status → FaultLine r r' status
  fault_line ended = record { stopped = line_by ended; memory = memory_line ended }

  complete_by : (order : RunWords) (files : List File) → EndingOf order → IsTrue t.tells → IsRunVerdict t.file (sources_of order) (targets_of order) (Out files) → ¬ Rose t.faults t'.faults → ¬ Rose r.faults r'.faults → (status ≡ 0) ⊎ (status ≡ 7)
  complete_by order files (done is calm pages whole ended begun reported) tells judged still_tray still = inl is
  complete_by order files (refused error pages which says) tells judged still_tray still =
      let same : Stopped error ≡ Out files = one_verdict order (Stopped error) (Out files) (says.verdict tells) judged in
      absurd cc
  complete_by order files (unread error pages is rose also whole begun breaks line) tells judged still_tray still = absurd (still_tray rose)
  complete_by order files (unwritten is rose calm breaking) tells judged still_tray still = absurd (still rose)
  complete_by order files (no_memory pages is calm begun whole line) tells judged still_tray still = inr is

  decided_by : (order : RunWords) (verdict : RunVerdict) → EndingOf order → IsTrue t.tells → IsRunVerdict t.file (sources_of order) (targets_of order) verdict → ¬ Rose t.faults t'.faults → ¬ Rose r.faults r'.faults → (status ≡ status_of_verdict verdict) ⊎ (status ≡ 7)
  decided_by order (Stopped error) ending tells judged still_tray still = always_by order error ending tells judged still_tray still
  decided_by order (Out files) ending tells judged still_tray still = complete_by order files ending tells judged still_tray still

  decided : (order : RunWords) → EndingOf order → IsTrue t.tells → IsFile t.file (sources_of order).job → ((k : ℕ) → k < length (sources_of order).inputs → IsFile t.file (name_at (sources_of order).inputs k)) → ¬ Rose t.faults t'.faults → ¬ Rose r.faults r'.faults → (verdict : RunVerdict) × IsRunVerdict t.file (sources_of order) (targets_of order) verdict × ((status ≡ status_of_verdict verdict) ⊎ (status ≡ 7))
  decided order ending tells job_there plates_there still_tray still =
      let some = some_run_verdict t.file (sources_of order) (targets_of order) job_there plates_there in
      (some.0, some.1, decided_by order some.0 ending tells some.1 still_tray still)

  statuses : EndsWords words t t' r r' status → (status ≡ 0) ⊎ ((2 ≤ status) × (status ≤ 7))
  statuses (EndsWords.no_run none same refuses) = let e : status ≡ 2 = refuses.status_is in inr (omega arith, omega arith)
  statuses (EndsWords.run order also ended) = elim ((statuses_of order (ending order ended)).known) [ inl is ↦ inl is | inr within ↦ inr (omega (arith, within.0), within.1) ]

  pub completeness : EndsWords words t t' r r' status → Completeness words t t' r r' status
  completeness ended = record {
    pages = λ order files means tells judged still_tray still. complete_by order files (order_ending order means ended) tells judged still_tray still;
    decided = λ order means tells job_there plates_there still_tray still. decided order (order_ending order means ended) tells job_there plates_there still_tray still;
    statuses = statuses ended;
  }
