-- The clauses of the top call, by how the check of the words ended.
use Rattle.std.proofs.Common.{◌≡◌, ◌≢◌, ◌⊎◌, ℕ, ◌≤◌, List, ◌++◌, take, Option, Some, None, Result, Ok, Err, IsTrue, inl, inr, refl, sym, ap, ◌∙◌, subst, arith}
use Rattle.outside.specs.ErrorCases.{Rose, RoseOnce, Asks}
use Rattle.outside.proofs.Steps.{rose_once}
use Rattle.outside.specs.Tray.{TrayState}
use Rattle.outside.specs.Rack.{RackState}
use Rattle.page_model.specs.declared.parts.PageParts.{PageParts}
use Rattle.page_files.specs.Inputs.{Sources, Makes, one_page, read_files}
use Rattle.page_files.specs.Gathering.{BreaksReading, IsMade, files_to}
use Rattle.page_files.specs.Steps.{PassesNoFault}
use Rattle.page_files.proofs.GatherLemmas.{refused_count}
use Rattle.presscheck_cli.specs.Clauses.{Mean, AreRefused, Success, Usage, RefusesFiles, RefusedInput, ReadFault, TellFault, FaultLine, Completeness, no_files}
use Rattle.presscheck_cli.specs.Endings.{ChecksPage, AnswersTell, Closes, EndsCheck, Ends}
use Rattle.presscheck_cli.specs.Text.{text_of, usage_line}
use Rattle.presscheck_cli.specs.Words.{CheckWords, check_of, sources_of}
use Rattle.common_errors.specs.declared.common.CommonError.{CommonError}
use Rattle.common_errors.specs.declared.common.CommonError.TheVariants as errors
use Rattle.common_errors.specs.CommonErrors.{status_of, line_of}
use Rattle.common_errors.specs.Telling.{TellsText, KeepsFiles}
use Rattle.page_files.specs.Verdicts.{Verdict, outcome}
use Rattle.page_files.specs.Verdicts.Verdict.{Refused, Out}
use Rattle.page_files.proofs.VerdictLemmas.{PlateLaws, one_verdict}

-- How a check of these files ended.
data Ending (source : Sources) (radius : ℕ) (t t' : TrayState) (r r' : RackState) (status : ℕ) : Type 0 where
  done : status ≡ 0 → (t'.faults ≡ t.faults) × (r'.faults ≡ r.faults) → (page : PageParts) → IsMade source t page → Asks t.asked t'.asked (read_files source) → (IsTrue r.tells → r'.reported ≡ r.reported ++ text_of radius page) → Ending source radius t t' r r' status
  untold : status ≡ 6 → t'.faults ≡ t.faults → RoseOnce r.faults r'.faults → (page : PageParts) → IsMade source t page → Asks t.asked t'.asked (read_files source) → (IsTrue r.tells → (count : ℕ) × (r'.reported ≡ r.reported ++ take count (text_of radius page))) → Ending source radius t t' r r' status
  refused : (error : CommonError) → status ≡ status_of error → (status ≡ 3) ⊎ (status ≡ 4) → (IsTrue t.tells → AreRefused t.file source error) → Asks t.asked t'.asked (files_to source error) → PassesNoFault {T = Unit {0}} t t' (Err error) → TellsText (line_of error) r r' → Ending source radius t t' r r' status
  unread : (file : Option ℕ) → status ≡ 5 → Rose t.faults t'.faults → Asks t.asked t'.asked (files_to source (errors.Read file)) → BreaksReading source file t t' → TellsText (line_of (errors.Read file)) r r' → Ending source radius t t' r r' status
  no_memory : status ≡ 7 → t'.faults ≡ t.faults → TellsText (line_of errors.Memory) r r' → Ending source radius t t' r r' status

module _ (source : Sources) (radius : ℕ) (t t' : TrayState) (r r' : RackState) (status : ℕ) where
  -- a text that is that of a page
  reported_of : (text : List ℕ) (page : PageParts) → text ≡ text_of radius page → t'.faults ≡ t.faults → IsMade source t page → Asks t.asked t'.asked (read_files source) → AnswersTell text r r' status → Ending source radius t t' r r' status
  reported_of text page same calm made begun (AnswersTell.reported is still whole) =
      done is (calm, still) page made begun (λ tells. whole tells ∙ ap (λ (x : List ℕ). r.reported ++ x) same)
  reported_of text page same calm made begun (AnswersTell.reported_in_part is once part) =
      untold is calm once page made begun (λ tells. let p = part tells in (p.0, p.1 ∙ ap (λ (x : List ℕ). r.reported ++ take p.0 x) same))

  ending_of : (result : Result (List ℕ) CommonError) → ChecksPage source radius t t' result → Closes result r r' status → Ending source radius t t' r r' status
  ending_of (Ok text) checked closed =
      let page = checked.answer.0 in
      reported_of text page checked.answer.3 checked.count checked.answer.1 checked.answer.2 closed.answer
  ending_of (Err (errors.Job fault)) checked closed =
      refused (errors.Job fault) closed.status_is (inl closed.status_is) checked.answer.1 checked.answer.0 (refused_count (List ℕ) (Unit {0}) t t' (errors.Job fault) checked.count) closed.line
  ending_of (Err (errors.NoDetails k)) checked closed =
      refused (errors.NoDetails k) closed.status_is (inl closed.status_is) checked.answer.1 checked.answer.0 (refused_count (List ℕ) (Unit {0}) t t' (errors.NoDetails k) checked.count) closed.line
  ending_of (Err (errors.Plate k fault)) checked closed =
      refused (errors.Plate k fault) closed.status_is (inr closed.status_is) checked.answer.1 checked.answer.0 (refused_count (List ℕ) (Unit {0}) t t' (errors.Plate k fault) checked.count) closed.line
  ending_of (Err (errors.Page fault)) checked closed =
      refused (errors.Page fault) closed.status_is (inr closed.status_is) checked.answer.1 checked.answer.0 (refused_count (List ℕ) (Unit {0}) t t' (errors.Page fault) checked.count) closed.line
  ending_of (Err (errors.Read None)) checked closed = unread None closed.status_is checked.answer.0 checked.answer.1 tt closed.line
  ending_of (Err (errors.Read (Some k))) checked closed = unread (Some k) closed.status_is checked.answer.0 checked.answer.1 checked.answer.2 closed.line
  ending_of (Err errors.Memory) checked closed = no_memory closed.status_is checked.count closed.line
  ending_of (Err errors.Usage) checked closed = absurd checked.answer
  ending_of (Err (errors.Write file)) checked closed = absurd checked.answer

  -- a page that is made is no error, and there is one error
  made_or_refused : PlateLaws one_page → (page : PageParts) (error : CommonError) → Makes one_page t.file source (Ok page) → AreRefused t.file source error → ⊥
  made_or_refused laws page error made is =
      let same : ◌≡◌ {A = Verdict} (Out (outcome no_files page)) (Refused error) = one_verdict one_page laws t.file source no_files (Out (outcome no_files page)) (Refused error) (page, made, refl) is in
      absurd cc

  one_reason : PlateLaws one_page → (one two : CommonError) → AreRefused t.file source one → AreRefused t.file source two → one ≡ two
  one_reason laws one two a b =
      let same : ◌≡◌ {A = Verdict} (Refused one) (Refused two) = one_verdict one_page laws t.file source no_files (Refused one) (Refused two) a b in
      cc

  always_by : PlateLaws one_page → (error : CommonError) → Ending source radius t t' r r' status → IsTrue t.tells → AreRefused t.file source error → ¬ Rose t.faults t'.faults → (status ≡ status_of error) ⊎ (status ≡ 7)
  always_by laws error (done is calm page made begun reported) tells judged still_tray = absurd (made_or_refused laws page error (made.1 tells) judged)
  always_by laws error (untold is calm once page made begun part) tells judged still_tray = absurd (made_or_refused laws page error (made.1 tells) judged)
  always_by laws error (refused other is which verdict begun count line) tells judged still_tray = inl (is ∙ ap (λ (o : CommonError). status_of o) (one_reason laws other error (verdict tells) judged))
  always_by laws error (unread file is rose begun breaks line) tells judged still_tray = absurd (still_tray rose)
  always_by laws error (no_memory is calm line) tells judged still_tray = inr is

  complete_by : PlateLaws one_page → (page : PageParts) → Ending source radius t t' r r' status → IsTrue t.tells → Makes one_page t.file source (Ok page) → ¬ Rose t.faults t'.faults → ¬ Rose r.faults r'.faults → (status ≡ 0) ⊎ (status ≡ 7)
  complete_by laws page (done is calm other made begun reported) tells makes still_tray still = inl is
  complete_by laws page (untold is calm once other made begun part) tells makes still_tray still = absurd (still (rose_once r.faults r'.faults once))
  complete_by laws page (refused error is which verdict begun count line) tells makes still_tray still = absurd (made_or_refused laws page error makes (verdict tells))
  complete_by laws page (unread file is rose begun breaks line) tells makes still_tray still = absurd (still_tray rose)
  complete_by laws page (no_memory is calm line) tells makes still_tray still = inr is

  done_by : Ending source radius t t' r r' status → status ≡ 0 → ((t'.faults ≡ t.faults) × (r'.faults ≡ r.faults)) × ((page : PageParts) × IsMade source t page × (IsTrue r.tells → r'.reported ≡ r.reported ++ text_of radius page)) × Asks t.asked t'.asked (read_files source)
  done_by (done is calm page made begun reported) s = (calm, (page, made, reported), begun)
  done_by (untold is calm once page made begun part) s = absurd (omega arith)
  done_by (refused error is (inl which) verdict begun count line) s = absurd (omega arith)
  done_by (refused error is (inr which) verdict begun count line) s = absurd (omega arith)
  done_by (unread file is rose begun breaks line) s = absurd (omega arith)
  done_by (no_memory is calm line) s = absurd (omega arith)

  read_by : Ending source radius t t' r r' status → status ≡ 5 → Rose t.faults t'.faults × ((file : Option ℕ) × Asks t.asked t'.asked (files_to source (errors.Read file)) × BreaksReading source file t t' × TellsText (line_of (errors.Read file)) r r')
  read_by (unread file is rose begun breaks line) s = (rose, (file, begun, breaks, line))
  read_by (done is calm page made begun reported) s = absurd (omega arith)
  read_by (untold is calm once page made begun part) s = absurd (omega arith)
  read_by (refused error is (inl which) verdict begun count line) s = absurd (omega arith)
  read_by (refused error is (inr which) verdict begun count line) s = absurd (omega arith)
  read_by (no_memory is calm line) s = absurd (omega arith)

  untold_by : Ending source radius t t' r r' status → status ≡ 6 → RoseOnce r.faults r'.faults × (t'.faults ≡ t.faults) × Asks t.asked t'.asked (read_files source) × ((page : PageParts) × IsMade source t page × (IsTrue r.tells → (count : ℕ) × (r'.reported ≡ r.reported ++ take count (text_of radius page))))
  untold_by (untold is calm once page made begun part) s = (once, calm, begun, (page, made, part))
  untold_by (done is calm page made begun reported) s = absurd (omega arith)
  untold_by (refused error is (inl which) verdict begun count line) s = absurd (omega arith)
  untold_by (refused error is (inr which) verdict begun count line) s = absurd (omega arith)
  untold_by (unread file is rose begun breaks line) s = absurd (omega arith)
  untold_by (no_memory is calm line) s = absurd (omega arith)

  memory_by : Ending source radius t t' r r' status → status ≡ 7 → t'.faults ≡ t.faults
  memory_by (no_memory is calm line) s = calm
  memory_by (done is calm page made begun reported) s = calm.0
  memory_by (untold is calm once page made begun part) s = calm
  memory_by (refused error is (inl which) verdict begun count line) s = absurd (omega arith)
  memory_by (refused error is (inr which) verdict begun count line) s = absurd (omega arith)
  memory_by (unread file is rose begun breaks line) s = absurd (omega arith)

  line_by : Ending source radius t t' r r' status → status ≢ 0 → status ≢ 6 → (error : CommonError) × (status ≡ status_of error) × TellsText (line_of error) r r'
  line_by (done is calm page made begun reported) some other = absurd (some is)
  line_by (untold is calm once page made begun part) some other = absurd (other is)
  line_by (refused error is which verdict begun count line) some other = (error, is, line)
  line_by (unread file is rose begun breaks line) some other = (errors.Read file, is, line)
  line_by (no_memory is calm line) some other = (errors.Memory, is, line)

  -- no check ends with the status of words that are none
  status_by : Ending source radius t t' r r' status → (status ≡ 0) ⊎ ((3 ≤ status) × (status ≤ 7))
  status_by (done is calm page made begun reported) = inl is
  status_by (untold is calm once page made begun part) = inr (omega arith, omega arith)
  status_by (refused error is (inl which) verdict begun count line) = inr (omega arith, omega arith)
  status_by (refused error is (inr which) verdict begun count line) = inr (omega arith, omega arith)
  status_by (unread file is rose begun breaks line) = inr (omega arith, omega arith)
  status_by (no_memory is calm line) = inr (omega arith, omega arith)

module _ (words : List (List ℕ)) (t t' : TrayState) (r r' : RackState) (status : ℕ) where
  -- how the check that the words mean ended
  abbrev EndingOf : CheckWords → Type 0
  EndingOf check = Ending (sources_of check) check.radius t t' r r' status

  ending : (check : CheckWords) → EndsCheck check t t' r r' status → EndingOf check
  ending check ended = ending_of (sources_of check) check.radius t t' r r' status ended.result ended.checked ended.closed

  same_check : (one two : CheckWords) → Mean words one → Mean words two → one ≡ two
  same_check one two a b = let same : ◌≡◌ {A = Option CheckWords} (Some one) (Some two) = sym a ∙ b in cc

  no_meaning : (check : CheckWords) → Mean words check → check_of words ≡ None → ⊥
  no_meaning check means none = let e : ◌≡◌ {A = Option CheckWords} None (Some check) = sym none ∙ means in absurd cc

  check_ended : (check : CheckWords) → Mean words check → Ends words t t' r r' status → EndsCheck check t t' r r' status
  check_ended check means (Ends.no_check none same refuses) = absurd (no_meaning check means none)
  check_ended check means (Ends.check other also ended) = subst (λ (c : CheckWords). EndsCheck c t t' r r' status) (same_check other check also means) ended

  check_ending : (check : CheckWords) → Mean words check → Ends words t t' r r' status → EndingOf check
  check_ending check means ended = ending check (check_ended check means ended)

  calm_of : Ends words t t' r r' status → status ≡ 0 → (t'.faults ≡ t.faults) × (r'.faults ≡ r.faults)
  calm_of (Ends.no_check none same refuses) s = let e : status ≡ 2 = refuses.status_is in absurd (omega arith)
  calm_of (Ends.check check also ended) s = (done_by (sources_of check) check.radius t t' r r' status (ending check ended) s).0

  pub success : Ends words t t' r r' status → Success words t t' r r' status
  success ended = record {
    calm = calm_of ended;
    reported = λ check means s. (done_by (sources_of check) check.radius t t' r r' status (check_ending check means ended) s).1;
    begun = λ check means s. (done_by (sources_of check) check.radius t t' r r' status (check_ending check means ended) s).2;
  }

  usage_only : Ends words t t' r r' status → status ≡ 2 → check_of words ≡ None
  usage_only (Ends.no_check none same refuses) s = none
  usage_only (Ends.check check also ended) s = elim (status_by (sources_of check) check.radius t t' r r' status (ending check ended)) [ inl is ↦ absurd (omega arith) | inr within ↦ absurd (omega (arith, within.0)) ]

  usage_always : Ends words t t' r r' status → check_of words ≡ None → (status ≡ 2) × TellsText usage_line r r' × (t'.asked ≡ t.asked)
  usage_always (Ends.no_check none same refuses) nothing = (refuses.status_is, refuses.line, ap (λ (u : TrayState). u.asked) same)
  usage_always (Ends.check check also ended) nothing = absurd (no_meaning check also nothing)

  pub usage_ends : Ends words t t' r r' status → Usage words t t' r r' status
  usage_ends ended = record {
    only = usage_only ended;
    always = λ none. (usage_always ended none).0;
    line = λ none. (usage_always ended none).1;
    no_begin = λ none. (usage_always ended none).2;
  }

  only_by : (check : CheckWords) → EndingOf check → (status ≡ 3) ⊎ (status ≡ 4) → (error : CommonError) × RefusesFiles check t t' r r' status error
  only_by check (refused error is which verdict begun count line) s = (error, record { status_is = is; verdict = verdict; begun = begun; count = count; line = line })
  only_by check (done is calm page made begun reported) (inl s) = absurd (omega arith)
  only_by check (done is calm page made begun reported) (inr s) = absurd (omega arith)
  only_by check (untold is calm once page made begun part) (inl s) = absurd (omega arith)
  only_by check (untold is calm once page made begun part) (inr s) = absurd (omega arith)
  only_by check (unread file is rose begun breaks line) (inl s) = absurd (omega arith)
  only_by check (unread file is rose begun breaks line) (inr s) = absurd (omega arith)
  only_by check (no_memory is calm line) (inl s) = absurd (omega arith)
  only_by check (no_memory is calm line) (inr s) = absurd (omega arith)

  pub refused_input : PlateLaws one_page → Ends words t t' r r' status → RefusedInput words t t' r r' status
  refused_input laws ended = record {
    only = λ check means s. only_by check (check_ending check means ended) s;
    always = λ check error means tells judged still. always_by (sources_of check) check.radius t t' r r' status laws error (check_ending check means ended) tells judged still;
  }

  read_error : Ends words t t' r r' status → status ≡ 5 → Rose t.faults t'.faults
  read_error (Ends.no_check none same refuses) s = let e : status ≡ 2 = refuses.status_is in absurd (omega arith)
  read_error (Ends.check check also ended) s = (read_by (sources_of check) check.radius t t' r r' status (ending check ended) s).0

  calm_memory : Ends words t t' r r' status → status ≡ 7 → t'.faults ≡ t.faults
  calm_memory (Ends.no_check none same refuses) s = ap (λ (u : TrayState). u.faults) same
  calm_memory (Ends.check check also ended) s = memory_by (sources_of check) check.radius t t' r r' status (ending check ended) s

  pub read_fault : Ends words t t' r r' status → ReadFault words t t' r r' status
  read_fault ended = record {
    reason = read_error ended;
    breaks = λ check means s. (read_by (sources_of check) check.radius t t' r r' status (check_ending check means ended) s).1;
    asked = λ check means. (check_ended check means ended).checked.asked;
    in_hand = λ check means. (check_ended check means ended).checked.in_hand;
    calm = calm_memory ended;
  }

  tell_error : Ends words t t' r r' status → status ≡ 6 → RoseOnce r.faults r'.faults × (t'.faults ≡ t.faults)
  tell_error (Ends.no_check none same refuses) s = let e : status ≡ 2 = refuses.status_is in absurd (omega arith)
  tell_error (Ends.check check also ended) s = let by = untold_by (sources_of check) check.radius t t' r r' status (ending check ended) s in (by.0, by.1)

  pub tell_fault : Ends words t t' r r' status → TellFault words t t' r r' status
  tell_fault ended = record {
    reason = λ s. (tell_error ended s).0;
    calm = λ s. (tell_error ended s).1;
    begun = λ check means s. (untold_by (sources_of check) check.radius t t' r r' status (check_ending check means ended) s).2;
    part = λ check means s. (untold_by (sources_of check) check.radius t t' r r' status (check_ending check means ended) s).3;
  }

  closed_files : (result : Result (List ℕ) CommonError) → Closes result r r' status → KeepsFiles r r'
  closed_files (Ok text) closed = closed.files
  closed_files (Err error) closed = closed.files

  pub keeps_files : Ends words t t' r r' status → KeepsFiles r r'
  keeps_files (Ends.no_check none same refuses) = refuses.files
  keeps_files (Ends.check check also ended) = closed_files ended.result ended.closed

  pub fault_line : Ends words t t' r r' status → FaultLine r r' status
  fault_line (Ends.no_check none same refuses) some other words_mean = absurd (words_mean refuses.status_is)
  fault_line (Ends.check check also ended) some other words_mean = line_by (sources_of check) check.radius t t' r r' status (ending check ended) some other

  statuses : Ends words t t' r r' status → (status ≡ 0) ⊎ ((2 ≤ status) × (status ≤ 7))
  statuses (Ends.no_check none same refuses) = let e : status ≡ 2 = refuses.status_is in inr (omega arith, omega arith)
  statuses (Ends.check check also ended) = elim (status_by (sources_of check) check.radius t t' r r' status (ending check ended)) [ inl is ↦ inl is | inr within ↦ inr (omega (arith, within.0), within.1) ]

  pub completeness : PlateLaws one_page → Ends words t t' r r' status → Completeness words t t' r r' status
  completeness laws ended = record {
    page = λ check page means tells makes still_tray still. complete_by (sources_of check) check.radius t t' r r' status laws page (check_ending check means ended) tells makes still_tray still;
    statuses = statuses ended;
  }
