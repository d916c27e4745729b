-- The clauses of the top call, by how it ends.
use Rattle.std.proofs.Common.{◌≡◌, ◌≢◌, ◌⊎◌, ◌∙◌, ℕ, ◌+◌, List, [], ◌∷◌, ◌++◌, length, Option, Some, None, IsTrue, inl, inr, refl, sym, ap, subst, arith, append_assoc, append-nil}
use Rattle.outside.specs.ErrorCases.{Rose, Asks}
use Rattle.outside.specs.Rack.{RackState}
use Rattle.outside.specs.Tray.{TrayState}
use Rattle.outside.proofs.Names.{asks_none, asks_then}
use Rattle.outside.proofs.Steps.{rose_before, rose_once, reported_on}
use Rattle.page_model.specs.declared.parts.PageParts.{PageParts}
use Rattle.page_model.specs.Counts.{page_counts}
use Rattle.page_model.specs.Page.{plates}
use Rattle.page_model.specs.Tints.{trapped_planes}
use Rattle.page_files.specs.Writing.{FinishesAll, WritesAll}
use Rattle.page_files.proofs.Steps.{page_names}
use Rattle.job_list.specs.Lines.{LineParts}
use Rattle.trap_pool.specs.declared.outcome.Outcome.{Outcome}
use Rattle.trap_pool.specs.declared.outcome.Outcome.TheVariants as outcomes
use Rattle.trap_pool.specs.Pools.{target_of}
use Rattle.trap_report.specs.Report.{report_of}
use Rattle.page_files.specs.Verdicts.{Targets, outcome, written_names}
use Rattle.trap_pool.specs.Replies.{ReplyParts}
use Rattle.trappool_cli.specs.Answers.{AllHaveOuts, AnswersAll, AnswersOne, AnswersSaid, status_with}
use Rattle.trappool_cli.proofs.Outs.{made_outs}
use Rattle.trap_report.proofs.ReportLemmas.{as_many_planes}
use Rattle.trappool_cli.specs.Clauses.{AnswersLines, IsAnswer, IsStatus, LeavesFiles, RefusedList, Success, Untold, Usage, all_written, done_text}
use Rattle.trappool_cli.specs.Endings.{Ends, fault_status}
use Rattle.trappool_cli.specs.Endings.Ends.{answered, no_list, no_words}
use Rattle.trappool_cli.specs.Text.{job_line}
use Rattle.trappool_cli.specs.Words.{AskedWords, asked_of}
use Rattle.trappool_cli.specs.declared.answering.LineStatus.{LineStatus}
use Rattle.trappool_cli.specs.declared.answering.LineStatus.TheVariants as said
use Rattle.trappool_cli.specs.declared.lines.TrappoolError.{TrappoolError}
use Rattle.trappool_cli.specs.declared.lines.TrappoolError.TheVariants.{BadLine, NotRead, Memory}

-- a line is told done, or the status is that of a refused line
kind : (what : LineStatus) → ((what ≡ said.Done) × (status_with 0 what ≡ 0)) ⊎ (status_with 0 what ≡ 9)
kind said.Done = inl (refl, refl)
kind (said.Refused error) = inr refl
kind said.TooLarge = inr refl

still_refused : (what : LineStatus) → status_with 9 what ≡ 9
still_refused said.Done = refl
still_refused (said.Refused error) = refl
still_refused said.TooLarge = refl

not_six : (so_far : ℕ) (what : LineStatus) → (so_far ≡ 6 → ⊥) → status_with so_far what ≡ 6 → ⊥
not_six so_far said.Done never is = never is
not_six so_far (said.Refused error) never is = absurd (omega arith)
not_six so_far said.TooLarge never is = absurd (omega arith)

-- the statuses after a refused line
refused_on : (k : ℕ) (lines : List LineParts) (replies : List ReplyParts) (a b : RackState) (status : ℕ) → AnswersAll k 9 lines replies a b status → (status ≡ 9) ⊎ (status ≡ 6)
refused_on k [] [] a b status all = inl all.1
refused_on k [] (reply ∷ replies) a b status all = absurd all
refused_on k (line ∷ lines) [] a b status all = absurd all
refused_on k (line ∷ lines) (reply ∷ replies) a b status (inl one) = refused_on (k + 1) lines replies one.1 b status (subst (λ (n : ℕ). AnswersAll (k + 1) n lines replies one.1 b status) (still_refused one.0) one.3)
refused_on k (line ∷ lines) (reply ∷ replies) a b status (inr untold) = inr untold.1

pub answer_status : (k : ℕ) (lines : List LineParts) (replies : List ReplyParts) (a b : RackState) (status : ℕ) → AnswersAll k 0 lines replies a b status → IsAnswer status
answer_status k [] [] a b status all = inl all.1
answer_status k [] (reply ∷ replies) a b status all = absurd all
answer_status k (line ∷ lines) [] a b status all = absurd all
answer_status k (line ∷ lines) (reply ∷ replies) a b status (inl one) = elim (kind one.0) [
  | inl done ↦ answer_status (k + 1) lines replies one.1 b status (subst (λ (n : ℕ). AnswersAll (k + 1) n lines replies one.1 b status) done.1 one.3)
  | inr bad ↦ inr (refused_on (k + 1) lines replies one.1 b status (subst (λ (n : ℕ). AnswersAll (k + 1) n lines replies one.1 b status) bad one.3))
]
answer_status k (line ∷ lines) (reply ∷ replies) a b status (inr untold) = inr (inr untold.1)

-- A line is not told only where the rack has a fault.
pub rose_in : (k so_far : ℕ) (lines : List LineParts) (replies : List ReplyParts) (a b : RackState) (status : ℕ) → (so_far ≡ 6 → ⊥) → AnswersAll k so_far lines replies a b status → status ≡ 6 → Rose a.faults b.faults
rose_in k so_far [] [] a b status never all six = absurd (never (sym all.1 ∙ six))
rose_in k so_far [] (reply ∷ replies) a b status never all six = absurd all
rose_in k so_far (line ∷ lines) [] a b status never all six = absurd all
rose_in k so_far (line ∷ lines) (reply ∷ replies) a b status never (inl one) six =
    let files = one.2.1.keeps.faults in
    let calm = one.2.2.calm in
    rose_before a.faults one.1.faults b.faults (omega arith) (rose_in (k + 1) (status_with so_far one.0) lines replies one.1 b status (not_six so_far one.0 never) one.3 six)
rose_in k so_far (line ∷ lines) (reply ∷ replies) a b status never (inr untold) six = rose_before a.faults untold.0.1.faults b.faults untold.0.2.keeps.faults (rose_once untold.0.1.faults b.faults untold.0.3.once)

-- what one line that is done adds to the told text
reported_one : (k : ℕ) (line : LineParts) (reply : ReplyParts) (a b : RackState) (what : LineStatus) → what ≡ said.Done → AnswersOne k line reply a b (Some what) → IsTrue a.tells → IsTrue b.tells × (b.reported ≡ a.reported ++ job_line k said.Done)
reported_one k line reply a b what is one tells =
    let kept = reported_on a one.0 one.1.keeps tells in (
      reported_on one.0 b one.2.files.keeps kept,
      one.2.reported kept ∙ ap (λ (t : List ℕ). t ++ job_line k what) (one.1.reported tells) ∙ ap (λ (w : LineStatus). a.reported ++ job_line k w) is,
    )

reported_done : (k : ℕ) (lines : List LineParts) (replies : List ReplyParts) (a b : RackState) (status : ℕ) → AnswersAll k 0 lines replies a b status → status ≡ 0 → IsTrue a.tells → b.reported ≡ a.reported ++ done_text k lines
reported_done k [] [] a b status all is tells = ap (λ (r : RackState). r.reported) all.0 ∙ sym (append-nil a.reported)
reported_done k [] (reply ∷ replies) a b status all is tells = absurd all
reported_done k (line ∷ lines) [] a b status all is tells = absurd all
reported_done k (line ∷ lines) (reply ∷ replies) a b status (inl one) is tells = elim (kind one.0) [
  | inl done ↦
      let first = reported_one k line reply a one.1 one.0 done.0 one.2 tells in
      reported_done (k + 1) lines replies one.1 b status (subst (λ (n : ℕ). AnswersAll (k + 1) n lines replies one.1 b status) done.1 one.3) is first.0
      ∙ ap (λ (t : List ℕ). t ++ done_text (k + 1) lines) first.1
      ∙ append_assoc a.reported (job_line k said.Done) (done_text (k + 1) lines)
  | inr bad ↦ elim (refused_on (k + 1) lines replies one.1 b status (subst (λ (n : ℕ). AnswersAll (k + 1) n lines replies one.1 b status) bad one.3)) [
    | inl nine ↦ absurd (omega arith)
    | inr six ↦ absurd (omega arith)
  ]
]
reported_done k (line ∷ lines) (reply ∷ replies) a b status (inr untold) is tells = let six = untold.1 in absurd (omega arith)

-- The files of a page that is written whole are finished.
page_finished : (target : Targets) (page : PageParts) (a b : RackState) → plates page ≡ length target.outputs → WritesAll (outcome target page) a b → FinishesAll (written_names target) a b
page_finished target page a b outs wrote = subst (λ (names : List (List ℕ)). FinishesAll names a b)
    (page_names target.outputs (trapped_planes page) target.report (report_of page (page_counts page)) (as_many_planes page ∙ outs)) wrote.finished

said_finished : (target : Targets) (page : Option PageParts) (outcome : Outcome) (a b : RackState) → ((made : PageParts) → page ≡ Some made → plates made ≡ length target.outputs) → AnswersSaid target page outcome a b said.Done → FinishesAll (written_names target) a b
said_finished target (Some page) (outcomes.Done trapped) a b outs answer = page_finished target page a b (outs page refl) answer
said_finished target (Some page) (outcomes.Refused error) a b outs answer = absurd answer
said_finished target (Some page) outcomes.TooLarge a b outs answer = absurd answer
said_finished target None (outcomes.Done trapped) a b outs answer = absurd answer
said_finished target None (outcomes.Refused error) a b outs answer = absurd answer
said_finished target None outcomes.TooLarge a b outs answer = absurd answer

-- So are those of all lines, where each is told done.
finished_done : (k : ℕ) (lines : List LineParts) (replies : List ReplyParts) (a b : RackState) (status : ℕ) → AllHaveOuts lines replies → AnswersAll k 0 lines replies a b status → status ≡ 0 → FinishesAll (all_written lines) a b
finished_done k [] [] a b status outs all is tells = subst (λ (r : RackState). Asks a.finished r.finished []) (sym all.0) (asks_none a.finished)
finished_done k [] (reply ∷ replies) a b status outs all is tells = absurd all
finished_done k (line ∷ lines) [] a b status outs all is tells = absurd all
finished_done k (line ∷ lines) (reply ∷ replies) a b status outs (inl one) is tells = elim (kind one.0) [
  | inl done ↦
      let between = one.2.0 in
      let wrote = said_finished (target_of line) reply.page reply.outcome a between outs.0 (subst (λ (w : LineStatus). AnswersSaid (target_of line) reply.page reply.outcome a between w) done.0 one.2.1.answer) tells in
      let first = subst (λ (names : Option (List (List ℕ))). Asks a.finished names (written_names (target_of line))) (sym one.2.2.files.finished) wrote in
      let kept = reported_on between one.1 one.2.2.files.keeps (reported_on a between one.2.1.keeps tells) in
      let rest = finished_done (k + 1) lines replies one.1 b status outs.1 (subst (λ (n : ℕ). AnswersAll (k + 1) n lines replies one.1 b status) done.1 one.3) is kept in
      asks_then a.finished one.1.finished b.finished (written_names (target_of line)) (all_written lines) first rest
  | inr bad ↦ elim (refused_on (k + 1) lines replies one.1 b status (subst (λ (n : ℕ). AnswersAll (k + 1) n lines replies one.1 b status) bad one.3)) [
    | inl nine ↦ absurd (omega arith)
    | inr six ↦ absurd (omega arith)
  ]
]
finished_done k (line ∷ lines) (reply ∷ replies) a b status outs (inr untold) is tells = let six = untold.1 in absurd (omega arith)

-- the statuses of a list that is refused
fault_statuses : (fault : TrappoolError) → (fault_status fault ≡ 3) ⊎ ((fault_status fault ≡ 5) ⊎ (fault_status fault ≡ 7))
fault_statuses (BadLine k) = inl refl
fault_statuses NotRead = inr (inl refl)
fault_statuses Memory = inr (inr refl)

pub no_answer : (fault : TrappoolError) → IsAnswer (fault_status fault) → ⊥
no_answer (BadLine k) (inl is) = absurd (omega arith)
no_answer (BadLine k) (inr (inl is)) = absurd (omega arith)
no_answer (BadLine k) (inr (inr is)) = absurd (omega arith)
no_answer NotRead (inl is) = absurd (omega arith)
no_answer NotRead (inr (inl is)) = absurd (omega arith)
no_answer NotRead (inr (inr is)) = absurd (omega arith)
no_answer Memory (inl is) = absurd (omega arith)
no_answer Memory (inr (inl is)) = absurd (omega arith)
no_answer Memory (inr (inr is)) = absurd (omega arith)

no_usage : (fault : TrappoolError) → fault_status fault ≡ 2 → ⊥
no_usage (BadLine k) is = absurd (omega arith)
no_usage NotRead is = absurd (omega arith)
no_usage Memory is = absurd (omega arith)

pub usage_no_answer : (status : ℕ) → status ≡ 2 → IsAnswer status → ⊥
usage_no_answer status two (inl is) = absurd (omega arith)
usage_no_answer status two (inr (inl is)) = absurd (omega arith)
usage_no_answer status two (inr (inr is)) = absurd (omega arith)

not_answered : (status n : ℕ) → IsAnswer status → status ≡ n → (n ≢ 0) × (n ≢ 9) × (n ≢ 6) → ⊥
not_answered status n (inl is) same others = others.0 (sym same ∙ is)
not_answered status n (inr (inl is)) same others = others.1 (sym same ∙ is)
not_answered status n (inr (inr is)) same others = others.2 (sym same ∙ is)

module _ (words : List (List ℕ)) (t t' : TrayState) (r r' : RackState) (status : ℕ) where
  pub both : (asked : AskedWords) → asked_of words ≡ Some asked → asked_of words ≡ None → ⊥
  both asked means none = let never : ◌≡◌ {A = Option AskedWords} (Some asked) None = sym means ∙ none in absurd (cc)

  pub usage_ends : Ends words t t' r r' status → Usage words t t' r r' status
  usage_ends (no_words none same refuses) = record { only = λ is. none; always = λ never. refuses.status_is; line = λ never. refuses.text; unread = λ never. same }
  usage_ends (no_list asked fault means made refuses) = record {
    only = λ is. absurd (no_usage fault (sym refuses.status_is ∙ is));
    always = λ none. absurd (both asked means none);
    line = λ none. absurd (both asked means none);
    unread = λ none. absurd (both asked means none);
  }
  usage_ends (answered asked lines replies means made all) = record {
    only = λ is. absurd (usage_no_answer status is (answer_status 0 lines replies r r' status all));
    always = λ none. absurd (both asked means none);
    line = λ none. absurd (both asked means none);
    unread = λ none. absurd (both asked means none);
  }

  pub leaves_files : Ends words t t' r r' status → LeavesFiles r r' status
  leaves_files (no_words none same refuses) = λ a b c. refuses.files
  leaves_files (no_list asked fault means made refuses) = λ a b c. refuses.files
  leaves_files (answered asked lines replies means made all) = λ a b c. elim (answer_status 0 lines replies r r' status all) [
    | inl is ↦ absurd (a is)
    | inr later ↦ elim later [ inl is ↦ absurd (c is) | inr is ↦ absurd (b is) ]
  ]

  pub answers_lines : Ends words t t' r r' status → AnswersLines words t t' r r' status
  answers_lines (no_words none same refuses) = λ is. absurd (usage_no_answer status refuses.status_is is)
  answers_lines (no_list asked fault means made refuses) = λ is. absurd (no_answer fault (subst IsAnswer refuses.status_is is))
  answers_lines (answered asked lines replies means made all) = λ is. (asked, lines, replies, means, made, all)

  pub success : Ends words t t' r r' status → Success words t r r' status
  success (no_words none same refuses) = λ is. absurd (usage_no_answer status refuses.status_is (inl is))
  success (no_list asked fault means made refuses) = λ is. absurd (no_answer fault (subst IsAnswer refuses.status_is (inl is)))
  success (answered asked lines replies means made all) = λ is. (asked, lines, means, made.1.answer.2, reported_done 0 lines replies r r' status all is, finished_done 0 lines replies r r' status (made_outs asked.list lines replies t t' made) all is)

  pub untold : Ends words t t' r r' status → Untold r r' status
  untold (no_words none same refuses) = λ is. absurd (usage_no_answer status refuses.status_is (inr (inr is)))
  untold (no_list asked fault means made refuses) = λ is. absurd (no_answer fault (subst IsAnswer refuses.status_is (inr (inr is))))
  untold (answered asked lines replies means made all) = λ is. rose_in 0 0 lines replies r r' status (λ never. absurd (omega arith)) all is

  pub statuses : Ends words t t' r r' status → IsStatus status
  statuses (no_words none same refuses) = inr (inl refuses.status_is)
  statuses (no_list asked fault means made refuses) = elim (fault_statuses fault) [
    | inl is ↦ inr (inr (inl (refuses.status_is ∙ is)))
    | inr later ↦ elim later [ inl is ↦ inr (inr (inr (inl (refuses.status_is ∙ is)))) | inr is ↦ inr (inr (inr (inr (refuses.status_is ∙ is)))) ]
  ]
  statuses (answered asked lines replies means made all) = inl (answer_status 0 lines replies r r' status all)

  pub refused_list : Ends words t t' r r' status → RefusedList words t t' r r' status
  refused_list (no_words none same refuses) =
      let two = refuses.status_is in
      record { bad = λ is. absurd (omega arith); unread = λ is. absurd (omega arith); memory = λ is. absurd (omega arith) }
  refused_list (no_list asked (BadLine k) means (inl reads) refuses) =
      let three = refuses.status_is in
      record {
        bad = λ is. (asked, k, means, reads.answer.0, reads.answer.1, refuses.text);
        unread = λ is. absurd (omega arith);
        memory = λ is. absurd (omega arith);
      }
  refused_list (no_list asked (BadLine k) means (inr workspace) refuses) = let other = workspace.0 in absurd (cc)
  refused_list (no_list asked NotRead means (inl reads) refuses) =
      let five = refuses.status_is in
      record { bad = λ is. absurd (omega arith); unread = λ is. (reads.answer, refuses.text); memory = λ is. absurd (omega arith) }
  refused_list (no_list asked NotRead means (inr workspace) refuses) = let other = workspace.0 in absurd (cc)
  refused_list (no_list asked Memory means made refuses) =
      let seven = refuses.status_is in
      record { bad = λ is. absurd (omega arith); unread = λ is. absurd (omega arith); memory = λ is. refuses.text }
  refused_list (answered asked lines replies means made all) =
      let kinds = answer_status 0 lines replies r r' status all in
      record {
        bad = λ is. absurd (not_answered status 3 kinds is (λ n. absurd (omega arith), λ n. absurd (omega arith), λ n. absurd (omega arith)));
        unread = λ is. absurd (not_answered status 5 kinds is (λ n. absurd (omega arith), λ n. absurd (omega arith), λ n. absurd (omega arith)));
        memory = λ is. absurd (not_answered status 7 kinds is (λ n. absurd (omega arith), λ n. absurd (omega arith), λ n. absurd (omega arith)));
      }
