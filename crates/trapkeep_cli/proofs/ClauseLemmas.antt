-- The clauses of the top call, by how the command of the words ended.
use Rattle.std.proofs.Common.{◌≡◌, ◌≢◌, ◌⊎◌, ℕ, ◌≤◌, List, length, Option, Some, None, Result, Ok, Err, IsTrue, inl, inr, refl, sym, ap, ◌∙◌, subst, arith}
use Rattle.keep_pages.proofs.PlaneLemmas.{locality as page_locality}
use Rattle.keep_words.specs.Words.{KeepWords, keep_of}
use Rattle.outside.specs.ErrorCases.{Rose, RoseOnce, Asks, AsksPrefix}
use Rattle.outside.specs.Tray.{TrayState}
use Rattle.outside.specs.Rack.{RackState, KeepsRack}
use Rattle.page_files.specs.Inputs.{one_page}
use Rattle.page_files.proofs.Reported.{breaks_error, file_breaks, line_after}
use Rattle.page_files.specs.Files.{Written}
use Rattle.trapkeep_cli.specs.declared.reason.TrapkeepError.{TrapkeepError}
use Rattle.trapkeep_cli.specs.declared.reason.TrapkeepError.TheVariants as errors
use Rattle.trapkeep_cli.specs.ErrorCases.{RefusesError, error_line, error_status}
use Rattle.trapkeep_cli.specs.Clauses.{Mean, Success, Usage, RefusesInput, RefusedInput, ReadFault, WriteFault, LeavesFiles, FaultLine, Locality, Completeness}
use Rattle.trapkeep_cli.specs.Commands.{written_names, written_plates}
use Rattle.trapkeep_cli.specs.Endings.{BreaksOff, CarriesOut, Closes, Ends, EndsCommand, IsDone, IsOfInput, NotRead, NotWritten, Passes, names_to}
use Rattle.trapkeep_cli.specs.Verdicts.{IsVerdict, Refused, Out}
use Rattle.trapkeep_cli.proofs.OneVerdict.{one_error, out_or_refused}
use Rattle.common_errors.specs.declared.common.CommonError.TheVariants as reasons
use Rattle.common_errors.specs.Telling.{KeepsFiles, TellsText, TellsAfterFault}
use Rattle.page_files.proofs.VerdictLemmas.{PlateLaws}

not_written_then : (keep : KeepWords) (t t' : TrayState) (a b c : RackState) (reason : TrapkeepError) → KeepsRack a b → NotWritten keep t t' a b reason → KeepsFiles b c → NotWritten keep t t' a c reason
not_written_then keep t t' a b c reason keeps broke files = record {
  calm = broke.calm;
  begun = broke.begun;
  written = broke.written;
  to_write = broke.to_write;
  file = broke.file;
  is = broke.is;
  breaks = file_breaks (length (written_plates keep)) broke.written broke.file a b c keeps broke.breaks files;
}

-- How a command ended.
data Ending (keep : KeepWords) (t t' : TrayState) (r r' : RackState) (status : ℕ) : Type 0 where
  done : status ≡ 0 → (IsTrue r.tells → r'.reported ≡ r.reported) → IsDone keep t t' r r' → Ending keep t t' r r' status
  refused : (reason : TrapkeepError) → IsOfInput reason → Passes reason t t' → Asks t.asked t'.asked (names_to keep reason) → (IsTrue t.tells → IsVerdict t.file keep (Refused reason)) → RefusesError reason r r' status → Ending keep t t' r r' status
  unread : (reason : TrapkeepError) → error_status reason ≡ 5 → Rose t.faults t'.faults → Asks t.asked t'.asked (names_to keep reason) → BreaksOff keep reason t t' → RefusesError reason r r' status → Ending keep t t' r r' status
  unwritten : (reason : TrapkeepError) → error_status reason ≡ 6 → status ≡ error_status reason → NotWritten keep t t' r r' reason → TellsAfterFault (error_line reason) r r' → Ending keep t t' r r' status
  no_memory : t'.faults ≡ t.faults → RefusesError (errors.Page reasons.Memory) r r' status → Ending keep t t' r r' status

module _ (keep : KeepWords) (t t' : TrayState) (r r' : RackState) (status : ℕ) where
  not_read : (reason : TrapkeepError) → NotRead keep t t' reason → RefusesError reason r r' status → Ending keep t t' r r' status
  not_read reason (NotRead.refused input passes asks verdict) closed = refused reason input passes asks verdict closed
  not_read reason (NotRead.unread is rose asks breaks) closed = unread reason is rose asks breaks closed
  not_read reason (NotRead.no_memory is calm) closed = no_memory calm (subst (λ (c : TrapkeepError). RefusesError c r r' status) is closed)

  not_done : (reason : TrapkeepError) (between : RackState) → KeepsRack r between → (IsTrue r.tells → between.reported ≡ r.reported) → (NotRead keep t t' reason × (between ≡ r)) ⊎ (NotWritten keep t t' r between reason × RoseOnce r.faults between.faults) → RefusesError reason between r' status → Ending keep t t' r r' status
  not_done reason between keeps reported (inl none) closed = not_read reason none.0 (subst (λ (s : RackState). RefusesError reason s r' status) none.1 closed)
  not_done reason between keeps reported (inr (broke, once)) closed =
      unwritten reason (ap error_status broke.is) closed.status_is (not_written_then keep t t' r between r' reason keeps broke closed.files) (line_after (error_line reason) r between r' reported keeps.tells once closed.line)

  ending_of : (result : Result (Unit {0}) TrapkeepError) (between : RackState) → CarriesOut keep t t' r between result → Closes result between r' status → Ending keep t t' r r' status
  ending_of (Ok nothing) between carried closed = subst (λ (s : RackState). Ending keep t t' r s status) (sym closed.0) (done closed.1 carried.reported carried.answer)
  ending_of (Err reason) between carried closed = not_done reason between carried.rack_keeps carried.reported carried.answer closed

  ending : EndsCommand keep t t' r r' status → Ending keep t t' r r' status
  ending ended = ending_of ended.result ended.between ended.carried ended.closed

  done_by : Ending keep t t' r r' status → status ≡ 0 → (IsTrue r.tells → r'.reported ≡ r.reported) × IsDone keep t t' r r'
  done_by (done is reported work) s = (reported, work)
  done_by (refused reason input passes asks verdict closed) s = absurd (elim input [ inl a ↦ omega (arith, closed.status_is) | inr a ↦ omega (arith, closed.status_is) ])
  done_by (unread reason is rose asks breaks closed) s = absurd (omega (arith, closed.status_is))
  done_by (unwritten reason is so broke line) s = absurd (omega arith)
  done_by (no_memory calm closed) s = absurd (omega (arith, closed.status_is))

  -- the input is refused, with one of its statuses
  refused_by : Ending keep t t' r r' status → (status ≡ 3) ⊎ (status ≡ 4) → (reason : TrapkeepError) × RefusesInput keep t t' r r' status reason
  refused_by (refused reason input passes asks verdict closed) s = (reason, record { status_is = closed.status_is; verdict = verdict; begun = asks; count = passes; line = closed.line })
  refused_by (done is reported work) s = absurd (elim s [ inl a ↦ omega arith | inr a ↦ omega arith ])
  refused_by (unread reason is rose asks breaks closed) s = absurd (elim s [ inl a ↦ omega (arith, closed.status_is) | inr a ↦ omega (arith, closed.status_is) ])
  refused_by (unwritten reason is so broke line) s = absurd (elim s [ inl a ↦ omega arith | inr a ↦ omega arith ])
  refused_by (no_memory calm closed) s = absurd (elim s [ inl a ↦ omega (arith, closed.status_is) | inr a ↦ omega (arith, closed.status_is) ])

  unread_by : Ending keep t t' r r' status → status ≡ 5 → Rose t.faults t'.faults × ((reason : TrapkeepError) × (status ≡ error_status reason) × Asks t.asked t'.asked (names_to keep reason) × BreaksOff keep reason t t' × TellsText (error_line reason) r r')
  unread_by (unread reason is rose asks breaks closed) s = (rose, (reason, closed.status_is, asks, breaks, closed.line))
  unread_by (done is reported work) s = absurd (omega arith)
  unread_by (refused reason input passes asks verdict closed) s = absurd (elim input [ inl a ↦ omega (arith, closed.status_is) | inr a ↦ omega (arith, closed.status_is) ])
  unread_by (unwritten reason is so broke line) s = absurd (omega arith)
  unread_by (no_memory calm closed) s = absurd (omega (arith, closed.status_is))

  unwritten_by : Ending keep t t' r r' status → status ≡ 6 → (reason : TrapkeepError) × NotWritten keep t t' r r' reason × TellsAfterFault (error_line reason) r r'
  unwritten_by (unwritten reason is so broke line) s = (reason, broke, line)
  unwritten_by (done is reported work) s = absurd (omega arith)
  unwritten_by (refused reason input passes asks verdict closed) s = absurd (elim input [ inl a ↦ omega (arith, closed.status_is) | inr a ↦ omega (arith, closed.status_is) ])
  unwritten_by (unread reason is rose asks breaks closed) s = absurd (omega (arith, closed.status_is))
  unwritten_by (no_memory calm closed) s = absurd (omega (arith, closed.status_is))

  -- neither 6 nor 7 is the status of a refused input
  not_input : (reason : TrapkeepError) → IsOfInput reason → status ≡ error_status reason → (status ≡ 6) ⊎ (status ≡ 7) → ⊥
  not_input reason input is (inl six) = elim input [ inl a ↦ omega (arith, is) | inr a ↦ omega (arith, is) ]
  not_input reason input is (inr seven) = elim input [ inl a ↦ omega (arith, is) | inr a ↦ omega (arith, is) ]

  calm_by : Ending keep t t' r r' status → (status ≡ 6) ⊎ (status ≡ 7) → t'.faults ≡ t.faults
  calm_by (no_memory calm closed) s = calm
  calm_by (done is reported work) s = work.calm
  calm_by (refused reason input passes asks verdict closed) s = absurd (not_input reason input closed.status_is s)
  calm_by (unread reason is rose asks breaks closed) (inl s) = absurd (omega (arith, closed.status_is))
  calm_by (unread reason is rose asks breaks closed) (inr s) = absurd (omega (arith, closed.status_is))
  calm_by (unwritten reason is so broke line) s = broke.calm

  -- a status that is neither 0 nor 6 leaves the files alone, and tells the line of its cause
  closed_by : Ending keep t t' r r' status → status ≢ 0 → status ≢ 6 → (reason : TrapkeepError) × RefusesError reason r r' status
  closed_by (done is reported work) some other = absurd (some is)
  closed_by (refused reason input passes asks verdict closed) some other = (reason, closed)
  closed_by (unread reason is rose asks breaks closed) some other = (reason, closed)
  closed_by (unwritten reason is so broke line) some other = absurd (other (so ∙ is))
  closed_by (no_memory calm closed) some other = (errors.Page reasons.Memory, closed)

  always_by : PlateLaws one_page → (reason : TrapkeepError) → Ending keep t t' r r' status → IsTrue t.tells → IsVerdict t.file keep (Refused reason) → ¬ Rose t.faults t'.faults → (status ≡ error_status reason) ⊎ (status ≡ 7)
  always_by laws reason (done is reported work) tells judged still = absurd (out_or_refused laws t.file keep work.written reason (work.to_write.1 tells) judged)
  always_by laws reason (refused other input passes asks verdict closed) tells judged still = inl (closed.status_is ∙ ap error_status (one_error laws t.file keep other reason (verdict tells) judged))
  always_by laws reason (unread other is rose asks breaks closed) tells judged still = absurd (still rose)
  always_by laws reason (unwritten other is so broke line) tells judged still = absurd (out_or_refused laws t.file keep broke.written reason (broke.to_write.1 tells) judged)
  always_by laws reason (no_memory calm closed) tells judged still = inr closed.status_is

  complete_by : PlateLaws one_page → (written : List Written) → Ending keep t t' r r' status → IsTrue t.tells → IsVerdict t.file keep (Out written) → ¬ Rose t.faults t'.faults → ¬ Rose r.faults r'.faults → (status ≡ 0) ⊎ (status ≡ 7)
  complete_by laws written (done is reported work) tells judged still_tray still = inl is
  complete_by laws written (refused reason input passes asks verdict closed) tells judged still_tray still = absurd (out_or_refused laws t.file keep written reason judged (verdict tells))
  complete_by laws written (unread reason is rose asks breaks closed) tells judged still_tray still = absurd (still_tray rose)
  complete_by laws written (unwritten reason is so broke line) tells judged still_tray still = absurd (still (breaks_error (length (written_plates keep)) broke.written broke.file r r' broke.breaks))
  complete_by laws written (no_memory calm closed) tells judged still_tray still = inr closed.status_is

  -- no command ends with the status of words that are none
  status_by : Ending keep t t' r r' status → (status ≡ 0) ⊎ ((3 ≤ status) × (status ≤ 7))
  status_by (done is reported work) = inl is
  status_by (refused reason input passes asks verdict closed) = inr (elim input [ inl a ↦ (omega (arith, closed.status_is), omega (arith, closed.status_is)) | inr a ↦ (omega (arith, closed.status_is), omega (arith, closed.status_is)) ])
  status_by (unread reason is rose asks breaks closed) = inr (omega (arith, closed.status_is), omega (arith, closed.status_is))
  status_by (unwritten reason is so broke line) = inr (omega arith, omega arith)
  status_by (no_memory calm closed) = inr (omega (arith, closed.status_is), omega (arith, closed.status_is))

  -- the names handed to `create`, after the line was told
  created_by : (result : Result (Unit {0}) TrapkeepError) (between : RackState) → CarriesOut keep t t' r between result → Closes result between r' status → AsksPrefix r.asked r'.asked (written_names keep)
  created_by (Ok nothing) between carried closed = subst (λ (s : RackState). AsksPrefix r.asked s.asked (written_names keep)) (sym closed.0) carried.created
  created_by (Err reason) between carried closed = subst (λ (names : Option (List (List ℕ))). AsksPrefix r.asked names (written_names keep)) (sym closed.files.asked) carried.created

module _ (words : List (List ℕ)) (t t' : TrayState) (r r' : RackState) (status : ℕ) where
  same_keep : (one two : KeepWords) → Mean words one → Mean words two → one ≡ two
  same_keep one two a b = let same : ◌≡◌ {A = Option KeepWords} (Some one) (Some two) = sym a ∙ b in cc

  no_meaning : (keep : KeepWords) → Mean words keep → keep_of words ≡ None → ⊥
  no_meaning keep means none = let e : ◌≡◌ {A = Option KeepWords} None (Some keep) = sym none ∙ means in absurd cc

  keep_ended : (keep : KeepWords) → Mean words keep → Ends words t t' r r' status → EndsCommand keep t t' r r' status
  keep_ended keep means (Ends.no_command none same refuses) = absurd (no_meaning keep means none)
  keep_ended keep means (Ends.command other also ended) = subst (λ (c : KeepWords). EndsCommand c t t' r r' status) (same_keep other keep also means) ended

  keep_ending : (keep : KeepWords) → Mean words keep → Ends words t t' r r' status → Ending keep t t' r r' status
  keep_ending keep means ended = ending keep t t' r r' status (keep_ended keep means ended)

  done_of : Ends words t t' r r' status → status ≡ 0 → (keep : KeepWords) × (IsTrue r.tells → r'.reported ≡ r.reported) × IsDone keep t t' r r'
  done_of (Ends.no_command none same refuses) s = absurd (omega (arith, refuses.status_is))
  done_of (Ends.command keep also ended) s = (let by = done_by keep t t' r r' status (ending keep t t' r r' status ended) s in (keep, by.0, by.1))

  pub success : Ends words t t' r r' status → Success words t t' r r' status
  success ended = record {
    calm = λ s. (let work = (done_of ended s).2 in (work.calm, work.wrote.well));
    files = λ keep means s.
        (let work = (done_by keep t t' r r' status (keep_ending keep means ended) s).1 in
        (work.written, work.to_write, work.wrote.whole));
    silent = λ s. (done_of ended s).1;
    finished = λ keep means s. (done_by keep t t' r r' status (keep_ending keep means ended) s).1.finished;
    shut = λ s. (let work = (done_of ended s).2 in work.wrote.shut work.some);
    begun = λ keep means s. (done_by keep t t' r r' status (keep_ending keep means ended) s).1.begun;
    created = λ keep means s. (done_by keep t t' r r' status (keep_ending keep means ended) s).1.created;
  }

  usage_only : Ends words t t' r r' status → status ≡ 2 → keep_of words ≡ None
  usage_only (Ends.no_command none same refuses) s = none
  usage_only (Ends.command keep also ended) s = elim (status_by keep t t' r r' status (ending keep t t' r r' status ended)) [ inl is ↦ absurd (omega arith) | inr within ↦ absurd (omega (arith, within.0)) ]

  usage_always : Ends words t t' r r' status → keep_of words ≡ None → RefusesError errors.NoCommand r r' status × (t'.asked ≡ t.asked)
  usage_always (Ends.no_command none same refuses) nothing = (refuses, ap (λ (u : TrayState). u.asked) same)
  usage_always (Ends.command keep also ended) nothing = absurd (no_meaning keep also nothing)

  pub usage_ends : Ends words t t' r r' status → Usage words t t' r r' status
  usage_ends ended = record {
    only = usage_only ended;
    always = λ none. (usage_always ended none).0.status_is;
    line = λ none. (usage_always ended none).0.line;
    no_begin = λ none. (usage_always ended none).1;
    no_create = λ none. (usage_always ended none).0.files.asked;
  }

  pub refused_input : PlateLaws one_page → Ends words t t' r r' status → RefusedInput words t t' r r' status
  refused_input laws ended = record {
    only = λ keep means s. refused_by keep t t' r r' status (keep_ending keep means ended) s;
    always = λ keep reason means tells judged still. always_by keep t t' r r' status laws reason (keep_ending keep means ended) tells judged still;
  }

  read_error : Ends words t t' r r' status → status ≡ 5 → Rose t.faults t'.faults
  read_error (Ends.no_command none same refuses) s = absurd (omega (arith, refuses.status_is))
  read_error (Ends.command keep also ended) s = (unread_by keep t t' r r' status (ending keep t t' r r' status ended) s).0

  all_calm : Ends words t t' r r' status → (status ≡ 6) ⊎ (status ≡ 7) → t'.faults ≡ t.faults
  all_calm (Ends.no_command none same refuses) s = ap (λ (u : TrayState). u.faults) same
  all_calm (Ends.command keep also ended) s = calm_by keep t t' r r' status (ending keep t t' r r' status ended) s

  pub read_fault : Ends words t t' r r' status → ReadFault words t t' r r' status
  read_fault ended = record {
    reason = read_error ended;
    breaks = λ keep means s. (unread_by keep t t' r r' status (keep_ending keep means ended) s).1;
    asked = λ keep means. (keep_ended keep means ended).carried.asked;
    in_hand = λ keep means. (keep_ended keep means ended).carried.in_hand;
    calm = all_calm ended;
  }

  write_error : Ends words t t' r r' status → status ≡ 6 → Rose r.faults r'.faults
  write_error (Ends.no_command none same refuses) s = absurd (omega (arith, refuses.status_is))
  write_error (Ends.command keep also ended) s =
      (let broke = (unwritten_by keep t t' r r' status (ending keep t t' r r' status ended) s).1 in
      breaks_error (length (written_plates keep)) broke.written broke.file r r' broke.breaks)

  pub write_fault : Ends words t t' r r' status → WriteFault words t t' r r' status
  write_fault ended = record {
    reason = write_error ended;
    begun = λ keep means s. (unwritten_by keep t t' r r' status (keep_ending keep means ended) s).1.begun;
    breaks = λ keep means s.
        (let by = unwritten_by keep t t' r r' status (keep_ending keep means ended) s in
        (by.1.file, (by.1.written, by.1.to_write, by.1.breaks), subst (λ (reason : TrapkeepError). TellsAfterFault (error_line reason) r r') by.1.is by.2));
    asked = λ keep means.
        (let ends = keep_ended keep means ended in
        created_by keep t t' r r' status ends.result ends.between ends.carried ends.closed);
  }

  closed_of : Ends words t t' r r' status → status ≢ 0 → status ≢ 6 → (reason : TrapkeepError) × RefusesError reason r r' status
  closed_of (Ends.no_command none same refuses) some other = (errors.NoCommand, refuses)
  closed_of (Ends.command keep also ended) some other = closed_by keep t t' r r' status (ending keep t t' r r' status ended) some other

  pub leaves_files : Ends words t t' r r' status → LeavesFiles r r' status
  leaves_files ended some other = let keeps = (closed_of ended some other).1.files in (keeps.asked, keeps.is_open, keeps.files)

  pub fault_line : Ends words t t' r r' status → FaultLine r r' status
  fault_line ended some other = let closed = closed_of ended some other in (closed.0, closed.1.status_is, closed.1.line)

  statuses : Ends words t t' r r' status → (status ≡ 0) ⊎ ((2 ≤ status) × (status ≤ 7))
  statuses (Ends.no_command none same refuses) = inr (omega (arith, refuses.status_is), omega (arith, refuses.status_is))
  statuses (Ends.command keep also ended) = elim (status_by keep t t' r r' status (ending keep t t' r r' status ended)) [ inl is ↦ inl is | inr within ↦ inr (omega (arith, within.0), within.1) ]

  pub completeness : PlateLaws one_page → Ends words t t' r r' status → Completeness words t t' r r' status
  completeness laws ended = record {
    valid = λ keep written means tells judged still_tray still. complete_by keep t t' r r' status laws written (keep_ending keep means ended) tells judged still_tray still;
    statuses = statuses ended;
  }

pub locality : (words : List (List ℕ)) (t : TrayState) → Locality words t
locality words t keep made used means tells makes is c p = page_locality made used c p
