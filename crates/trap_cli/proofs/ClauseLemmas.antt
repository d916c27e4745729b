-- The clauses of the top call, by how the words' command ended.
use Rattle.std.proofs.Common.{◌≡◌, ◌≢◌, ◌⊎◌, ℕ, ◌<◌, ◌≤◌, Bool, true, cond, codes, List, [], ◌∷◌, ◌++◌, length, take, Option, Some, None, Result, Ok, Err, IsTrue, IsFalse, inl, inr, refl, sym, ap, ◌∙◌, subst, arith}
use Rattle.std.proofs.lemmas.Bool.{cases_lt}
use Rattle.std.proofs.lemmas.List.{length-append}
use Rattle.std.specs.Option.{option_map}
use Rattle.std.specs.Str.{bytes_eq}
use Rattle.band_claims.specs.Receipt.{Receipt}
use Rattle.outside.specs.ErrorCases.{Rose, RoseOnce, Asks, AsksPrefix}
use Rattle.outside.specs.Tray.{TrayState}
use Rattle.outside.specs.Rack.{RackState, KeepsRack}
use Rattle.outside.proofs.Names.{asks_none_of}
use Rattle.page_model.specs.declared.page.PageFault.TheVariants.{TooManySamples}
use Rattle.page_model.specs.declared.parts.PageParts.{PageParts}
use Rattle.page_model.specs.Counts.{page_counts}
use Rattle.page_model.specs.Tints.{trapped_planes}
use Rattle.page_files.specs.Inputs.{Sources, one_page, read_files}
use Rattle.page_files.specs.Gathering.{BreaksReading, InHand, IsMade, files_to}
use Rattle.page_files.specs.Steps.{PassesNoFault}
use Rattle.page_files.proofs.GatherLemmas.{refused_count}
use Rattle.page_files.specs.Files.{Written, put_all, names_of, plate_files}
use Rattle.page_files.specs.Writing.{Breaks, FinishesAll}
use Rattle.page_files.proofs.Reported.{breaks_error, file_breaks, line_after}
use Rattle.common_errors.specs.declared.common.CommonError.{CommonError}
use Rattle.common_errors.specs.declared.common.CommonError.TheVariants as errors
use Rattle.common_errors.specs.CommonErrors.{status_of, line_of}
use Rattle.trap_report.specs.Report.{report_of}
use Rattle.common_errors.specs.Telling.{TellsText, TellsAfterFault, KeepsFiles, Refuses}
use Rattle.trap_cli.specs.Words.{Command, PageWords, SampleWords, begins_with_page, command_of, page_of_words, sample_of_words}
use Rattle.trap_cli.specs.Words.Command.{Page, Sample}
use Rattle.trap_cli.specs.Commands.{sample_band, sources_of, targets_of}
use Rattle.trap_cli.specs.Endings.{CarriesOut, Closes, EndsPage, EndsSample, AnswersSample, Ends, HasReceipt, IsSmall, sample_of, sample_report}
use Rattle.trap_cli.specs.Clauses.{MeanPage, MeanSample, Success, RefusesFiles, RefusedInput, ReadFault, WriteFault, LeavesFiles, FaultLine, SamplePage, Completeness}
use Rattle.page_files.specs.Verdicts.{Verdict, Targets, IsVerdict, outcome, written_names}
use Rattle.page_files.specs.Verdicts.Verdict.{Refused, Out}
use Rattle.page_files.proofs.VerdictLemmas.{PlateLaws, one_verdict}

-- How a page of these files ended, of what was told by its files.
data Ending (band : ℕ) (source : Sources) (target : Targets) (t t' : TrayState) (r r' : RackState) (status : ℕ) (receipt : Option Receipt) : Type 0 where
  done : status ≡ 0 → (t'.faults ≡ t.faults) × (r'.faults ≡ r.faults) → (made : PageParts) → IsMade source t made → Asks t.asked t'.asked (read_files source) → (IsTrue r.tells → r'.file ≡ put_all (outcome target made) r.file) → (IsTrue r.tells → r'.reported ≡ r.reported) → IsFalse r'.is_open × FinishesAll (written_names target) r r' → Asks r.asked r'.asked (written_names target) → HasReceipt made band receipt → Ending band source target t t' r r' status receipt
  refused : (error : CommonError) → status ≡ status_of error → (status ≡ 3) ⊎ (status ≡ 4) → (IsTrue t.tells → IsVerdict one_page t.file source target (Refused error)) → Asks t.asked t'.asked (files_to source error) → PassesNoFault {T = Unit {0}} t t' (Err error) → KeepsFiles r r' → TellsText (line_of error) r r' → receipt ≡ None → Ending band source target t t' r r' status receipt
  unread : (file : Option ℕ) → status ≡ 5 → Rose t.faults t'.faults → Asks t.asked t'.asked (files_to source (errors.Read file)) → BreaksReading source file t t' → KeepsFiles r r' → TellsText (line_of (errors.Read file)) r r' → receipt ≡ None → Ending band source target t t' r r' status receipt
  unwritten : (file : Option ℕ) → status ≡ 6 → t'.faults ≡ t.faults → (made : PageParts) → IsMade source t made → Breaks (length target.outputs) (outcome target made) file r r' → TellsAfterFault (line_of (errors.Write file)) r r' → receipt ≡ None → Ending band source target t t' r r' status receipt
  no_memory : status ≡ 7 → t'.faults ≡ t.faults → KeepsFiles r r' → TellsText (line_of errors.Memory) r r' → receipt ≡ None → Ending band source target t t' r r' status receipt

-- files that are left alone, and then are left alone again
keeps_from : (a b c : RackState) → b ≡ a → KeepsFiles b c → KeepsFiles a c
keeps_from a b c same keeps = subst (λ (s : RackState). KeepsFiles s c) same keeps

-- there is a file at least: the report
some_files : (target : Targets) (page : PageParts) → 0 < length (outcome target page)
some_files target page = let long = length-append (plate_files target.outputs (trapped_planes page)) (record { name = target.report; bytes = report_of page (page_counts page) } ∷ []) in omega (arith, long)

module _ (band : ℕ) (source : Sources) (target : Targets) (t t' : TrayState) (r r' : RackState) (status : ℕ) (receipt : Option Receipt) where
  -- an error's line, where nothing was written before it
  line_of_end : (error : CommonError) (between : RackState) → between ≡ r → Refuses error between r' status → TellsText (line_of error) r r'
  line_of_end error between same closed = subst (λ (s : RackState). TellsText (line_of error) s r') same closed.line

  ended_done : (x : Receipt) (between : RackState) → CarriesOut band source target t t' r between (Ok x) → (r' ≡ between) → status ≡ 0 → receipt ≡ Some x → Ending band source target t t' r r' status receipt
  ended_done x between carried same is given =
      let made = carried.answer.0 in
      let wrote = carried.answer.4 in
      subst (λ (s : RackState). Ending band source target t t' r s status receipt) (sym same) (done is (carried.count, wrote.well) made carried.answer.1 carried.answer.3 wrote.whole carried.reported (wrote.shut (some_files target made), carried.answer.6) carried.answer.5 (x, given, carried.answer.2))

  ending_of : (result : Result Receipt CommonError) (between : RackState) → CarriesOut band source target t t' r between result → Closes result between r' status receipt → Ending band source target t t' r r' status receipt
  ending_of (Ok x) between carried closed = ended_done x between carried closed.0 closed.1 closed.2
  ending_of (Err (errors.Job fault)) between carried closed =
      refused (errors.Job fault) closed.0.status_is (inl closed.0.status_is) carried.answer.0.1 carried.answer.0.0 (refused_count Receipt (Unit {0}) t t' (errors.Job fault) carried.count) (keeps_from r between r' carried.answer.1 closed.0.files) (line_of_end (errors.Job fault) between carried.answer.1 closed.0) closed.1
  ending_of (Err (errors.NoDetails k)) between carried closed =
      refused (errors.NoDetails k) closed.0.status_is (inl closed.0.status_is) carried.answer.0.1 carried.answer.0.0 (refused_count Receipt (Unit {0}) t t' (errors.NoDetails k) carried.count) (keeps_from r between r' carried.answer.1 closed.0.files) (line_of_end (errors.NoDetails k) between carried.answer.1 closed.0) closed.1
  ending_of (Err (errors.Plate k fault)) between carried closed =
      refused (errors.Plate k fault) closed.0.status_is (inr closed.0.status_is) carried.answer.0.1 carried.answer.0.0 (refused_count Receipt (Unit {0}) t t' (errors.Plate k fault) carried.count) (keeps_from r between r' carried.answer.1 closed.0.files) (line_of_end (errors.Plate k fault) between carried.answer.1 closed.0) closed.1
  ending_of (Err (errors.Page fault)) between carried closed =
      refused (errors.Page fault) closed.0.status_is (inr closed.0.status_is) carried.answer.0.1 carried.answer.0.0 (refused_count Receipt (Unit {0}) t t' (errors.Page fault) carried.count) (keeps_from r between r' carried.answer.1 closed.0.files) (line_of_end (errors.Page fault) between carried.answer.1 closed.0) closed.1
  ending_of (Err (errors.Read None)) between carried closed =
      unread None closed.0.status_is carried.answer.0.0 carried.answer.0.1 tt (keeps_from r between r' carried.answer.1 closed.0.files) (line_of_end (errors.Read None) between carried.answer.1 closed.0) closed.1
  ending_of (Err (errors.Read (Some k))) between carried closed =
      unread (Some k) closed.0.status_is carried.answer.0.0 carried.answer.0.1 carried.answer.0.2 (keeps_from r between r' carried.answer.1 closed.0.files) (line_of_end (errors.Read (Some k)) between carried.answer.1 closed.0) closed.1
  ending_of (Err (errors.Write file)) between carried closed =
      let made = carried.answer.0 in
      let broke = carried.answer.2 in
      unwritten file closed.0.status_is carried.count made carried.answer.1 (file_breaks (length target.outputs) (outcome target made) file r between r' carried.rack_keeps broke closed.0.files) (line_after (line_of (errors.Write file)) r between r' carried.reported carried.rack_keeps.tells carried.once closed.0.line) closed.1
  ending_of (Err errors.Memory) between carried closed = no_memory closed.0.status_is carried.count (keeps_from r between r' carried.answer.1 closed.0.files) (line_of_end errors.Memory between carried.answer.1 closed.0) closed.1
  ending_of (Err errors.Usage) between carried closed = absurd carried.answer.0

  ending : EndsPage band source target t t' r r' status receipt → Ending band source target t t' r r' status receipt
  ending ended = ending_of ended.result ended.between ended.carried ended.closed

module _ (band : ℕ) (source : Sources) (target : Targets) (t t' : TrayState) (r r' : RackState) (status : ℕ) (receipt : Option Receipt) where
  out_or_refused : PlateLaws one_page → (written : List Written) (error : CommonError) → IsVerdict one_page t.file source target (Out written) → IsVerdict one_page t.file source target (Refused error) → ⊥
  out_or_refused laws written error out is = let same : ◌≡◌ {A = Verdict} (Out written) (Refused error) = one_verdict one_page laws t.file source target (Out written) (Refused error) out is in absurd cc

  one_reason : PlateLaws one_page → (one two : CommonError) → IsVerdict one_page t.file source target (Refused one) → IsVerdict one_page t.file source target (Refused two) → one ≡ two
  one_reason laws one two a b = let same : ◌≡◌ {A = Verdict} (Refused one) (Refused two) = one_verdict one_page laws t.file source target (Refused one) (Refused two) a b in cc

  -- the page that is made is the one whose files are to be written
  out_of : (made : PageParts) → IsMade source t made → IsTrue t.tells → IsVerdict one_page t.file source target (Out (outcome target made))
  out_of made is tells = (made, is.1 tells, refl)

  always_by : PlateLaws one_page → (error : CommonError) → Ending band source target t t' r r' status receipt → IsTrue t.tells → IsVerdict one_page t.file source target (Refused error) → ¬ Rose t.faults t'.faults → (status ≡ status_of error) ⊎ (status ≡ 7)
  always_by laws error (done is calm made page begun files reported shut asked has) tells judged still_tray = absurd (out_or_refused laws (outcome target made) error (out_of made page tells) judged)
  always_by laws error (refused other is which verdict begun count keeps line none) tells judged still_tray = inl (is ∙ ap (λ (o : CommonError). status_of o) (one_reason laws other error (verdict tells) judged))
  always_by laws error (unread file is rose begun breaks keeps line none) tells judged still_tray = absurd (still_tray rose)
  always_by laws error (unwritten file is kept made page breaks line none) tells judged still_tray = absurd (out_or_refused laws (outcome target made) error (out_of made page tells) judged)
  always_by laws error (no_memory is calm keeps line none) tells judged still_tray = inr is

  complete_by : PlateLaws one_page → (written : List Written) → Ending band source target t t' r r' status receipt → IsTrue t.tells → IsVerdict one_page t.file source target (Out written) → ¬ Rose t.faults t'.faults → ¬ Rose r.faults r'.faults → (status ≡ 0) ⊎ (status ≡ 7)
  complete_by laws written (done is calm made page begun files reported shut asked has) tells judged still_tray still = inl is
  complete_by laws written (refused error is which verdict begun count keeps line none) tells judged still_tray still = absurd (out_or_refused laws written error judged (verdict tells))
  complete_by laws written (unread file is rose begun breaks keeps line none) tells judged still_tray still = absurd (still_tray rose)
  complete_by laws written (unwritten file is kept made page breaks line none) tells judged still_tray still = absurd (still (breaks_error (length target.outputs) (outcome target made) file r r' breaks))
  complete_by laws written (no_memory is calm keeps line none) tells judged still_tray still = inr is

  read_by : Ending band source target t t' r r' status receipt → status ≡ 5 → Rose t.faults t'.faults × ((file : Option ℕ) × Asks t.asked t'.asked (files_to source (errors.Read file)) × BreaksReading source file t t' × TellsText (line_of (errors.Read file)) r r')
  read_by (unread file is rose begun breaks keeps line none) s = (rose, (file, begun, breaks, line))
  read_by (done is calm made page begun files reported shut asked has) s = absurd (omega arith)
  read_by (refused error is (inl which) verdict begun count keeps line none) s = absurd (omega arith)
  read_by (refused error is (inr which) verdict begun count keeps line none) s = absurd (omega arith)
  read_by (unwritten file is kept made page breaks line none) s = absurd (omega arith)
  read_by (no_memory is calm keeps line none) s = absurd (omega arith)

  write_by : Ending band source target t t' r r' status receipt → status ≡ 6 → (file : Option ℕ) × ((made : PageParts) × IsMade source t made × Breaks (length target.outputs) (outcome target made) file r r') × TellsAfterFault (line_of (errors.Write file)) r r'
  write_by (unwritten file is kept made page breaks line none) s = (file, (made, page, breaks), line)
  write_by (done is calm made page begun files reported shut asked has) s = absurd (omega arith)
  write_by (refused error is (inl which) verdict begun count keeps line none) s = absurd (omega arith)
  write_by (refused error is (inr which) verdict begun count keeps line none) s = absurd (omega arith)
  write_by (unread file is rose begun breaks keeps line none) s = absurd (omega arith)
  write_by (no_memory is calm keeps line none) s = absurd (omega arith)

  write_error_by : Ending band source target t t' r r' status receipt → status ≡ 6 → Rose r.faults r'.faults
  write_error_by ended s = let broke = write_by ended s in breaks_error (length target.outputs) (outcome target broke.1.0) broke.0 r r' broke.1.2

  line_by : Ending band source target t t' r r' status receipt → status ≢ 0 → status ≢ 6 → (error : CommonError) × (status ≡ status_of error) × TellsText (line_of error) r r'
  line_by (done is calm made page begun files reported shut asked has) some other = absurd (some is)
  line_by (refused error is which verdict begun count keeps line none) some other = (error, is, line)
  line_by (unread file is rose begun breaks keeps line none) some other = (errors.Read file, is, line)
  line_by (unwritten file is kept made page breaks line none) some other = absurd (other is)
  line_by (no_memory is calm keeps line none) some other = (errors.Memory, is, line)

  leaves_by : Ending band source target t t' r r' status receipt → status ≢ 0 → status ≢ 6 → KeepsFiles r r'
  leaves_by (done is calm made page begun files reported shut asked has) some other = absurd (some is)
  leaves_by (refused error is which verdict begun count keeps line none) some other = keeps
  leaves_by (unread file is rose begun breaks keeps line none) some other = keeps
  leaves_by (unwritten file is kept made page breaks line none) some other = absurd (other is)
  leaves_by (no_memory is calm keeps line none) some other = keeps

  status_by : Ending band source target t t' r r' status receipt → (status ≡ 0) ⊎ ((2 ≤ status) × (status ≤ 7))
  status_by (done is calm made page begun files reported shut asked has) = inl is
  status_by (refused error is (inl which) verdict begun count keeps line none) = inr (omega arith, omega arith)
  status_by (refused error is (inr which) verdict begun count keeps line none) = inr (omega arith, omega arith)
  status_by (unread file is rose begun breaks keeps line none) = inr (omega arith, omega arith)
  status_by (unwritten file is kept made page breaks line none) = inr (omega arith, omega arith)
  status_by (no_memory is calm keeps line none) = inr (omega arith, omega arith)

-- How a sample page ended.
module _ (sample : SampleWords) (r r' : RackState) (status : ℕ) (receipt : Option Receipt) where
  sample_status : AnswersSample sample r r' status receipt → (status ≡ 0) ⊎ (status ≡ 4) ⊎ (status ≡ 6) ⊎ (status ≡ 7)
  sample_status (AnswersSample.reported small is calm text has) = inl is
  sample_status (AnswersSample.reported_in_part small is rose once text none) = inr (inr (inl is))
  sample_status (AnswersSample.too_many large refuses none) = inr (inl refuses.status_is)
  sample_status (AnswersSample.no_memory small refuses none) = inr (inr (inr refuses.status_is))

  sample_reported : AnswersSample sample r r' status receipt → status ≡ 0 → IsTrue r.tells → r'.reported ≡ r.reported ++ sample_report sample
  sample_reported (AnswersSample.reported small is calm text has) s = text
  sample_reported (AnswersSample.reported_in_part small is rose once text none) s = absurd (omega arith)
  sample_reported (AnswersSample.too_many large refuses none) s = let e : status ≡ 4 = refuses.status_is in absurd (omega arith)
  sample_reported (AnswersSample.no_memory small refuses none) s = let e : status ≡ 7 = refuses.status_is in absurd (omega arith)

  sample_part : AnswersSample sample r r' status receipt → status ≡ 6 → Rose r.faults r'.faults × (IsTrue r.tells → (count : ℕ) × (r'.reported ≡ r.reported ++ take count (sample_report sample)))
  sample_part (AnswersSample.reported_in_part small is rose once text none) s = (rose, text)
  sample_part (AnswersSample.reported small is calm text has) s = absurd (omega arith)
  sample_part (AnswersSample.too_many large refuses none) s = let e : status ≡ 4 = refuses.status_is in absurd (omega arith)
  sample_part (AnswersSample.no_memory small refuses none) s = let e : status ≡ 7 = refuses.status_is in absurd (omega arith)

  sample_once : AnswersSample sample r r' status receipt → status ≡ 6 → RoseOnce r.faults r'.faults
  sample_once (AnswersSample.reported_in_part small is rose once text none) s = once
  sample_once (AnswersSample.reported small is calm text has) s = absurd (omega arith)
  sample_once (AnswersSample.too_many large refuses none) s = let e : status ≡ 4 = refuses.status_is in absurd (omega arith)
  sample_once (AnswersSample.no_memory small refuses none) s = let e : status ≡ 7 = refuses.status_is in absurd (omega arith)

  sample_large : AnswersSample sample r r' status receipt → status ≡ 4 → IsSmall sample → ⊥
  sample_large (AnswersSample.too_many large refuses none) s = large
  sample_large (AnswersSample.reported small is calm text has) s = absurd (omega arith)
  sample_large (AnswersSample.reported_in_part small is rose once text none) s = absurd (omega arith)
  sample_large (AnswersSample.no_memory small refuses none) s = let e : status ≡ 7 = refuses.status_is in absurd (omega arith)

  large_line : AnswersSample sample r r' status receipt → status ≡ 4 → TellsText (line_of (errors.Page TooManySamples)) r r'
  large_line (AnswersSample.too_many large refuses none) s = refuses.line
  large_line (AnswersSample.reported small is calm text has) s = absurd (omega arith)
  large_line (AnswersSample.reported_in_part small is rose once text none) s = absurd (omega arith)
  large_line (AnswersSample.no_memory small refuses none) s = let e : status ≡ 7 = refuses.status_is in absurd (omega arith)

  large_status : AnswersSample sample r r' status receipt → (IsSmall sample → ⊥) → status ≡ 4
  large_status (AnswersSample.too_many large refuses none) s = refuses.status_is
  large_status (AnswersSample.reported small is calm text has) s = absurd (s small)
  large_status (AnswersSample.reported_in_part small is rose once text none) s = absurd (s small)
  large_status (AnswersSample.no_memory small refuses none) s = absurd (s small)

  sample_done : AnswersSample sample r r' status receipt → ¬ Rose r.faults r'.faults → (status ≡ 0) ⊎ (status ≡ 4) ⊎ (status ≡ 7)
  sample_done (AnswersSample.reported small is calm text has) still = inl is
  sample_done (AnswersSample.reported_in_part small is rose once text none) still = absurd (still rose)
  sample_done (AnswersSample.too_many large refuses none) still = inr (inl refuses.status_is)
  sample_done (AnswersSample.no_memory small refuses none) still = inr (inr refuses.status_is)

  sample_line : AnswersSample sample r r' status receipt → status ≢ 0 → status ≢ 6 → (error : CommonError) × (status ≡ status_of error) × TellsText (line_of error) r r'
  sample_line (AnswersSample.reported small is calm text has) some other = absurd (some is)
  sample_line (AnswersSample.reported_in_part small is rose once text none) some other = absurd (other is)
  sample_line (AnswersSample.too_many large refuses none) some other = (errors.Page TooManySamples, refuses.status_is, refuses.line)
  sample_line (AnswersSample.no_memory small refuses none) some other = (errors.Memory, refuses.status_is, refuses.line)

-- Words that begin with `page` are no command of a sample page.
no_sample : (words : List (List ℕ)) (sample : SampleWords) → begins_with_page words ≡ true → command_of words ≡ Some (Sample sample) → ⊥
no_sample [] sample begins is = absurd cc
no_sample (first ∷ rest) sample begins is = go (page_of_words (first ∷ rest)) (sym (ap (λ (b : Bool). cond b (option_map Page (page_of_words (first ∷ rest))) (cond (bytes_eq first (codes "sample")) (option_map Sample (sample_of_words rest)) None)) begins) ∙ is) where
  go : (found : Option PageWords) → option_map Page found ≡ Some (Sample sample) → ⊥
  go None same = absurd cc
  go (Some page) same = absurd cc

module _ (words : List (List ℕ)) (t t' : TrayState) (r r' : RackState) (status : ℕ) (receipt : Option Receipt) where
  same_page : (one two : PageWords) → MeanPage words one → MeanPage words two → one ≡ two
  same_page one two a b = let same : ◌≡◌ {A = Option Command} (Some (Page one)) (Some (Page two)) = sym a ∙ b in cc

  same_sample : (one two : SampleWords) → MeanSample words one → MeanSample words two → one ≡ two
  same_sample one two a b = let same : ◌≡◌ {A = Option Command} (Some (Sample one)) (Some (Sample two)) = sym a ∙ b in cc

  not_both : (page : PageWords) (sample : SampleWords) → MeanPage words page → MeanSample words sample → ⊥
  not_both page sample a b = let same : ◌≡◌ {A = Option Command} (Some (Page page)) (Some (Sample sample)) = sym a ∙ b in absurd cc

  -- how the page that the words mean ended
  abbrev EndingOf : PageWords → Type 0
  EndingOf page = Ending page.band (sources_of page) (targets_of page) t t' r r' status receipt

  page_ending : (page : PageWords) → MeanPage words page → Ends words t t' r r' status receipt → EndingOf page
  page_ending page means (Ends.no_memory begins same refuses none) = no_memory refuses.status_is (ap (λ (s : TrayState). s.faults) same) refuses.files refuses.line none
  page_ending page means (Ends.no_command means_none same refuses none) = let e : ◌≡◌ {A = Option Command} None (Some (Page page)) = sym means_none ∙ means in absurd cc
  page_ending page means (Ends.page other also ended) = subst (λ (p : PageWords). EndingOf p) (same_page other page also means) (ending other.band (sources_of other) (targets_of other) t t' r r' status receipt ended)
  page_ending page means (Ends.sample sample also same ended) = absurd (not_both page sample means also)

  sample_ending : (sample : SampleWords) → MeanSample words sample → Ends words t t' r r' status receipt → (t' ≡ t) × EndsSample sample r r' status receipt
  sample_ending sample means (Ends.no_memory begins same refuses none) = absurd (no_sample words sample begins means)
  sample_ending sample means (Ends.no_command means_none same refuses none) = let e : ◌≡◌ {A = Option Command} None (Some (Sample sample)) = sym means_none ∙ means in absurd cc
  sample_ending sample means (Ends.page page also ended) = absurd (not_both page sample also means)
  sample_ending sample means (Ends.sample other also same ended) = (same, subst (λ (s : SampleWords). EndsSample s r r' status receipt) (same_sample other sample also means) ended)

  -- the files of a page that is done
  page_files : (page : PageWords) → EndingOf page → status ≡ 0 → (made : PageParts) × IsMade (sources_of page) t made × (IsTrue r.tells → r'.file ≡ put_all (outcome (targets_of page) made) r.file) × HasReceipt made page.band receipt
  page_files page (done is calm made valid begun files reported shut asked has) s = (made, valid, files, has)
  page_files page (refused error is (inl which) verdict begun count keeps line none) s = absurd (omega arith)
  page_files page (refused error is (inr which) verdict begun count keeps line none) s = absurd (omega arith)
  page_files page (unread file is rose begun breaks keeps line none) s = absurd (omega arith)
  page_files page (unwritten file is kept made valid breaks line none) s = absurd (omega arith)
  page_files page (no_memory is calm keeps line none) s = absurd (omega arith)

  page_silent : (page : PageWords) → EndingOf page → status ≡ 0 → (IsTrue r.tells → r'.reported ≡ r.reported) × (IsFalse r'.is_open × FinishesAll (written_names (targets_of page)) r r') × Asks t.asked t'.asked (read_files (sources_of page)) × Asks r.asked r'.asked (written_names (targets_of page))
  page_silent page (done is calm made valid begun files reported shut asked has) s = (reported, shut, begun, asked)
  page_silent page (refused error is (inl which) verdict begun count keeps line none) s = absurd (omega arith)
  page_silent page (refused error is (inr which) verdict begun count keeps line none) s = absurd (omega arith)
  page_silent page (unread file is rose begun breaks keeps line none) s = absurd (omega arith)
  page_silent page (unwritten file is kept made valid breaks line none) s = absurd (omega arith)
  page_silent page (no_memory is calm keeps line none) s = absurd (omega arith)

  page_calm : (page : PageWords) → EndingOf page → status ≡ 0 → (t'.faults ≡ t.faults) × (r'.faults ≡ r.faults)
  page_calm page (done is calm made valid begun files reported shut asked has) s = calm
  page_calm page (refused error is (inl which) verdict begun count keeps line none) s = absurd (omega arith)
  page_calm page (refused error is (inr which) verdict begun count keeps line none) s = absurd (omega arith)
  page_calm page (unread file is rose begun breaks keeps line none) s = absurd (omega arith)
  page_calm page (unwritten file is kept made valid breaks line none) s = absurd (omega arith)
  page_calm page (no_memory is calm keeps line none) s = absurd (omega arith)

  sample_calm : (sample : SampleWords) → t' ≡ t → AnswersSample sample r r' status receipt → status ≡ 0 → (t'.faults ≡ t.faults) × (r'.faults ≡ r.faults)
  sample_calm sample same (AnswersSample.reported small is calm text has) s = (ap (λ (u : TrayState). u.faults) same, calm)
  sample_calm sample same (AnswersSample.reported_in_part small is rose once text none) s = absurd (omega arith)
  sample_calm sample same (AnswersSample.too_many large refuses none) s = let e : status ≡ 4 = refuses.status_is in absurd (omega arith)
  sample_calm sample same (AnswersSample.no_memory small refuses none) s = let e : status ≡ 7 = refuses.status_is in absurd (omega arith)

  calm_of : Ends words t t' r r' status receipt → status ≡ 0 → (t'.faults ≡ t.faults) × (r'.faults ≡ r.faults)
  calm_of (Ends.no_memory begins same refuses none) s = let e : status ≡ 7 = refuses.status_is in absurd (omega arith)
  calm_of (Ends.no_command means_none same refuses none) s = let e : status ≡ 2 = refuses.status_is in absurd (omega arith)
  calm_of (Ends.page page also ended) s = page_calm page (ending page.band (sources_of page) (targets_of page) t t' r r' status receipt ended) s
  calm_of (Ends.sample sample also same ended) s = sample_calm sample same ended.answer s

  -- the receipt of a sample page that is done
  sample_has : (sample : SampleWords) → AnswersSample sample r r' status receipt → status ≡ 0 → HasReceipt (sample_of sample) sample_band receipt
  sample_has sample (AnswersSample.reported small is calm text has) s = has
  sample_has sample (AnswersSample.reported_in_part small is rose once text none) s = absurd (omega arith)
  sample_has sample (AnswersSample.too_many large refuses none) s = let e : status ≡ 4 = refuses.status_is in absurd (omega arith)
  sample_has sample (AnswersSample.no_memory small refuses none) s = let e : status ≡ 7 = refuses.status_is in absurd (omega arith)

  -- there is no receipt where the work is not done
  page_without : (page : PageWords) → EndingOf page → status ≢ 0 → receipt ≡ None
  page_without page (done is calm made valid begun files reported shut asked has) some = absurd (some is)
  page_without page (refused error is which verdict begun count keeps line none) some = none
  page_without page (unread file is rose begun breaks keeps line none) some = none
  page_without page (unwritten file is kept made valid breaks line none) some = none
  page_without page (no_memory is calm keeps line none) some = none

  sample_without : (sample : SampleWords) → AnswersSample sample r r' status receipt → status ≢ 0 → receipt ≡ None
  sample_without sample (AnswersSample.reported small is calm text has) some = absurd (some is)
  sample_without sample (AnswersSample.reported_in_part small is rose once text none) some = none
  sample_without sample (AnswersSample.too_many large refuses none) some = none
  sample_without sample (AnswersSample.no_memory small refuses none) some = none

  without : Ends words t t' r r' status receipt → status ≢ 0 → receipt ≡ None
  without (Ends.no_memory begins same refuses none) some = none
  without (Ends.no_command means_none same refuses none) some = none
  without (Ends.page page also ended) some = page_without page (ending page.band (sources_of page) (targets_of page) t t' r r' status receipt ended) some
  without (Ends.sample sample also same ended) some = sample_without sample ended.answer some

  pub success : Ends words t t' r r' status receipt → Success words t t' r r' status receipt
  success ended = record {
    calm = calm_of ended;
    files = λ page means s. page_files page (page_ending page means ended) s;
    silent = λ page means s. (page_silent page (page_ending page means ended) s).0;
    finished = λ page means s. (page_silent page (page_ending page means ended) s).1.1;
    shut = λ page means s. (page_silent page (page_ending page means ended) s).1.0;
    begun = λ page means s. (page_silent page (page_ending page means ended) s).2;
    created = λ page means s. (page_silent page (page_ending page means ended) s).3;
    sample = λ sample means s. sample_has sample (sample_ending sample means ended).1.answer s;
    no_receipt = without ended;
  }

  only_by : (page : PageWords) → EndingOf page → (status ≡ 3) ⊎ (status ≡ 4) → (error : CommonError) × RefusesFiles page t t' r r' status error
  only_by page (refused error is which verdict begun count keeps line none) s = (error, record { status_is = is; verdict = verdict; begun = begun; count = count; line = line })
  only_by page (done is calm made valid begun files reported shut asked has) (inl s) = absurd (omega arith)
  only_by page (done is calm made valid begun files reported shut asked has) (inr s) = absurd (omega arith)
  only_by page (unread file is rose begun breaks keeps line none) (inl s) = absurd (omega arith)
  only_by page (unread file is rose begun breaks keeps line none) (inr s) = absurd (omega arith)
  only_by page (unwritten file is kept made valid breaks line none) (inl s) = absurd (omega arith)
  only_by page (unwritten file is kept made valid breaks line none) (inr s) = absurd (omega arith)
  only_by page (no_memory is calm keeps line none) (inl s) = absurd (omega arith)
  only_by page (no_memory is calm keeps line none) (inr s) = absurd (omega arith)

  pub refused_input : PlateLaws one_page → Ends words t t' r r' status receipt → RefusedInput words t t' r r' status
  refused_input laws ended = record {
    only = λ page means s. only_by page (page_ending page means ended) s;
    always = λ page error means tells judged calm. always_by page.band (sources_of page) (targets_of page) t t' r r' status receipt laws error (page_ending page means ended) tells judged calm;
  }

  read_error : Ends words t t' r r' status receipt → status ≡ 5 → Rose t.faults t'.faults
  read_error (Ends.no_memory begins same refuses none) s = let e : status ≡ 7 = refuses.status_is in absurd (omega arith)
  read_error (Ends.no_command means_none same refuses none) s = let e : status ≡ 2 = refuses.status_is in absurd (omega arith)
  read_error (Ends.page page also ended) s = (read_by page.band (sources_of page) (targets_of page) t t' r r' status receipt (ending page.band (sources_of page) (targets_of page) t t' r r' status receipt ended) s).0
  read_error (Ends.sample sample also same ended) s = elim (sample_status sample r r' status receipt ended.answer) [
    | inl a ↦ absurd (omega arith)
    | inr (inl a) ↦ absurd (omega arith)
    | inr (inr (inl a)) ↦ absurd (omega arith)
    | inr (inr (inr a)) ↦ absurd (omega arith)
  ]

  asked_of : (page : PageWords) → MeanPage words page → Ends words t t' r r' status receipt → AsksPrefix t.asked t'.asked (read_files (sources_of page))
  asked_of page means (Ends.no_memory begins same refuses none) = subst (λ (s : TrayState). AsksPrefix t.asked s.asked (read_files (sources_of page))) (sym same) (asks_none_of t.asked (read_files (sources_of page)))
  asked_of page means (Ends.no_command means_none same refuses none) = let e : ◌≡◌ {A = Option Command} None (Some (Page page)) = sym means_none ∙ means in absurd cc
  asked_of page means (Ends.page other also ended) = subst (λ (p : PageWords). AsksPrefix t.asked t'.asked (read_files (sources_of p))) (same_page other page also means) ended.carried.asked
  asked_of page means (Ends.sample sample also same ended) = absurd (not_both page sample means also)

  -- the bytes that were taken of the file in hand
  hand_of : (page : PageWords) → MeanPage words page → Ends words t t' r r' status receipt → (t' ≡ t) ⊎ InHand (sources_of page) t t'
  hand_of page means (Ends.no_memory begins same refuses none) = inl same
  hand_of page means (Ends.no_command means_none same refuses none) = inl same
  hand_of page means (Ends.page other also ended) = subst (λ (p : PageWords). (t' ≡ t) ⊎ InHand (sources_of p) t t') (same_page other page also means) ended.carried.in_hand
  hand_of page means (Ends.sample sample also same ended) = inl same

  -- neither a failed write nor out of memory passes a fault of the tray over
  no_fault_passed : (page : PageWords) → EndingOf page → (status ≡ 6) ⊎ (status ≡ 7) → t'.faults ≡ t.faults
  no_fault_passed page (no_memory is calm keeps line none) s = calm
  no_fault_passed page (done is calm made valid begun files reported shut asked has) s = calm.0
  no_fault_passed page (refused error is (inl which) verdict begun count keeps line none) s = elim s [ inl a ↦ absurd (omega arith) | inr a ↦ absurd (omega arith) ]
  no_fault_passed page (refused error is (inr which) verdict begun count keeps line none) s = elim s [ inl a ↦ absurd (omega arith) | inr a ↦ absurd (omega arith) ]
  no_fault_passed page (unread file is rose begun breaks keeps line none) s = elim s [ inl a ↦ absurd (omega arith) | inr a ↦ absurd (omega arith) ]
  no_fault_passed page (unwritten file is kept made valid breaks line none) s = kept

  calm_end : Ends words t t' r r' status receipt → (status ≡ 6) ⊎ (status ≡ 7) → t'.faults ≡ t.faults
  calm_end (Ends.no_memory begins same refuses none) s = ap (λ (u : TrayState). u.faults) same
  calm_end (Ends.no_command means_none same refuses none) s = ap (λ (u : TrayState). u.faults) same
  calm_end (Ends.page page also ended) s = no_fault_passed page (ending page.band (sources_of page) (targets_of page) t t' r r' status receipt ended) s
  calm_end (Ends.sample sample also same ended) s = ap (λ (u : TrayState). u.faults) same

  pub read_fault : Ends words t t' r r' status receipt → ReadFault words t t' r r' status
  read_fault ended = record {
    reason = read_error ended;
    breaks = λ page means s. (read_by page.band (sources_of page) (targets_of page) t t' r r' status receipt (page_ending page means ended) s).1;
    asked = λ page means. asked_of page means ended;
    in_hand = λ page means. hand_of page means ended;
    calm = calm_end ended;
  }

  write_error : Ends words t t' r r' status receipt → status ≡ 6 → Rose r.faults r'.faults
  write_error (Ends.no_memory begins same refuses none) s = let e : status ≡ 7 = refuses.status_is in absurd (omega arith)
  write_error (Ends.no_command means_none same refuses none) s = let e : status ≡ 2 = refuses.status_is in absurd (omega arith)
  write_error (Ends.page page also ended) s = write_error_by page.band (sources_of page) (targets_of page) t t' r r' status receipt (ending page.band (sources_of page) (targets_of page) t t' r r' status receipt ended) s
  write_error (Ends.sample sample also same ended) s = (sample_part sample r r' status receipt ended.answer s).0

  -- the files that are created, after the line was told
  created_by : (page : PageWords) (result : Result Receipt CommonError) (between : RackState) → CarriesOut page.band (sources_of page) (targets_of page) t t' r between result → Closes result between r' status receipt → AsksPrefix r.asked r'.asked (written_names (targets_of page))
  created_by page (Ok x) between carried closed = subst (λ (s : RackState). AsksPrefix r.asked s.asked (written_names (targets_of page))) (sym closed.0) carried.created
  created_by page (Err error) between carried closed = subst (λ (names : Option (List (List ℕ))). AsksPrefix r.asked names (written_names (targets_of page))) (sym closed.0.files.asked) carried.created

  created_of : (page : PageWords) → MeanPage words page → Ends words t t' r r' status receipt → AsksPrefix r.asked r'.asked (written_names (targets_of page))
  created_of page means (Ends.no_memory begins same refuses none) = subst (λ (names : Option (List (List ℕ))). AsksPrefix r.asked names (written_names (targets_of page))) (sym refuses.files.asked) (asks_none_of r.asked (written_names (targets_of page)))
  created_of page means (Ends.no_command means_none same refuses none) = let e : ◌≡◌ {A = Option Command} None (Some (Page page)) = sym means_none ∙ means in absurd cc
  created_of page means (Ends.page other also ended) = subst (λ (p : PageWords). AsksPrefix r.asked r'.asked (written_names (targets_of p))) (same_page other page also means) (created_by other ended.result ended.between ended.carried ended.closed)
  created_of page means (Ends.sample sample also same ended) = absurd (not_both page sample means also)

  pub write_fault : Ends words t t' r r' status receipt → WriteFault words t r r' status
  write_fault ended = record {
    reason = write_error ended;
    breaks = λ page means s. write_by page.band (sources_of page) (targets_of page) t t' r r' status receipt (page_ending page means ended) s;
    asked = λ page means. created_of page means ended;
  }

  pub fault_line : Ends words t t' r r' status receipt → FaultLine r r' status
  fault_line (Ends.no_memory begins same refuses none) some other = (errors.Memory, refuses.status_is, refuses.line)
  fault_line (Ends.no_command means_none same refuses none) some other = (errors.Usage, refuses.status_is, refuses.line)
  fault_line (Ends.page page also ended) some other = line_by page.band (sources_of page) (targets_of page) t t' r r' status receipt (ending page.band (sources_of page) (targets_of page) t t' r r' status receipt ended) some other
  fault_line (Ends.sample sample also same ended) some other = sample_line sample r r' status receipt ended.answer some other

  left : Ends words t t' r r' status receipt → status ≢ 0 → status ≢ 6 → KeepsFiles r r'
  left (Ends.no_memory begins same refuses none) some other = refuses.files
  left (Ends.no_command means_none same refuses none) some other = refuses.files
  left (Ends.page page also ended) some other = leaves_by page.band (sources_of page) (targets_of page) t t' r r' status receipt (ending page.band (sources_of page) (targets_of page) t t' r r' status receipt ended) some other
  left (Ends.sample sample also same ended) some other = ended.files

  pub leaves_files : Ends words t t' r r' status receipt → LeavesFiles r r' status
  leaves_files ended some other = let keeps = left ended some other in (keeps.asked, keeps.is_open, keeps.files)

  pub sample_page : Ends words t t' r r' status receipt → SamplePage words t t' r r' status
  sample_page ended = record {
    statuses = λ sample means. sample_status sample r r' status receipt (sample_ending sample means ended).1.answer;
    reported = λ sample means. sample_reported sample r r' status receipt (sample_ending sample means ended).1.answer;
    too_many = λ sample means. (sample_large sample r r' status receipt (sample_ending sample means ended).1.answer, large_status sample r r' status receipt (sample_ending sample means ended).1.answer);
    too_many_line = λ sample means. large_line sample r r' status receipt (sample_ending sample means ended).1.answer;
    in_part = λ sample means s. (sample_part sample r r' status receipt (sample_ending sample means ended).1.answer s).1;
    once = λ sample means. sample_once sample r r' status receipt (sample_ending sample means ended).1.answer;
    files = λ sample means. (sample_ending sample means ended).1.files.files;
    no_begin = λ sample means. ap (λ (s : TrayState). s.asked) (sample_ending sample means ended).0;
    no_create = λ sample means. (sample_ending sample means ended).1.files.asked;
  }

  statuses : Ends words t t' r r' status receipt → (status ≡ 0) ⊎ ((2 ≤ status) × (status ≤ 7))
  statuses (Ends.no_memory begins same refuses none) = let e : status ≡ 7 = refuses.status_is in inr (omega arith, omega arith)
  statuses (Ends.no_command means_none same refuses none) = let e : status ≡ 2 = refuses.status_is in inr (omega arith, omega arith)
  statuses (Ends.page page also ended) = status_by page.band (sources_of page) (targets_of page) t t' r r' status receipt (ending page.band (sources_of page) (targets_of page) t t' r r' status receipt ended)
  statuses (Ends.sample sample also same ended) = elim (sample_status sample r r' status receipt ended.answer) [
    | inl a ↦ inl a
    | inr (inl a) ↦ inr (omega arith, omega arith)
    | inr (inr (inl a)) ↦ inr (omega arith, omega arith)
    | inr (inr (inr a)) ↦ inr (omega arith, omega arith)
  ]

  pub completeness : PlateLaws one_page → Ends words t t' r r' status receipt → Completeness words t t' r r' status
  completeness laws ended = record {
    page = λ page written means tells judged still_tray still. complete_by page.band (sources_of page) (targets_of page) t t' r r' status receipt laws written (page_ending page means ended) tells judged still_tray still;
    sample = λ sample means still. sample_done sample r r' status receipt (sample_ending sample means ended).1.answer still;
    statuses = statuses ended;
  }
