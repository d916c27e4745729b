-- The clauses of the top call, by how the words' command ended.
use Rattle.std.proofs.Common.{◌≡◌, ◌≢◌, ◌⊎◌, ℕ, ◌<◌, ◌≤◌, List, ◌++◌, length, take, Option, Some, None, Result, Ok, Err, IsTrue, inl, inr, refl, sym, ap, ◌∙◌, subst, arith}
use Rattle.std.proofs.lemmas.Bool.{cases_eq, cases_lt}
use Rattle.std.proofs.lemmas.List.{length-map}
use Rattle.plain_words.specs.Parts.{PlateNames}
use Rattle.outside.specs.ErrorCases.{Rose, RoseOnce, AsksPrefix}
use Rattle.outside.specs.Tray.{TrayState}
use Rattle.outside.specs.Rack.{RackState}
use Rattle.outside.proofs.Steps.{rose_after}
use Rattle.page_model.specs.declared.parts.PageParts.{PageParts}
use Rattle.page_model.specs.Tints.{trapped_planes}
use Rattle.page_files.specs.Writing.{WritesAll}
use Rattle.common_errors.specs.declared.common.CommonError.TheVariants.{Usage, Job, NoDetails, Plate, Page, Read, Write, Memory}
use Rattle.common_errors.specs.Telling.{KeepsFiles, TellsText}
use Rattle.sheet_files.specs.Gathering.{AsksTwice, FailsAgain, FailsToRead, HasChanged, IsMadeSheet, IsOfInput, RefusesFiles, TakesTrays, tray_of}
use Rattle.sheet_files.specs.Inputs.{stored_by}
use Rattle.sheet_files.specs.Errors.{line_of_error, status_of_error}
use Rattle.plate_rows.specs.Trays.{IsCalm, tray_at}
use Rattle.sheet_files.specs.Verdicts.{SheetVerdict, IsSheetVerdict, OneSheetVerdict}
use Rattle.sheet_files.specs.Verdicts.SheetVerdict.{Accepted, Refused}
use Rattle.sheet_files.specs.declared.error.TrapsheetError.{TrapsheetError}
use Rattle.sheet_files.specs.declared.error.TrapsheetError.TheVariants.{Changed, Common, OfSheet}
use Rattle.trapsheet_cli.specs.Clauses.{Changes, Completeness, FailsAtFirst, FailsLater, FailsToWrite, FaultLine, LeavesFiles, Mean, NoRackRose, NoTrayRose, ReadFault, RefusedInput, RefusesInput, Reopened, StopsInParts, Success, Tell, Usage as UsageClause, WriteFault, Writes}
use Rattle.trapsheet_cli.specs.Endings.{AsksAllTwice, Carries, Closes, EndsSheet, EndsWords, RefusesFirst, RefusesWords, sheet_files}
use Rattle.sheet_files.specs.Reporting.{sheet_report}
use Rattle.plate_rows.specs.Racks.{rack_at}
use Rattle.sheet_files.specs.Racks.{BreaksSheet, HoldParts, HoldsPart, KeepsRacks, plate_file, rack_names}
use Rattle.trapsheet_cli.specs.Strips.{IsWhole}
use Rattle.trapsheet_cli.specs.Files.{sources_of, targets_of}
use Rattle.trapsheet_cli.specs.Words.{SheetWords, order_of}

files_same : (a : RackState) → KeepsFiles a a
files_same a = record { keeps = record { tells = refl; faults = omega arith }; asked = refl; finished = refl; is_open = refl; files = λ tells. refl }

files_is : (a b : RackState) → b ≡ a → KeepsFiles a b
files_is a b same = subst (λ (r : RackState). KeepsFiles a r) (sym same) (files_same a)

-- a stop for what the files are has status 3 or 4
input_status : (error : TrapsheetError) → IsOfInput error → (status_of_error error ≡ 3) ⊎ (status_of_error error ≡ 4)
input_status (Common (Job fault)) of_input = inl refl
input_status (Common (NoDetails plate)) of_input = inl refl
input_status (Common (Plate plate fault)) of_input = inr refl
input_status (Common (Page fault)) of_input = absurd of_input
input_status (Common Usage) of_input = absurd of_input
input_status (Common (Read file)) of_input = absurd of_input
input_status (Common (Write file)) of_input = absurd of_input
input_status (Common Memory) of_input = absurd of_input
input_status (OfSheet common_error) of_input = inr refl
input_status (Changed plate) of_input = absurd of_input

-- How a command of this sheet ended.
data Ending (order : SheetWords) (t t' : List TrayState) (r r' : List RackState) (status : ℕ) : Type 0 where
  done : status ≡ 0 → (sheet : PageParts) → IsMadeSheet (sources_of order) t sheet → AsksAllTwice (sources_of order) t t' → ((k : ℕ) → IsCalm t t' k) → ((k : ℕ) → k < length (targets_of order).outputs → WritesAll (sheet_files (targets_of order) sheet k) (rack_at r k) (rack_at r' k)) → KeepsRacks (targets_of order) r r' → Ending order t t' r r' status
  refused : (error : TrapsheetError) → (status ≡ 3) ⊎ (status ≡ 4) → RefusesFiles (sources_of order) t t' error → RefusesFirst error r r' status → Ending order t t' r r' status
  unread : (file : Option ℕ) → status ≡ 5 → FailsToRead (sources_of order) t t' file → TakesTrays (sources_of order) t t' → RefusesFirst (Common (Read file)) r r' status → Ending order t t' r r' status
  unwritten : (sheet : PageParts) (file : Option ℕ) (between : List RackState) → status ≡ 6 → IsMadeSheet (sources_of order) t sheet → AsksAllTwice (sources_of order) t t' → ((k : ℕ) → IsCalm t t' k) → BreaksSheet (targets_of order) (trapped_planes sheet) (sheet_report sheet) file r between → KeepsRacks (targets_of order) r between → RefusesFirst (Common (Write file)) between r' status → Ending order t t' r r' status
  changed : (sheet : PageParts) (plate : ℕ) (between : List RackState) → status ≡ 4 → IsMadeSheet (sources_of order) t sheet → HasChanged (sources_of order) plate t t' → (between ≡ r) ⊎ AsksAllTwice (sources_of order) t t' → HoldParts (targets_of order) (trapped_planes sheet) r between → KeepsRacks (targets_of order) r between → RefusesFirst (Changed plate) between r' status → Ending order t t' r r' status
  unread_again : (sheet : PageParts) (plate : ℕ) (between : List RackState) → status ≡ 5 → IsMadeSheet (sources_of order) t sheet → FailsAgain (sources_of order) plate t t' → (between ≡ r) ⊎ AsksAllTwice (sources_of order) t t' → HoldParts (targets_of order) (trapped_planes sheet) r between → KeepsRacks (targets_of order) r between → RefusesFirst (Common (Read (Some plate))) between r' status → Ending order t t' r r' status
  no_memory : status ≡ 7 → ((k : ℕ) → IsCalm t t' k) → TakesTrays (sources_of order) t t' ⊎ IsWhole (sources_of order) t → RefusesFirst (Common Memory) r r' status → Ending order t t' r r' status

module _ (order : SheetWords) (t t' : List TrayState) (r between r' : List RackState) (status : ℕ) (keeps : KeepsRacks (targets_of order) r between) where
  closes_ok : (result : Result (Unit {0}) TrapsheetError) → result ≡ Ok tt → Closes result between r' status → (r' ≡ between) × (status ≡ 0)
  closes_ok result is closed = subst (λ (res : Result (Unit {0}) TrapsheetError). Closes res between r' status) is closed

  closes_err : (result : Result (Unit {0}) TrapsheetError) (error : TrapsheetError) → result ≡ Err error → Closes result between r' status → RefusesFirst error between r' status
  closes_err result error is closed = subst (λ (res : Result (Unit {0}) TrapsheetError). Closes res between r' status) is closed

  first_from : (error : TrapsheetError) → between ≡ r → RefusesFirst error between r' status → RefusesFirst error r r' status
  first_from error same reported = subst (λ (s : List RackState). RefusesFirst error s r' status) same reported

  status_in : (error : TrapsheetError) → IsOfInput error → RefusesFirst error between r' status → (status ≡ 3) ⊎ (status ≡ 4)
  status_in error of_input reported = elim (input_status error of_input) [
    | inl is ↦ inl (reported.first.status_is ∙ is)
    | inr is ↦ inr (reported.first.status_is ∙ is)
  ]

  ending_by : (result : Result (Unit {0}) TrapsheetError) → Carries (sources_of order) (targets_of order) t t' r between result → Closes result between r' status → Ending order t t' r r' status
  ending_by result (Carries.carried sheet is made asks calm wrote) closed =
      let ends = closes_ok result is closed in
      done ends.1 sheet made asks calm
      (λ k less. subst (λ (s : List RackState). WritesAll (sheet_files (targets_of order) sheet k) (rack_at r k) (rack_at s k)) (sym ends.0) (wrote k less))
      (subst (λ (s : List RackState). KeepsRacks (targets_of order) r s) (sym ends.0) keeps)
  ending_by result (Carries.refused error is files takes same) closed =
      let reported = closes_err result error is closed in
      refused error (status_in error files.of_input reported) files (first_from error same reported)
  ending_by result (Carries.unread file is fails takes same) closed =
      let reported = closes_err result (Common (Read file)) is closed in
      unread file reported.first.status_is fails takes (first_from (Common (Read file)) same reported)
  ending_by result (Carries.changed sheet plate is made change again parts) closed =
      let reported = closes_err result (Changed plate) is closed in
      changed sheet plate between reported.first.status_is made change again parts keeps reported
  ending_by result (Carries.unread_again sheet plate is made fails again parts) closed =
      let reported = closes_err result (Common (Read (Some plate))) is closed in
      unread_again sheet plate between reported.first.status_is made fails again parts keeps reported
  ending_by result (Carries.unwritten sheet file is made asks calm breaks) closed =
      let reported = closes_err result (Common (Write file)) is closed in
      unwritten sheet file between reported.first.status_is made asks calm breaks keeps reported
  ending_by result (Carries.no_memory is calm takes same) closed =
      let reported = closes_err result (Common Memory) is closed in
      no_memory reported.first.status_is calm takes (first_from (Common Memory) same reported)

  -- what the line that is told leaves of each rack
  closed_files : (result : Result (Unit {0}) TrapsheetError) → Closes result between r' status → (k : ℕ) → KeepsFiles (rack_at between k) (rack_at r' k)
  closed_files (Ok x) closed k = files_is (rack_at between k) (rack_at r' k) (ap (λ (s : List RackState). rack_at s k) closed.0)
  closed_files (Err error) closed k = elim (cases_eq k 0) [
    | inl zero ↦ subst (λ (n : ℕ). KeepsFiles (rack_at between n) (rack_at r' n)) (sym zero) closed.first.files
    | inr other ↦ files_is (rack_at between k) (rack_at r' k) (closed.others k other)
  ]

  closed_others : (result : Result (Unit {0}) TrapsheetError) → Closes result between r' status → (k : ℕ) → k ≢ 0 → rack_at r' k ≡ rack_at between k
  closed_others (Ok x) closed k other = ap (λ (s : List RackState). rack_at s k) closed.0
  closed_others (Err error) closed k other = closed.others k other

  closed_asked : (result : Result (Unit {0}) TrapsheetError) → Closes result between r' status → (k : ℕ) → AsksPrefix (rack_at r k).asked (rack_at r' k).asked (rack_names (targets_of order) k)
  closed_asked result closed k = subst (λ (names : Option (List (List ℕ))). AsksPrefix (rack_at r k).asked names (rack_names (targets_of order) k)) (sym (closed_files result closed k).asked) (keeps.asked k)

  closed_beyond : (result : Result (Unit {0}) TrapsheetError) → Closes result between r' status → 1 ≤ length (targets_of order).outputs → (k : ℕ) → length (targets_of order).outputs ≤ k → rack_at r' k ≡ rack_at r k
  closed_beyond result closed some k more = (let other : k ≢ 0 = omega arith in closed_others result closed k other ∙ keeps.beyond k more)

  closed_reported : (result : Result (Unit {0}) TrapsheetError) → Closes result between r' status → (k : ℕ) → k ≢ 0 → IsTrue (rack_at r k).tells → (rack_at r' k).reported ≡ (rack_at r k).reported
  closed_reported result closed k other tells = ap (λ (s : RackState). s.reported) (closed_others result closed k other) ∙ keeps.reported k tells

ending : (order : SheetWords) (t t' : List TrayState) (r r' : List RackState) (status : ℕ) → EndsSheet order t t' r r' status → Ending order t t' r r' status
ending order t t' r r' status ended = ending_by order t t' r ended.between r' status ended.carried.keeps ended.result ended.carried.answer ended.closed

status_by : (order : SheetWords) (t t' : List TrayState) (r r' : List RackState) (status : ℕ) → Ending order t t' r r' status → (status ≡ 0) ⊎ ((3 ≤ status) × (status ≤ 7))
status_by order t t' r r' status (done is sheet made asks calm wrote keeps) = inl is
status_by order t t' r r' status (refused error (inl is) files reported) = inr (omega arith, omega arith)
status_by order t t' r r' status (refused error (inr is) files reported) = inr (omega arith, omega arith)
status_by order t t' r r' status (unread file is fails takes reported) = inr (omega arith, omega arith)
status_by order t t' r r' status (changed sheet plate between is made change again parts keeps reported) = inr (omega arith, omega arith)
status_by order t t' r r' status (unread_again sheet plate between is made fails again parts keeps reported) = inr (omega arith, omega arith)
status_by order t t' r r' status (unwritten sheet file between is made asks calm breaks keeps reported) = inr (omega arith, omega arith)
status_by order t t' r r' status (no_memory is calm takes reported) = inr (omega arith, omega arith)

-- no count of a rack rose where its files are written
wrote_calm : (order : SheetWords) (sheet : PageParts) (r r' : List RackState) → ((k : ℕ) → k < length (targets_of order).outputs → WritesAll (sheet_files (targets_of order) sheet k) (rack_at r k) (rack_at r' k)) → KeepsRacks (targets_of order) r r' → (k : ℕ) → (rack_at r' k).faults ≡ (rack_at r k).faults
wrote_calm order sheet r r' wrote keeps k = elim (cases_lt k (length (targets_of order).outputs)) [
  | inl less ↦ (wrote k less).well
  | inr more ↦ ap (λ (s : RackState). s.faults) (keeps.beyond k (omega arith))
]

module _ (words : List (List ℕ)) (t t' : List TrayState) (r r' : List RackState) (status : ℕ) where
  same_order : (one two : SheetWords) → order_of words ≡ Some one → order_of words ≡ Some two → one ≡ two
  same_order one two is also = let e : ◌≡◌ {A = Option SheetWords} (Some one) (Some two) = sym is ∙ also in cc

  -- the ending of the sheet that the words mean
  ended_of : (order : SheetWords) → Mean words order → EndsWords words t t' r r' status → EndsSheet order t t' r r' status
  ended_of order means (EndsWords.no_sheet none same reported) = absurd (let e : ◌≡◌ {A = Option SheetWords} None (Some order) = sym none ∙ means in cc)
  ended_of order means (EndsWords.sheet other also ended) = subst (λ (o : SheetWords). EndsSheet o t t' r r' status) (same_order other order also means) ended

  of : (order : SheetWords) → Mean words order → EndsWords words t t' r r' status → Ending order t t' r r' status
  of order means ended = ending order t t' r r' status (ended_of order means ended)

  calm_by : (order : SheetWords) → Ending order t t' r r' status → status ≡ 0 → (k : ℕ) → IsCalm t t' k × ((rack_at r' k).faults ≡ (rack_at r k).faults)
  calm_by order (done is sheet made asks calm wrote keeps) s k = (calm k, wrote_calm order sheet r r' wrote keeps k)
  calm_by order (refused error (inl is) files reported) s k = absurd (omega arith)
  calm_by order (refused error (inr is) files reported) s k = absurd (omega arith)
  calm_by order (unread file is fails takes reported) s k = absurd (omega arith)
  calm_by order (changed sheet plate between is made change again parts keeps reported) s k = absurd (omega arith)
  calm_by order (unread_again sheet plate between is made fails again parts keeps reported) s k = absurd (omega arith)
  calm_by order (unwritten sheet file between is made asks calm breaks keeps reported) s k = absurd (omega arith)
  calm_by order (no_memory is calm takes reported) s k = absurd (omega arith)

  all_calm : EndsWords words t t' r r' status → status ≡ 0 → (k : ℕ) → IsCalm t t' k × ((rack_at r' k).faults ≡ (rack_at r k).faults)
  all_calm (EndsWords.no_sheet none same reported) s k = absurd (let e : status ≡ 2 = reported.status_is in omega arith)
  all_calm (EndsWords.sheet order also ended) s k = calm_by order (ending order t t' r r' status ended) s k

  writes_by : (order : SheetWords) → Ending order t t' r r' status → status ≡ 0 → Writes order t r r' × ((k : ℕ) → IsTrue (rack_at r k).tells → (rack_at r' k).reported ≡ (rack_at r k).reported) × ((k : ℕ) → k < length (sources_of order).inputs → AsksTwice (sources_of order) t t' k)
  writes_by order (done is sheet made asks calm wrote keeps) s = (record { sheet = sheet; made = made; files = wrote }, keeps.reported, asks)
  writes_by order (refused error (inl is) files reported) s = absurd (omega arith)
  writes_by order (refused error (inr is) files reported) s = absurd (omega arith)
  writes_by order (unread file is fails takes reported) s = absurd (omega arith)
  writes_by order (changed sheet plate between is made change again parts keeps reported) s = absurd (omega arith)
  writes_by order (unread_again sheet plate between is made fails again parts keeps reported) s = absurd (omega arith)
  writes_by order (unwritten sheet file between is made asks calm breaks keeps reported) s = absurd (omega arith)
  writes_by order (no_memory is calm takes reported) s = absurd (omega arith)

  pub success : EndsWords words t t' r r' status → Success words t t' r r' status
  success ended = record {
    calm = all_calm ended;
    files = λ order means s. (writes_by order (of order means ended) s).0;
    silent = λ order means s. (writes_by order (of order means ended) s).1;
    begun = λ order means s. (writes_by order (of order means ended) s).2;
  }

  no_two : (order : SheetWords) → Ending order t t' r r' status → status ≡ 2 → ⊥
  no_two order how s = elim (status_by order t t' r r' status how) [ inl is ↦ absurd (omega arith) | inr is ↦ absurd (omega (arith, is.0)) ]

  only_usage : EndsWords words t t' r r' status → status ≡ 2 → order_of words ≡ None
  only_usage (EndsWords.no_sheet none same reported) s = none
  only_usage (EndsWords.sheet order also ended) s = absurd (no_two order (ending order t t' r r' status ended) s)

  refused_words : EndsWords words t t' r r' status → order_of words ≡ None → (t' ≡ t) × RefusesWords r r' status
  refused_words (EndsWords.no_sheet none same reported) is = (same, reported)
  refused_words (EndsWords.sheet order also ended) is = absurd (let e : ◌≡◌ {A = Option SheetWords} None (Some order) = sym is ∙ also in cc)

  pub usage : EndsWords words t t' r r' status → UsageClause words t t' r r' status
  usage ended = record {
    only = only_usage ended;
    always = λ none. (refused_words ended none).1.status_is;
    line = λ none. (refused_words ended none).1.first.line;
    files = λ none. (refused_words ended none).1.first.files;
    others = λ none. (refused_words ended none).1.others;
    same_trays = λ none. (refused_words ended none).0;
  }

  reported_files : (error : TrapsheetError) → RefusesFirst error r r' status → (k : ℕ) → KeepsFiles (rack_at r k) (rack_at r' k)
  reported_files error reported k = elim (cases_eq k 0) [
    | inl zero ↦ subst (λ (n : ℕ). KeepsFiles (rack_at r n) (rack_at r' n)) (sym zero) reported.first.files
    | inr other ↦ files_is (rack_at r k) (rack_at r' k) (reported.others k other)
  ]

  in_parts : (order : SheetWords) (sheet : PageParts) (between : List RackState) (error : TrapsheetError) → IsMadeSheet (sources_of order) t sheet → HoldParts (targets_of order) (trapped_planes sheet) r between → KeepsRacks (targets_of order) r between → RefusesFirst error between r' status → StopsInParts order t r r' error
  in_parts order sheet between error made parts keeps reported = record {
    sheet = sheet;
    made = made;
    between = between;
    parts = parts;
    silent = keeps;
    line = reported.first.line;
    files = reported.first.files;
    others = reported.others;
  }

  abbrev CommonError : SheetWords → Type 0
  CommonError order = ((error : TrapsheetError) × RefusesInput order t t' r r' status error) ⊎ ((plate : ℕ) × Changes order t t' r r' status plate)

  only_by : (order : SheetWords) → Ending order t t' r r' status → (status ≡ 3) ⊎ (status ≡ 4) → CommonError order
  only_by order (refused error is files reported) s = inl (error, record { status_is = reported.first.status_is; files = files; line = reported.first.line; kept = reported_files error reported })
  only_by order (changed sheet plate between is made change again parts keeps reported) s = inr (plate, record { status_is = is; changed = change; stops = in_parts order sheet between (Changed plate) made parts keeps reported })
  only_by order (done is sheet made asks calm wrote keeps) (inl s) = absurd (omega arith)
  only_by order (done is sheet made asks calm wrote keeps) (inr s) = absurd (omega arith)
  only_by order (unread file is fails takes reported) (inl s) = absurd (omega arith)
  only_by order (unread file is fails takes reported) (inr s) = absurd (omega arith)
  only_by order (unread_again sheet plate between is made fails again parts keeps reported) (inl s) = absurd (omega arith)
  only_by order (unread_again sheet plate between is made fails again parts keeps reported) (inr s) = absurd (omega arith)
  only_by order (unwritten sheet file between is made asks calm breaks keeps reported) (inl s) = absurd (omega arith)
  only_by order (unwritten sheet file between is made asks calm breaks keeps reported) (inr s) = absurd (omega arith)
  only_by order (no_memory is calm takes reported) (inl s) = absurd (omega arith)
  only_by order (no_memory is calm takes reported) (inr s) = absurd (omega arith)

  -- a sheet that was made is no error
  accepted_or : (order : SheetWords) (sheet : PageParts) (error : TrapsheetError) → OneSheetVerdict → IsMadeSheet (sources_of order) t sheet → Tell order t → IsSheetVerdict (stored_by t (sources_of order)) (sources_of order).names (Refused error) → ⊥
  accepted_or order sheet error one made tells verdict =
      let e : ◌≡◌ {A = SheetVerdict} (Accepted sheet) (Refused error) = one (stored_by t (sources_of order)) (sources_of order).names (Accepted sheet) (Refused error) (made.made tells) verdict in
      cc

  always_by : (order : SheetWords) (error : TrapsheetError) → OneSheetVerdict → Tell order t → IsSheetVerdict (stored_by t (sources_of order)) (sources_of order).names (Refused error) → NoTrayRose t t' → Ending order t t' r r' status → (status ≡ status_of_error error) ⊎ (status ≡ 7)
  always_by order error one tells verdict calm_trays (done is sheet made asks calm wrote keeps) = absurd (accepted_or order sheet error one made tells verdict)
  always_by order error one tells verdict calm_trays (refused other is files reported) =
      let e : ◌≡◌ {A = SheetVerdict} (Refused other) (Refused error) = one (stored_by t (sources_of order)) (sources_of order).names (Refused other) (Refused error) (files.verdict tells) verdict in
      let same : other ≡ error = cc in
      inl (reported.first.status_is ∙ ap status_of_error same)
  always_by order error one tells verdict calm_trays (unread file is fails takes reported) = absurd (calm_trays (tray_of file) fails.rose)
  always_by order error one tells verdict calm_trays (changed sheet plate between is made change again parts keeps reported) = absurd (change.untold (tells plate change.stops.known))
  always_by order error one tells verdict calm_trays (unread_again sheet plate between is made fails again parts keeps reported) = absurd (calm_trays plate fails.rose)
  always_by order error one tells verdict calm_trays (unwritten sheet file between is made asks calm breaks keeps reported) = absurd (accepted_or order sheet error one made tells verdict)
  always_by order error one tells verdict calm_trays (no_memory is calm takes reported) = inr is

  pub refused_input : OneSheetVerdict → EndsWords words t t' r r' status → RefusedInput words t t' r r' status
  refused_input one ended = record {
    only = λ order means s. only_by order (of order means ended) s;
    always = λ order error means tells verdict calm_trays. always_by order error one tells verdict calm_trays (of order means ended);
  }

  abbrev Unread : SheetWords → Type 0
  Unread order = ((file : Option ℕ) × FailsAtFirst order t t' r r' file) ⊎ ((plate : ℕ) × FailsLater order t t' r r' plate)

  unread_by : (order : SheetWords) → Ending order t t' r r' status → status ≡ 5 → Unread order
  unread_by order (unread file is fails takes reported) s = inl (file, record { fails = fails; takes = takes; line = reported.first.line; kept = reported_files (Common (Read file)) reported })
  unread_by order (unread_again sheet plate between is made fails again parts keeps reported) s = inr (plate, record { fails = fails; stops = in_parts order sheet between (Common (Read (Some plate))) made parts keeps reported })
  unread_by order (done is sheet made asks calm wrote keeps) s = absurd (omega arith)
  unread_by order (refused error (inl is) files reported) s = absurd (omega arith)
  unread_by order (refused error (inr is) files reported) s = absurd (omega arith)
  unread_by order (changed sheet plate between is made change again parts keeps reported) s = absurd (omega arith)
  unread_by order (unwritten sheet file between is made asks calm breaks keeps reported) s = absurd (omega arith)
  unread_by order (no_memory is calm takes reported) s = absurd (omega arith)

  unread_rose : (order : SheetWords) → Unread order → (k : ℕ) × Rose (tray_at t k).faults (tray_at t' k).faults
  unread_rose order (inl here) = (tray_of here.0, here.1.fails.rose)
  unread_rose order (inr here) = (here.0, here.1.fails.rose)

  read_error : EndsWords words t t' r r' status → status ≡ 5 → (k : ℕ) × Rose (tray_at t k).faults (tray_at t' k).faults
  read_error (EndsWords.no_sheet none same reported) s = absurd (let e : status ≡ 2 = reported.status_is in omega arith)
  read_error (EndsWords.sheet order also ended) s = unread_rose order (unread_by order (ending order t t' r r' status ended) s)

  six_calm : (order : SheetWords) → Ending order t t' r r' status → (status ≡ 6) ⊎ (status ≡ 7) → (k : ℕ) → IsCalm t t' k
  six_calm order (unwritten sheet file between is made asks calm breaks keeps reported) s k = calm k
  six_calm order (no_memory is calm takes reported) s k = calm k
  six_calm order (done is sheet made asks calm wrote keeps) s k = calm k
  six_calm order (refused error (inl is) files reported) s k = elim s [ inl a ↦ absurd (omega arith) | inr a ↦ absurd (omega arith) ]
  six_calm order (refused error (inr is) files reported) s k = elim s [ inl a ↦ absurd (omega arith) | inr a ↦ absurd (omega arith) ]
  six_calm order (unread file is fails takes reported) s k = elim s [ inl a ↦ absurd (omega arith) | inr a ↦ absurd (omega arith) ]
  six_calm order (changed sheet plate between is made change again parts keeps reported) s k = elim s [ inl a ↦ absurd (omega arith) | inr a ↦ absurd (omega arith) ]
  six_calm order (unread_again sheet plate between is made fails again parts keeps reported) s k = elim s [ inl a ↦ absurd (omega arith) | inr a ↦ absurd (omega arith) ]

  calm_at : EndsWords words t t' r r' status → (status ≡ 6) ⊎ (status ≡ 7) → (k : ℕ) → IsCalm t t' k
  calm_at (EndsWords.no_sheet none same reported) s k = ap (λ (u : List TrayState). (tray_at u k).faults) same
  calm_at (EndsWords.sheet order also ended) s k = six_calm order (ending order t t' r r' status ended) s k

  once_by : (order : SheetWords) → Ending order t t' r r' status → status ≡ 7 → TakesTrays (sources_of order) t t' ⊎ IsWhole (sources_of order) t
  once_by order (no_memory is calm takes reported) s = takes
  once_by order (done is sheet made asks calm wrote keeps) s = absurd (omega arith)
  once_by order (refused error (inl is) files reported) s = absurd (omega arith)
  once_by order (refused error (inr is) files reported) s = absurd (omega arith)
  once_by order (unread file is fails takes reported) s = absurd (omega arith)
  once_by order (changed sheet plate between is made change again parts keeps reported) s = absurd (omega arith)
  once_by order (unread_again sheet plate between is made fails again parts keeps reported) s = absurd (omega arith)
  once_by order (unwritten sheet file between is made asks calm breaks keeps reported) s = absurd (omega arith)

  pub read_fault : EndsWords words t t' r r' status → ReadFault words t t' r r' status
  read_fault ended = record {
    reason = read_error ended;
    breaks = λ order means s. unread_by order (of order means ended) s;
    takes = λ order means. (ended_of order means ended).carried.takes;
    calm = λ s. calm_at ended s;
    once = λ order means s. once_by order (of order means ended) s;
  }

  -- a rack's fault is still there when the line was told
  rose_reported : (order : SheetWords) (file : Option ℕ) (k : ℕ) (between : List RackState) → KeepsRacks (targets_of order) r between → Rose (rack_at r k).faults (rack_at between k).faults → RefusesFirst (Common (Write file)) between r' status → Rose (rack_at r k).faults (rack_at r' k).faults
  rose_reported order file k between keeps rose reported = elim (cases_eq k 0) [
    | inl zero ↦ (let files : KeepsFiles (rack_at between k) (rack_at r' k) = subst (λ (n : ℕ). KeepsFiles (rack_at between n) (rack_at r' n)) (sym zero) reported.first.files in rose_after (rack_at r k).faults (rack_at between k).faults (rack_at r' k).faults (keeps.keeps k).faults files.keeps.faults rose)
    | inr other ↦ subst (λ (s : RackState). Rose (rack_at r k).faults s.faults) (sym (reported.others k other)) rose
  ]

  write_rose : (order : SheetWords) → Ending order t t' r r' status → status ≡ 6 → (k : ℕ) × Rose (rack_at r k).faults (rack_at r' k).faults
  write_rose order (unwritten sheet file between is made asks calm breaks keeps reported) s = (tray_of file, rose_reported order file (tray_of file) between keeps breaks.breaks.reason reported)
  write_rose order (done is sheet made asks calm wrote keeps) s = absurd (omega arith)
  write_rose order (refused error (inl is) files reported) s = absurd (omega arith)
  write_rose order (refused error (inr is) files reported) s = absurd (omega arith)
  write_rose order (unread file is fails takes reported) s = absurd (omega arith)
  write_rose order (changed sheet plate between is made change again parts keeps reported) s = absurd (omega arith)
  write_rose order (unread_again sheet plate between is made fails again parts keeps reported) s = absurd (omega arith)
  write_rose order (no_memory is calm takes reported) s = absurd (omega arith)

  write_error : EndsWords words t t' r r' status → status ≡ 6 → (k : ℕ) × Rose (rack_at r k).faults (rack_at r' k).faults
  write_error (EndsWords.no_sheet none same reported) s = absurd (let e : status ≡ 2 = reported.status_is in omega arith)
  write_error (EndsWords.sheet order also ended) s = write_rose order (ending order t t' r r' status ended) s

  write_by : (order : SheetWords) → Ending order t t' r r' status → status ≡ 6 → FailsToWrite order t r r'
  write_by order (unwritten sheet file between is made asks calm breaks keeps reported) s = record {
    sheet = sheet;
    file = file;
    between = between;
    made = made;
    breaks = breaks;
    silent = keeps;
    line = reported.first.line;
    files = reported.first.files;
    others = reported.others;
  }
  write_by order (done is sheet made asks calm wrote keeps) s = absurd (omega arith)
  write_by order (refused error (inl is) files reported) s = absurd (omega arith)
  write_by order (refused error (inr is) files reported) s = absurd (omega arith)
  write_by order (unread file is fails takes reported) s = absurd (omega arith)
  write_by order (changed sheet plate between is made change again parts keeps reported) s = absurd (omega arith)
  write_by order (unread_again sheet plate between is made fails again parts keeps reported) s = absurd (omega arith)
  write_by order (no_memory is calm takes reported) s = absurd (omega arith)

  pub write_fault : EndsWords words t t' r r' status → WriteFault words t r r' status
  write_fault ended = record {
    reason = write_error ended;
    breaks = λ order means s. write_by order (of order means ended) s;
    asked = λ order means k. (let e = ended_of order means ended in closed_asked order t t' r e.between r' status e.carried.keeps e.result e.closed k);
    beyond = λ order means k more. (let e = ended_of order means ended in closed_beyond order t t' r e.between r' status e.carried.keeps e.result e.closed (let some = e.some in omega (arith, some, length-map order.plates (λ (p : PlateNames). p.output))) k more);
  }

  -- where the line alone was printed, or each plate was opened again
  kept_or : (order : SheetWords) (error : TrapsheetError) (between : List RackState) → RefusesFirst error between r' status → (between ≡ r) ⊎ AsksAllTwice (sources_of order) t t' → ((k : ℕ) → KeepsFiles (rack_at r k) (rack_at r' k)) ⊎ AsksAllTwice (sources_of order) t t'
  kept_or order error between reported (inl same) = inl (reported_files error (subst (λ (s : List RackState). RefusesFirst error s r' status) same reported))
  kept_or order error between reported (inr again) = inr again

  reopened_by : (order : SheetWords) → Ending order t t' r r' status → ((k : ℕ) → KeepsFiles (rack_at r k) (rack_at r' k)) ⊎ AsksAllTwice (sources_of order) t t'
  reopened_by order (done is sheet made asks calm wrote keeps) = inr asks
  reopened_by order (refused error is files reported) = inl (reported_files error reported)
  reopened_by order (unread file is fails takes reported) = inl (reported_files (Common (Read file)) reported)
  reopened_by order (changed sheet plate between is made change again parts keeps reported) = kept_or order (Changed plate) between reported again
  reopened_by order (unread_again sheet plate between is made fails again parts keeps reported) = kept_or order (Common (Read (Some plate))) between reported again
  reopened_by order (unwritten sheet file between is made asks calm breaks keeps reported) = inr asks
  reopened_by order (no_memory is calm takes reported) = inl (reported_files (Common Memory) reported)

  pub reopened : EndsWords words t t' r r' status → Reopened words t t' r r'
  reopened ended order means = reopened_by order (of order means ended)

  leaves_by : (order : SheetWords) → Ending order t t' r r' status → status ≢ 0 → status ≢ 4 → status ≢ 5 → status ≢ 6 → (k : ℕ) → KeepsFiles (rack_at r k) (rack_at r' k)
  leaves_by order (done is sheet made asks calm wrote keeps) some page read other = absurd (some is)
  leaves_by order (refused error is files reported) some page read other = reported_files error reported
  leaves_by order (unread file is fails takes reported) some page read other = reported_files (Common (Read file)) reported
  leaves_by order (changed sheet plate between is made change again parts keeps reported) some page read other = absurd (page is)
  leaves_by order (unread_again sheet plate between is made fails again parts keeps reported) some page read other = absurd (read is)
  leaves_by order (unwritten sheet file between is made asks calm breaks keeps reported) some page read other = absurd (other is)
  leaves_by order (no_memory is calm takes reported) some page read other = reported_files (Common Memory) reported

  words_files : RefusesWords r r' status → (k : ℕ) → KeepsFiles (rack_at r k) (rack_at r' k)
  words_files reported k = elim (cases_eq k 0) [
    | inl zero ↦ subst (λ (n : ℕ). KeepsFiles (rack_at r n) (rack_at r' n)) (sym zero) reported.first.files
    | inr other ↦ files_is (rack_at r k) (rack_at r' k) (reported.others k other)
  ]

  pub leaves_files : EndsWords words t t' r r' status → LeavesFiles r r' status
  leaves_files (EndsWords.no_sheet none same reported) some page read other = words_files reported
  leaves_files (EndsWords.sheet order also ended) some page read other = leaves_by order (ending order t t' r r' status ended) some page read other

  some_outputs : (order : SheetWords) (plate : ℕ) → plate < length (sources_of order).inputs → 0 < length (targets_of order).outputs
  some_outputs order plate known = omega (arith, known, length-map order.plates (λ (p : PlateNames). p.input), length-map order.plates (λ (p : PlateNames). p.output))

  -- a line that is told after parts of plates were written
  calm_part : (order : SheetWords) (sheet : PageParts) (between : List RackState) → (rack_at between 0 ≡ rack_at r 0) ⊎ HoldsPart (plate_file (targets_of order) (trapped_planes sheet) 0) (rack_at r 0) (rack_at between 0) → (rack_at between 0).faults ≡ (rack_at r 0).faults
  calm_part order sheet between (inl same) = ap (λ (s : RackState). s.faults) same
  calm_part order sheet between (inr part) = part.well

  reported_from : (text : List ℕ) (a b c : RackState) → (IsTrue a.tells → b.reported ≡ a.reported) → b.tells ≡ a.tells → b.faults ≡ a.faults → TellsText text b c → TellsText text a c
  reported_from text a b c same tells calm (inl whole) = inl (whole.0 ∙ calm, λ reported. whole.1 (tells ∙ reported) ∙ ap (λ (t : List ℕ). t ++ text) (same reported))
  reported_from text a b c same tells calm (inr part) = inr (subst (λ (n : ℕ). RoseOnce n c.faults) calm part.0, λ reported. (let cut = part.1 (tells ∙ reported) in (cut.0, cut.1 ∙ ap (λ (t : List ℕ). t ++ take cut.0 text) (same reported))))

  line_after : (order : SheetWords) (error : TrapsheetError) (sheet : PageParts) (between : List RackState) → HoldParts (targets_of order) (trapped_planes sheet) r between → KeepsRacks (targets_of order) r between → 0 < length (targets_of order).outputs → RefusesFirst error between r' status → TellsText (line_of_error error) (rack_at r 0) (rack_at r' 0)
  line_after order error sheet between parts keeps some reported =
      reported_from (line_of_error error) (rack_at r 0) (rack_at between 0) (rack_at r' 0) (keeps.reported 0) (keeps.keeps 0).tells (calm_part order sheet between (parts 0 some)) reported.first.line

  line_by : (order : SheetWords) → Ending order t t' r r' status → status ≢ 0 → status ≢ 6 → (error : TrapsheetError) × (status ≡ status_of_error error) × TellsText (line_of_error error) (rack_at r 0) (rack_at r' 0)
  line_by order (done is sheet made asks calm wrote keeps) some other = absurd (some is)
  line_by order (refused error is files reported) some other = (error, reported.first.status_is, reported.first.line)
  line_by order (unread file is fails takes reported) some other = (Common (Read file), reported.first.status_is, reported.first.line)
  line_by order (changed sheet plate between is made change again parts keeps reported) some other = (Changed plate, reported.first.status_is, line_after order (Changed plate) sheet between parts keeps (some_outputs order plate change.stops.known) reported)
  line_by order (unread_again sheet plate between is made fails again parts keeps reported) some other = (Common (Read (Some plate)), reported.first.status_is, line_after order (Common (Read (Some plate))) sheet between parts keeps (some_outputs order plate fails.stops.known) reported)
  line_by order (unwritten sheet file between is made asks calm breaks keeps reported) some other = absurd (other is)
  line_by order (no_memory is calm takes reported) some other = (Common Memory, reported.first.status_is, reported.first.line)

  stopped : EndsWords words t t' r r' status → status ≢ 0 → status ≢ 2 → status ≢ 6 → (error : TrapsheetError) × (status ≡ status_of_error error) × TellsText (line_of_error error) (rack_at r 0) (rack_at r' 0)
  stopped (EndsWords.no_sheet none same reported) some no_usage other = absurd (no_usage reported.status_is)
  stopped (EndsWords.sheet order also ended) some no_usage other = line_by order (ending order t t' r r' status ended) some other

  memory_by : (order : SheetWords) → Ending order t t' r r' status → status ≡ 7 → TellsText (line_of_error (Common Memory)) (rack_at r 0) (rack_at r' 0)
  memory_by order (no_memory is calm takes reported) s = reported.first.line
  memory_by order (done is sheet made asks calm wrote keeps) s = absurd (omega arith)
  memory_by order (refused error (inl is) files reported) s = absurd (omega arith)
  memory_by order (refused error (inr is) files reported) s = absurd (omega arith)
  memory_by order (unread file is fails takes reported) s = absurd (omega arith)
  memory_by order (changed sheet plate between is made change again parts keeps reported) s = absurd (omega arith)
  memory_by order (unread_again sheet plate between is made fails again parts keeps reported) s = absurd (omega arith)
  memory_by order (unwritten sheet file between is made asks calm breaks keeps reported) s = absurd (omega arith)

  memory_line : EndsWords words t t' r r' status → status ≡ 7 → TellsText (line_of_error (Common Memory)) (rack_at r 0) (rack_at r' 0)
  memory_line (EndsWords.no_sheet none same reported) s = absurd (let e : status ≡ 2 = reported.status_is in omega arith)
  memory_line (EndsWords.sheet order also ended) s = memory_by order (ending order t t' r r' status ended) s

  elsewhere : EndsWords words t t' r r' status → (k : ℕ) → k ≢ 0 → IsTrue (rack_at r k).tells → (rack_at r' k).reported ≡ (rack_at r k).reported
  elsewhere (EndsWords.no_sheet none same reported) k other tells = ap (λ (s : RackState). s.reported) (reported.others k other)
  elsewhere (EndsWords.sheet order also ended) k other tells = closed_reported order t t' r ended.between r' status ended.carried.keeps ended.result ended.closed k other tells

  pub fault_line : EndsWords words t t' r r' status → FaultLine r r' status
  fault_line ended = record { stopped = stopped ended; memory = memory_line ended; elsewhere = elsewhere ended }

  complete_by : (order : SheetWords) (sheet : PageParts) → OneSheetVerdict → Tell order t → IsSheetVerdict (stored_by t (sources_of order)) (sources_of order).names (Accepted sheet) → NoTrayRose t t' → NoRackRose r r' → Ending order t t' r r' status → (status ≡ 0) ⊎ (status ≡ 7)
  complete_by order sheet one tells verdict calm_trays calm_racks (done is other made asks calm wrote keeps) = inl is
  complete_by order sheet one tells verdict calm_trays calm_racks (refused error is files reported) =
      absurd (let e : ◌≡◌ {A = SheetVerdict} (Accepted sheet) (Refused error) = one (stored_by t (sources_of order)) (sources_of order).names (Accepted sheet) (Refused error) verdict (files.verdict tells) in cc)
  complete_by order sheet one tells verdict calm_trays calm_racks (unread file is fails takes reported) = absurd (calm_trays (tray_of file) fails.rose)
  complete_by order sheet one tells verdict calm_trays calm_racks (changed other plate between is made change again parts keeps reported) = absurd (change.untold (tells plate change.stops.known))
  complete_by order sheet one tells verdict calm_trays calm_racks (unread_again other plate between is made fails again parts keeps reported) = absurd (calm_trays plate fails.rose)
  complete_by order sheet one tells verdict calm_trays calm_racks (unwritten other file between is made asks calm breaks keeps reported) = absurd (calm_racks (tray_of file) (rose_reported order file (tray_of file) between keeps breaks.breaks.reason reported))
  complete_by order sheet one tells verdict calm_trays calm_racks (no_memory is calm takes reported) = inr is

  statuses : EndsWords words t t' r r' status → (status ≡ 0) ⊎ ((2 ≤ status) × (status ≤ 7))
  statuses (EndsWords.no_sheet none same reported) = let e : status ≡ 2 = reported.status_is in inr (omega arith, omega arith)
  statuses (EndsWords.sheet order also ended) = elim (status_by order t t' r r' status (ending order t t' r r' status ended)) [ inl is ↦ inl is | inr is ↦ inr (omega (arith, is.0), is.1) ]

  pub completeness : OneSheetVerdict → EndsWords words t t' r r' status → Completeness words t t' r r' status
  completeness one ended = record {
    sheet = λ order sheet means tells verdict calm_trays calm_racks. complete_by order sheet one tells verdict calm_trays calm_racks (of order means ended);
    statuses = statuses ended;
  }
