-- How the steps of a command end.
use Rattle.std.specs.Prelude.{◌≡◌, ◌⊎◌, ℕ, ◌*◌, ◌≤◌, IsTrue, true, List, ◌++◌, length, take, Option}
use Rattle.std.specs.Prelude.{Some, None, Result, Ok, Err}
use Rattle.band_claims.specs.Receipt.{Receipt}
use Rattle.outside.specs.ErrorCases.{Rose, RoseOnce, Asks, AsksPrefix}
use Rattle.outside.specs.Tray.{TrayState, KeepsTray}
use Rattle.outside.specs.Rack.{RackState, KeepsRack}
use Rattle.page_model.specs.declared.parts.PageParts.{PageParts}
use Rattle.page_model.specs.declared.page.PageFault.TheVariants.{TooManySamples}
use Rattle.page_model.specs.Conditions.{IsPage}
use Rattle.page_model.specs.Counts.{page_counts}
use Rattle.page_model.specs.Limits.{most_samples}
use Rattle.page_files.specs.Gathering.{AnswersPage, InHand, IsMade}
use Rattle.page_files.specs.Inputs.{Sources, read_files}
use Rattle.page_files.specs.Steps.{PassesNoFault}
use Rattle.page_source.specs.Sample.{sample_parts}
use Rattle.page_files.specs.Writing.{WritesAll, Breaks, FailsOnce, FinishesAll}
use Rattle.trap_engine.specs.Receipts.{IsWholeReceipt}
use Rattle.common_errors.specs.declared.common.CommonError.{CommonError}
use Rattle.common_errors.specs.declared.common.CommonError.TheVariants.{Usage, Page, Write, Memory}
use Rattle.trap_report.specs.Report.{report_of}
use Rattle.common_errors.specs.Statuses.{done, not_written}
use Rattle.common_errors.specs.Telling.{KeepsFiles, Refuses}
use Rattle.trap_cli.specs.Words.{PageWords, SampleWords, begins_with_page, command_of}
use Rattle.trap_cli.specs.Words.{Page as page_command, Sample as sample_command}
use Rattle.page_output.specs.declared.outcome.Outcome.{Outcome}
use Rattle.trap_cli.specs.Commands.{sample_band, sources_of, targets_of}
use Rattle.page_files.specs.Verdicts.{Targets, outcome, written_names}

-- What the answer says where the page is read first.
abbrev pub AnswersCommand : ℕ → Sources → Targets → TrayState → TrayState → RackState → RackState
    → Result Receipt CommonError → Type 0
AnswersCommand band source target tray tray' rack rack' (Ok receipt) = (page : PageParts)
    × IsMade source tray page × IsWholeReceipt page band receipt
    × Asks tray.asked tray'.asked (read_files source) × WritesAll (outcome target page) rack rack'
    × Asks rack.asked rack'.asked (written_names target)
    × FinishesAll (written_names target) rack rack'
AnswersCommand band source target tray tray' rack rack' (Err (Write file)) = (page : PageParts)
    × IsMade source tray page × Breaks (length target.outputs) (outcome target page) file rack rack'
AnswersCommand band source target tray tray' rack rack' (Err error) =
    AnswersPage source tray tray' (Err error) × (rack' ≡ rack)

-- A page is read and put out.
pub record CarriesOut (band : ℕ) (source : Sources) (target : Targets) (tray tray' : TrayState)
    (rack rack' : RackState) (result : Result Receipt CommonError) : Type 0 where
  pub tray_keeps : KeepsTray tray tray'
  pub in_hand : (tray' ≡ tray) ⊎ InHand source tray tray'
  pub count : PassesNoFault tray tray' result
  pub asked : AsksPrefix tray.asked tray'.asked (read_files source)
  pub rack_keeps : KeepsRack rack rack'
  pub reported : IsTrue rack.tells → rack'.reported ≡ rack.reported
  pub created : AsksPrefix rack.asked rack'.asked (written_names target)
  pub answer : AnswersCommand band source target tray tray' rack rack' result
  pub once : FailsOnce rack rack' result

-- the status; the receipt where the work is done, and else the line of the error
abbrev pub Closes : Result Receipt CommonError → RackState → RackState → ℕ → Option Receipt → Type 0
Closes (Ok closed) before after status receipt =
    (after ≡ before) × (status ≡ done) × (receipt ≡ Some closed)
Closes (Err error) before after status receipt =
    Refuses error before after status × (receipt ≡ None)

-- A page is read and put out, and the command is closed.
pub record EndsPage (band : ℕ) (source : Sources) (target : Targets) (tray tray' : TrayState)
    (rack rack' : RackState) (status : ℕ) (receipt : Option Receipt) : Type 0 where
  pub result : Result Receipt CommonError
  pub between : RackState
  pub carried : CarriesOut band source target tray tray' rack between result
  pub closed : Closes result between rack' status receipt

-- There is a receipt, and it is the whole one of the page in bands of `band` rows.
abbrev pub HasReceipt : PageParts → ℕ → Option Receipt → Type 0
HasReceipt page band receipt =
    (closed : Receipt) × (receipt ≡ Some closed) × IsWholeReceipt page band closed

-- the sample page of the words
abbrev pub sample_of : SampleWords → PageParts
sample_of words = sample_parts words.number words.width words.height

-- the report of a sample page
abbrev pub sample_report : SampleWords → List ℕ
sample_report words = report_of (sample_of words) (page_counts (sample_of words))

-- The four plates of the sample page have no more samples than a page may have.
abbrev pub IsSmall : SampleWords → Type 0
IsSmall words = 4 * words.width * words.height ≤ most_samples

-- what is made of a sample page
abbrev pub MakesReport : SampleWords → Result Outcome CommonError → Type 0
MakesReport words (Ok made) = IsSmall words × (made.report ≡ sample_report words)
    × IsWholeReceipt (sample_of words) sample_band made.receipt
MakesReport words (Err (Page TooManySamples)) = IsSmall words → ⊥
MakesReport words (Err Memory) = IsSmall words
MakesReport words (Err other) = ⊥

-- A command of a sample page: its report is printed, whole or in part, or it is refused.
pub data AnswersSample (words : SampleWords) (rack rack' : RackState) (status : ℕ)
    (receipt : Option Receipt) : Type 0 where
  reported : IsSmall words → status ≡ done → rack'.faults ≡ rack.faults
      → (IsTrue rack.tells → rack'.reported ≡ rack.reported ++ sample_report words)
      → HasReceipt (sample_of words) sample_band receipt
      → AnswersSample words rack rack' status receipt
  reported_in_part : IsSmall words → status ≡ not_written → Rose rack.faults rack'.faults
      → RoseOnce rack.faults rack'.faults
      → (IsTrue rack.tells
      → (count : ℕ) × (rack'.reported ≡ rack.reported ++ take count (sample_report words))) → receipt ≡ None
      → AnswersSample words rack rack' status receipt
  too_many : (IsSmall words → ⊥) → Refuses (Page TooManySamples) rack rack' status → receipt ≡ None
      → AnswersSample words rack rack' status receipt
  no_memory : IsSmall words → Refuses Memory rack rack' status → receipt ≡ None
      → AnswersSample words rack rack' status receipt

-- A sample page is carried out: no file is touched.
pub record EndsSample (words : SampleWords) (rack rack' : RackState) (status : ℕ)
    (receipt : Option Receipt) : Type 0 where
  pub files : KeepsFiles rack rack'
  pub answer : AnswersSample words rack rack' status receipt

-- The words of a command are carried out. Out of memory for the words comes only where `page`
-- is the first of them.
pub data Ends (words : List (List ℕ)) (tray tray' : TrayState) (rack rack' : RackState) (status : ℕ)
    (receipt : Option Receipt) : Type 0 where
  no_memory : begins_with_page words ≡ true → tray' ≡ tray → Refuses Memory rack rack' status
      → receipt ≡ None → Ends words tray tray' rack rack' status receipt
  no_command : command_of words ≡ None → tray' ≡ tray → Refuses Usage rack rack' status
      → receipt ≡ None → Ends words tray tray' rack rack' status receipt
  page : (page : PageWords) → command_of words ≡ Some (page_command page)
      → EndsPage page.band (sources_of page) (targets_of page) tray tray' rack rack' status receipt
      → Ends words tray tray' rack rack' status receipt
  sample : (sample : SampleWords) → command_of words ≡ Some (sample_command sample) → tray' ≡ tray
      → EndsSample sample rack rack' status receipt
      → Ends words tray tray' rack rack' status receipt
