-- How the steps of a command end.
use Rattle.std.specs.Prelude.{◌≡◌, ◌≢◌, ◌⊎◌, ℕ, ◌<◌, ◌≤◌, List, length, None, Some, Option, Result}
use Rattle.std.specs.Prelude.{Ok, Err}
use Rattle.outside.specs.Tray.{TrayState}
use Rattle.outside.specs.Rack.{RackState}
use Rattle.page_files.specs.Inputs.{Sources}
use Rattle.page_model.specs.Tints.{trapped_planes}
use Rattle.page_model.specs.declared.parts.PageParts.{PageParts}
use Rattle.page_files.specs.Files.{Written}
use Rattle.page_files.specs.Writing.{WritesAll}
use Rattle.common_errors.specs.declared.common.CommonError.TheVariants.{Memory, Read, Write}
use Rattle.common_errors.specs.Statuses.{done, usage}
use Rattle.common_errors.specs.Telling.{KeepsFiles, TellsText}
use Rattle.sheet_files.specs.Gathering.{AsksTwice, FailsAgain, FailsToRead, HasChanged}
use Rattle.sheet_files.specs.Gathering.{IsMadeSheet, RefusesFiles, TakesTrays, TakesTwice}
use Rattle.sheet_files.specs.Errors.{RefusesSheet}
use Rattle.plate_rows.specs.Trays.{IsCalm}
use Rattle.sheet_files.specs.declared.error.TrapsheetError.{TrapsheetError}
use Rattle.sheet_files.specs.declared.error.TrapsheetError.TheVariants.{Changed, Common}
use Rattle.plate_rows.specs.Racks.{rack_at}
use Rattle.sheet_files.specs.Reporting.{sheet_report}
use Rattle.sheet_files.specs.Racks.{BreaksSheet, HoldParts, KeepsRacks, rack_files}
use Rattle.trapsheet_cli.specs.Strips.{IsWhole}
use Rattle.trapsheet_cli.specs.Text.{usage_line}
use Rattle.trapsheet_cli.specs.Files.{sources_of, targets_of}
use Rattle.trapsheet_cli.specs.Words.{SheetWords, order_of}
use Rattle.page_files.specs.Verdicts.{Targets}

-- the files that rack k writes of a sheet, in their order: its plate after trapping, and by the
-- first rack the report
abbrev pub sheet_files : Targets → PageParts → ℕ → List Written
sheet_files target sheet k = rack_files target (trapped_planes sheet) (sheet_report sheet) k

-- A sheet is trapped, and its files are written.
pub data PutsOut (target : Targets) (sheet : PageParts) (before after : List RackState)
    (result : Result (Unit {0}) TrapsheetError) : Type 0 where
  wrote : result ≡ Ok tt → ((k : ℕ) → k < length target.outputs
      → WritesAll (sheet_files target sheet k) (rack_at before k) (rack_at after k))
      → KeepsRacks target before after → PutsOut target sheet before after result
  broke : (file : Option ℕ) → result ≡ Err (Common (Write file))
      → BreaksSheet target (trapped_planes sheet) (sheet_report sheet) file before after
      → KeepsRacks target before after → PutsOut target sheet before after result
  no_memory : result ≡ Err (Common Memory) → after ≡ before
      → PutsOut target sheet before after result

-- Each plate was opened a second time.
abbrev pub AsksAllTwice : Sources → List TrayState → List TrayState → Type 0
AsksAllTwice source trays trays' =
    (k : ℕ) → k < length source.inputs → AsksTwice source trays trays' k

-- A sheet is judged, read again, trapped and put out: up to the first thing that stops it. No file
-- is created before each plate is opened again.
pub data Carries (source : Sources) (target : Targets) (trays trays' : List TrayState)
    (racks racks' : List RackState) (result : Result (Unit {0}) TrapsheetError) : Type 0 where
  carried : (sheet : PageParts) → result ≡ Ok tt → IsMadeSheet source trays sheet
      → AsksAllTwice source trays trays'
      → ((k : ℕ) → IsCalm trays trays' k)
      → ((k : ℕ) → k < length target.outputs
      → WritesAll (sheet_files target sheet k) (rack_at racks k) (rack_at racks' k))
      → Carries source target trays trays' racks racks' result
  refused : (error : TrapsheetError) → result ≡ Err error → RefusesFiles source trays trays' error
      → TakesTrays source trays trays' → racks' ≡ racks
      → Carries source target trays trays' racks racks' result
  unread : (file : Option ℕ) → result ≡ Err (Common (Read file))
      → FailsToRead source trays trays' file → TakesTrays source trays trays'
      → racks' ≡ racks → Carries source target trays trays' racks racks' result
  no_memory : result ≡ Err (Common Memory) → ((k : ℕ) → IsCalm trays trays' k)
      → TakesTrays source trays trays' ⊎ IsWhole source trays → racks' ≡ racks
      → Carries source target trays trays' racks racks' result
  changed : (sheet : PageParts) (plate : ℕ) → result ≡ Err (Changed plate)
      → IsMadeSheet source trays sheet → HasChanged source plate trays trays'
      → (racks' ≡ racks) ⊎ AsksAllTwice source trays trays'
      → HoldParts target (trapped_planes sheet) racks racks'
      → Carries source target trays trays' racks racks' result
  unread_again : (sheet : PageParts) (plate : ℕ) → result ≡ Err (Common (Read (Some plate)))
      → IsMadeSheet source trays sheet → FailsAgain source plate trays trays'
      → (racks' ≡ racks) ⊎ AsksAllTwice source trays trays'
      → HoldParts target (trapped_planes sheet) racks racks'
      → Carries source target trays trays' racks racks' result
  unwritten : (sheet : PageParts) (file : Option ℕ) → result ≡ Err (Common (Write file))
      → IsMadeSheet source trays sheet → AsksAllTwice source trays trays'
      → ((k : ℕ) → IsCalm trays trays' k)
      → BreaksSheet target (trapped_planes sheet) (sheet_report sheet) file racks racks'
      → Carries source target trays trays' racks racks' result

-- the same, with what is so of the trays and the racks however it ends
pub record CarriesOut (order : SheetWords) (trays trays' : List TrayState)
    (racks racks' : List RackState) (result : Result (Unit {0}) TrapsheetError) : Type 0 where
  pub takes : TakesTwice (sources_of order) trays trays'
  pub keeps : KeepsRacks (targets_of order) racks racks'
  pub answer : Carries (sources_of order) (targets_of order) trays trays' racks racks' result

-- The line of a stop is printed on the first rack.
pub record RefusesFirst (error : TrapsheetError) (before after : List RackState)
    (status : ℕ) : Type 0 where
  pub first : RefusesSheet error (rack_at before 0) (rack_at after 0) status
  pub others : (k : ℕ) → k ≢ 0 → rack_at after k ≡ rack_at before k

-- the status, and the line of the stop where the work is not done
abbrev pub Closes : Result (Unit {0}) TrapsheetError → List RackState → List RackState → ℕ → Type 0
Closes (Ok x) before after status = (after ≡ before) × (status ≡ done)
Closes (Err error) before after status = RefusesFirst error before after status

-- A sheet is read and put out, and the command is closed.
pub record EndsSheet (order : SheetWords) (trays trays' : List TrayState)
    (racks racks' : List RackState) (status : ℕ) : Type 0 where
  pub some : 1 ≤ length order.plates
  pub result : Result (Unit {0}) TrapsheetError
  pub between : List RackState
  pub carried : CarriesOut order trays trays' racks between result
  pub closed : Closes result between racks' status

-- The usage line is printed and nothing else.
pub record TellsUsage (before after : RackState) : Type 0 where
  pub files : KeepsFiles before after
  pub line : TellsText usage_line before after

-- Words that mean no sheet are refused.
pub record RefusesWords (before after : List RackState) (status : ℕ) : Type 0 where
  pub first : TellsUsage (rack_at before 0) (rack_at after 0)
  pub others : (k : ℕ) → k ≢ 0 → rack_at after k ≡ rack_at before k
  pub status_is : status ≡ usage

-- The words of a command are carried out.
pub data EndsWords (words : List (List ℕ)) (trays trays' : List TrayState)
    (racks racks' : List RackState) (status : ℕ) : Type 0 where
  no_sheet : order_of words ≡ None → trays' ≡ trays → RefusesWords racks racks' status
      → EndsWords words trays trays' racks racks' status
  sheet : (order : SheetWords) → order_of words ≡ Some order
      → EndsSheet order trays trays' racks racks' status
      → EndsWords words trays trays' racks racks' status
