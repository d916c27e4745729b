-- What the top call promises, clause by clause, of the words and of what stands before and, primed,
-- after the call.
use Rattle.std.specs.Prelude.{◌≡◌, ◌≢◌, ◌⊎◌, ℕ, ◌<◌, ◌≤◌, IsTrue, List, length, Option, Some, None}
use Rattle.std.specs.Prelude.{Ok}
use Rattle.outside.specs.ErrorCases.{Rose, AsksPrefix}
use Rattle.outside.specs.Tray.{TrayState}
use Rattle.outside.specs.Rack.{RackState}
use Rattle.job_reader.specs.declared.job.Job.{Job}
use Rattle.page_model.specs.declared.parts.PageParts.{PageParts}
use Rattle.page_model.specs.Tints.{trapped_planes}
use Rattle.page_files.specs.Writing.{WritesAll}
use Rattle.pgm_plates.specs.declared.plate.Plate.{Plate as PlateRead}
use Rattle.common_errors.specs.declared.common.CommonError.TheVariants.{Memory, Read, Write}
use Rattle.common_errors.specs.CommonErrors.{line_of}
use Rattle.common_errors.specs.Statuses.{done, usage, job_refused, page_refused, not_read}
use Rattle.common_errors.specs.Statuses.{not_written, out_of_memory}
use Rattle.common_errors.specs.Telling.{KeepsFiles, TellsText}
use Rattle.sheet_files.specs.Gathering.{AsksTwice, FailsAgain, FailsToRead, HasChanged}
use Rattle.sheet_files.specs.Gathering.{IsMadeSheet, RefusesFiles, TakesTrays, TakesTwice}
use Rattle.sheet_files.specs.Inputs.{SheetInputs, stored_by, sheet_of}
use Rattle.sheet_files.specs.Errors.{line_of_error, status_of_error}
use Rattle.plate_rows.specs.Trays.{IsCalm, tray_at}
use Rattle.sheet_files.specs.Trays.{AllTell}
use Rattle.sheet_files.specs.Verdicts.{IsSheetVerdict, Accepted, Refused}
use Rattle.sheet_files.specs.declared.error.TrapsheetError.{TrapsheetError}
use Rattle.sheet_files.specs.declared.error.TrapsheetError.TheVariants.{Changed, Common}
use Rattle.trapsheet_cli.specs.Endings.{AsksAllTwice, sheet_files}
use Rattle.sheet_files.specs.Reporting.{sheet_report}
use Rattle.page_files.specs.Locality.{ChangesNearEdges}
use Rattle.plate_rows.specs.Racks.{rack_at}
use Rattle.sheet_files.specs.Racks.{BreaksSheet, HoldParts, KeepsRacks, rack_names}
use Rattle.trapsheet_cli.specs.Strips.{IsWhole}
use Rattle.trapsheet_cli.specs.Text.{usage_line}
use Rattle.trapsheet_cli.specs.Files.{sources_of, targets_of}
use Rattle.trapsheet_cli.specs.Words.{SheetWords, order_of}

-- The words mean this sheet.
abbrev pub Mean : List (List ℕ) → SheetWords → Type 0
Mean words order = order_of words ≡ Some order

-- The trays of the command's plates tell the bytes of their files.
abbrev pub Tell : SheetWords → List TrayState → Type 0
Tell order trays = AllTell (length (sources_of order).inputs) trays

-- No tray's count of faults rose.
abbrev pub NoTrayRose : List TrayState → List TrayState → Type 0
NoTrayRose trays trays' = (k : ℕ) → ¬ Rose (tray_at trays k).faults (tray_at trays' k).faults

-- No rack's did.
abbrev pub NoRackRose : List RackState → List RackState → Type 0
NoRackRose racks racks' = (k : ℕ) → ¬ Rose (rack_at racks k).faults (rack_at racks' k).faults

-- A sheet is made, which is the one of the job and the plates where the trays tell them, so that
-- the verdict accepts it. The files of each rack are the old ones with its own put in, its plate
-- after trapping and by the first rack the report after it: each is asked for in its order, whole
-- and finished, and no other is.
pub record Writes (order : SheetWords) (trays : List TrayState)
    (racks racks' : List RackState) : Type 0 where
  pub sheet : PageParts
  pub made : IsMadeSheet (sources_of order) trays sheet
  pub files : (k : ℕ) → k < length (targets_of order).outputs
      → WritesAll (sheet_files (targets_of order) sheet k) (rack_at racks k) (rack_at racks' k)

-- Status 0 comes only where no count rose. The files are then written, all inputs were begun, each
-- in its order and each plate twice, and nothing is printed.
pub record Success (words : List (List ℕ)) (trays trays' : List TrayState)
    (racks racks' : List RackState) (status : ℕ) : Type 0 where
  pub calm : status ≡ done → (k : ℕ) → IsCalm trays trays' k
      × ((rack_at racks' k).faults ≡ (rack_at racks k).faults)
  pub files : (order : SheetWords) → Mean words order → status ≡ done
      → Writes order trays racks racks'
  pub silent : (order : SheetWords) → Mean words order → status ≡ done → (k : ℕ)
      → IsTrue (rack_at racks k).tells → (rack_at racks' k).reported ≡ (rack_at racks k).reported
  pub begun : (order : SheetWords) → Mean words order → status ≡ done → (k : ℕ)
      → k < length (sources_of order).inputs → AsksTwice (sources_of order) trays trays' k

-- Status 2 comes exactly where the words mean no sheet. The usage line is then printed on the first
-- rack, and else every tray and rack is as before.
pub record Usage (words : List (List ℕ)) (trays trays' : List TrayState)
    (racks racks' : List RackState) (status : ℕ) : Type 0 where
  pub only : status ≡ usage → order_of words ≡ None
  pub always : order_of words ≡ None → status ≡ usage
  pub line : order_of words ≡ None → TellsText usage_line (rack_at racks 0) (rack_at racks' 0)
  pub files : order_of words ≡ None → KeepsFiles (rack_at racks 0) (rack_at racks' 0)
  pub others : order_of words ≡ None → (k : ℕ) → k ≢ 0 → rack_at racks' k ≡ rack_at racks k
  pub same_trays : order_of words ≡ None → trays' ≡ trays

-- What comes where the files are refused: the stop's status, the verdict, the names that were
-- handed to `begin`, that no fault of a tray was passed over, and the line. No file is created or
-- changed.
pub record RefusesInput (order : SheetWords) (trays trays' : List TrayState)
    (racks racks' : List RackState) (status : ℕ) (error : TrapsheetError) : Type 0 where
  pub status_is : status ≡ status_of_error error
  pub files : RefusesFiles (sources_of order) trays trays' error
  pub line : TellsText (line_of_error error) (rack_at racks 0) (rack_at racks' 0)
  pub kept : (k : ℕ) → KeepsFiles (rack_at racks k) (rack_at racks' k)

-- A command stopped while its plates were read again, at a sheet that was made: of each plate a
-- prefix of its bytes stands, or it was not begun; no report is. Then the line of the stop was
-- printed on the first rack, and nothing else was changed.
pub record StopsInParts (order : SheetWords) (trays : List TrayState)
    (racks racks' : List RackState) (error : TrapsheetError) : Type 0 where
  pub sheet : PageParts
  pub made : IsMadeSheet (sources_of order) trays sheet
  pub between : List RackState
  pub parts : HoldParts (targets_of order) (trapped_planes sheet) racks between
  pub silent : KeepsRacks (targets_of order) racks between
  pub line : TellsText (line_of_error error) (rack_at between 0) (rack_at racks' 0)
  pub files : KeepsFiles (rack_at between 0) (rack_at racks' 0)
  pub others : (k : ℕ) → k ≢ 0 → rack_at racks' k ≡ rack_at between k

-- A plate has changed since it was judged.
pub record Changes (order : SheetWords) (trays trays' : List TrayState)
    (racks racks' : List RackState) (status : ℕ) (plate : ℕ) : Type 0 where
  pub status_is : status ≡ page_refused
  pub changed : HasChanged (sources_of order) plate trays trays'
  pub stops : StopsInParts order trays racks racks' (Changed plate)

-- Status 3 and 4 come only where the verdict is an error of that status, or, status 4, where a
-- plate has changed whose tray does not tell its file. Where the verdict is an error, and no
-- tray's count rose, its status comes, or 7.
pub record RefusedInput (words : List (List ℕ)) (trays trays' : List TrayState)
    (racks racks' : List RackState) (status : ℕ) : Type 0 where
  pub only : (order : SheetWords) → Mean words order
      → (status ≡ job_refused) ⊎ (status ≡ page_refused)
      → ((error : TrapsheetError) × RefusesInput order trays trays' racks racks' status error)
      ⊎ ((plate : ℕ) × Changes order trays trays' racks racks' status plate)
  pub always : (order : SheetWords) (error : TrapsheetError) → Mean words order → Tell order trays
      → IsSheetVerdict (stored_by trays (sources_of order)) (sources_of order).names (Refused error)
      → NoTrayRose trays trays'
      → (status ≡ status_of_error error) ⊎ (status ≡ out_of_memory)

-- The first reading failed at a file. What was read before has no fault, no file is created or
-- changed, and each tray was asked for a prefix of its own files.
pub record FailsAtFirst (order : SheetWords) (trays trays' : List TrayState)
    (racks racks' : List RackState) (file : Option ℕ) : Type 0 where
  pub fails : FailsToRead (sources_of order) trays trays' file
  pub takes : TakesTrays (sources_of order) trays trays'
  pub line : TellsText (line_of (Read file)) (rack_at racks 0) (rack_at racks' 0)
  pub kept : (k : ℕ) → KeepsFiles (rack_at racks k) (rack_at racks' k)

-- The second one failed at a plate.
pub record FailsLater (order : SheetWords) (trays trays' : List TrayState)
    (racks racks' : List RackState) (plate : ℕ) : Type 0 where
  pub fails : FailsAgain (sources_of order) plate trays trays'
  pub stops : StopsInParts order trays racks racks' (Common (Read (Some plate)))

-- Status 5 comes only where a tray's count rose. The line names the file whose read failed. In the
-- first reading no file is created or changed; in the second of each plate a prefix stands of what
-- the verdict asks for, or nothing. At every status each tray was asked for a prefix of its own
-- files alone, its plate twice at most, and no more was taken of the one in hand than is owed. A
-- failed write and out of memory pass no fault of a tray over. Where memory ran out no plate was
-- read twice, but of a sheet that no strips of one height can be cut of.
pub record ReadFault (words : List (List ℕ)) (trays trays' : List TrayState)
    (racks racks' : List RackState) (status : ℕ) : Type 0 where
  pub reason : status ≡ not_read
      → (k : ℕ) × Rose (tray_at trays k).faults (tray_at trays' k).faults
  pub breaks : (order : SheetWords) → Mean words order → status ≡ not_read
      → ((file : Option ℕ) × FailsAtFirst order trays trays' racks racks' file)
      ⊎ ((plate : ℕ) × FailsLater order trays trays' racks racks' plate)
  pub takes : (order : SheetWords) → Mean words order → TakesTwice (sources_of order) trays trays'
  pub calm : (status ≡ not_written) ⊎ (status ≡ out_of_memory)
      → (k : ℕ) → IsCalm trays trays' k
  pub once : (order : SheetWords) → Mean words order → status ≡ out_of_memory
      → TakesTrays (sources_of order) trays trays' ⊎ IsWhole (sources_of order) trays

-- No file is created or changed, or each plate was opened a second time.
abbrev pub Reopened : List (List ℕ) → List TrayState → List TrayState → List RackState
    → List RackState → Type 0
Reopened words trays trays' racks racks' = (order : SheetWords) → Mean words order
    → ((k : ℕ) → KeepsFiles (rack_at racks k) (rack_at racks' k))
    ⊎ AsksAllTwice (sources_of order) trays trays'

-- What comes where a write fails, at a sheet that was made. Of the rack of that file, those before
-- it are whole, and it holds a prefix of its bytes or is as before; each other rack is as before,
-- or its plate stands in part or whole. Then the line was printed on the first rack, and nothing
-- else was changed; it names the file.
pub record FailsToWrite (order : SheetWords) (trays : List TrayState)
    (racks racks' : List RackState) : Type 0 where
  pub sheet : PageParts
  pub file : Option ℕ
  pub between : List RackState
  pub made : IsMadeSheet (sources_of order) trays sheet
  pub breaks : BreaksSheet (targets_of order) (trapped_planes sheet) (sheet_report sheet) file
      racks between
  pub silent : KeepsRacks (targets_of order) racks between
  pub line : TellsText (line_of (Write file)) (rack_at between 0) (rack_at racks' 0)
  pub files : KeepsFiles (rack_at between 0) (rack_at racks' 0)
  pub others : (k : ℕ) → k ≢ 0 → rack_at racks' k ≡ rack_at between k

-- Status 6 comes only where a rack's count rose. At every status each rack was asked for a prefix
-- of its own files alone, and those of no plate are as before.
pub record WriteFault (words : List (List ℕ)) (trays : List TrayState)
    (racks racks' : List RackState) (status : ℕ) : Type 0 where
  pub reason : status ≡ not_written
      → (k : ℕ) × Rose (rack_at racks k).faults (rack_at racks' k).faults
  pub breaks : (order : SheetWords) → Mean words order → status ≡ not_written
      → FailsToWrite order trays racks racks'
  pub asked : (order : SheetWords) → Mean words order → (k : ℕ)
      → AsksPrefix (rack_at racks k).asked (rack_at racks' k).asked
      (rack_names (targets_of order) k)
  pub beyond : (order : SheetWords) → Mean words order → (k : ℕ)
      → length (targets_of order).outputs ≤ k → rack_at racks' k ≡ rack_at racks k

-- For every status but 0, 4, 5 and 6 no file is created, and the racks' files are as before; of
-- 4 and 5 the clauses above say when. Status 7 is out of memory.
abbrev pub LeavesFiles : List RackState → List RackState → ℕ → Type 0
LeavesFiles racks racks' status = status ≢ done → status ≢ page_refused → status ≢ not_read
    → status ≢ not_written → (k : ℕ) → KeepsFiles (rack_at racks k) (rack_at racks' k)

-- Every stop tells its line to the first rack and nothing else; that of a failed write is the line
-- of `write_fault`, and that of words that mean no sheet the one of `usage`. Nothing is printed on
-- another rack.
pub record FaultLine (racks racks' : List RackState) (status : ℕ) : Type 0 where
  pub stopped : status ≢ done → status ≢ usage → status ≢ not_written
      → (error : TrapsheetError) × (status ≡ status_of_error error)
      × TellsText (line_of_error error) (rack_at racks 0) (rack_at racks' 0)
  pub memory : status ≡ out_of_memory
      → TellsText (line_of Memory) (rack_at racks 0) (rack_at racks' 0)
  pub elsewhere : (k : ℕ) → k ≢ 0 → IsTrue (rack_at racks k).tells
      → (rack_at racks' k).reported ≡ (rack_at racks k).reported

-- Where the job and the plates make a sheet, each sample whose written value differs from the one
-- that was read is near the edge that it answers to.
abbrev pub Locality : List (List ℕ) → List TrayState → Type 0
Locality words trays = (order : SheetWords) (job : Job) (read : List PlateRead) (sheet : PageParts)
    → Mean words order → Tell order trays
    → SheetInputs (stored_by trays (sources_of order)) (length (sources_of order).names) job read
    → sheet_of job read (sources_of order).names ≡ Ok sheet → ChangesNearEdges sheet read

-- Where the verdict accepts a sheet and no count rose, the status is 0 or 7. Every status is 0 or
-- one of 2 to 7.
pub record Completeness (words : List (List ℕ)) (trays trays' : List TrayState)
    (racks racks' : List RackState) (status : ℕ) : Type 0 where
  pub sheet : (order : SheetWords) (sheet : PageParts) → Mean words order → Tell order trays
      → IsSheetVerdict (stored_by trays (sources_of order)) (sources_of order).names
      (Accepted sheet) → NoTrayRose trays trays' → NoRackRose racks racks'
      → (status ≡ done) ⊎ (status ≡ out_of_memory)
  pub statuses : (status ≡ done) ⊎ ((usage ≤ status) × (status ≤ out_of_memory))
