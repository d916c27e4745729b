-- What the top call promises, clause by clause, of the words and of what stands before and,
-- primed, after the call.
use Rattle.std.specs.Prelude.{◌≡◌, ◌≢◌, ◌⊎◌, ◌↔◌, ℕ, ◌≤◌, IsTrue, IsFalse, true, List, ◌++◌, length}
use Rattle.std.specs.Prelude.{take, Option, Some, None, Ok, Err}
use Rattle.band_claims.specs.Receipt.{Receipt}
use Rattle.outside.specs.ErrorCases.{Rose, RoseOnce, Asks, AsksPrefix}
use Rattle.outside.specs.Tray.{TrayState}
use Rattle.outside.specs.Rack.{RackState}
use Rattle.job_reader.specs.declared.job.Job.{Job}
use Rattle.page_model.specs.declared.page.PageFault.TheVariants.{TooManySamples}
use Rattle.page_model.specs.declared.parts.PageParts.{PageParts}
use Rattle.page_files.specs.Assembly.{assembly}
use Rattle.page_files.specs.Inputs.{Inputs, one_page, read_files}
use Rattle.page_files.specs.Gathering.{BreaksReading, InHand, IsMade, files_to}
use Rattle.page_files.specs.Steps.{PassesNoFault}
use Rattle.pgm_plates.specs.declared.plate.Plate.{Plate as PlateRead}
use Rattle.page_files.specs.Files.{Written, put_all}
use Rattle.page_files.specs.Writing.{Breaks, FinishesAll}
use Rattle.common_errors.specs.declared.common.CommonError.{CommonError}
use Rattle.common_errors.specs.declared.common.CommonError.TheVariants as CommonErrors
use Rattle.common_errors.specs.CommonErrors.{line_of, status_of}
use Rattle.common_errors.specs.Statuses.{done, usage, job_refused, page_refused, not_read}
use Rattle.common_errors.specs.Statuses.{not_written, out_of_memory}
use Rattle.common_errors.specs.Telling.{TellsText, TellsAfterFault}
use Rattle.trap_cli.specs.Words.{PageWords, SampleWords, begins_with_page, command_of, Page}
use Rattle.trap_cli.specs.Words.{Sample}
use Rattle.trap_cli.specs.Commands.{sample_band, sources_of, targets_of}
use Rattle.trap_cli.specs.Endings.{HasReceipt, IsSmall, sample_of, sample_report}
use Rattle.page_files.specs.Locality.{ChangesNearEdges}
use Rattle.page_files.specs.Verdicts.{IsVerdict, Refused, Out, outcome, written_names}

-- The words are a command of this page.
abbrev pub MeanPage : List (List ℕ) → PageWords → Type 0
MeanPage words page = command_of words ≡ Some (Page page)

-- The words are a command of this sample page.
abbrev pub MeanSample : List (List ℕ) → SampleWords → Type 0
MeanSample words sample = command_of words ≡ Some (Sample sample)

-- Status 0 comes only where neither count rose. Of a page: a page is made, which is the one of
-- the job and the plates where the tray tells them, so that the verdict is its outcome; the
-- rack's files are the old ones with these put in, in order; and the receipt is the whole one of
-- this page, in bands of as many rows as the words say. Each file is finished, each was asked
-- for in its order, no other is, and nothing is printed. Of a sample page the receipt is the whole
-- one of the sample page. At no other status there is a receipt.
pub record Success (words : List (List ℕ)) (tray tray' : TrayState) (rack rack' : RackState)
    (status : ℕ) (receipt : Option Receipt) : Type 0 where
  pub calm : status ≡ done → (tray'.faults ≡ tray.faults) × (rack'.faults ≡ rack.faults)
  pub files : (page : PageWords) → MeanPage words page → status ≡ done
      → (made : PageParts) × IsMade (sources_of page) tray made
      × (IsTrue rack.tells → rack'.file ≡ put_all (outcome (targets_of page) made) rack.file)
      × HasReceipt made page.band receipt
  pub silent : (page : PageWords) → MeanPage words page → status ≡ done → IsTrue rack.tells
      → rack'.reported ≡ rack.reported
  pub finished : (page : PageWords) → MeanPage words page → status ≡ done
      → FinishesAll (written_names (targets_of page)) rack rack'
  pub shut : (page : PageWords) → MeanPage words page → status ≡ done → IsFalse rack'.is_open
  pub begun : (page : PageWords) → MeanPage words page → status ≡ done
      → Asks tray.asked tray'.asked (read_files (sources_of page))
  pub created : (page : PageWords) → MeanPage words page → status ≡ done
      → Asks rack.asked rack'.asked (written_names (targets_of page))
  pub sample : (sample : SampleWords) → MeanSample words sample → status ≡ done
      → HasReceipt (sample_of sample) sample_band receipt
  pub no_receipt : status ≢ done → receipt ≡ None

-- Status 2 comes only where the words mean no command, and there always, unless memory is wanted
-- for words after `page`. No name is then handed out.
pub record Usage (words : List (List ℕ)) (tray tray' : TrayState) (rack rack' : RackState)
    (status : ℕ) : Type 0 where
  pub only : status ≡ usage → command_of words ≡ None
  pub always : command_of words ≡ None
      → (status ≡ usage) ⊎ ((status ≡ out_of_memory) × (begins_with_page words ≡ true))
  pub no_begin : command_of words ≡ None → tray'.asked ≡ tray.asked
  pub no_create : command_of words ≡ None → rack'.asked ≡ rack.asked

-- What comes where the files are refused: the error's status, the verdict, the names that were
-- handed to `begin`, none after that of the file that is refused, the line, and that no fault
-- of the tray was passed over.
pub record RefusesFiles (page : PageWords) (tray tray' : TrayState) (rack rack' : RackState)
    (status : ℕ) (error : CommonError) : Type 0 where
  pub status_is : status ≡ status_of error
  pub verdict : IsTrue tray.tells
      → IsVerdict one_page tray.file (sources_of page) (targets_of page) (Refused error)
  pub begun : Asks tray.asked tray'.asked (files_to (sources_of page) error)
  pub count : PassesNoFault {T = Unit {0}} tray tray' (Err error)
  pub line : TellsText (line_of error) rack rack'

-- Status 3 and 4 of a page come only where the verdict is an error of that status; and where it
-- is one, and the tray's count did not rise, its status comes, or out of memory.
pub record RefusedInput (words : List (List ℕ)) (tray tray' : TrayState) (rack rack' : RackState)
    (status : ℕ) : Type 0 where
  pub only : (page : PageWords) → MeanPage words page
      → (status ≡ job_refused) ⊎ (status ≡ page_refused)
      → (error : CommonError) × RefusesFiles page tray tray' rack rack' status error
  pub always : (page : PageWords) (error : CommonError) → MeanPage words page → IsTrue tray.tells
      → IsVerdict one_page tray.file (sources_of page) (targets_of page) (Refused error)
      → ¬ Rose tray.faults tray'.faults → (status ≡ status_of error) ⊎ (status ≡ out_of_memory)

-- Status 5 comes only for a page, and only where the tray's count rose. The names handed to
-- `begin` are a prefix of those of the job and the plates, and the line names the last of them;
-- what was read before it has no fault. At every status no more was taken of the file in hand
-- than is owed, and neither a failed write nor out of memory passes a fault of the tray over.
pub record ReadFault (words : List (List ℕ)) (tray tray' : TrayState) (rack rack' : RackState)
    (status : ℕ) : Type 0 where
  pub reason : status ≡ not_read → Rose tray.faults tray'.faults
  pub breaks : (page : PageWords) → MeanPage words page → status ≡ not_read
      → (file : Option ℕ) × Asks tray.asked tray'.asked
      (files_to (sources_of page) (CommonErrors.Read file))
      × BreaksReading (sources_of page) file tray tray'
      × TellsText (line_of (CommonErrors.Read file)) rack rack'
  pub asked : (page : PageWords) → MeanPage words page
      → AsksPrefix tray.asked tray'.asked (read_files (sources_of page))
  pub in_hand : (page : PageWords) → MeanPage words page
      → (tray' ≡ tray) ⊎ InHand (sources_of page) tray tray'
  pub calm : (status ≡ not_written) ⊎ (status ≡ out_of_memory) → tray'.faults ≡ tray.faults

-- Status 6 comes only where the rack's count rose. Of a page the verdict is then a list of
-- files: those before the failed one are whole and finished, it holds a prefix of its bytes or is
-- as before, and the later ones are as before. The names handed to `create` are a prefix of those
-- of the plates and the report, and the line names the last of them, whole unless a further call
-- failed.
pub record WriteFault (words : List (List ℕ)) (tray : TrayState) (rack rack' : RackState)
    (status : ℕ) : Type 0 where
  pub reason : status ≡ not_written → Rose rack.faults rack'.faults
  pub breaks : (page : PageWords) → MeanPage words page → status ≡ not_written
      → (file : Option ℕ) × ((made : PageParts) × IsMade (sources_of page) tray made
      × Breaks (length (targets_of page).outputs) (outcome (targets_of page) made) file rack rack')
      × TellsAfterFault (line_of (CommonErrors.Write file)) rack rack'
  pub asked : (page : PageWords) → MeanPage words page
      → AsksPrefix rack.asked rack'.asked (written_names (targets_of page))

-- For every status but 0 and 6 no file is created, and the rack's files are as before. Status 7
-- is out of memory.
abbrev pub LeavesFiles : RackState → RackState → ℕ → Type 0
LeavesFiles rack rack' status = status ≢ done → status ≢ not_written
    → (rack'.asked ≡ rack.asked) × (rack'.is_open ≡ rack.is_open)
    × (IsTrue rack.tells → rack'.file ≡ rack.file)

-- Every error tells its line and nothing else; that of a failed write is the line of
-- `write_fault`.
abbrev pub FaultLine : RackState → RackState → ℕ → Type 0
FaultLine rack rack' status = status ≢ done → status ≢ not_written
    → (error : CommonError) × (status ≡ status_of error) × TellsText (line_of error) rack rack'

-- Where the job and the plates make a page, each sample whose written value differs from the one
-- that was read is near the edge that it answers to.
abbrev pub Locality : List (List ℕ) → TrayState → Type 0
Locality words tray = (page : PageWords) (job : Job) (read : List PlateRead) (made : PageParts)
    → MeanPage words page → IsTrue tray.tells → Inputs one_page tray.file (sources_of page) job read
    → assembly job read (sources_of page).names ≡ Ok made → ChangesNearEdges made read

-- A sample page answers 0, 4, 6 or 7: its report is printed; it has too many samples, which its
-- line says; the report was printed in part, since one call of the rack failed and none after it;
-- or memory ran out. No name is handed out.
pub record SamplePage (words : List (List ℕ)) (tray tray' : TrayState) (rack rack' : RackState)
    (status : ℕ) : Type 0 where
  pub statuses : (sample : SampleWords) → MeanSample words sample
      → (status ≡ done) ⊎ (status ≡ page_refused) ⊎ (status ≡ not_written)
      ⊎ (status ≡ out_of_memory)
  pub reported : (sample : SampleWords) → MeanSample words sample → status ≡ done → IsTrue rack.tells
      → rack'.reported ≡ rack.reported ++ sample_report sample
  pub too_many : (sample : SampleWords) → MeanSample words sample
      → (status ≡ page_refused) ↔ (IsSmall sample → ⊥)
  pub too_many_line : (sample : SampleWords) → MeanSample words sample → status ≡ page_refused
      → TellsText (line_of (CommonErrors.Page TooManySamples)) rack rack'
  pub in_part : (sample : SampleWords) → MeanSample words sample → status ≡ not_written
      → IsTrue rack.tells → (count : ℕ)
      × (rack'.reported ≡ rack.reported ++ take count (sample_report sample))
  pub once : (sample : SampleWords) → MeanSample words sample → status ≡ not_written
      → RoseOnce rack.faults rack'.faults
  pub files : (sample : SampleWords) → MeanSample words sample → IsTrue rack.tells
      → rack'.file ≡ rack.file
  pub no_begin : (sample : SampleWords) → MeanSample words sample → tray'.asked ≡ tray.asked
  pub no_create : (sample : SampleWords) → MeanSample words sample → rack'.asked ≡ rack.asked

-- Where the verdict is a list of files and no count rose, the status is 0 or 7; so it is for a
-- sample page, unless it has too many samples. Every status is 0 or one of 2 to 7.
pub record Completeness (words : List (List ℕ)) (tray tray' : TrayState) (rack rack' : RackState)
    (status : ℕ) : Type 0 where
  pub page : (page : PageWords) (written : List Written) → MeanPage words page → IsTrue tray.tells
      → IsVerdict one_page tray.file (sources_of page) (targets_of page) (Out written)
      → ¬ Rose tray.faults tray'.faults → ¬ Rose rack.faults rack'.faults
      → (status ≡ done) ⊎ (status ≡ out_of_memory)
  pub sample : (sample : SampleWords) → MeanSample words sample → ¬ Rose rack.faults rack'.faults
      → (status ≡ done) ⊎ (status ≡ page_refused) ⊎ (status ≡ out_of_memory)
  pub statuses : (status ≡ done) ⊎ ((usage ≤ status) × (status ≤ out_of_memory))
