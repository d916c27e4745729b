-- What the calls do that are given an open job. That the job is the one which its bytes spell is known of
-- every open job: `read` of `OpenJob`.
use Rattle.std.specs.Prelude.{◌≡◌, ◌≢◌, ◌⊎◌, ℕ, Bool, false, true, ◌==◌, ◌&&◌, if◌then◌else◌}
use Rattle.std.specs.Prelude.{List, []}
use Rattle.std.specs.Prelude.{Option, Some, None, Result, Ok, Err}
use Rattle.job_handles.specs.declared.open_job.OpenJob.{OpenJob}
use Rattle.page_model.specs.declared.parts.PageParts.{PageParts}
use Rattle.job_reader.specs.declared.job.Job.{Job}
use Rattle.job_reader.specs.Jobs.{job_of}
use Rattle.ps_tokens.specs.declared.faults.JobFault.{JobFault}
use Rattle.ps_tokens.specs.declared.faults.JobError.{JobError}
use Rattle.ps_tokens.specs.declared.faults.JobError.TheVariants.{Fault, OutOfMemory}
use Rattle.common_errors.specs.Statuses.{done}
use Rattle.common_errors.specs.declared.common.CommonError.TheVariants.{Memory}
use Rattle.trap_c.specs.declared.layout.Layout.{Layout}
use Rattle.trap_c.specs.declared.info.Info.{Info}
use Rattle.trap_c.specs.declared.place.Place.{Place}
use Rattle.trap_c.specs.declared.error.CallError.{CallError}
use Rattle.trap_c.specs.declared.error.CallError.TheVariants.{Call, Page}
use Rattle.trap_c.specs.declared.error.CallFault.TheVariants.{Handle, Size}
use Rattle.trap_c.specs.declared.error_record.ErrorRecord.{ErrorRecord}
use Rattle.trap_c.specs.declared.report_record.ReportRecord.{ReportRecord}
use Rattle.trap_c.specs.declared.work.Told.{Told}
use Rattle.trap_c.specs.Calls.{Tells}
use Rattle.trap_c.specs.Cores.{core_counts}
use Rattle.trap_c.specs.Infos.{IsInfoOf, info_size}
use Rattle.trap_c.specs.Places.{core_of}
use Rattle.trap_c.specs.ReportRecords.{IsReport, is_sized as is_report_sized}
use Rattle.trap_c.specs.Requests.{Asked}
use Rattle.trap_c.specs.ErrorRecords.{is_sized, no_error, said_of}
use Rattle.trap_c.specs.Errors.{line_of_error, status_of_error}
use Rattle.trap_c.specs.WindowCalls.{HaloIs, HasTrapped, JobRefused, MakesWindow}
use Rattle.trap_c.specs.Windows.{call_window}

-- why there is no job: memory was refused, or the job has a fault
abbrev pub IsRefusedJob : List ℕ → JobError → Type 0
IsRefusedJob bytes why =
    (why ≡ OutOfMemory) ⊎ ((fault : JobFault) × (job_of bytes ≡ Err fault) × (why ≡ Fault fault))

-- A call that is done: its text, and its struct for the error.
pub record TellsDone (report text text' : List ℕ) (len : ℕ) (said' : ErrorRecord) (status : ℕ)
    : Type 0 where
  pub tells : Tells report text text' len
  pub said_is : said' ≡ no_error
  pub status_is : status ≡ done

-- A call that failed: the line, and the same in numbers.
pub record TellsError (error : CallError) (text text' : List ℕ) (len : ℕ) (said said' : ErrorRecord)
    (status : ℕ) : Type 0 where
  pub tells : Tells (line_of_error error) text text' len
  pub said_is : said' ≡ said_of said error
  pub status_is : status ≡ status_of_error error
  pub refused : status ≢ done

-- The error of a call that is given structs: that one of them has another size, or else what the
-- other arguments call for.
abbrev pub SizeOr : Bool → CallError → Type 0 → Type 0
SizeOr are_sized error other =
    ((are_sized ≡ false) × (error ≡ Call Size)) ⊎ ((are_sized ≡ true) × other)

-- the job of these bytes, in a handle
abbrev pub Holds : List ℕ → Option OpenJob → Type 0
Holds bytes now = (stored : OpenJob) × (now ≡ Some stored) × (stored.bytes.items ≡ bytes)

-- why a job is not opened: the handle is open already, or the job is refused
abbrev pub OpenRefused : List ℕ → Option OpenJob → CallError → Type 0
OpenRefused bytes None error = JobRefused bytes error
OpenRefused bytes (Some stored) error = error ≡ Call Handle

-- what opening a job does to a handle: `was` is what it had, and `now` what it has
abbrev pub Opens : List ℕ → Option OpenJob → Option OpenJob → Result (Unit {0}) CallError → Type 0
Opens bytes was now (Ok _) = (was ≡ None) × Holds bytes now
Opens bytes was now (Err error) = (now ≡ was) × OpenRefused bytes was error

-- What the call that opens a job does.
pub record OpensJob (bytes : List ℕ) (was now : Option OpenJob) (text text' : List ℕ)
    (len status : ℕ) (said said' : ErrorRecord) : Type 0 where
  pub success : status ≡ done → (is_sized said ≡ true) × (was ≡ None) × Holds bytes now
      × TellsDone [] text text' len said' status
  pub refused : status ≢ done → (now ≡ was) × ((error : CallError)
      × SizeOr (is_sized said) error (OpenRefused bytes was error)
      × TellsError error text text' len said said' status)

-- What the call for the halo of an open job does: it gives the halo of the bytes that the job was read from.
abbrev pub TellsOpenHalo : Option OpenJob → ℕ → ℕ → ℕ → Type 0
TellsOpenHalo None halo halo' status = (status ≡ status_of_error (Call Handle)) × (halo' ≡ halo)
TellsOpenHalo (Some stored) halo halo' status = (status ≡ done) × HaloIs stored.bytes.items halo'

-- the first fault of a call whose handle has to be open
abbrev pub handle_fault : Option OpenJob → Option CallError
handle_fault None = Some (Call Handle)
handle_fault (Some stored) = None

-- the first fault of a call for a job's figures: the size of the struct for them, and then the handle
abbrev pub info_fault : ℕ → Option OpenJob → Option CallError
info_fault size was = if size == info_size then handle_fault was else Some (Call Size)

-- the figures of the job of an open handle
abbrev pub InfoIs : Option OpenJob → Info → Type 0
InfoIs was info = (stored : OpenJob) × (was ≡ Some stored)
    × ((job : Job) × (job_of stored.bytes.items ≡ Ok job) × IsInfoOf job info)

-- what is found of a job's figures
abbrev pub GivesInfo : Option OpenJob → Info → Info → Result (Unit {0}) CallError → Type 0
GivesInfo was info info' (Ok _) = (info_fault info.size was ≡ None) × InfoIs was info'
GivesInfo was info info' (Err error) = (info' ≡ info) × (info_fault info.size was ≡ Some error)

-- What the call for the figures of an open job does.
pub record TellsInfo (was : Option OpenJob) (info info' : Info) (status : ℕ)
    (said said' : ErrorRecord) : Type 0 where
  pub success : status ≡ done → (is_sized said ≡ true) × (info_fault info.size was ≡ None)
      × InfoIs was info' × (said' ≡ no_error)
  pub refused : status ≢ done → (info' ≡ info) × ((error : CallError)
      × SizeOr (is_sized said) error (info_fault info.size was ≡ Some error)
      × (status ≡ status_of_error error) × (said' ≡ said_of said error))

-- what is asked of an open job
abbrev pub asked_of : OpenJob → List ℕ → Layout → Asked
asked_of stored names layout =
    record { job = stored.bytes.items; names = names; layout = layout }

-- what is made of a window by a handle: what is made of it by the bytes that its job was read from
abbrev pub MakesOpened : ℕ → Option OpenJob → List ℕ → Layout → Place → List ℕ → List ℕ
    → Result Told CallError → Type 0
MakesOpened most None names layout place before after (Ok told) = ⊥
MakesOpened most None names layout place before after (Err error) =
    (after ≡ before) × (error ≡ Call Handle)
MakesOpened most (Some stored) names layout place before after made =
    MakesWindow most (asked_of stored names layout) place before after made

-- why a window is refused by a handle: it is not open, or as by the bytes of its job
abbrev pub WindowRefused : ℕ → Option OpenJob → List ℕ → Layout → Place → List ℕ → CallError
    → Type 0
WindowRefused most None names layout place before error = error ≡ Call Handle
WindowRefused most (Some stored) names layout place before error = (error ≡ Page Memory)
    ⊎ (call_window most (asked_of stored names layout) place before ≡ Err error)

-- the structs of a window's call have their sizes
abbrev pub are_sized : ReportRecord → ErrorRecord → Bool
are_sized report said = is_report_sized report && is_sized said

-- What a window's call does with an open job: what it does with the bytes that the job was read from.
-- The counts of the report are told in numbers too.
pub record TrapsOpened (most : ℕ) (was : Option OpenJob) (names : List ℕ) (layout : Layout)
    (place : Place) (before after text text' : List ℕ) (len status : ℕ)
    (report report' : ReportRecord) (said said' : ErrorRecord) : Type 0 where
  pub success : status ≡ done → (are_sized report said ≡ true) × (said' ≡ no_error)
      × ((stored : OpenJob) × (was ≡ Some stored) × ((page : PageParts)
      × HasTrapped most (asked_of stored names layout) place before after text text' len page
      × IsReport (core_counts page (core_of place)) report'))
  pub refused : status ≢ done → (after ≡ before) × (report' ≡ report) × ((error : CallError)
      × SizeOr (are_sized report said) error
      (WindowRefused most was names layout place before error)
      × TellsError error text text' len said said' status)

-- why a job is not opened once more: the other handle is open already, or memory was refused
abbrev pub ShareRefused : Option OpenJob → CallError → Type 0
ShareRefused None error = error ≡ Page Memory
ShareRefused (Some there) error = error ≡ Call Handle

-- what opening an open job once more does to the other handle: `was` is what it had, and `now` what it has
abbrev pub Shares : OpenJob → Option OpenJob → Option OpenJob → Result (Unit {0}) CallError → Type 0
Shares stored was now (Ok _) = (was ≡ None) × Holds stored.bytes.items now
Shares stored was now (Err error) = (now ≡ was) × ShareRefused was error

abbrev pub SharesOpened : Option OpenJob → Option OpenJob → Option OpenJob
    → Result (Unit {0}) CallError → Type 0
SharesOpened None was now (Ok _) = ⊥
SharesOpened None was now (Err error) = (now ≡ was) × (error ≡ Call Handle)
SharesOpened (Some stored) was now made = Shares stored was now made

abbrev pub NotShared : Option OpenJob → Option OpenJob → CallError → Type 0
NotShared None was error = error ≡ Call Handle
NotShared (Some stored) was error = ShareRefused was error

-- What the call does that opens the job of a handle in another: afterwards that has a job which was read
-- from the same bytes.
pub record SharesJob (first was now : Option OpenJob) (status : ℕ) (said said' : ErrorRecord)
    : Type 0 where
  pub success : status ≡ done → (is_sized said ≡ true) × (was ≡ None)
      × ((stored : OpenJob) × (first ≡ Some stored) × Holds stored.bytes.items now)
      × (said' ≡ no_error)
  pub refused : status ≢ done → (now ≡ was) × ((error : CallError)
      × SizeOr (is_sized said) error (NotShared first was error)
      × (status ≡ status_of_error error) × (said' ≡ said_of said error))
