-- The line and the status of each error.
use Rattle.std.specs.Prelude.{ℕ, List, [], ◌++◌, Some, None, codes, decimal}
use Rattle.page_model.specs.declared.page.PageFault.{PageFault}
use Rattle.page_model.specs.declared.page.PageFault.TheVariants.{SizeDiffers, MaxvalDiffers}
use Rattle.page_model.specs.declared.page.PageFault.TheVariants.{TooManySamples as PageTooLarge}
use Rattle.page_model.specs.declared.page.PageFault.TheVariants.{ReachTooWide}
use Rattle.pgm_plates.specs.declared.plate.PlateFault.{PlateFault}
use Rattle.pgm_plates.specs.declared.plate.PlateFault.TheVariants.{BadMagic, BadHeader, SideRange}
use Rattle.pgm_plates.specs.declared.plate.PlateFault.TheVariants.{TooManySamples, MaxvalRange}
use Rattle.pgm_plates.specs.declared.plate.PlateFault.TheVariants.{SampleAboveMaxval, Truncated}
use Rattle.pgm_plates.specs.declared.plate.PlateFault.TheVariants.{TrailingBytes}
use Rattle.ps_tokens.specs.declared.faults.FaultKind.{FaultKind}
use Rattle.ps_tokens.specs.declared.faults.FaultKind.TheVariants.{JobTooLong, BadToken}
use Rattle.ps_tokens.specs.declared.faults.FaultKind.TheVariants.{NumberTooLarge, Unclosed}
use Rattle.ps_tokens.specs.declared.faults.FaultKind.TheVariants.{Unmatched, OddDictionary}
use Rattle.ps_tokens.specs.declared.faults.FaultKind.TheVariants.{KeyNotName, NameInside, TooDeep}
use Rattle.ps_tokens.specs.declared.faults.FaultKind.TheVariants.{UnknownOperator, WrongOperands}
use Rattle.ps_tokens.specs.declared.faults.FaultKind.TheVariants.{WrongKind, OutOfRange}
use Rattle.ps_tokens.specs.declared.faults.FaultKind.TheVariants.{NotDictionary, MissingKey}
use Rattle.ps_tokens.specs.declared.faults.FaultKind.TheVariants.{WrongType, BadDensity, BadKind}
use Rattle.ps_tokens.specs.declared.faults.FaultKind.TheVariants.{BadResolution, NoCurrentPoint}
use Rattle.ps_tokens.specs.declared.faults.FaultKind.TheVariants.{CoordinateRange, TooManyVertices}
use Rattle.ps_tokens.specs.declared.faults.FaultKind.TheVariants.{TooManyZones, NoPageDevice}
use Rattle.ps_tokens.specs.declared.faults.FaultKind.TheVariants.{NoShowpage, AfterShowpage}
use Rattle.ps_tokens.specs.declared.faults.JobFault.{JobFault}
use Rattle.ps_tokens.specs.Parameters.{name_of}
use Rattle.common_errors.specs.declared.common.CommonError.{CommonError}
use Rattle.common_errors.specs.declared.common.CommonError.TheVariants.{Usage, Job, NoDetails, Plate}
use Rattle.common_errors.specs.declared.common.CommonError.TheVariants.{Page, Read, Write, Memory}
use Rattle.common_errors.specs.Lines.{line}
use Rattle.common_errors.specs.Statuses.{usage, job_refused, page_refused, not_read, not_written}
use Rattle.common_errors.specs.Statuses.{out_of_memory}

-- the name of a kind of fault; where a parameter is named too, a space stands after it
abbrev pub kind_name : FaultKind → List ℕ
kind_name JobTooLong = codes "JobTooLong"
kind_name BadToken = codes "BadToken"
kind_name NumberTooLarge = codes "NumberTooLarge"
kind_name Unclosed = codes "Unclosed"
kind_name Unmatched = codes "Unmatched"
kind_name OddDictionary = codes "OddDictionary"
kind_name KeyNotName = codes "KeyNotName"
kind_name NameInside = codes "NameInside"
kind_name TooDeep = codes "TooDeep"
kind_name UnknownOperator = codes "UnknownOperator"
kind_name WrongOperands = codes "WrongOperands"
kind_name (WrongKind key) = codes "WrongKind "
kind_name (OutOfRange key) = codes "OutOfRange "
kind_name NotDictionary = codes "NotDictionary"
kind_name MissingKey = codes "MissingKey"
kind_name WrongType = codes "WrongType"
kind_name BadDensity = codes "BadDensity"
kind_name BadKind = codes "BadKind"
kind_name BadResolution = codes "BadResolution"
kind_name NoCurrentPoint = codes "NoCurrentPoint"
kind_name CoordinateRange = codes "CoordinateRange"
kind_name TooManyVertices = codes "TooManyVertices"
kind_name TooManyZones = codes "TooManyZones"
kind_name NoPageDevice = codes "NoPageDevice"
kind_name NoShowpage = codes "NoShowpage"
kind_name AfterShowpage = codes "AfterShowpage"

-- the parameter that a fault names, if any
abbrev pub named_key : FaultKind → List ℕ
named_key (WrongKind key) = name_of key
named_key (OutOfRange key) = name_of key
named_key other = []

-- the line of a job's fault: its kind, the parameter where it names one, and its place
abbrev pub job_line : JobFault → List ℕ
job_line fault = line
    (codes "job: " ++ kind_name fault.kind ++ named_key fault.kind ++ codes " at "
    ++ decimal fault.at)

-- the name of a plate's fault
abbrev pub plate_fault_name : PlateFault → List ℕ
plate_fault_name (BadMagic at) = codes "BadMagic"
plate_fault_name (BadHeader at) = codes "BadHeader"
plate_fault_name (SideRange at) = codes "SideRange"
plate_fault_name (TooManySamples at) = codes "TooManySamples"
plate_fault_name (MaxvalRange at) = codes "MaxvalRange"
plate_fault_name (SampleAboveMaxval at) = codes "SampleAboveMaxval"
plate_fault_name (Truncated at) = codes "Truncated"
plate_fault_name (TrailingBytes at) = codes "TrailingBytes"

-- the place of a plate's fault
abbrev pub plate_fault_place : PlateFault → ℕ
plate_fault_place (BadMagic at) = at
plate_fault_place (BadHeader at) = at
plate_fault_place (SideRange at) = at
plate_fault_place (TooManySamples at) = at
plate_fault_place (MaxvalRange at) = at
plate_fault_place (SampleAboveMaxval at) = at
plate_fault_place (Truncated at) = at
plate_fault_place (TrailingBytes at) = at

-- the line of a plate's fault: the plate, the kind and the place
abbrev pub plate_fault_line : ℕ → PlateFault → List ℕ
plate_fault_line plate fault = line
    (codes "plate " ++ decimal plate ++ codes ": " ++ plate_fault_name fault ++ codes " at "
    ++ decimal (plate_fault_place fault))

-- the line of a page's fault
abbrev pub page_fault_line : PageFault → List ℕ
page_fault_line (SizeDiffers plate) = line (codes "page: SizeDiffers plate " ++ decimal plate)
page_fault_line (MaxvalDiffers plate) = line (codes "page: MaxvalDiffers plate " ++ decimal plate)
page_fault_line PageTooLarge = line (codes "page: TooManySamples")
page_fault_line (ReachTooWide zone) = line (codes "page: ReachTooWide zone " ++ decimal zone)

-- the line that an error tells
abbrev pub line_of : CommonError → List ℕ
line_of Usage = line
    (codes "usage: trap page [--workers N] [--band B] JOB REPORT NAME:IN:OUT ... | trap sample NUMBER WIDTH HEIGHT WORKERS")
line_of (Job fault) = job_line fault
line_of (NoDetails plate) = line (codes "job: NoDetails for plate " ++ decimal plate)
line_of (Plate plate fault) = plate_fault_line plate fault
line_of (Page fault) = page_fault_line fault
line_of (Read None) = line (codes "read fault: job")
line_of (Read (Some plate)) = line (codes "read fault: plate " ++ decimal plate)
line_of (Write None) = line (codes "write fault: report")
line_of (Write (Some plate)) = line (codes "write fault: plate " ++ decimal plate)
line_of Memory = line (codes "out of memory")

-- the line of an error at one page of many
abbrev pub numbered_line : ℕ → CommonError → List ℕ
numbered_line page error = codes "page " ++ decimal page ++ codes ": " ++ line_of error

-- the status that the program ends with after an error
abbrev pub status_of : CommonError → ℕ
status_of Usage = usage
status_of (Job fault) = job_refused
status_of (NoDetails plate) = job_refused
status_of (Plate plate fault) = page_refused
status_of (Page fault) = page_refused
status_of (Read file) = not_read
status_of (Write file) = not_written
status_of Memory = out_of_memory
