-- An error in numbers, as C has it: its status, its kind, and what its line names.
use Rattle.std.specs.Prelude.{ℕ, ◌-◌, ◌^◌, Bool, ◌==◌, if◌then◌else◌, Option, Some, None}
use Rattle.page_model.specs.declared.page.PageFault.{PageFault}
use Rattle.page_model.specs.declared.page.PageFault.TheVariants.{SizeDiffers, MaxvalDiffers}
use Rattle.page_model.specs.declared.page.PageFault.TheVariants.{TooManySamples as PageTooLarge}
use Rattle.page_model.specs.declared.page.PageFault.TheVariants.{ReachTooWide}
use Rattle.pgm_plates.specs.declared.plate.PlateFault.{PlateFault}
use Rattle.pgm_plates.specs.declared.plate.PlateFault.TheVariants.{SampleAboveMaxval, BadMagic}
use Rattle.pgm_plates.specs.declared.plate.PlateFault.TheVariants.{BadHeader, SideRange}
use Rattle.pgm_plates.specs.declared.plate.PlateFault.TheVariants.{TooManySamples, MaxvalRange}
use Rattle.pgm_plates.specs.declared.plate.PlateFault.TheVariants.{Truncated, TrailingBytes}
use Rattle.ps_tokens.specs.declared.faults.FaultKind.{FaultKind}
use Rattle.ps_tokens.specs.declared.faults.FaultKind.TheVariants.{JobTooLong, BadToken}
use Rattle.ps_tokens.specs.declared.faults.FaultKind.TheVariants.{NumberTooLarge, Unclosed}
use Rattle.ps_tokens.specs.declared.faults.FaultKind.TheVariants.{Unmatched, OddDictionary}
use Rattle.ps_tokens.specs.declared.faults.FaultKind.TheVariants.{KeyNotName, NameInside, TooDeep}
use Rattle.ps_tokens.specs.declared.faults.FaultKind.TheVariants.{WrongKind, OutOfRange}
use Rattle.ps_tokens.specs.declared.faults.FaultKind.TheVariants.{NotDictionary, MissingKey}
use Rattle.ps_tokens.specs.declared.faults.FaultKind.TheVariants.{WrongType, BadDensity, BadKind}
use Rattle.ps_tokens.specs.declared.faults.FaultKind.TheVariants.{BadResolution, UnknownOperator}
use Rattle.ps_tokens.specs.declared.faults.FaultKind.TheVariants.{WrongOperands, NoCurrentPoint}
use Rattle.ps_tokens.specs.declared.faults.FaultKind.TheVariants.{CoordinateRange, TooManyVertices}
use Rattle.ps_tokens.specs.declared.faults.FaultKind.TheVariants.{TooManyZones, NoPageDevice}
use Rattle.ps_tokens.specs.declared.faults.FaultKind.TheVariants.{AfterShowpage, NoShowpage}
use Rattle.ps_tokens.specs.declared.parameters.Key.{Key}
use Rattle.ps_tokens.specs.declared.parameters.Key.TheVariants.{TrapWidth, BlackWidth}
use Rattle.ps_tokens.specs.declared.parameters.Key.TheVariants.{BlackColorLimit, BlackDensityLimit}
use Rattle.ps_tokens.specs.declared.parameters.Key.TheVariants.{StepLimit, SlidingTrapLimit}
use Rattle.ps_tokens.specs.declared.parameters.Key.TheVariants.{TrapColorScaling, Enabled, Trapping}
use Rattle.common_errors.specs.declared.common.CommonError.{CommonError}
use Rattle.common_errors.specs.declared.common.CommonError.TheVariants.{Usage, Job, NoDetails}
use Rattle.common_errors.specs.declared.common.CommonError.TheVariants.{Plate, Page as OfPage, Read}
use Rattle.common_errors.specs.declared.common.CommonError.TheVariants.{Write, Memory}
use Rattle.common_errors.specs.CommonErrors.{plate_fault_place}
use Rattle.common_errors.specs.Statuses.{done}
use Rattle.trap_c.specs.declared.error.CallFault.{CallFault}
use Rattle.trap_c.specs.declared.error.CallFault.TheVariants.{Size, Handle, Names, Sides, Step}
use Rattle.trap_c.specs.declared.error.CallFault.TheVariants.{Maxval, Samples, Place}
use Rattle.trap_c.specs.declared.error.CallError.{CallError}
use Rattle.trap_c.specs.declared.error.CallError.TheVariants.{Call, Far, Page}
use Rattle.trap_c.specs.declared.error_record.ErrorRecord.{ErrorRecord}
use Rattle.trap_c.specs.Errors.{status_of_error}

-- the bytes of C's struct
abbrev pub error_size : ℕ
error_size = 40

-- what stands where a line names no plate, zone or parameter, and where it has no offset
abbrev pub no_number : ℕ
no_number = 2 ^ 32 - 1

abbrev pub no_offset : ℕ
no_offset = 2 ^ 64 - 1

-- The kinds. Each line has one, and the hundreds of a kind are its status.
abbrev pub kind_of_call : CallFault → ℕ
kind_of_call Size = 202
kind_of_call Handle = 203
kind_of_call Names = 204
kind_of_call Sides = 205
kind_of_call Step = 206
kind_of_call Maxval = 207
kind_of_call Samples = 208
kind_of_call Place = 209

abbrev pub kind_of_fault : FaultKind → ℕ
kind_of_fault JobTooLong = 301
kind_of_fault BadToken = 302
kind_of_fault NumberTooLarge = 303
kind_of_fault Unclosed = 304
kind_of_fault Unmatched = 305
kind_of_fault OddDictionary = 306
kind_of_fault KeyNotName = 307
kind_of_fault NameInside = 308
kind_of_fault TooDeep = 309
kind_of_fault (WrongKind key) = 310
kind_of_fault (OutOfRange key) = 311
kind_of_fault NotDictionary = 312
kind_of_fault MissingKey = 313
kind_of_fault WrongType = 314
kind_of_fault BadDensity = 315
kind_of_fault BadKind = 316
kind_of_fault BadResolution = 317
kind_of_fault UnknownOperator = 318
kind_of_fault WrongOperands = 319
kind_of_fault NoCurrentPoint = 320
kind_of_fault CoordinateRange = 321
kind_of_fault TooManyVertices = 322
kind_of_fault TooManyZones = 323
kind_of_fault NoPageDevice = 324
kind_of_fault AfterShowpage = 325
kind_of_fault NoShowpage = 326

abbrev pub kind_of_plate : PlateFault → ℕ
kind_of_plate (SampleAboveMaxval at) = 401
kind_of_plate (BadMagic at) = 411
kind_of_plate (BadHeader at) = 412
kind_of_plate (SideRange at) = 413
kind_of_plate (TooManySamples at) = 414
kind_of_plate (MaxvalRange at) = 415
kind_of_plate (Truncated at) = 416
kind_of_plate (TrailingBytes at) = 417

abbrev pub kind_of_page : PageFault → ℕ
kind_of_page (SizeDiffers number) = 402
kind_of_page (MaxvalDiffers number) = 403
kind_of_page PageTooLarge = 404
kind_of_page (ReachTooWide number) = 405

abbrev pub kind_of_common : CommonError → ℕ
kind_of_common Usage = 210
kind_of_common (Job fault) = kind_of_fault fault.kind
kind_of_common (NoDetails plate) = 327
kind_of_common (Plate plate fault) = kind_of_plate fault
kind_of_common (OfPage fault) = kind_of_page fault
kind_of_common (Read file) = 501
kind_of_common (Write file) = 601
kind_of_common Memory = 701

abbrev pub kind_of : CallError → ℕ
kind_of (Call fault) = kind_of_call fault
kind_of (Page common_error) = kind_of_common common_error
kind_of (Far zone) = 406

-- the plate that a line names
abbrev pub number_or : Option ℕ → ℕ
number_or None = no_number
number_or (Some number) = number

abbrev pub plate_of_page : PageFault → ℕ
plate_of_page (SizeDiffers plate) = plate
plate_of_page (MaxvalDiffers plate) = plate
plate_of_page PageTooLarge = no_number
plate_of_page (ReachTooWide zone) = no_number

abbrev pub plate_of_common : CommonError → ℕ
plate_of_common Usage = no_number
plate_of_common (Job fault) = no_number
plate_of_common (NoDetails plate) = plate
plate_of_common (Plate plate fault) = plate
plate_of_common (OfPage fault) = plate_of_page fault
plate_of_common (Read file) = number_or file
plate_of_common (Write file) = number_or file
plate_of_common Memory = no_number

abbrev pub plate_of : CallError → ℕ
plate_of (Call fault) = no_number
plate_of (Page common_error) = plate_of_common common_error
plate_of (Far zone) = no_number

-- the zone that a line names
abbrev pub zone_of_page : PageFault → ℕ
zone_of_page (SizeDiffers plate) = no_number
zone_of_page (MaxvalDiffers plate) = no_number
zone_of_page PageTooLarge = no_number
zone_of_page (ReachTooWide zone) = zone

abbrev pub zone_of_common : CommonError → ℕ
zone_of_common (OfPage fault) = zone_of_page fault
zone_of_common other = no_number

abbrev pub zone_of : CallError → ℕ
zone_of (Call fault) = no_number
zone_of (Page common_error) = zone_of_common common_error
zone_of (Far zone) = zone

-- the parameter that a line names: C's numbers of parameters
abbrev pub number_of_key : Key → ℕ
number_of_key TrapWidth = 1
number_of_key BlackWidth = 2
number_of_key BlackColorLimit = 3
number_of_key BlackDensityLimit = 4
number_of_key StepLimit = 5
number_of_key SlidingTrapLimit = 6
number_of_key TrapColorScaling = 7
number_of_key Enabled = 8
number_of_key Trapping = 9

abbrev pub name_of_fault : FaultKind → ℕ
name_of_fault (WrongKind key) = number_of_key key
name_of_fault (OutOfRange key) = number_of_key key
name_of_fault other = no_number

abbrev pub name_of_common : CommonError → ℕ
name_of_common (Job fault) = name_of_fault fault.kind
name_of_common other = no_number

abbrev pub name_of : CallError → ℕ
name_of (Call fault) = no_number
name_of (Page common_error) = name_of_common common_error
name_of (Far zone) = no_number

-- the offset that a line ends with
abbrev pub offset_of_common : CommonError → ℕ
offset_of_common (Job fault) = fault.at
offset_of_common (Plate plate fault) = plate_fault_place fault
offset_of_common other = no_offset

abbrev pub offset_of : CallError → ℕ
offset_of (Call fault) = no_offset
offset_of (Page common_error) = offset_of_common common_error
offset_of (Far zone) = no_offset

-- What C has of an error: all that its line says. No rows come out of a call that fails.
abbrev pub error_of : CallError → ErrorRecord
error_of error = record {
  size = error_size;
  status = status_of_error error;
  kind = kind_of error;
  plate = plate_of error;
  zone = zone_of error;
  name = name_of error;
  offset = offset_of error;
  rows = 0;
}

-- and what it has of a call that is done
abbrev pub no_error : ErrorRecord
no_error = record {
  size = error_size;
  status = done;
  kind = 0;
  plate = no_number;
  zone = no_number;
  name = no_number;
  offset = no_offset;
  rows = 0;
}

-- whether the caller's struct has the size of the library's
abbrev pub is_sized : ErrorRecord → Bool
is_sized said = said.size == error_size

-- the struct after an error: one of another size is left as it was
abbrev pub said_of : ErrorRecord → CallError → ErrorRecord
said_of said error = if is_sized said then error_of error else said
