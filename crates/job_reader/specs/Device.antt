-- What a `setpagedevice` dictionary sets.
use Rattle.std.specs.Prelude.{ℕ, ℤ, pos, negsuc, Bool, List, Option, Some, None, Result, Ok, Err}
use Rattle.std.specs.Prelude.{nat_le, ◌+◌, ◌*◌, ◌/◌, ◌%◌, ◌==◌, ◌&&◌, true, false, codes}
use Rattle.std.specs.Prelude.{if◌then◌else◌}
use Rattle.std.specs.Result.{result_unwrap_or}
use Rattle.page_model.specs.declared.parts.Ink.{Ink}
use Rattle.ps_tokens.specs.declared.faults.FaultKind.{FaultKind}
use Rattle.ps_tokens.specs.declared.faults.FaultKind.TheVariants.{BadResolution}
use Rattle.ps_tokens.specs.declared.faults.JobFault.{JobFault}
use Rattle.ps_tokens.specs.declared.parameters.Key.TheVariants.{Trapping}
use Rattle.ps_tokens.specs.declared.entry_errors.EntryError.{EntryError}
use Rattle.ps_tokens.specs.declared.object.Body.{Body}
use Rattle.ps_tokens.specs.declared.object.Body.TheVariants.{Number, Truth, Null, Text, Literal}
use Rattle.ps_tokens.specs.declared.object.Body.TheVariants.{Operator, Array, Dict}
use Rattle.ps_tokens.specs.declared.object.Object.{Object}
use Rattle.ps_tokens.specs.Dictionaries.{last_of}
use Rattle.ps_tokens.specs.EntryErrors.{error_of, earlier, unless}
use Rattle.ps_tokens.specs.Values.{value_at}
use Rattle.job_parts.specs.Settings.{boolean_after}
use Rattle.job_parts.specs.Details.{details_of}
use Rattle.job_reader.specs.declared.state.State.{State}
use Rattle.job_reader.specs.Operands.{number_at}
use Rattle.page_model.specs.Limits.{most_resolution, scale}

-- whether an object is an array
abbrev pub is_array : Body → Bool
is_array (Number n) = false
is_array (Truth b) = false
is_array Null = false
is_array Text = false
is_array (Literal name) = false
is_array (Operator name) = false
is_array Array = true
is_array Dict = false

-- a whole number of pixels per inch, from 1 to the finest resolution, out of ten-thousandths
abbrev pub pixels_in : ℤ → Option ℕ
pixels_in (pos n) =
    if (n % scale == 0) && nat_le scale n && nat_le n (scale * most_resolution)
    then Some (n / scale) else None
pixels_in (negsuc n) = None

-- the same, where there is a number
abbrev pub pixels_of : Option ℤ → Option ℕ
pixels_of None = None
pixels_of (Some n) = pixels_in n

-- two equal resolutions
abbrev pub equal_pixels : Option ℕ → Option ℕ → Result ℕ FaultKind
equal_pixels None y = Err BadResolution
equal_pixels (Some x) None = Err BadResolution
equal_pixels (Some x) (Some y) = if x == y then Ok x else Err BadResolution

-- the resolution that an object at a place is: an array of two equal whole numbers
abbrev pub resolution_in : List Object → ℕ → Object → Result ℕ FaultKind
resolution_in objects place object =
    let x = pixels_of (number_at objects (place + 1)) in
    let y = pixels_of (number_at objects (place + 2)) in
    if is_array object.body && (object.inside == 2) then equal_pixels x y else Err BadResolution

-- the resolution after a dictionary: that of the last HWResolution entry, or the one now
unfoldable pub resolution_after : List Object → ℕ → ℕ → Result ℕ EntryError
resolution_after objects dict now =
    value_at (resolution_in objects) objects now (last_of objects dict (codes "HWResolution"))

-- details that are named at a place
abbrev pub named_details : ℕ → Result (List Ink) JobFault → Result (Option (List Ink)) EntryError
named_details place (Ok inks) = Ok (Some inks)
named_details place (Err fault) = Err (record { place = place; fault = fault })

abbrev pub details_at : List Object → Option ℕ → Result (Option (List Ink)) EntryError
details_at objects None = Ok None
details_at objects (Some place) = named_details place (details_of objects place)

-- the details that the last TrappingDetails entry of a dictionary names, if there is one
unfoldable pub details_in : List Object → ℕ → Result (Option (List Ink)) EntryError
details_in objects dict = details_at objects (last_of objects dict (codes "TrappingDetails"))

-- the details that are named, or else those now
abbrev pub details_or : Result (Option (List Ink)) EntryError → List Ink → List Ink
details_or (Ok None) now = now
details_or (Ok (Some inks)) now = inks
details_or (Err error) now = now

-- `dict setpagedevice`, of what is named; of several faults the one whose key stands first
abbrev pub device_from : Result ℕ EntryError → Result Bool EntryError
    → Result (Option (List Ink)) EntryError → State → Result State JobFault
device_from resolution trapping details now =
    unless (earlier (error_of resolution) (earlier (error_of trapping) (error_of details)))
    (record now {
      resolution = result_unwrap_or resolution now.resolution;
      trapping = result_unwrap_or trapping now.trapping;
      details = details_or details now.details;
    })

abbrev pub device_set : List Object → ℕ → State → Result State JobFault
device_set objects dict now =
    let resolution = resolution_after objects dict now.resolution in
    let trapping = boolean_after objects dict Trapping now.trapping in
    device_from resolution trapping (details_in objects dict) now
