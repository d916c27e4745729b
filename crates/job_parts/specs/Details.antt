-- The inks that a value of TrappingDetails names, in ascending byte order of their names.
use Rattle.std.specs.Prelude.{ℕ, ℤ, pos, negsuc, Bool, true, false, List, [], Option, Some, None}
use Rattle.std.specs.Prelude.{Result, Ok, Err, slice_get, nat_lt, ◌==◌, codes, if◌then◌else◌}
use Rattle.ps_tokens.specs.declared.faults.FaultKind.{FaultKind}
use Rattle.ps_tokens.specs.declared.faults.FaultKind.TheVariants.{NotDictionary, MissingKey}
use Rattle.ps_tokens.specs.declared.faults.FaultKind.TheVariants.{WrongType}
use Rattle.ps_tokens.specs.declared.faults.JobFault.{JobFault}
use Rattle.ps_tokens.specs.declared.entry_errors.EntryError.{EntryError}
use Rattle.ps_tokens.specs.declared.object.Body.{Body}
use Rattle.ps_tokens.specs.declared.object.Body.TheVariants.{Number, Truth, Null, Text, Literal}
use Rattle.ps_tokens.specs.declared.object.Body.TheVariants.{Operator, Array, Dict}
use Rattle.ps_tokens.specs.declared.object.Object.{Object}
use Rattle.ps_tokens.specs.Dictionaries.{last_of}
use Rattle.ps_tokens.specs.Objects.{is_dict}
use Rattle.ps_tokens.specs.Values.{by_body, value_at}
use Rattle.page_model.specs.declared.parts.Ink.{Ink}
use Rattle.job_parts.specs.Colorants.{colorants_at}

-- the number 1001
abbrev pub is_type : ℤ → Result Bool FaultKind
is_type (pos n) = if n == 10010000 then Ok true else Err WrongType
is_type (negsuc n) = Err WrongType

-- whether a value of Type is the one that is known
abbrev pub type_in : Body → Result Bool FaultKind
type_in (Number n) = is_type n
type_in (Truth b) = Err WrongType
type_in Null = Err WrongType
type_in Text = Err WrongType
type_in (Literal name) = Err WrongType
type_in (Operator name) = Err WrongType
type_in Array = Err WrongType
type_in Dict = Err WrongType

-- whether a dictionary has that type; false where it has none
unfoldable pub type_of : List Object → ℕ → Result Bool EntryError
type_of objects dict =
    value_at (by_body type_in) objects false (last_of objects dict (codes "Type"))

-- the inks: of two faults the one that stands first, and a missing type after both
abbrev pub details_from : ℕ → Result Bool EntryError → Result (List Ink) EntryError
    → Result (List Ink) JobFault
details_from at (Ok true) (Ok inks) = Ok inks
details_from at (Ok false) (Ok inks) = Err (record { kind = MissingKey; at = at })
details_from at (Ok typed) (Err error) = Err error.fault
details_from at (Err error) (Ok inks) = Err error.fault
details_from at (Err first) (Err second) =
    Err (if nat_lt second.place first.place then second.fault else first.fault)

-- the inks of an object at a place
abbrev pub details_in : List Object → ℕ → Option Object → Result (List Ink) JobFault
details_in objects place None = Ok []
details_in objects place (Some object) =
    if is_dict object.body
    then details_from object.at (type_of objects place)
    (colorants_at objects (last_of objects place (codes "ColorantDetails")))
    else Err (record { kind = NotDictionary; at = object.at })

-- the inks that the value of TrappingDetails at a place names
abbrev pub details_of : List Object → ℕ → Result (List Ink) JobFault
details_of objects place = details_in objects place (slice_get objects place)
