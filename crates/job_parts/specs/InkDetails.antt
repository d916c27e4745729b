-- What a colorant's dictionary says of its ink.
use Rattle.std.specs.Prelude.{ℕ, ℤ, pos, negsuc, List, Option, Some, None, Result, Ok, Err, nat_le}
use Rattle.std.specs.Prelude.{nat_lt, ◌&&◌, codes, if◌then◌else◌}
use Rattle.std.specs.Str.{bytes_eq}
use Rattle.ps_tokens.specs.declared.faults.FaultKind.{FaultKind}
use Rattle.ps_tokens.specs.declared.faults.FaultKind.TheVariants.{MissingKey, BadDensity, BadKind}
use Rattle.ps_tokens.specs.declared.entry_errors.EntryError.{EntryError}
use Rattle.ps_tokens.specs.declared.object.Body.{Body}
use Rattle.ps_tokens.specs.declared.object.Body.TheVariants.{Number, Truth, Null, Text, Literal}
use Rattle.ps_tokens.specs.declared.object.Body.TheVariants.{Operator, Array, Dict}
use Rattle.ps_tokens.specs.declared.object.Object.{Object}
use Rattle.ps_tokens.specs.Dictionaries.{last_of}
use Rattle.ps_tokens.specs.Values.{by_body, value_at, entry_at}
use Rattle.page_model.specs.declared.parts.InkKind.{InkKind}
use Rattle.page_model.specs.declared.parts.InkKind.TheVariants.{Normal, Transparent, Opaque}
use Rattle.page_model.specs.declared.parts.InkKind.TheVariants.{OpaqueIgnore}
use Rattle.job_parts.specs.declared.ink_details.InkDetails.{InkDetails}

-- a neutral density from 0.001 to 10
abbrev pub density_in_range : ℤ → Result (Option ℕ) FaultKind
density_in_range (pos n) = if nat_le 10 n && nat_le n 100000 then Ok (Some n) else Err BadDensity
density_in_range (negsuc n) = Err BadDensity

-- the density that a value of NeutralDensity is
abbrev pub density_in : Body → Result (Option ℕ) FaultKind
density_in (Number n) = density_in_range n
density_in (Truth b) = Err BadDensity
density_in Null = Err BadDensity
density_in Text = Err BadDensity
density_in (Literal name) = Err BadDensity
density_in (Operator name) = Err BadDensity
density_in Array = Err BadDensity
density_in Dict = Err BadDensity

-- the kind of that name
unfoldable pub kind_named : List ℕ → Result InkKind FaultKind
kind_named name =
    if bytes_eq name (codes "Normal") then Ok Normal
    else (if bytes_eq name (codes "Transparent") then Ok Transparent
    else (if bytes_eq name (codes "Opaque") then Ok Opaque
    else (if bytes_eq name (codes "OpaqueIgnore") then Ok OpaqueIgnore
    else Err BadKind)))

-- the kind that a value of ColorantType is
abbrev pub kind_in : Body → Result InkKind FaultKind
kind_in (Number n) = Err BadKind
kind_in (Truth b) = Err BadKind
kind_in Null = Err BadKind
kind_in Text = Err BadKind
kind_in (Literal name) = kind_named name
kind_in (Operator name) = Err BadKind
kind_in Array = Err BadKind
kind_in Dict = Err BadKind

-- the density that a dictionary gives, if it gives one
unfoldable pub density_of : List Object → ℕ → Result (Option ℕ) EntryError
density_of objects dict =
    value_at (by_body density_in) objects None (last_of objects dict (codes "NeutralDensity"))

-- the kind that a dictionary gives, Normal where it gives none
unfoldable pub kind_of : List Object → ℕ → Result InkKind EntryError
kind_of objects dict =
    value_at (by_body kind_in) objects Normal (last_of objects dict (codes "ColorantType"))

-- A colorant's ink: of two faults the one that stands first, and a missing density after both.
-- The colorant's dictionary
-- stands at a place, and its `<<` at an offset.
abbrev pub ink_details_from : ℕ → ℕ → Result (Option ℕ) EntryError → Result InkKind EntryError
    → Result (Option InkDetails) EntryError
ink_details_from dict at (Ok (Some density)) (Ok kind) =
    Ok (Some (record { density = density; kind = kind }))
ink_details_from dict at (Ok None) (Ok kind) =
    Err (record { place = dict; fault = record { kind = MissingKey; at = at } })
ink_details_from dict at (Ok density) (Err error) = Err error
ink_details_from dict at (Err error) (Ok kind) = Err error
ink_details_from dict at (Err first) (Err second) =
    Err (if nat_lt second.place first.place then second else first)

-- the ink that a colorant's dictionary gives
abbrev pub ink_details_in : List Object → ℕ → ℕ → Result (Option InkDetails) EntryError
ink_details_in objects dict at =
    ink_details_from dict at (density_of objects dict) (kind_of objects dict)

-- the ink that the entry of a colorant's key names; its value has to be a dictionary
unfoldable pub ink_details_of : List Object → ℕ → Result (Option InkDetails) EntryError
ink_details_of objects key = entry_at (ink_details_in objects) objects None key
