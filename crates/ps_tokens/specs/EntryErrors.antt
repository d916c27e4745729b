-- Faults of entries, and which of them stands first.
use Rattle.std.specs.Prelude.{ℕ, Option, Some, None, Result, Ok, Err, nat_lt, if◌then◌else◌}
use Rattle.ps_tokens.specs.declared.faults.FaultKind.{FaultKind}
use Rattle.ps_tokens.specs.declared.faults.JobFault.{JobFault}
use Rattle.ps_tokens.specs.declared.entry_errors.EntryError.{EntryError}

-- what is read at a place, or its fault there
abbrev pub at_place : {X : Type 0} → ℕ → ℕ → Result X FaultKind → Result X EntryError
at_place place at (Ok x) = Ok x
at_place place at (Err kind) =
    Err (record { place = place; fault = record { kind = kind; at = at } })

-- a fault that stands for a whole entry, whose key stands at this place
abbrev pub at_key : {X : Type 0} → ℕ → Result X EntryError → Result X EntryError
at_key key (Ok x) = Ok x
at_key key (Err error) = Err (record { place = key; fault = error.fault })

-- what was read's fault, if it has one
abbrev pub error_of : {X : Type 0} → Result X EntryError → Option EntryError
error_of (Ok x) = None
error_of (Err error) = Some error

-- of two faults the one that stands first
abbrev pub earlier : Option EntryError → Option EntryError → Option EntryError
earlier None second = second
earlier (Some first) None = Some first
earlier (Some first) (Some second) =
    if nat_lt second.place first.place then Some second else Some first

-- what is read, unless there is a fault
abbrev pub unless : {X : Type 0} → Option EntryError → X → Result X JobFault
unless None x = Ok x
unless (Some error) x = Err error.fault
