-- What a dictionary sets: the value of the last entry of each key, judged by its kind and range.
use Rattle.std.specs.Prelude.{ℕ, ℤ, pos, negsuc, Bool, List, Result, Ok, Err, nat_le, ◌&&◌}
use Rattle.std.specs.Prelude.{if◌then◌else◌}
use Rattle.ps_tokens.specs.declared.parameters.Key.{Key}
use Rattle.ps_tokens.specs.declared.faults.FaultKind.{FaultKind}
use Rattle.ps_tokens.specs.declared.faults.FaultKind.TheVariants.{WrongKind, OutOfRange}
use Rattle.ps_tokens.specs.declared.object.Body.{Body}
use Rattle.ps_tokens.specs.declared.object.Body.TheVariants.{Number, Truth, Null, Text, Literal}
use Rattle.ps_tokens.specs.declared.object.Body.TheVariants.{Operator, Array, Dict}
use Rattle.ps_tokens.specs.declared.object.Object.{Object}
use Rattle.ps_tokens.specs.Dictionaries.{last_of}
use Rattle.ps_tokens.specs.declared.entry_errors.EntryError.{EntryError}
use Rattle.ps_tokens.specs.Values.{by_body, value_at}
use Rattle.ps_tokens.specs.Parameters.{name_of, least_of, most_of}

-- a number in the parameter's range
abbrev pub in_range : Key → ℤ → Result ℕ FaultKind
in_range key (pos n) =
    if nat_le (least_of key) n && nat_le n (most_of key) then Ok n else Err (OutOfRange key)
in_range key (negsuc n) = Err (OutOfRange key)

-- the number that a value sets
abbrev pub number_of : Key → Body → Result ℕ FaultKind
number_of key (Number n) = in_range key n
number_of key (Truth b) = Err (WrongKind key)
number_of key Null = Err (WrongKind key)
number_of key Text = Err (WrongKind key)
number_of key (Literal name) = Err (WrongKind key)
number_of key (Operator name) = Err (WrongKind key)
number_of key Array = Err (WrongKind key)
number_of key Dict = Err (WrongKind key)

-- the boolean that a value sets
abbrev pub boolean_of : Key → Body → Result Bool FaultKind
boolean_of key (Number n) = Err (WrongKind key)
boolean_of key (Truth b) = Ok b
boolean_of key Null = Err (WrongKind key)
boolean_of key Text = Err (WrongKind key)
boolean_of key (Literal name) = Err (WrongKind key)
boolean_of key (Operator name) = Err (WrongKind key)
boolean_of key Array = Err (WrongKind key)
boolean_of key Dict = Err (WrongKind key)

-- a number after a dictionary
unfoldable pub number_after : List Object → ℕ → Key → ℕ → Result ℕ EntryError
number_after objects dict key now =
    value_at (by_body (number_of key)) objects now (last_of objects dict (name_of key))

-- a boolean after a dictionary
unfoldable pub boolean_after : List Object → ℕ → Key → Bool → Result Bool EntryError
boolean_after objects dict key now =
    value_at (by_body (boolean_of key)) objects now (last_of objects dict (name_of key))
