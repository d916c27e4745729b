-- Names of any bytes in the form of the job language.
use Rattle.std.specs.Prelude.{ℕ, ◌+◌, ◌/◌, ◌%◌, Bool, not, ◌==◌, ◌&&◌, nat_le, nat_lt}
use Rattle.std.specs.Prelude.{if◌then◌else◌, List, [], ◌∷◌, length, Option, Some, None}
use Rattle.std.specs.List.{flat_map}
use Rattle.page_model.specs.Limits.{longest_name}
use Rattle.plain_words.specs.Names.{is_name_byte}
use Rattle.escaped_names.specs.declared.escape.NameFault.{NameFault}
use Rattle.escaped_names.specs.declared.escape.NameFault.TheVariants.{Empty, TooLong}

-- a digit from 0 to 15, as 0 to 9 or A to F
abbrev pub hex_digit : ℕ → ℕ
hex_digit d = if nat_lt d 10 then 48 + d else 55 + d

-- a byte that stands for itself: from 33 to 126, no delimiter and no #
abbrev pub is_plain : ℕ → Bool
is_plain b = is_name_byte b && not (b == 35)

-- a byte as it stands in an escaped name: itself, or # and two digits
abbrev pub escaped_byte : ℕ → List ℕ
escaped_byte b =
    if is_plain b then b ∷ [] else 35 ∷ hex_digit (b / 16) ∷ hex_digit (b % 16) ∷ []

-- a name with each byte as it stands there
abbrev pub escaped : List ℕ → List ℕ
escaped = flat_map escaped_byte

-- why some bytes have no name in a job
abbrev pub name_fault : List ℕ → Option NameFault
name_fault bytes = if length bytes == 0 then Some Empty else
    (if nat_le (length (escaped bytes)) longest_name then None else Some TooLong)
