-- The operands of an operator: the objects between two places of a job's list.
use Rattle.std.specs.Prelude.{ℕ, ℤ, Bool, false, List, Option, Some, None, slice_get, ◌+◌, ◌==◌}
use Rattle.std.specs.Prelude.{◌&&◌, if◌then◌else◌}
use Rattle.ps_tokens.specs.declared.object.Body.{Body}
use Rattle.ps_tokens.specs.declared.object.Body.TheVariants.{Number, Truth, Null, Text, Literal}
use Rattle.ps_tokens.specs.declared.object.Body.TheVariants.{Operator, Array, Dict}
use Rattle.ps_tokens.specs.declared.object.Object.{Object}
use Rattle.ps_tokens.specs.Objects.{is_dict}

-- whether an object is a dictionary that ends before this place, where it stands at another
abbrev pub is_dict_between : ℕ → ℕ → Option Object → Bool
is_dict_between from place None = false
is_dict_between from place (Some object) =
    is_dict object.body && (from + 1 + object.inside == place)

-- whether the operands are one dictionary
abbrev pub is_one_dict : List Object → ℕ → ℕ → Bool
is_one_dict objects from place = is_dict_between from place (slice_get objects from)

-- the number that an object is, if it is one
abbrev pub number_in : Body → Option ℤ
number_in (Number n) = Some n
number_in (Truth b) = None
number_in Null = None
number_in Text = None
number_in (Literal name) = None
number_in (Operator name) = None
number_in Array = None
number_in Dict = None

abbrev pub number_of : Option Object → Option ℤ
number_of None = None
number_of (Some object) = number_in object.body

-- the number at a place
abbrev pub number_at : List Object → ℕ → Option ℤ
number_at objects place = number_of (slice_get objects place)

-- both, if there are both
abbrev pub both : Option ℤ → Option ℤ → Option (ℤ × ℤ)
both None y = None
both (Some x) None = None
both (Some x) (Some y) = Some (x, y)

-- the two numbers that are the operands, if they are two numbers
abbrev pub two_numbers : List Object → ℕ → ℕ → Option (ℤ × ℤ)
two_numbers objects from place =
    if from + 2 == place then both (number_at objects from) (number_at objects (from + 1)) else None
