-- The value of a dictionary's entry, judged: an object by itself, or with the place where it
-- stands.
use Rattle.std.specs.Prelude.{ℕ, List, Option, Some, None, Result, Ok, Err, slice_get, ◌+◌}
use Rattle.std.specs.Prelude.{if◌then◌else◌}
use Rattle.ps_tokens.specs.declared.faults.FaultKind.{FaultKind}
use Rattle.ps_tokens.specs.declared.faults.FaultKind.TheVariants.{NotDictionary}
use Rattle.ps_tokens.specs.declared.object.Body.{Body}
use Rattle.ps_tokens.specs.declared.object.Object.{Object}
use Rattle.ps_tokens.specs.declared.entry_errors.EntryError.{EntryError}
use Rattle.ps_tokens.specs.EntryErrors.{at_place, at_key}
use Rattle.ps_tokens.specs.Objects.{is_dict}

-- a judgement of an object's body, wherever the object stands
abbrev pub by_body : {X : Type 0} → (Body → Result X FaultKind) → ℕ → Object → Result X FaultKind
by_body judge place object = judge object.body

-- what an object at a place gives; what there is now where none stands there
abbrev pub value_by : {X : Type 0} → (ℕ → Object → Result X FaultKind) → X → ℕ → Option Object
    → Result X EntryError
value_by judge now place None = Ok now
value_by judge now place (Some object) = at_place place object.at (judge place object)

-- what the value at a place gives; what there is now where no entry has the key
abbrev pub value_at : {X : Type 0} → (ℕ → Object → Result X FaultKind) → List Object → X → Option ℕ
    → Result X EntryError
value_at judge objects now None = Ok now
value_at judge objects now (Some place) = value_by judge now place (slice_get objects place)

-- the place of a value that stands there
abbrev pub place_if_some : ℕ → Option Object → Option ℕ
place_if_some place None = None
place_if_some place (Some object) = Some place

-- where a value stands, where there is an entry and its value stands there
abbrev pub place_of_value : List Object → Option ℕ → Option ℕ
place_of_value objects None = None
place_of_value objects (Some place) = place_if_some place (slice_get objects place)

-- what the dictionary gives that an entry's value is, at its place and its offset; what there is
-- now where no value stands
-- there
abbrev pub entry_by : {X : Type 0} → (ℕ → ℕ → Result X EntryError) → X → ℕ → Option Object
    → Result X EntryError
entry_by read now key None = Ok now
entry_by read now key (Some object) =
    if is_dict object.body then at_key key (read (key + 1) object.at)
    else at_place key object.at (Err NotDictionary)

-- what the dictionary gives that is the value of the entry whose key stands at a place
abbrev pub entry_at : {X : Type 0} → (ℕ → ℕ → Result X EntryError) → List Object → X → ℕ
    → Result X EntryError
entry_at read objects now key = entry_by read now key (slice_get objects (key + 1))
