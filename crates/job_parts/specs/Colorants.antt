-- The inks of a ColorantDetails dictionary.
use Rattle.std.specs.Prelude.{ℕ, List, [], ◌∷◌, fold, map, Option, Some, None, Result, Ok, Err}
use Rattle.std.specs.Prelude.{slice_get, if◌then◌else◌}
use Rattle.std.specs.List.{flat_map}
use Rattle.ps_tokens.specs.declared.faults.FaultKind.TheVariants.{NotDictionary}
use Rattle.ps_tokens.specs.declared.entry_errors.EntryError.{EntryError}
use Rattle.ps_tokens.specs.declared.object.Object.{Object}
use Rattle.ps_tokens.specs.Dictionaries.{Ascend, last_keys_of, name_of}
use Rattle.ps_tokens.specs.EntryErrors.{at_place, error_of, earlier}
use Rattle.ps_tokens.specs.Objects.{is_dict}
use Rattle.page_model.specs.declared.parts.Ink.{Ink}
use Rattle.job_parts.specs.declared.ink_details.InkDetails.{InkDetails}
use Rattle.job_parts.specs.InkDetails.{ink_details_of}

-- an ink under its name
abbrev pub ink_if_given : List ℕ → Result (Option InkDetails) EntryError → List Ink
ink_if_given name (Err error) = []
ink_if_given name (Ok None) = []
ink_if_given name (Ok (Some details)) =
    record { name = name; density = details.density; kind = details.kind } ∷ []

-- the inks of these keys, in their order
abbrev pub inks_of : List Object → List ℕ → List Ink
inks_of objects =
    flat_map (λ key. ink_if_given (name_of (slice_get objects key)) (ink_details_of objects key))

-- of the faults of these keys the one that stands first
abbrev pub first_error : List Object → List ℕ → Option EntryError
first_error objects = fold (λ first key. earlier first (error_of (ink_details_of objects key))) None

-- inks, unless there is a fault, which then stands for the whole dictionary at a place
abbrev pub inks_unless : ℕ → Option EntryError → List Ink → Result (List Ink) EntryError
inks_unless place None inks = Ok inks
inks_unless place (Some error) inks = Err (record { place = place; fault = error.fault })

-- the inks that a value of ColorantDetails names
abbrev pub colorants_in : List Object → ℕ → Option Object → Result (List Ink) EntryError
colorants_in objects place None = Ok []
colorants_in objects place (Some object) =
    let keys = last_keys_of objects place in
    if is_dict object.body then inks_unless place (first_error objects keys) (inks_of objects keys)
    else at_place place object.at (Err NotDictionary)

-- the inks of the value at a place, none where no entry has the key
abbrev pub colorants_at : List Object → Option ℕ → Result (List Ink) EntryError
colorants_at objects None = Ok []
colorants_at objects (Some place) = colorants_in objects place (slice_get objects place)

-- the inks' names stand in ascending byte order, each once
abbrev pub AscendByName : List Ink → Type 0
AscendByName inks = Ascend (map (λ (ink : Ink). ink.name) inks)
