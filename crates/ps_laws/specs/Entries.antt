-- The entries of a dictionary among a job's objects, as they are written.
use Rattle.std.specs.Prelude.{◌≡◌, ◌≢◌, ℕ, List, [], ◌∷◌, ◌++◌, length, ◌+◌, All}
use Rattle.ps_tokens.specs.declared.object.Body.TheVariants.{Literal, Dict}
use Rattle.ps_tokens.specs.declared.object.Object.{Object}
use Rattle.ps_laws.specs.Writes.{whole}
use Rattle.ps_laws.specs.Nests.{Nests}

-- an entry: its name, and the place where its value stands
pub record Entry : Type 0 where
  pub name : List ℕ
  pub value : ℕ

-- Objects, the first of which stands at a place, are these entries in their order: each is a
-- literal of the entry's name and
-- after it the value, one object with all that stands within it.
pub data AreEntries (depth : ℕ) : ℕ → List Object → List Entry → Type 0 where
  none_more : (place : ℕ) → AreEntries depth place [] []
  one_more : (place : ℕ) (key : Object) (name : List ℕ) (value rest objects : List Object)
      (others entries : List Entry)
      → key.body ≡ Literal name → Nests whole depth value
      → AreEntries depth (place + 1 + length value) rest others
      → objects ≡ key ∷ (value ++ rest)
      → entries ≡ record { name = name; value = place + 1 } ∷ others
      → AreEntries depth place objects entries

-- The dictionary that stands at a place has these entries: they are the objects within it.
pub record HasEntries (objects : List Object) (place : ℕ) (entries : List Entry) : Type 0 where
  pub prefix : List Object
  pub dict : Object
  pub inner : List Object
  pub suffix : List Object
  pub depth : ℕ
  pub split : objects ≡ prefix ++ dict ∷ (inner ++ suffix)
  pub at : place ≡ length prefix
  pub body : dict.body ≡ Dict
  pub count : dict.inside ≡ length inner
  pub are : AreEntries depth (place + 1) inner entries

-- none of these entries has this name
abbrev pub NoneNamed : List ℕ → List Entry → Type 0
NoneNamed name entries = All (λ (e : Entry). e.name ≢ name) entries

-- the last entry of this name has its value at this place: one has, and none after it has the name
abbrev pub IsLastNamed : List ℕ → ℕ → List Entry → Type 0
IsLastNamed name value entries =
    (before : List Entry) × (later : List Entry)
    × (entries ≡ before ++ record { name = name; value = value } ∷ later) × NoneNamed name later
