-- The entries of a dictionary among a job's objects.
use Rattle.std.specs.Prelude.{◌≡◌, ◌≤◌, ℕ, zero, suc, Bool, false, List, [], ◌∷◌, length, take}
use Rattle.std.specs.Prelude.{drop, fold, map, Option, Some, None, Ok, slice_get, AllPairs, ◌+◌}
use Rattle.std.specs.Prelude.{if◌then◌else◌}
use Rattle.std.specs.Borrow.{Bor}
use Rattle.std.specs.Ordering.{nat_cmp}
use Rattle.std.specs.declared.cmp.Ordering.TheVariants.{Less}
use Rattle.std.specs.BTreeMap.{insert_entry}
use Rattle.std.specs.Cmp.Lexicographic.{slice_cmp}
use Rattle.std.specs.Str.{bytes_eq}
use Rattle.ps_tokens.specs.declared.token.Token.{Token}
use Rattle.ps_tokens.specs.declared.object.Body.{Body}
use Rattle.ps_tokens.specs.declared.object.Body.TheVariants.{Number, Truth, Null, Text, Literal}
use Rattle.ps_tokens.specs.declared.object.Body.TheVariants.{Operator, Array, Dict}
use Rattle.ps_tokens.specs.declared.object.Object.{Object}
use Rattle.ps_tokens.specs.Limits.{longest_job}
use Rattle.ps_tokens.specs.Tokens.{tokens_of}
use Rattle.ps_tokens.specs.Objects.{objects_of}

-- a list that some job's bytes give
pub record AreObjects (objects : List Object) : Type 0 where
  pub bytes : List ℕ
  pub tokens : List Token
  pub size : length bytes ≤ longest_job
  pub spelled : tokens_of bytes ≡ Ok tokens
  pub written : objects_of bytes tokens ≡ Ok objects

-- how many objects stand within this one, if there is one
abbrev pub inside_of : Option Object → ℕ
inside_of None = 0
inside_of (Some object) = object.inside

-- the objects within the one at a place
abbrev pub within : List Object → ℕ → List Object
within objects place = take (inside_of (slice_get objects place)) (drop (place + 1) objects)

-- the places of the keys among these objects, the first of which stands at this place, and of
-- which the first few belong
-- to the entry before; each key is followed by its value and all that stands within that
abbrev pub keys_from : ℕ → ℕ → List Object → List ℕ
keys_from place before [] = []
keys_from place (suc before) (object ∷ objects) = keys_from (place + 1) before objects
keys_from place zero (key ∷ objects) =
    place ∷ keys_from (place + 1) (1 + inside_of (slice_get objects 0)) objects

-- the places of a dictionary's keys, in order
unfoldable pub keys_of : List Object → ℕ → List ℕ
keys_of objects dict = keys_from (dict + 1) 0 (within objects dict)

-- whether an object is the literal of this name
abbrev pub is_literal : List ℕ → Body → Bool
is_literal name (Number n) = false
is_literal name (Truth b) = false
is_literal name Null = false
is_literal name Text = false
is_literal name (Literal bytes) = bytes_eq bytes name
is_literal name (Operator bytes) = false
is_literal name Array = false
is_literal name Dict = false

-- whether the literal of this name stands at a place
abbrev pub names : List ℕ → Option Object → Bool
names name None = false
names name (Some object) = is_literal name object.body

-- of these keys the last of this name has its value here; the one found before where none has it
abbrev pub last_among : List Object → List ℕ → Option ℕ → List ℕ → Option ℕ
last_among objects name =
    fold (λ found key. if names name (slice_get objects key) then Some (key + 1) else found)

-- the place of the value of the last entry of that key
unfoldable pub last_of : List Object → ℕ → List ℕ → Option ℕ
last_of objects dict name = last_among objects name None (keys_of objects dict)

-- the name of a literal, empty for any other object
abbrev pub name_in : Body → List ℕ
name_in (Number n) = []
name_in (Truth b) = []
name_in Null = []
name_in Text = []
name_in (Literal bytes) = bytes
name_in (Operator bytes) = []
name_in Array = []
name_in Dict = []

-- the name of the literal at a place
abbrev pub name_of : Option Object → List ℕ
name_of None = []
name_of (Some object) = name_in object.body

-- a name by reference with its place, as bytes with a place
abbrev pub by_bytes : Bor (List ℕ) × ℕ → List ℕ × ℕ
by_bytes e = (e.0.now, e.1)

-- a name stands before another in byte order
abbrev pub IsBefore : List ℕ → List ℕ → Type 0
IsBefore a b = slice_cmp nat_cmp a b ≡ Less

-- names stand in ascending byte order, each once
abbrev pub Ascend : List (List ℕ) → Type 0
Ascend names = AllPairs IsBefore names

-- names with places, in ascending byte order; a name that is there takes its new place
abbrev pub put_key : List Object → List (List ℕ × ℕ) → ℕ → List (List ℕ × ℕ)
put_key objects named key =
    insert_entry (slice_cmp nat_cmp) named (name_of (slice_get objects key)) key

-- the names of the keys at these places
abbrev pub key_names : List Object → List ℕ → List (List ℕ)
key_names objects keys = map (λ key. name_of (slice_get objects key)) keys

-- the places of the last key of each name of a dictionary, in ascending byte order of the names
unfoldable pub last_keys_of : List Object → ℕ → List ℕ
last_keys_of objects dict = map (λ e. e.1) (fold (put_key objects) [] (keys_of objects dict))
