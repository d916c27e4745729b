-- What holds of all that a judgement gives holds of the value of an entry.
use Rattle.std.proofs.Common.{◌≡◌, ℕ, ◌+◌, Bool, true, false, cond, List, Option, Some, None, Result, Ok, Err, refl, subst}
use Rattle.std.specs.Prelude.{slice_get}
use Rattle.std.specs.Result.{result_unwrap_or}
use Rattle.ps_tokens.specs.declared.faults.FaultKind.{FaultKind}
use Rattle.ps_tokens.specs.declared.faults.FaultKind.TheVariants.{NotDictionary}
use Rattle.ps_tokens.specs.declared.entry_errors.EntryError.{EntryError}
use Rattle.ps_tokens.specs.declared.object.Object.{Object}
use Rattle.ps_tokens.specs.EntryErrors.{at_place, at_key}
use Rattle.ps_tokens.specs.Objects.{is_dict}
use Rattle.ps_tokens.specs.Values.{value_by, value_at, entry_by, entry_at}

-- all that is read has a property
abbrev pub Reads : {X E : Type 0} → (X → Type 0) → Result X E → Type 0
Reads {X} P r = (x : X) → r ≡ Ok x → P x

reads-ok : {X E : Type 0} (P : X → Type 0) (x : X) → P x → Reads {E = E} P (Ok x)
reads-ok P x is y same = let e : x ≡ y = cc in subst P e is

judged-reads : {X : Type 0} (P : X → Type 0) (place at : ℕ) (r : Result X FaultKind) → Reads P r → Reads P (at_place place at r)
judged-reads P place at (Ok x) reads = reads-ok P x (reads x refl)
judged-reads P place at (Err kind) reads = λ x is. absurd (cc)

value_by-reads : {X : Type 0} (P : X → Type 0) (judge : ℕ → Object → Result X FaultKind) (now : X) (place : ℕ) (o : Option Object) → ((place : ℕ) (object : Object) → Reads P (judge place object)) → P now → Reads P (value_by judge now place o)
value_by-reads P judge now place None reads here = reads-ok P now here
value_by-reads P judge now place (Some object) reads here = judged-reads P place object.at (judge place object) (reads place object)

-- the value of an entry
pub value_at-reads : {X : Type 0} (P : X → Type 0) (judge : ℕ → Object → Result X FaultKind) (objects : List Object) (now : X) (o : Option ℕ) → ((place : ℕ) (object : Object) → Reads P (judge place object)) → P now → Reads P (value_at judge objects now o)
value_at-reads P judge objects now None reads here = reads-ok P now here
value_at-reads P judge objects now (Some place) reads here = value_by-reads P judge now place (slice_get objects place) reads here

-- the same, or what there was where there is a fault
pub unwrap-reads : {X E : Type 0} (P : X → Type 0) (r : Result X E) (now : X) → Reads P r → P now → P (result_unwrap_or r now)
unwrap-reads P (Ok x) now reads here = reads x refl
unwrap-reads P (Err error) now reads here = here

at_key-reads : {X : Type 0} (P : X → Type 0) (key : ℕ) (r : Result X EntryError) → Reads P r → Reads P (at_key key r)
at_key-reads P key (Ok x) reads = reads-ok P x (reads x refl)
at_key-reads P key (Err error) reads = λ x is. absurd (cc)

dict-reads : {X : Type 0} (P : X → Type 0) (b : Bool) (key at : ℕ) (r : Result X EntryError) → Reads P r → Reads P (cond b (at_key key r) (at_place key at (Err NotDictionary)))
dict-reads P true key at r reads = at_key-reads P key r reads
dict-reads P false key at r reads = λ x is. absurd (cc)

entry_by-reads : {X : Type 0} (P : X → Type 0) (read : ℕ → ℕ → Result X EntryError) (now : X) (key : ℕ) (o : Option Object) → ((dict at : ℕ) → Reads P (read dict at)) → P now → Reads P (entry_by read now key o)
entry_by-reads P read now key None reads here = reads-ok P now here
entry_by-reads P read now key (Some object) reads here = dict-reads P (is_dict object.body) key object.at (read (key + 1) object.at) (reads (key + 1) object.at)

-- what the dictionary gives that is an entry's value
pub entry_at-reads : {X : Type 0} (P : X → Type 0) (read : ℕ → ℕ → Result X EntryError) (objects : List Object) (now : X) (key : ℕ) → ((dict at : ℕ) → Reads P (read dict at)) → P now → Reads P (entry_at read objects now key)
entry_at-reads P read objects now key reads here = entry_by-reads P read now key (slice_get objects (key + 1)) reads here
