-- Objects that stand in one another as a job's do, whatever their tokens are.
use Rattle.std.specs.Prelude.{◌≡◌, ◌<◌, ℕ, suc, List, [], ◌∷◌, ◌++◌, length}
use Rattle.ps_tokens.specs.declared.object.Body.TheVariants.{Array, Dict}
use Rattle.ps_tokens.specs.declared.object.Object.{Object}
use Rattle.ps_tokens.specs.Limits.{deepest}
use Rattle.ps_laws.specs.Writes.{IsLiteral, IsPlain, Part, whole, items, entries}

-- Such a part of a job's objects within a number of brackets: no bracket stands within 16 others,
-- no operator within one, and in a dictionary each entry is a literal and an object.
pub data Nests : Part → ℕ → List Object → Type 0 where
  plain : (depth : ℕ) (object : Object) → IsPlain depth object.body → object.inside ≡ 0
      → Nests whole depth (object ∷ [])
  array : (depth : ℕ) (object : Object) (inner : List Object) → object.body ≡ Array
      → object.inside ≡ length inner → depth < deepest → Nests items (suc depth) inner
      → Nests whole depth (object ∷ inner)
  dict : (depth : ℕ) (object : Object) (inner : List Object) → object.body ≡ Dict
      → object.inside ≡ length inner → depth < deepest → Nests entries (suc depth) inner
      → Nests whole depth (object ∷ inner)
  no_item : (depth : ℕ) → Nests items depth []
  next_item : (depth : ℕ) (first rest objects : List Object) → Nests whole depth first
      → Nests items depth rest → objects ≡ first ++ rest → Nests items depth objects
  no_entry : (depth : ℕ) → Nests entries depth []
  next_entry : (depth : ℕ) (key : Object) (value rest objects : List Object) → IsLiteral key.body
      → key.inside ≡ 0 → Nests whole depth value → Nests entries depth rest
      → objects ≡ key ∷ (value ++ rest) → Nests entries depth objects

-- a job's objects
abbrev pub AreNested : List Object → Type 0
AreNested objects = Nests items 0 objects
