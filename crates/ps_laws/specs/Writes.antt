-- What it is that tokens write objects out.
use Rattle.std.specs.Prelude.{◌≡◌, ◌⊎◌, ◌<◌, ℕ, suc, Bool, true, false, List, [], ◌∷◌, ◌++◌, length}
use Rattle.std.specs.Prelude.{drop, codes}
use Rattle.ps_tokens.specs.declared.token.Token.{Token}
use Rattle.ps_tokens.specs.declared.token.TokenKind.{TokenKind}
use Rattle.ps_tokens.specs.declared.token.TokenKind.TheVariants as kinds
use Rattle.ps_tokens.specs.declared.object.Body.{Body}
use Rattle.ps_tokens.specs.declared.object.Body.TheVariants.{Number, Truth, Null, Text, Literal}
use Rattle.ps_tokens.specs.declared.object.Body.TheVariants.{Operator, Array, Dict}
use Rattle.ps_tokens.specs.declared.object.Object.{Object}
use Rattle.ps_tokens.specs.Limits.{deepest}
use Rattle.ps_tokens.specs.Words.{spelling}

-- the words that are objects of their own everywhere
abbrev pub IsValueWord : List ℕ → Type 0
IsValueWord word = (word ≡ codes "true") ⊎ (word ≡ codes "false") ⊎ (word ≡ codes "null")

-- a truth's word
abbrev pub boolean_word : Bool → List ℕ
boolean_word true = codes "true"
boolean_word false = codes "false"

-- what a token of this kind and spelling begins
abbrev pub IsBegunBy : Body → TokenKind → List ℕ → Type 0
IsBegunBy (Number n) kind text = kind ≡ kinds.Number n
IsBegunBy (Truth b) kind text = (kind ≡ kinds.Word) × (text ≡ boolean_word b)
IsBegunBy Null kind text = (kind ≡ kinds.Word) × (text ≡ codes "null")
IsBegunBy Text kind text = kind ≡ kinds.Text
IsBegunBy (Literal name) kind text = (kind ≡ kinds.Literal) × (name ≡ drop 1 text)
IsBegunBy (Operator name) kind text = (kind ≡ kinds.Word) × (name ≡ text) × (IsValueWord text → ⊥)
IsBegunBy Array kind text = kind ≡ kinds.OpenArray
IsBegunBy Dict kind text = kind ≡ kinds.OpenDict

-- This token begins the object, within which `inside` objects stand.
pub record Begins (bytes : List ℕ) (object : Object) (token : Token) (inside : ℕ) : Type 0 where
  pub place : object.at ≡ token.at
  pub count : object.inside ≡ inside
  pub meaning : IsBegunBy object.body token.kind (spelling bytes token)

-- a literal, which may be a key
abbrev pub IsLiteral : Body → Type 0
IsLiteral body = (name : List ℕ) × (body ≡ Literal name)

-- an object without brackets; an operator stands in none
abbrev pub IsPlain : ℕ → Body → Type 0
IsPlain depth (Number n) = Unit {0}
IsPlain depth (Truth b) = Unit {0}
IsPlain depth Null = Unit {0}
IsPlain depth Text = Unit {0}
IsPlain depth (Literal name) = Unit {0}
IsPlain depth (Operator name) = depth ≡ 0
IsPlain depth Array = ⊥
IsPlain depth Dict = ⊥

-- One object with all that stands within it; objects one after the other; or entries of a
-- dictionary.
pub data Part : Type 0 where
  whole : Part
  items : Part
  entries : Part

-- Tokens write out such a part of a job's objects, which stands within a number of brackets: an
-- object is its token; an array `[`, the objects within it and `]`; a dictionary `<<`, its entries
-- and `>>`; an entry is a literal and an object. No bracket stands within 16 others.
pub data Writes (bytes : List ℕ) : Part → ℕ → List Object → List Token → Type 0 where
  plain : (depth : ℕ) (object : Object) (token : Token) → IsPlain depth object.body
      → Begins bytes object token 0 → Writes bytes whole depth (object ∷ []) (token ∷ [])
  array : (depth : ℕ) (object : Object) (opening closing : Token) (inner : List Object)
      (between tokens : List Token)
      → object.body ≡ Array → Begins bytes object opening (length inner)
      → closing.kind ≡ kinds.CloseArray → depth < deepest
      → Writes bytes items (suc depth) inner between
      → tokens ≡ opening ∷ (between ++ closing ∷ [])
      → Writes bytes whole depth (object ∷ inner) tokens
  dict : (depth : ℕ) (object : Object) (opening closing : Token) (inner : List Object)
      (between tokens : List Token)
      → object.body ≡ Dict → Begins bytes object opening (length inner)
      → closing.kind ≡ kinds.CloseDict → depth < deepest
      → Writes bytes entries (suc depth) inner between
      → tokens ≡ opening ∷ (between ++ closing ∷ [])
      → Writes bytes whole depth (object ∷ inner) tokens
  no_item : (depth : ℕ) → Writes bytes items depth [] []
  next_item : (depth : ℕ) (first rest objects : List Object) (prefix suffix tokens : List Token)
      → Writes bytes whole depth first prefix → Writes bytes items depth rest suffix
      → objects ≡ first ++ rest → tokens ≡ prefix ++ suffix
      → Writes bytes items depth objects tokens
  no_entry : (depth : ℕ) → Writes bytes entries depth [] []
  next_entry : (depth : ℕ) (key : Object) (token : Token) (value rest objects : List Object)
      (prefix suffix tokens : List Token)
      → IsLiteral key.body → Begins bytes key token 0 → Writes bytes whole depth value prefix
      → Writes bytes entries depth rest suffix
      → objects ≡ key ∷ (value ++ rest) → tokens ≡ token ∷ (prefix ++ suffix)
      → Writes bytes entries depth objects tokens

-- a job's tokens write out these objects
abbrev pub WritesOut : List ℕ → List Object → List Token → Type 0
WritesOut bytes objects tokens = Writes bytes items 0 objects tokens
