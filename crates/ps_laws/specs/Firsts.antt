-- Where tokens cannot write objects out.
use Rattle.std.specs.Prelude.{◌≡◌, ◌⊎◌, ◌<◌, ℕ, suc, true, false, List, [], ◌∷◌, ◌++◌, length}
use Rattle.ps_tokens.specs.declared.faults.FaultKind.{FaultKind}
use Rattle.ps_tokens.specs.declared.faults.FaultKind.TheVariants.{Unclosed, Unmatched}
use Rattle.ps_tokens.specs.declared.faults.FaultKind.TheVariants.{OddDictionary, KeyNotName}
use Rattle.ps_tokens.specs.declared.faults.FaultKind.TheVariants.{NameInside, TooDeep}
use Rattle.ps_tokens.specs.declared.faults.JobFault.{JobFault}
use Rattle.ps_tokens.specs.declared.token.Token.{Token}
use Rattle.ps_tokens.specs.declared.token.TokenKind.{TokenKind}
use Rattle.ps_tokens.specs.declared.token.TokenKind.TheVariants.{OpenArray, OpenDict, CloseArray}
use Rattle.ps_tokens.specs.declared.token.TokenKind.TheVariants.{CloseDict, Literal, Word}
use Rattle.ps_tokens.specs.declared.brackets.Expects.{Expects}
use Rattle.ps_tokens.specs.declared.brackets.Expects.TheVariants.{Item, Key, Value}
use Rattle.ps_tokens.specs.declared.brackets.Bracket.{Bracket}
use Rattle.ps_tokens.specs.declared.object.Object.{Object}
use Rattle.ps_tokens.specs.Brackets.{after_object, is_key_due}
use Rattle.ps_tokens.specs.Limits.{deepest}
use Rattle.ps_tokens.specs.Objects.{is_opening, is_closing}
use Rattle.ps_tokens.specs.Words.{spelling}
use Rattle.ps_laws.specs.Writes.{Begins, IsLiteral, IsValueWord, items, entries, Writes, WritesOut}

-- What stands after an opening token, where nothing closes its bracket: items in an array; in a
-- dictionary entries, where
-- a key is due, or entries and a key, where its value is due.
abbrev pub StandsIn : List ℕ → Expects → ℕ → Token → List Token → Type 0
StandsIn bytes Item depth opening within =
    (opening.kind ≡ OpenArray) × (objects : List Object) × Writes bytes items depth objects within
StandsIn bytes Key depth opening within =
    (opening.kind ≡ OpenDict) × (objects : List Object) × Writes bytes entries depth objects within
StandsIn bytes Value depth opening within =
    (opening.kind ≡ OpenDict) × (objects : List Object) × (prefix : List Token) × (key : Object)
    × (token : Token)
    × Writes bytes entries depth objects prefix × IsLiteral key.body × Begins bytes key token 0
    × (within ≡ prefix ++ token ∷ [])

-- Tokens leave these brackets open, the innermost first: where none is, they write objects out;
-- else the innermost one's
-- opening token stands after tokens that leave those around it open, which it fills as an
-- object does.
pub data LeavesOpen (bytes : List ℕ) : List Bracket → List Token → Type 0 where
  none : (objects : List Object) (tokens : List Token) → WritesOut bytes objects tokens
      → LeavesOpen bytes [] tokens
  inside : (outer brackets : List Bracket) (expects : Expects) (opening : Token)
      (prefix within tokens : List Token)
      → LeavesOpen bytes outer prefix → is_key_due outer ≡ false → length outer < deepest
      → StandsIn bytes expects (suc (length outer)) opening within
      → brackets ≡ record { at = opening.at; expects = expects } ∷ after_object outer
      → tokens ≡ prefix ++ opening ∷ within → LeavesOpen bytes brackets tokens

-- with some further tokens these write objects out
abbrev pub CanWriteOut : List ℕ → List Token → Type 0
CanWriteOut bytes tokens =
    (more : List Token) × (objects : List Object) × WritesOut bytes objects (tokens ++ more)

-- What can be wrong with a token among the brackets that are open before it, the innermost first.

-- a closing token meets no open bracket, or one of the other kind
pub data Mismatches : TokenKind → List Bracket → Type 0 where
  closes_nothing : (kind : TokenKind) → is_closing kind ≡ true → Mismatches kind []
  closes_dict : (innermost : Bracket) (outer : List Bracket) → (innermost.expects ≡ Item → ⊥)
      → Mismatches CloseArray (innermost ∷ outer)
  closes_array : (innermost : Bracket) (outer : List Bracket) → innermost.expects ≡ Item
      → Mismatches CloseDict (innermost ∷ outer)

-- a `>>` stands where a value is due
pub data LacksValue : TokenKind → List Bracket → Type 0 where
  no_value : (innermost : Bracket) (outer : List Bracket) → innermost.expects ≡ Value
      → LacksValue CloseDict (innermost ∷ outer)

-- at a key's place stands neither a literal nor a closing token
pub record IsNoKey (kind : TokenKind) (brackets : List Bracket) : Type 0 where
  pub due : is_key_due brackets ≡ true
  pub no_literal : kind ≡ Literal → ⊥
  pub no_end : is_closing kind ≡ false

-- a word that is no value stands inside a bracket
pub record IsInside (kind : TokenKind) (text : List ℕ) (brackets : List Bracket) : Type 0 where
  pub word : kind ≡ Word
  pub no_value : IsValueWord text → ⊥
  pub within : 0 < length brackets

-- a bracket opens within as many as may be open
pub record IsTooDeep (kind : TokenKind) (brackets : List Bracket) : Type 0 where
  pub opens : is_opening kind ≡ true
  pub deep : length brackets ≡ deepest

-- The fault of a token that is out of place, by its kind and its text: the first that it has, in
-- this order.
pub data HasFault (kind : TokenKind) (text : List ℕ) (brackets : List Bracket) : FaultKind
    → Type 0 where
  is_unmatched : Mismatches kind brackets → HasFault kind text brackets Unmatched
  is_odd : (Mismatches kind brackets → ⊥) → LacksValue kind brackets
      → HasFault kind text brackets OddDictionary
  is_no_key : (Mismatches kind brackets → ⊥) → (LacksValue kind brackets → ⊥)
      → IsNoKey kind brackets
      → HasFault kind text brackets KeyNotName
  is_inside : (Mismatches kind brackets → ⊥) → (LacksValue kind brackets → ⊥)
      → (IsNoKey kind brackets → ⊥)
      → IsInside kind text brackets → HasFault kind text brackets NameInside
  is_too_deep : (Mismatches kind brackets → ⊥) → (LacksValue kind brackets → ⊥)
      → (IsNoKey kind brackets → ⊥)
      → (IsInside kind text brackets → ⊥) → IsTooDeep kind brackets
      → HasFault kind text brackets TooDeep

-- The first token after which no further ones could complete the list; its fault is the first
-- that it has among the
-- brackets that are left open before it.
pub record IsFirstMisplaced (bytes : List ℕ) (tokens : List Token) (fault : JobFault) : Type 0 where
  pub prefix : List Token
  pub token : Token
  pub suffix : List Token
  pub brackets : List Bracket
  pub whole : tokens ≡ prefix ++ token ∷ suffix
  pub before : CanWriteOut bytes prefix
  pub after : CanWriteOut bytes (prefix ++ token ∷ []) → ⊥
  pub place : fault.at ≡ token.at
  pub open_before : LeavesOpen bytes brackets prefix
  pub kinded : HasFault token.kind (spelling bytes token) brackets fault.kind

-- The tokens end within a bracket, the innermost of which is at the fault.
pub record IsUnclosed (bytes : List ℕ) (tokens : List Token) (fault : JobFault) : Type 0 where
  pub innermost : Bracket
  pub outer : List Bracket
  pub open_at_end : LeavesOpen bytes (innermost ∷ outer) tokens
  pub place : fault.at ≡ innermost.at
  pub kinded : fault.kind ≡ Unclosed
  pub unfinished : CanWriteOut bytes tokens
  pub not_written : (objects : List Object) → WritesOut bytes objects tokens → ⊥

-- tokens have this fault
abbrev pub Misplaced : List ℕ → List Token → JobFault → Type 0
Misplaced bytes tokens fault = IsFirstMisplaced bytes tokens fault ⊎ IsUnclosed bytes tokens fault
