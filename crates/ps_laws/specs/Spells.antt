-- What it is that bytes spell tokens: gaps and the tokens' texts in turn.
use Rattle.std.specs.Prelude.{◌≡◌, ◌⊎◌, ◌<◌, ◌≤◌, ℕ, false, List, [], ◌∷◌, ◌++◌, length, ◌+◌}
use Rattle.ps_tokens.specs.declared.faults.FaultKind.{FaultKind}
use Rattle.ps_tokens.specs.declared.faults.FaultKind.TheVariants.{BadToken, NumberTooLarge}
use Rattle.ps_tokens.specs.declared.faults.JobFault.{JobFault}
use Rattle.ps_tokens.specs.declared.token.Token.{Token}
use Rattle.ps_tokens.specs.declared.token.TokenKind.{TokenKind}
use Rattle.ps_tokens.specs.declared.token.TokenKind.TheVariants.{OpenDict, CloseDict, OpenArray}
use Rattle.ps_tokens.specs.declared.token.TokenKind.TheVariants.{CloseArray, Literal, Word, Number}
use Rattle.ps_tokens.specs.declared.token.TokenKind.TheVariants.{Text}
use Rattle.ps_tokens.specs.Bytes.{is_whitespace, is_regular, first_passes, begins_with}
use Rattle.ps_laws.specs.Gaps.{IsGap, IsEnd}
use Rattle.ps_laws.specs.Shapes.{IsTooLarge, IsToken}

-- What may stand directly after a token: a number and a word are whole runs of regular bytes,
-- and no `/` stands after
-- a `/`.
abbrev pub MayFollow : TokenKind → List ℕ → List ℕ → Type 0
MayFollow OpenDict text after = Unit {0}
MayFollow CloseDict text after = Unit {0}
MayFollow OpenArray text after = Unit {0}
MayFollow CloseArray text after = Unit {0}
MayFollow Literal text after = text ≡ 47 ∷ [] → begins_with 47 after ≡ false
MayFollow Word text after = first_passes is_regular after ≡ false
MayFollow (Number value) text after = first_passes is_regular after ≡ false
MayFollow Text text after = Unit {0}

-- no prefix of these bytes that is a token is longer
abbrev pub NoneIsLonger : ℕ → List ℕ → Type 0
NoneIsLonger n bytes = (kind : TokenKind) (text after : List ℕ) → IsToken kind text
    → bytes ≡ text ++ after → length text ≤ n

-- a token of this kind and text stands before these bytes
pub record Stands (kind : TokenKind) (text after : List ℕ) : Type 0 where
  pub shaped : IsToken kind text
  pub longest : NoneIsLonger (length text) (text ++ after)
  pub followed : MayFollow kind text after

-- the first of the tokens, after a gap
pub record SpellsFirst (at : ℕ) (bytes : List ℕ) (token : Token) (after : List ℕ) : Type 0 where
  pub gap : List ℕ
  pub text : List ℕ
  pub between : IsGap gap
  pub stands : Stands token.kind text after
  pub whole : bytes ≡ gap ++ (text ++ after)
  pub place : token.at ≡ at + length gap
  pub len : token.len ≡ length text

-- bytes that begin at this offset spell these tokens, and then a gap, up to what is left at the
-- end's offset
abbrev pub SpellsUntil : ℕ → List ℕ → List Token → ℕ → List ℕ → Type 0
SpellsUntil at bytes [] end rest =
    (gap : List ℕ) × IsGap gap × (bytes ≡ gap ++ rest) × (end ≡ at + length gap)
SpellsUntil at bytes (token ∷ tokens) end rest = (after : List ℕ) × SpellsFirst at bytes token after
    × SpellsUntil (token.at + token.len) after tokens end rest

-- A job's bytes spell these tokens: nothing is left after them but the job's end.
pub record Spells (bytes : List ℕ) (tokens : List Token) : Type 0 where
  pub end : ℕ
  pub rest : List ℕ
  pub spelled : SpellsUntil 0 bytes tokens end rest
  pub ends : IsEnd rest

-- a number that is too large stands before these bytes
abbrev pub BeginsTooLarge : List ℕ → Type 0
BeginsTooLarge bytes = (text : List ℕ) × (after : List ℕ) × IsTooLarge text
    × (first_passes is_regular after ≡ false) × (bytes ≡ text ++ after)

-- bytes at which no token stands have this fault
abbrev pub IsKindOf : FaultKind → List ℕ → Type 0
IsKindOf kind bytes = ((kind ≡ NumberTooLarge) × BeginsTooLarge bytes)
    ⊎ ((kind ≡ BadToken) × (BeginsTooLarge bytes → ⊥))

-- A job's bytes have this fault: those before it spell tokens, and neither whitespace nor a
-- comment nor a token stands
-- where it is.
pub record Breaks (bytes : List ℕ) (fault : JobFault) : Type 0 where
  pub tokens : List Token
  pub rest : List ℕ
  pub spelled : SpellsUntil 0 bytes tokens fault.at rest
  pub some : 0 < length rest
  pub no_whitespace : first_passes is_whitespace rest ≡ false
  pub no_comment : begins_with 37 rest ≡ false
  pub no_token : (kind : TokenKind) (text after : List ℕ) → Stands kind text after
      → rest ≡ text ++ after → ⊥
  pub kinded : IsKindOf fault.kind rest
