-- Further tokens after some tokens.
use Rattle.std.proofs.Common.{◌≡◌, ℕ, List, [], ◌∷◌, ◌++◌, Ok, Err, pos, fold, refl, ap, ◌∙◌}
use Rattle.std.proofs.lemmas.List.Sums.{fold-append}
use Rattle.ps_tokens.specs.declared.faults.JobFault.{JobFault}
use Rattle.ps_tokens.specs.declared.token.Token.{Token}
use Rattle.ps_tokens.specs.declared.token.TokenKind.{TokenKind}
use Rattle.ps_tokens.specs.declared.token.TokenKind.TheVariants.{CloseDict, CloseArray, Number}
use Rattle.ps_tokens.specs.declared.brackets.Expects.{Expects}
use Rattle.ps_tokens.specs.declared.brackets.Expects.TheVariants.{Item, Key, Value}
use Rattle.ps_tokens.specs.declared.brackets.Bracket.{Bracket}
use Rattle.ps_tokens.specs.Brackets.{after_next, brackets_after, after_value, after_array_end, after_dict_end}
use Rattle.ps_tokens.specs.Objects.{objects_of, unless_open}
use Rattle.ps_tokens.specs.Laws.{CanBeCompleted}
use Rattle.ps_tokens.proofs.Judgements.{fold-err}

-- a token of a kind
abbrev some_token : TokenKind → Token
some_token kind = record { at = 0; len = 0; kind = kind }

-- the tokens that close a bracket
abbrev ending : Expects → List Token
ending Item = some_token CloseArray ∷ []
ending Key = some_token CloseDict ∷ []
ending Value = some_token (Number (pos 0)) ∷ some_token CloseDict ∷ []

-- the tokens that close all brackets
abbrev endings : List Bracket → List Token
endings [] = []
endings (innermost ∷ outer) = ending innermost.expects ++ endings outer

-- closing one bracket leaves those outside it
ends-one : (bytes : List ℕ) (at : ℕ) (expects : Expects) (outer : List Bracket) → fold (after_next bytes) (Ok (record { at = at; expects = expects } ∷ outer)) (ending expects) ≡ Ok outer
unfolding after_value after_array_end after_dict_end
ends-one bytes at Item outer = refl
ends-one bytes at Key outer = refl
ends-one bytes at Value outer = refl

ends-all : (bytes : List ℕ) (brackets : List Bracket) → fold (after_next bytes) (Ok brackets) (endings brackets) ≡ Ok []
ends-all bytes [] = refl
ends-all bytes (innermost ∷ outer) =
    fold-append (after_next bytes) (Ok (innermost ∷ outer)) (ending innermost.expects) (endings outer)
    ∙ ap (λ r. fold (after_next bytes) r (endings outer)) (ends-one bytes innermost.at innermost.expects outer)
    ∙ ends-all bytes outer

-- what has no fault can be completed
pub completed : (bytes : List ℕ) (tokens : List Token) (brackets : List Bracket) → brackets_after bytes tokens ≡ Ok brackets → CanBeCompleted bytes tokens
completed bytes tokens brackets are = (
  endings brackets,
  fold-append (after_next bytes) (Ok []) tokens (endings brackets)
      ∙ ap (λ r. fold (after_next bytes) r (endings brackets)) are
      ∙ ends-all bytes brackets,
)

-- what has a fault keeps it
pub never_completed : (bytes : List ℕ) (tokens more : List Token) (fault : JobFault) → brackets_after bytes tokens ≡ Err fault → objects_of bytes (tokens ++ more) ≡ Err fault
never_completed bytes tokens more fault is =
    ap (unless_open bytes (tokens ++ more))
    (fold-append (after_next bytes) (Ok []) tokens more
    ∙ ap (λ r. fold (after_next bytes) r more) is
    ∙ fold-err bytes fault more)
