-- Brackets, token after token.
use Rattle.std.proofs.Common.{◌≡◌, ℕ, ◌<◌, List, [], ◌∷◌, length, drop, get_or, fold, Ok, Err, None, ◌+◌, refl, ap, ◌∙◌}
use Rattle.std.specs.Prelude.{slice_get}
use Rattle.std.proofs.lemmas.List.{at_drop_more}
use Rattle.ps_tokens.specs.declared.faults.FaultKind.{FaultKind}
use Rattle.ps_tokens.specs.declared.faults.JobFault.{JobFault}
use Rattle.ps_tokens.specs.declared.token.Token.{Token}
use Rattle.ps_tokens.specs.declared.brackets.Bracket.{Bracket}
use Rattle.ps_tokens.specs.Brackets.{after_token, at_token, after_next}

-- after a fault no token is judged
pub fold-err : (bytes : List ℕ) (fault : JobFault) (tokens : List Token) → fold (after_next bytes) (Err fault) tokens ≡ Err fault
fold-err bytes fault [] = refl
fold-err bytes fault (token ∷ tokens) = fold-err bytes fault tokens

-- the fault at the token in hand is that of all tokens
pub fold-drop-err : (bytes : List ℕ) (brackets : List Bracket) (tokens : List Token) (i : ℕ) (d : Token) (kind : FaultKind)
    → i < length tokens → after_token bytes (get_or tokens i d) brackets ≡ Err kind
    → fold (after_next bytes) (Ok brackets) (drop i tokens) ≡ Err (record { kind = kind; at = (get_or tokens i d).at })
fold-drop-err bytes brackets tokens i d kind lt fails =
    at_drop_more (fold (after_next bytes) (Ok brackets)) tokens i d lt
    ∙ ap (λ r. fold (after_next bytes) (at_token (get_or tokens i d).at r) (drop (i + 1) tokens)) fails
    ∙ fold-err bytes (record { kind = kind; at = (get_or tokens i d).at }) (drop (i + 1) tokens)

-- no bracket is on top, so there is none
pub nil-from_top : {X : Type 0} (xs : List X) → slice_get xs 0 ≡ None → xs ≡ []
nil-from_top [] none = refl
nil-from_top (x ∷ xs) none = cc
