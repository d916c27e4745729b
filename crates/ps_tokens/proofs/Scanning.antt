-- Tokens, piece after piece.
use Rattle.std.proofs.Common.{◌≡◌, ℕ, zero, suc, ◌+◌, ◌-◌, ◌<◌, ◌≤◌, List, [], ◌∷◌, ◌++◌, length, drop, get_or, Result, Ok, Err, refl, sym, ap, ◌∙◌, arith, append_assoc, add-zero}
use Rattle.std.proofs.lemmas.List.{append-nil}
use Rattle.ps_tokens.specs.declared.faults.JobFault.{JobFault}
use Rattle.ps_tokens.specs.declared.faults.FaultKind.{FaultKind}
use Rattle.ps_tokens.specs.declared.token.Token.{Token}
use Rattle.ps_tokens.specs.declared.pieces.Piece.{Piece}
use Rattle.ps_tokens.specs.declared.pieces.Piece.TheVariants.{Broken}
use Rattle.ps_tokens.specs.Pieces.{piece_at}
use Rattle.ps_tokens.specs.Tokens.{piece_len, piece_tokens, tokens_then, tokens_from}

-- the bytes of the piece before are passed over
pub tokens_from-within : (at k : ℕ) (bytes : List ℕ) → tokens_from at k bytes ≡ tokens_from (at + k) 0 (drop k bytes)
unfolding tokens_from
tokens_from-within at zero [] = refl
tokens_from-within at (suc k) [] = refl
tokens_from-within at zero (b ∷ bs) = ap (λ n. tokens_from n 0 (b ∷ bs)) (sym (add-zero at))
tokens_from-within at (suc k) (b ∷ bs) =
    let e : at + 1 + k ≡ at + suc k = omega arith in
    tokens_from-within (at + 1) k bs ∙ ap (λ n. tokens_from n 0 (drop k bs)) e

-- the piece at the beginning, and then what stands after it
pub tokens_from-piece : (at : ℕ) (bytes : List ℕ) (piece : Piece) → 0 < length bytes → piece_at (get_or bytes 0 0) (drop 1 bytes) ≡ piece → 1 ≤ piece_len piece
    → tokens_from at 0 bytes ≡ tokens_then (piece_tokens at piece) (tokens_from (at + piece_len piece) 0 (drop (piece_len piece) bytes))
unfolding tokens_from
tokens_from-piece at [] piece some is one = absurd (omega arith)
tokens_from-piece at (b ∷ bs) piece some is one =
    let k : suc (piece_len piece - 1) ≡ piece_len piece = omega arith in
    let e : at + 1 + (piece_len piece - 1) ≡ at + piece_len piece = omega arith in
    ap (λ p. tokens_then (piece_tokens at p) (tokens_from (at + 1) (piece_len p - 1) bs)) is
    ∙ ap (tokens_then (piece_tokens at piece)) (tokens_from-within (at + 1) (piece_len piece - 1) bs ∙ ap (λ n. tokens_from n 0 (drop (piece_len piece - 1) bs)) e ∙ ap (λ n. tokens_from (at + piece_len piece) 0 (drop n (b ∷ bs))) k)

-- where no token stands
pub tokens_from-broken : (at : ℕ) (bytes : List ℕ) (kind : FaultKind) → 0 < length bytes → piece_at (get_or bytes 0 0) (drop 1 bytes) ≡ Broken kind
    → tokens_from at 0 bytes ≡ Err (record { kind = kind; at = at })
unfolding tokens_from
tokens_from-broken at [] kind some is = absurd (omega arith)
tokens_from-broken at (b ∷ bs) kind some is = ap (λ p. tokens_then (piece_tokens at p) (tokens_from (at + 1) (piece_len p - 1) bs)) is

-- tokens in two parts
pub tokens_then-tokens_then : (found new : List Token) (more : Result (List Token) JobFault) → tokens_then (Ok found) (tokens_then (Ok new) more) ≡ tokens_then (Ok (found ++ new)) more
tokens_then-tokens_then found new (Ok tokens) = ap (λ (ts : List Token). Ok ts) (sym (append_assoc found new tokens))
tokens_then-tokens_then found new (Err fault) = refl

-- none more
pub tokens_then-nil : (found : List Token) → tokens_then (Ok found) (Ok []) ≡ Ok found
tokens_then-nil found = ap (λ (ts : List Token). Ok ts) (append-nil found)

-- no byte is left
pub tokens_from-end : (found : List Token) (at : ℕ) (bytes : List ℕ) → length bytes ≡ 0 → tokens_then (Ok found) (tokens_from at 0 bytes) ≡ Ok found
unfolding tokens_from
tokens_from-end found at [] none = tokens_then-nil found
tokens_from-end found at (b ∷ bs) none = absurd (omega arith)
