-- How many tokens there are.
use Rattle.std.proofs.Common.{◌≡◌, ℕ, zero, suc, ◌+◌, ◌-◌, ◌≤◌, List, [], ◌∷◌, length, Result, Ok, Err, IfOk, arith}
use Rattle.std.proofs.lemmas.Result.{IfOk-weaker, IfOk-at_ok}
use Rattle.ps_tokens.specs.declared.faults.JobFault.{JobFault}
use Rattle.ps_tokens.specs.declared.token.Token.{Token}
use Rattle.ps_tokens.specs.declared.pieces.Piece.{Piece}
use Rattle.ps_tokens.specs.declared.pieces.Piece.TheVariants.{Blank, Spelled, Broken}
use Rattle.ps_tokens.specs.Pieces.{piece_at}
use Rattle.ps_tokens.specs.Tokens.{piece_len, piece_tokens, tokens_then, tokens_from, tokens_of}

tokens_then-bound : (at : ℕ) (piece : Piece) (more : Result (List Token) JobFault) (n : ℕ) → IfOk more (λ ts. length ts ≤ n) → IfOk (tokens_then (piece_tokens at piece) more) (λ ts. length ts ≤ suc n)
tokens_then-bound at (Blank len) (Ok ts) n h = omega arith
tokens_then-bound at (Blank len) (Err fault) n h = tt
tokens_then-bound at (Spelled kind len) (Ok ts) n h = omega arith
tokens_then-bound at (Spelled kind len) (Err fault) n h = tt
tokens_then-bound at (Broken kind) more n h = tt

-- at most as many as bytes
length-tokens_from : (at k : ℕ) (bytes : List ℕ) → IfOk (tokens_from at k bytes) (λ ts. length ts ≤ length bytes)
unfolding tokens_from
length-tokens_from at k [] = omega arith
length-tokens_from at zero (b ∷ bs) = tokens_then-bound at (piece_at b bs) (tokens_from (at + 1) (piece_len (piece_at b bs) - 1) bs) (length bs) (length-tokens_from (at + 1) (piece_len (piece_at b bs) - 1) bs)
length-tokens_from at (suc k) (b ∷ bs) = IfOk-weaker (tokens_from (at + 1) k bs) (λ ts. length ts ≤ length bs) (λ ts. length ts ≤ suc (length bs)) (λ ts h. omega arith) (length-tokens_from (at + 1) k bs)

-- there are at most as many tokens as bytes
pub length-tokens : (bytes : List ℕ) (tokens : List Token) → tokens_of bytes ≡ Ok tokens → length tokens ≤ length bytes
length-tokens bytes tokens are = IfOk-at_ok (λ ts. length ts ≤ length bytes) are (length-tokens_from 0 0 bytes)
