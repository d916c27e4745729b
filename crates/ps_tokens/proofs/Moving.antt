-- Tokens that stand further on.
use Rattle.std.proofs.Common.{◌≡◌, ℕ, zero, suc, ◌+◌, ◌-◌, ◌<◌, ◌≤◌, true, false, List, [], ◌∷◌, ◌++◌, length, drop, get_or, Result, Ok, Err, refl, sym, ap, ◌∙◌, arith, add_assoc}
use Rattle.std.specs.List.{prefix_len, list_all}
use Rattle.std.proofs.lemmas.List.{map-append, drop_at}
use Rattle.std.proofs.lemmas.Bool.{and_parts}
use Rattle.ps_tokens.specs.declared.faults.JobFault.{JobFault}
use Rattle.ps_tokens.specs.declared.token.Token.{Token}
use Rattle.ps_tokens.specs.declared.pieces.Piece.{Piece}
use Rattle.ps_tokens.specs.declared.pieces.Piece.TheVariants.{Blank, Spelled, Broken}
use Rattle.ps_tokens.specs.Bytes.{is_whitespace, is_regular, is_in_comment}
use Rattle.ps_tokens.specs.Pieces.{piece_at, mark_piece}
use Rattle.ps_tokens.specs.Tokens.{piece_len, piece_tokens, tokens_then, tokens_from}
use Rattle.ps_tokens.specs.Laws.{further_on, all_further_on}
use Rattle.ps_tokens.proofs.Scanning.{tokens_from-piece}

piece_tokens-further_on : (n at : ℕ) (piece : Piece) → piece_tokens (n + at) piece ≡ all_further_on n (piece_tokens at piece)
piece_tokens-further_on n at (Blank len) = refl
piece_tokens-further_on n at (Spelled kind len) = refl
piece_tokens-further_on n at (Broken kind) = refl

tokens_then-further_on : (n : ℕ) (a b : Result (List Token) JobFault) → tokens_then (all_further_on n a) (all_further_on n b) ≡ all_further_on n (tokens_then a b)
tokens_then-further_on n (Err fault) b = refl
tokens_then-further_on n (Ok tokens) (Err fault) = refl
tokens_then-further_on n (Ok tokens) (Ok more) = ap (λ (ts : List Token). Ok ts) (sym (map-append (further_on n) tokens more))

from-further_on : (n at within : ℕ) (bytes : List ℕ) → tokens_from (n + at) within bytes ≡ all_further_on n (tokens_from at within bytes)
unfolding tokens_from
from-further_on n at within [] = refl
from-further_on n at (suc within) (b ∷ bs) =
    ap (λ p. tokens_from p within bs) (add_assoc n at 1) ∙ from-further_on n (at + 1) within bs
from-further_on n at zero (b ∷ bs) =
    let left = piece_len (piece_at b bs) - 1 in
    ap (λ r. tokens_then (piece_tokens (n + at) (piece_at b bs)) r) (ap (λ p. tokens_from p left bs) (add_assoc n at 1) ∙ from-further_on n (at + 1) left bs)
    ∙ ap (λ r. tokens_then r (all_further_on n (tokens_from (at + 1) left bs))) (piece_tokens-further_on n at (piece_at b bs))
    ∙ tokens_then-further_on n (piece_tokens at (piece_at b bs)) (tokens_from (at + 1) left bs)

-- wherever the bytes stand
pub tokens_from-further_on : (n at : ℕ) (bytes : List ℕ) → tokens_from (n + at) 0 bytes ≡ all_further_on n (tokens_from at 0 bytes)
tokens_from-further_on n at bytes = from-further_on n at 0 bytes

-- no token and then more
tokens_then-nothing : (more : Result (List Token) JobFault) → tokens_then (Ok []) more ≡ more
tokens_then-nothing (Ok tokens) = refl
tokens_then-nothing (Err fault) = refl

-- blank bytes at the beginning
blank-further_on : (at len : ℕ) (bytes rest : List ℕ) → 0 < length bytes → 1 ≤ len → piece_at (get_or bytes 0 0) (drop 1 bytes) ≡ Blank len → drop len bytes ≡ rest
    → tokens_from at 0 bytes ≡ all_further_on len (tokens_from at 0 rest)
blank-further_on at len bytes rest some one is left =
    let e : at + len ≡ len + at = omega arith in
    tokens_from-piece at bytes (Blank len) some is one
    ∙ tokens_then-nothing (tokens_from (at + len) 0 (drop len bytes))
    ∙ ap (λ r. tokens_from (at + len) 0 r) left
    ∙ ap (λ p. tokens_from p 0 rest) e
    ∙ tokens_from-further_on len at rest

piece_at-space : (b : ℕ) (bytes : List ℕ) → is_whitespace b ≡ true → piece_at b bytes ≡ Blank 1
unfolding piece_at
piece_at-space b bytes blank = rw blank refl

-- a whitespace byte more
pub space-further_on : (at b : ℕ) (bytes : List ℕ) → is_whitespace b ≡ true → tokens_from at 0 (b ∷ bytes) ≡ all_further_on 1 (tokens_from at 0 bytes)
space-further_on at b bytes blank = blank-further_on at 1 (b ∷ bytes) bytes (omega arith) (omega arith) (piece_at-space b bytes blank) refl

prefix_len-comment : (text : List ℕ) (ending : ℕ) (bytes : List ℕ) → list_all is_in_comment text ≡ true → is_in_comment ending ≡ false → prefix_len is_in_comment (text ++ ending ∷ bytes) ≡ length text
prefix_len-comment [] ending bytes all ends = rw ends refl
prefix_len-comment (b ∷ text) ending bytes all ends =
    let both = and_parts (is_in_comment b) (list_all is_in_comment text) all in
    rw (both.0) (ap (λ n. 1 + n) (prefix_len-comment text ending bytes both.1 ends) ∙ omega arith)

piece_at-comment : (bytes : List ℕ) → piece_at 37 bytes ≡ Blank (1 + prefix_len is_in_comment bytes)
unfolding piece_at mark_piece is_whitespace is_regular
piece_at-comment bytes = refl

-- a comment more, and the line end after it
pub comment-further_on : (at ending : ℕ) (text bytes : List ℕ) → list_all is_in_comment text ≡ true → is_in_comment ending ≡ false → is_whitespace ending ≡ true
    → tokens_from at 0 (37 ∷ (text ++ ending ∷ bytes)) ≡ all_further_on (length text + 2) (tokens_from at 0 bytes)
comment-further_on at ending text bytes all ends blank =
    let n = length text in
    let whole = 37 ∷ (text ++ ending ∷ bytes) in
    let is : piece_at 37 (text ++ ending ∷ bytes) ≡ Blank (1 + n) = piece_at-comment (text ++ ending ∷ bytes) ∙ ap (λ k. Blank (1 + k)) (prefix_len-comment text ending bytes all ends) in
    let k : 1 + n ≡ suc n = omega arith in
    let left : drop (1 + n) whole ≡ ending ∷ bytes = ap (λ m. drop m whole) k ∙ drop_at text (ending ∷ bytes) n refl in
    let e : 1 + n + 1 ≡ n + 2 = omega arith in
    let swap : at + (1 + n) ≡ 1 + n + at = omega arith in
    blank-further_on at (1 + n) whole (ending ∷ bytes) (omega arith) (omega arith) is left
    ∙ sym (tokens_from-further_on (1 + n) at (ending ∷ bytes))
    ∙ space-further_on (1 + n + at) ending bytes blank
    ∙ sym (tokens_from-further_on 1 (1 + n + at) bytes)
    ∙ ap (λ p. tokens_from p 0 bytes) (omega arith)
    ∙ tokens_from-further_on (n + 2) at bytes
