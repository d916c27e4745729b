-- What tokens the bytes of a job spell, or the first fault.
use Rattle.std.specs.Prelude.{◌≡◌, ℕ, zero, suc, List, [], ◌∷◌, ◌++◌, Result, Ok, Err, ◌+◌, ◌-◌}
use Rattle.ps_tokens.specs.declared.faults.JobFault.{JobFault}
use Rattle.ps_tokens.specs.declared.faults.JobError.{JobError}
use Rattle.ps_tokens.specs.declared.faults.JobError.TheVariants as errors
use Rattle.ps_tokens.specs.declared.token.Token.{Token}
use Rattle.ps_tokens.specs.declared.pieces.Piece.{Piece}
use Rattle.ps_tokens.specs.declared.pieces.Piece.TheVariants.{Blank, Spelled, Broken}
use Rattle.ps_tokens.specs.Pieces.{piece_at}

-- how many bytes a piece has
abbrev pub piece_len : Piece → ℕ
piece_len (Blank len) = len
piece_len (Spelled kind len) = len
piece_len (Broken kind) = 0

-- the token that a piece at this offset is, none where it is blank, and the fault where no token
-- stands
abbrev pub piece_tokens : ℕ → Piece → Result (List Token) JobFault
piece_tokens at (Blank len) = Ok []
piece_tokens at (Spelled kind len) = Ok (record { at = at; len = len; kind = kind } ∷ [])
piece_tokens at (Broken kind) = Err (record { kind = kind; at = at })

-- tokens and then more tokens; of faults the first
abbrev pub tokens_then : Result (List Token) JobFault → Result (List Token) JobFault
    → Result (List Token) JobFault
tokens_then (Err fault) more = Err fault
tokens_then (Ok tokens) (Err fault) = Err fault
tokens_then (Ok tokens) (Ok more) = Ok (tokens ++ more)

-- the tokens of the bytes from this offset on, of which the first few belong to the piece before
unfoldable pub tokens_from : ℕ → ℕ → List ℕ → Result (List Token) JobFault
tokens_from at within [] = Ok []
tokens_from at (suc within) (b ∷ bs) = tokens_from (at + 1) within bs
tokens_from at zero (b ∷ bs) = tokens_then (piece_tokens at (piece_at b bs))
    (tokens_from (at + 1) (piece_len (piece_at b bs) - 1) bs)

-- the tokens that a job's bytes spell, or the fault at the first byte where no token stands
abbrev pub tokens_of : List ℕ → Result (List Token) JobFault
tokens_of bytes = tokens_from 0 0 bytes

-- An error is the fault that a definition gives, or out of memory.
abbrev pub Fails : {X : Type 0} → JobError → Result X JobFault → Type 0
Fails errors.OutOfMemory meant = Unit {0}
Fails (errors.Fault fault) meant = meant ≡ Err fault

-- A call gives what a definition does, unless memory runs out.
abbrev pub Gives : {X : Type 0} → Result X JobError → Result X JobFault → Type 0
Gives (Ok x) meant = meant ≡ Ok x
Gives (Err error) meant = Fails error meant
