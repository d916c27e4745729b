-- Words of the laws about tokens and objects.
use Rattle.std.specs.Prelude.{◌≡◌, ℕ, List, [], ◌++◌, map, Result, Ok, Err, ◌+◌}
use Rattle.ps_tokens.specs.declared.faults.JobFault.{JobFault}
use Rattle.ps_tokens.specs.declared.token.Token.{Token}
use Rattle.ps_tokens.specs.Brackets.{brackets_after}

-- a token that stands n bytes further on
abbrev pub further_on : ℕ → Token → Token
further_on n token = record { at = n + token.at; len = token.len; kind = token.kind }

-- tokens, or a fault, that stand n bytes further on
abbrev pub all_further_on : ℕ → Result (List Token) JobFault → Result (List Token) JobFault
all_further_on n (Ok tokens) = Ok (map (further_on n) tokens)
all_further_on n (Err fault) = Err (record { kind = fault.kind; at = n + fault.at })

-- some further tokens leave no bracket open
abbrev pub CanBeCompleted : List ℕ → List Token → Type 0
CanBeCompleted bytes tokens = (more : List Token) × (brackets_after bytes (tokens ++ more) ≡ Ok [])
