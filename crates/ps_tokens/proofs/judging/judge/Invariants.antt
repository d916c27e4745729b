-- The loops of judge: the first fault of a job's tokens, judged one after the other.
use Rattle.std.proofs.Common.{◌≡◌, drop, fold, Ok}
use Rattle.ps_tokens.specs.Brackets.{after_next, brackets_after}
use Rattle.ps_tokens.proofs.judging.judge.Given as goal

-- what the rest leaves open is what all tokens do
abbrev pub invariant-loop-token : goal.invariant-loop-token
invariant-loop-token l = fold (after_next l.bytes) (Ok l.brackets) (drop l.token-index l.tokens) ≡ brackets_after l.bytes l.tokens
