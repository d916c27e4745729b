-- The loops of tokens: the tokens that a job's bytes spell, each the longest that stands at its
-- place, with whitespace and comments between them (after PLRM3's token syntax, in this project's
-- profile).
use Rattle.std.proofs.Common.{◌≡◌, ◌+◌, length, Ok}
use Rattle.ps_tokens.specs.Tokens.{tokens_then, tokens_from, tokens_of}
use Rattle.ps_tokens.proofs.scanner.tokens.Given as goal

-- what is found and what the rest spells are the tokens of all
abbrev pub invariant-loop-rest : goal.invariant-loop-rest
invariant-loop-rest l = record {
  same : tokens_then (Ok l.found.items) (tokens_from l.at 0 l.rest) ≡ tokens_of l.bytes;
  place : l.at + length l.rest ≡ length l.bytes;
}

abbrev pub decreases-loop-rest : goal.decreases-loop-rest
decreases-loop-rest l = length l.rest
