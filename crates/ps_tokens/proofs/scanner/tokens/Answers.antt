-- tokens: the tokens that a job's bytes spell, each the longest that stands at its place, with
-- whitespace and comments between them (after PLRM3's token syntax, in this project's profile).
use Rattle.std.proofs.lemmas.Grind.{common_steps}
use Rattle.std.proofs.Common.{arith, sym, ◌∙◌, rules}
use Rattle.ps_tokens.proofs.Scanning.{tokens_from-end}
use Rattle.ps_tokens.proofs.scanner.tokens.Goals as goal

pub returns : goal.returns
returns c =
    sym c.loop-rest.invariant.same
    ∙ tokens_from-end c.loop-rest.found.items c.loop-rest.at c.loop-rest.rest.now (search rules)
    ∙ search rules

pub loop-rest-preserved : goal.loop-rest-preserved
loop-rest-preserved c = grind (arith, common_steps)
