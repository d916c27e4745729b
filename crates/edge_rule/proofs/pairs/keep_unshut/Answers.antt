-- keep_unshut: keeps the pairs of which neither sample is shut, without a look at them where no ink
-- of the page shuts any.
use Rattle.std.proofs.Common.{◌∙◌, false, slice_index_or, sym}
use Rattle.edge_rule.specs.Pairs.{along}
use Rattle.edge_rule.proofs.PairLemmas.{all_open}
use Rattle.edge_rule.proofs.pairs.keep_unshut.Goals as goal

pub returns-else-some_ink_shuts-clause-each : goal.returns-else-some_ink_shuts-clause-each
returns-else-some_ink_shuts-clause-each c = λ k l. all_open c.args.page.now (along c.args.p k) (along c.args.q k) (slice_index_or c.args.kept.now k false) (sym c.some_ink_shuts.ensures ∙ c.if-some_ink_shuts.false)
