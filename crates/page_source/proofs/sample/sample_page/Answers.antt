-- sample_page: the sample page of that number.
use Rattle.std.proofs.lemmas.Grind.{common_steps}
use Rattle.std.proofs.Common.{arith, sym, subst}
use Rattle.page_model.specs.Conditions.{IsParts}
use Rattle.page_source.proofs.SampleLemmas.{is_parts}
use Rattle.page_source.proofs.sample.sample_page.Goals as goal

pub new-requires : goal.new-requires
new-requires c = subst IsParts (sym c.in-Ok.ensures) (is_parts c.args.number c.args.width c.args.height c.requires.some_width c.requires.narrow c.requires.some_height c.requires.low)

pub unreachable-requires : goal.unreachable-requires
unreachable-requires c = grind (arith, common_steps)
