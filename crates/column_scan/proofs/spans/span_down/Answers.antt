-- span_down: goals that the search finds slowly.
use Rattle.std.proofs.Common.{arith, ◌+◌, ◌*◌}
use Rattle.std.proofs.lemmas.Grind.{common_steps}
use Rattle.column_scan.proofs.SweepLemmas.{slot_in}
use Rattle.column_scan.proofs.spans.span_down.Goals as goal

pub put_codes-requires-clause-inside : goal.put_codes-requires-clause-inside
put_codes-requires-clause-inside g c =
    let inside = slot_in c.args.out.now c.args.columns c.args.rows (c.args.span.k + 1) (2 * c.args.span.x + 2 * c.args.span.count) c.requires.out c.requires.k (omega arith) in
    grind (arith, inside)

pub pairs_down-requires-clause-long : goal.pairs_down-requires-clause-long
pairs_down-requires-clause-long g c = grind (arith, common_steps)

pub returns-clause-after : goal.returns-clause-after
returns-clause-after g c = grind (arith, common_steps)

pub returns-clause-before : goal.returns-clause-before
returns-clause-before g c = grind (arith, common_steps)

pub returns-clause-each : goal.returns-clause-each
returns-clause-each g c = grind (arith, common_steps)

pub codes_of-requires-clause-inside : goal.codes_of-requires-clause-inside
codes_of-requires-clause-inside g c = grind (arith, common_steps)

pub pairs_down-requires-clause-above : goal.pairs_down-requires-clause-above
pairs_down-requires-clause-above g c = grind (arith, common_steps)
