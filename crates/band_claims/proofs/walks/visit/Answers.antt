-- visit: claims the piece and makes it, if it can.
use Rattle.std.proofs.lemmas.Grind.{common_steps}
use Rattle.std.proofs.Common.{arith}
use Rattle.band_claims.proofs.Accounting.{made_by}
use Rattle.band_claims.proofs.walks.visit.Goals as goal

pub returns-clause-made : goal.returns-clause-made
returns-clause-made g c _ =
    let won = c.claim.ensures.won c.if-not-claim.false in let done = c.finish.ensures.finished in
    made_by c.args.shared.now.table_key.layout.bands c.args.piece _ done.0 c.args.pass.now.view c.claim.new.pass.view c.fill.new.pass.view c.finish.new.pass.view won c.fill.ensures.filled done.1 done.2

pub finish-requires-clause-full : goal.finish-requires-clause-full
finish-requires-clause-full g c = grind (arith, common_steps)

pub returns-clause-lost : goal.returns-clause-lost
returns-clause-lost g c = grind (arith, common_steps)

pub returns-then-not-claim-clause-made : goal.returns-then-not-claim-clause-made
returns-then-not-claim-clause-made g c = grind (arith, common_steps)

pub fill-requires-clause-known : goal.fill-requires-clause-known
fill-requires-clause-known g c = grind (arith, common_steps)
