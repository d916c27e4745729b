-- radius_law: a press that shifts further puts no fewer samples at risk, and one that does not
-- shift puts none.
use Rattle.misregister.proofs.RiskLaws.{risk_grows, risk_at_rest}
use Rattle.misregister.proofs.laws.radius_law.Goals as goal

pub returns-clause-grows : goal.returns-clause-grows
returns-clause-grows c = risk_grows c.args.sheet.now

pub returns-clause-at_rest : goal.returns-clause-at_rest
returns-clause-at_rest c = risk_at_rest c.args.sheet.now
