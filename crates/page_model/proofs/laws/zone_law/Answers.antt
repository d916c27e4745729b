-- zone_law: the zone of a sample is the last one whose path winds round it, and zone 0 where there
-- is none.
use Rattle.page_model.proofs.ZoneLemmas.{zone_of-is}
use Rattle.page_model.proofs.laws.zone_law.Goals as goal

pub returns : goal.returns
returns c = zone_of-is c.args.page.now c.args.p c.plates-valid.ensures.valid
