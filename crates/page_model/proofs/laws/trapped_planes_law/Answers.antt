-- trapped_planes_law: the planes of a page after trapping are in range.
use Rattle.page_model.proofs.TrappedPlanes.{planes_in_range, few_in_planes}
use Rattle.page_model.proofs.laws.trapped_planes_law.Goals as goal

pub returns : goal.returns
returns c = record {
  planes = planes_in_range c.args.page.now c.plates-valid.ensures.valid;
  samples = few_in_planes c.args.page.now c.plates-valid.ensures.valid;
}
