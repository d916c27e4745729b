-- page_planes_law: the planes of a page are of one shape, and so they are after trapping.
use Rattle.page_model.proofs.ShapeLemmas.{page_shape, trapped_shape}
use Rattle.page_model.proofs.shape_laws.page_planes_law.Goals as goal

pub returns : goal.returns
returns c = record {
  before = page_shape c.args.page.now c.plates-valid.ensures.valid;
  after = trapped_shape c.args.page.now c.plates-valid.ensures.valid;
}
