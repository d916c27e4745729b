-- winding_law: a closed subpath winds round a sample's middle by the sum of the turns of its
-- segments, the one from its last vertex back to its start among them; and subpaths one after
-- another wind as often as the sum of theirs.
use Rattle.page_model.proofs.SubpathLemmas.{subpath, subpaths}
use Rattle.page_model.specs.Zones.{centre}
use Rattle.page_model.proofs.laws.winding_law.Goals as goal

pub returns : goal.returns
returns c = record {
  subpath = λ start vs. subpath c.args.page.now.resolution (centre c.args.page.now c.args.p) start vs;
  subpaths = λ earlier later. subpaths c.args.page.now.resolution (centre c.args.page.now c.args.p) earlier later;
}
