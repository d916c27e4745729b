-- The loops of parts_of: the page's rows in so many parts at most, one after the other and of as
-- many rows; the last has what is left.
use Rattle.std.proofs.Common.{◌≡◌, ◌+◌, ◌-◌, ◌*◌, ◌/◌, ◌<◌, ◌≤◌, length}
use Rattle.page_model.specs.Page.{height}
use Rattle.trap_engine.specs.Parts.{AreOfSize, AreSeatedParts}
use Rattle.trap_engine.proofs.PartLemmas.{AreLaid}
use Rattle.trap_engine.proofs.parts.parts_of.Given as goal

abbrev pub invariant-loop-first : goal.invariant-loop-first
invariant-loop-first l = record {
  tall : l.height ≡ height l.page;
  inside : l.first ≤ l.height;
  pass : l.pass ≡ l.initial.pass;
  laid : AreLaid l.page l.first l.parts;
  seats : AreSeatedParts l.shared l.parts;
  each : l.size ≡ l.height / l.most + 1;
  size : AreOfSize l.page l.size l.parts;
  even : l.first < l.height → length l.parts * l.size ≡ l.first;
  few : length l.parts * l.size < l.height + l.size;
}

abbrev pub decreases-loop-first : goal.decreases-loop-first
decreases-loop-first l = l.height - l.first
