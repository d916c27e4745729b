-- Outcome::take_in: takes in row y, the next one.
use Rattle.std.proofs.lemmas.Grind.{common_steps}
use Rattle.std.proofs.Common.{◌∙◌, arith, length}
use Rattle.std.proofs.lemmas.List.{with_items_is}
use Rattle.page_model.specs.Page.{width}
use Rattle.page_tally.specs.Standing.{KeepsRow}
use Rattle.page_tally.proofs.CountLemmas.{plates_quiet, zones_quiet}
use Rattle.page_tally.proofs.EdgeCount.{edges_next, few_next}
use Rattle.page_tally.proofs.StandingLemmas.{planes_quiet}
use Rattle.page_tally.proofs.outcome.Outcome.take_in.Goals as goal

pub returns-in-Some-clause-rows : goal.returns-in-Some-clause-rows
returns-in-Some-clause-rows c = record {
  planes = c.take_tints.ensures.planes;
  zone_samples = rw c.take_tints.ensures.zone_samples (rw (with_items_is c.args.self.now.zone_samples c.count_zones.new.counts (omega (arith, c.count_zones.ensures.long, c.requires.rows.zone_samples.long, c.args.self.now.zone_samples.ok))) c.count_zones.ensures);
  zone_changed = c.take_tints.ensures.zone_changed;
  plate_changed = c.take_tints.ensures.plate_changed;
  edges = c.take_tints.ensures.edges ∙ edges_next c.args.page.now c.args.y c.args.self.now.edges c.edges_in.result c.args.marks.now c.requires.marks c.requires.rows.edges c.edges_in.ensures.count;
  few_edges = rw c.take_tints.ensures.edges (few_next c.args.y (width c.args.page.now) c.args.self.now.edges c.edges_in.result (length c.args.marks.now) c.requires.marks.wide c.requires.rows.few_edges c.edges_in.ensures.few);
  changes = c.take_tints.ensures.changes;
}

pub returns-in_default-clause-rows : goal.returns-in_default-clause-rows
returns-in_default-clause-rows c =
    let keeps : KeepsRow c.args.page.now c.args.y = rw c.in_default.is at c.requires.tints in
    record {
      planes = planes_quiet c.args.page.now c.args.self.now.planes c.args.y c.requires.line keeps c.requires.rows.planes;
      zone_samples = rw (with_items_is c.args.self.now.zone_samples c.count_zones.new.counts (omega (arith, c.count_zones.ensures.long, c.requires.rows.zone_samples.long, c.args.self.now.zone_samples.ok))) c.count_zones.ensures;
      zone_changed = zones_quiet c.args.page.now 0 c.args.y c.args.self.now.zone_changed.items keeps c.requires.rows.zone_changed;
      plate_changed = plates_quiet c.args.page.now c.args.y c.args.self.now.plate_changed.items keeps c.requires.rows.plate_changed;
      edges = edges_next c.args.page.now c.args.y c.args.self.now.edges c.edges_in.result c.args.marks.now c.requires.marks c.requires.rows.edges c.edges_in.ensures.count;
      few_edges = few_next c.args.y (width c.args.page.now) c.args.self.now.edges c.edges_in.result (length c.args.marks.now) c.requires.marks.wide c.requires.rows.few_edges c.edges_in.ensures.few;
      changes = c.requires.rows.changes;
    }

pub take_tints-requires-clause-planes : goal.take_tints-requires-clause-planes
take_tints-requires-clause-planes c = grind (arith, common_steps)

pub take_tints-requires-clause-plate_changed : goal.take_tints-requires-clause-plate_changed
take_tints-requires-clause-plate_changed c = grind (arith, common_steps)

pub take_tints-requires-clause-row : goal.take_tints-requires-clause-row
take_tints-requires-clause-row c = grind (arith, common_steps)

pub take_tints-requires-clause-zone_changed : goal.take_tints-requires-clause-zone_changed
take_tints-requires-clause-zone_changed c = grind (arith, common_steps)
