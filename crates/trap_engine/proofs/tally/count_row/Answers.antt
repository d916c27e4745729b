-- count_row: counts in row y, whose zones and marks are at hand, beside what is counted of the rows
-- from `first` on.
use Rattle.std.proofs.Common.{arith, length}
use Rattle.std.proofs.lemmas.List.{with_items_is}
use Rattle.std.proofs.lemmas.Grind.{common_steps}
use Rattle.trap_engine.proofs.TakeLemmas.{part_edges, part_few}
use Rattle.trap_engine.proofs.tally.count_row.Goals as goal

pub returns-clause-tally : goal.returns-clause-tally
returns-clause-tally c =
    let tally = c.args.tally.now in let old = c.requires.tally in
    record {
      zones = old.zones;
      marks = old.marks;
      changes = rw (with_items_is tally.changes c.note_changes.new.changes (omega (arith, c.note_changes.ensures.len, old.changes, tally.changes.ok))) c.note_changes.ensures.len;
      counted = record {
        zone_samples = rw (with_items_is tally.zone_samples c.count_zones.new.counts (omega (arith, c.count_zones.ensures.long, old.counted.zone_samples.long, tally.zone_samples.ok))) c.count_zones.ensures;
        zone_changed = rw (with_items_is tally.zone_changed c.count_changed.new.counts (omega (arith, c.count_changed.ensures.long, old.counted.zone_changed.long, tally.zone_changed.ok))) c.count_changed.ensures;
        edges = part_edges c.args.page.now c.args.first c.args.y tally.edges c.edges_in.result tally.marks.items c.requires.marks old.counted.edges (rw c.deref.ensures.value at c.edges_in.ensures.count);
        few_edges = part_few c.args.page.now c.args.first c.args.y tally.edges c.edges_in.result (length tally.marks.items) old.marks old.counted.few_edges (rw c.deref.ensures.value at c.edges_in.ensures.few);
      };
    }

pub count_changed-requires-clause-each : goal.count_changed-requires-clause-each
count_changed-requires-clause-each c = grind (arith, common_steps)

pub note_changes-requires-clause-planes : goal.note_changes-requires-clause-planes
note_changes-requires-clause-planes c = grind (arith, common_steps)

pub overflow_add-tally : goal.overflow_add-tally
overflow_add-tally c = grind (arith, common_steps)

pub count_changed-requires-clause-counts : goal.count_changed-requires-clause-counts
count_changed-requires-clause-counts c = grind (arith, common_steps)

pub count_changed-requires-clause-zones : goal.count_changed-requires-clause-zones
count_changed-requires-clause-zones c = grind (arith, common_steps)
