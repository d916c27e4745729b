-- Outcome::add: adds what is counted in the next rows.
use Rattle.std.proofs.Common.{◌∙◌, ◌+◌, ◌*◌, ℕ, List, ap, arith, length}
use Rattle.std.proofs.lemmas.List.{with_items_is}
use Rattle.page_model.specs.Page.{width}
use Rattle.std.proofs.lemmas.Grind.{common_steps}
use Rattle.page_tally.proofs.AddedRows.{changes_added, changes_fit, rows_few, samples_added, samples_fit}
use Rattle.page_tally.proofs.outcome.Outcome.add.Goals as goal

pub add_counts-requires-clause-few : goal.add_counts-requires-clause-few
add_counts-requires-clause-few c z l =
    let page = c.args.page.now in let rows = c.args.rows in let counted = c.requires.counted in let before = c.requires.plates.counted in
    let few = rows_few page (rows.first + rows.count) c.plates-valid.ensures.valid c.requires.inside in
    rw c.deref_mut.ensures.value (omega (arith, samples_fit page 0 rows.first ((rows.first + rows.count) * width page) z c.args.self.now.zone_samples.items c.args.zone_samples.now few (omega (arith, l, ap (λ (xs : List ℕ). length xs) c.deref_mut.ensures.value, before.zone_samples.long)) before.zone_samples counted.zone_samples))

pub add_counts-requires-2-clause-few : goal.add_counts-requires-2-clause-few
add_counts-requires-2-clause-few c z l =
    let page = c.args.page.now in let rows = c.args.rows in let counted = c.requires.counted in let before = c.requires.plates.counted in
    let few = rows_few page (rows.first + rows.count) c.plates-valid.ensures.valid c.requires.inside in
    rw c.deref_mut-2.ensures.value (omega (arith, changes_fit page 0 rows.first ((rows.first + rows.count) * width page) z c.args.self.now.zone_changed.items c.args.zone_changed.now few (omega (arith, l, ap (λ (xs : List ℕ). length xs) c.deref_mut-2.ensures.value, before.zone_changed.long)) before.zone_changed counted.zone_changed))

pub returns-clause-plates : goal.returns-clause-plates
returns-clause-plates c =
    let page = c.args.page.now in let rows = c.args.rows in let self = c.args.self.now in
    let before = c.requires.plates.counted in let counted = c.requires.counted in let n = (rows.first + rows.count) * width page in
    let samples = c.add_counts.ensures.len ∙ ap (λ (xs : List ℕ). length xs) c.deref_mut.ensures.value in
    let changed = c.add_counts-2.ensures.len ∙ ap (λ (xs : List ℕ). length xs) c.deref_mut-2.ensures.value in
    record {
      planes = c.requires.plates.planes;
      plate_changed = c.requires.plates.plate_changed;
      counted = record {
        planes = before.planes;
        plate_changed = before.plate_changed;
        zone_samples = rw (with_items_is self.zone_samples c.add_counts.new.counts (omega (arith, samples, self.zone_samples.ok)))
            (samples_added page 0 rows.first n self.zone_samples.items c.args.zone_samples.now c.add_counts.new.counts samples (rw c.deref_mut.ensures.value at c.add_counts.ensures.each) before.zone_samples counted.zone_samples);
        zone_changed = rw (with_items_is self.zone_changed c.add_counts-2.new.counts (omega (arith, changed, self.zone_changed.ok)))
            (changes_added page 0 rows.first n self.zone_changed.items c.args.zone_changed.now c.add_counts-2.new.counts changed (rw c.deref_mut-2.ensures.value at c.add_counts-2.ensures.each) before.zone_changed counted.zone_changed);
        edges = omega (arith, before.edges, counted.edges);
        few_edges = omega (arith, before.few_edges, counted.few_edges);
        changes = before.changes;
      };
    }

pub overflow_add-self : goal.overflow_add-self
overflow_add-self c = grind (arith, common_steps)
