-- TrapRoom::new: the room for trapping this page by so many workers, in bands of so many rows.
use Rattle.std.proofs.Common.{◌∙◌, ap, arith}
use Rattle.band_claims.specs.declared.view.View.{View}
use Rattle.std.proofs.lemmas.Grind.{common_steps}
use Rattle.trap_engine.proofs.WorkspaceLemmas.{newcomer_whole, one_served_by, served_by}
use Rattle.trap_engine.proofs.workspace.TrapWorkspace.new.Goals as goal

pub invariant_of-result-3 : goal.invariant_of-result-3
invariant_of-result-3 c =
    let same = c.pass-2.view_is ∙ (c.in_ok-parts.ensures.pass ∙ c.in_ok-works.ensures.pass) in
    rw (c.shared.view_is, same) (record {
      seat = c.in_ok-shared.ensures.pass;
      fresh = c.in_ok-shared.ensures.new;
      idle = ap (λ (v : View). v.stored) c.in_ok-shared.ensures.new;
      whole = newcomer_whole c.in_ok-shared.shared.table_key c.in_ok-shared.pass.view c.in_ok-shared.ensures.new;
      served = served_by c.in_ok-shared.shared.table_key.layout c.new-bands.result c.width.result c.plates.result _ _ c.in_ok-scratches_of.field-0.items (c.in_ok-shared.ensures.layout ∙ c.new-layout.ensures.value) c.width.ensures.value c.plates.ensures.value c.in_ok-scratches_of.ensures.made;
      some = omega (arith, c.in_ok-scratches_of.ensures.count, c.in_ok-scratches_of.field-0.ok, c.workers_for-count.ensures.some);
      alone_scratch_served = one_served_by c.in_ok-shared.shared.table_key.layout c.in_ok-new.field-0.layout c.new-bands.result c.width.result c.plates.result _ _ (c.in_ok-shared.ensures.layout ∙ c.new-layout.ensures.value) c.width.ensures.value c.plates.ensures.value c.in_ok-new.ensures;
      work_seats = c.in_ok-works.ensures.seats;
      plate_works = rw c.in_ok-shared.ensures.page c.in_ok-works.ensures.works;
      part_seats = c.in_ok-parts.ensures.seats;
      row_parts = rw c.in_ok-shared.ensures.page c.in_ok-parts.ensures.parts;
      few_parts = omega (arith, c.in_ok-parts.ensures.few, c.in_ok-scratches_of.ensures.count, c.in_ok-scratches_of.field-0.ok);
      begun = rw c.in_ok-shared.ensures.page c.in_ok-no_outcome.ensures;
    })

pub returns-clause-few_parts : goal.returns-clause-few_parts
returns-clause-few_parts c = grind (arith, common_steps)

pub returns-clause-band : goal.returns-clause-band
returns-clause-band c = grind (arith, common_steps)

pub new-requires-clause-layout : goal.new-requires-clause-layout
new-requires-clause-layout c = grind (arith, common_steps)

pub returns-clause-page : goal.returns-clause-page
returns-clause-page c = grind (arith, common_steps)

pub returns-clause-workers : goal.returns-clause-workers
returns-clause-workers c = grind (arith, common_steps)

pub new-layout-requires-clause-some_width : goal.new-layout-requires-clause-some_width
new-layout-requires-clause-some_width c = grind (arith, common_steps)

pub new-requires-2-clause-bands : goal.new-requires-2-clause-bands
new-requires-2-clause-bands c = grind (arith, common_steps)

pub same-result : goal.same-result
same-result c = grind (arith, common_steps)

pub new-layout-requires-clause-narrow : goal.new-layout-requires-clause-narrow
new-layout-requires-clause-narrow c = grind (arith, common_steps)
