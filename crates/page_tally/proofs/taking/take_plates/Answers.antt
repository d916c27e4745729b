-- take_plates: takes in the new tints of row y.
use Rattle.std.proofs.Common.{◌≡◌, ◌∙◌, ◌||◌, Bool, ℕ, add-one, ap, arith, refl}
use Rattle.lists.specs.Words.{any_below}
use Rattle.page_model.specs.Counts.{plate_changes}
use Rattle.page_model.specs.Page.{plates}
use Rattle.std.proofs.lemmas.Grind.{common_steps}
use Rattle.page_tally.proofs.CountLemmas.{counting_fits, counting_next}
use Rattle.page_tally.proofs.StandingLemmas.{trapping_all, trapping_put}
use Rattle.page_tally.proofs.taking.take_plates.Goals as goal

pub loop-c-preserved : goal.loop-c-preserved
loop-c-preserved c = record {
  end = c.loop-c.invariant.end;
  planes = trapping_put c.args.page.now c.loop-c.planes c.args.y c.loop-c.c c.take_plate.new.plane (omega arith) c.take_plate.ensures.plane c.loop-c.invariant.planes;
  counts = counting_next c.args.page.now c.args.y c.loop-c.c _ c.take_plate.result c.loop-c.counts (omega arith) refl c.take_plate.ensures.count c.loop-c.invariant.counts;
  len = c.take_plate.ensures.len;
  each = λ x l. rw add-one (c.take_plate.ensures.each x l ∙ ap (λ (b : Bool). b || plate_changes c.args.page.now c.loop-c.c (record { x = x; y = c.args.y })) (c.loop-c.invariant.each x l));
}

pub overflow_add-counts : goal.overflow_add-counts
overflow_add-counts c = omega (arith, counting_fits c.args.page.now c.args.y c.loop-c.c c.take_plate.result c.loop-c.counts c.plates-valid.ensures.valid c.requires.line (omega arith) c.take_plate.ensures.few c.loop-c.invariant.counts)

pub returns-clause-planes : goal.returns-clause-planes
returns-clause-planes c = trapping_all c.args.page.now c.loop-c.planes c.args.y c.loop-c.c (omega arith) c.loop-c.invariant.planes

pub returns-clause-each : goal.returns-clause-each
returns-clause-each c x l =
    let all : c.loop-c.c ≡ plates c.args.page.now = omega arith in
    c.loop-c.invariant.each x l ∙ ap (λ (n : ℕ). any_below (λ j. plate_changes c.args.page.now j (record { x = x; y = c.args.y })) n) all

pub loop-c-init : goal.loop-c-init
loop-c-init c = grind (arith, common_steps)

pub take_plate-requires-clause-row : goal.take_plate-requires-clause-row
take_plate-requires-clause-row c = grind (arith, common_steps)
