-- The zone between crossings, from the right.
use Rattle.std.proofs.Common.{◌≤◌, ◌<◌, ◌∙◌, ◌-◌, ℕ, arith, length}
use Rattle.zone_map.proofs.TallyLemmas.{past-fits, past-run, run-kept, run-written}
use Rattle.zone_map.proofs.spans.write_spans.Goals as goal

pub overflow_add-up : goal.overflow_add-up
overflow_add-up c = past-fits c.args.ups.now c.loop-x.x c.loop-x.up (omega (arith, c.loop-x.invariant.short, c.requires.ups)) c.loop-x.invariant.up (omega (arith, c.requires.few))

pub overflow_add-down : goal.overflow_add-down
overflow_add-down c = past-fits c.args.downs.now c.loop-x.x c.loop-x.down (omega (arith, c.loop-x.invariant.short, c.requires.downs)) c.loop-x.invariant.down (omega (arith, c.requires.few))

pub loop-x-preserved-then-up-down : goal.loop-x-preserved-then-up-down
loop-x-preserved-then-up-down c =
    let i = c.loop-x.invariant in
    let x = c.loop-x.x in
    let from = c.loop-x.x - 1 - c.none_before.result in
    let some = c.loop-x-test.true in
    let few = c.none_before.ensures.few in
    let low : from < x = omega (arith, some) in
    let in_ups : x < length c.args.ups.now = omega (arith, i.short, c.requires.ups) in
    let in_downs : x < length c.args.downs.now = omega (arith, i.short, c.requires.downs) in
    let up = λ (k : ℕ) (h : from ≤ k) (l : k < x). past-run c.args.ups.now from k x c.loop-x.up h l in_ups (λ j g m. c.none_before.ensures.ups j (omega (arith, g, few)) m) i.up in
    let down = λ (k : ℕ) (h : from ≤ k) (l : k < x). past-run c.args.downs.now from k x c.loop-x.down h l in_downs (λ j g m. c.none_before.ensures.downs j (omega (arith, g, few)) m) i.down in
    record {
      short = omega (arith, i.short, low);
      long = c.write_run.ensures.long ∙ i.long;
      up = up from (omega arith) low;
      down = down from (omega arith) low;
      kept = λ k l. c.write_run.ensures.before k l ∙ i.kept k (omega (arith, l, low));
      done = run-written c.args.ups.now c.args.downs.now c.args.out.now c.loop-x.out c.write_run.new.out from x c.args.zone _ _ up down c.if-up-down.true c.write_run.ensures.here c.write_run.ensures.after i.done;
    }

pub loop-x-preserved : goal.loop-x-preserved
loop-x-preserved c =
    let i = c.loop-x.invariant in
    let x = c.loop-x.x in
    let from = c.loop-x.x - 1 - c.none_before.result in
    let some = c.loop-x-test.true in
    let few = c.none_before.ensures.few in
    let low : from < x = omega (arith, some) in
    let in_ups : x < length c.args.ups.now = omega (arith, i.short, c.requires.ups) in
    let in_downs : x < length c.args.downs.now = omega (arith, i.short, c.requires.downs) in
    let up = λ (k : ℕ) (h : from ≤ k) (l : k < x). past-run c.args.ups.now from k x c.loop-x.up h l in_ups (λ j g m. c.none_before.ensures.ups j (omega (arith, g, few)) m) i.up in
    let down = λ (k : ℕ) (h : from ≤ k) (l : k < x). past-run c.args.downs.now from k x c.loop-x.down h l in_downs (λ j g m. c.none_before.ensures.downs j (omega (arith, g, few)) m) i.down in
    record {
      short = omega (arith, i.short, low);
      long = i.long;
      up = up from (omega arith) low;
      down = down from (omega arith) low;
      kept = λ k l. i.kept k (omega (arith, l, low));
      done = run-kept c.args.ups.now c.args.downs.now c.args.out.now c.loop-x.out from x c.args.zone _ _ up down c.if-up-down.false i.kept i.done;
    }
