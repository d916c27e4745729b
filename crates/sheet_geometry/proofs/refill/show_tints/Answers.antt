-- show_tints: puts the tints that a window shows in the place of as many others.
use Rattle.std.proofs.lemmas.Grind.{common_steps}
use Rattle.std.proofs.Common.{◌≡◌, ◌+◌, ◌*◌, ◌++◌, ◌≤◌, List, ℕ, ap, ◌∙◌, arith, length, take}
use Rattle.sheet_geometry.proofs.Showing.{put_prefix, put_long, row_inside, shown_next}
use Rattle.sheet_geometry.proofs.refill.show_tints.Goals as goal

pub loop-y-preserved : goal.loop-y-preserved
loop-y-preserved c =
    let run = c.run_of-run.result.now in
    let w = c.args.cut.now.width in
    let y = c.loop-y.y in
    let shown = c.loop-y.shown in
    let long = c.run_of-run.ensures.len in
    let inside : y * w + length run ≤ length shown = omega (arith, row_inside w c.args.cut.now.height y c.loop-y-test.true, long, c.loop-y.invariant.long) in
    let all : (y + 1) * w ≡ y * w + length run = omega (arith, long) in
    record {
      long = put_long shown run c.put_run.new.tints (y * w) inside c.put_run.ensures ∙ c.loop-y.invariant.long;
      done = ap (λ (n : ℕ). take n c.put_run.new.tints) all
          ∙ put_prefix shown run c.put_run.new.tints (y * w) inside c.put_run.ensures
          ∙ ap (λ (xs : List ℕ). xs ++ run) c.loop-y.invariant.done
          ∙ shown_next c.args.wide c.args.cut.now c.args.tints.now run y ((c.args.cut.now.top + y) * c.args.wide + c.args.cut.now.left) (omega arith) long c.run_of-run.ensures.each;
    }

pub returns : goal.returns
returns c = grind (arith, common_steps)

pub run_of-run-requires : goal.run_of-run-requires
run_of-run-requires c = grind (arith, common_steps)

pub put_run-requires : goal.put_run-requires
put_run-requires c = grind (arith, common_steps)
