-- count_changed: counts for each zone the samples of row y that change.
use Rattle.std.proofs.Common.{◌≡◌, ◌∙◌, true, sym, arith, rules}
use Rattle.page_tally.proofs.CountLemmas.{counted_row, run_passed}
use Rattle.page_tally.proofs.changes.count_changed.Goals as goal
use Rattle.page_tally.proofs.changes.count_changed.Goals.{then-not-are_clear, else-not-are_clear}

pub loop-x-preserved : goal.loop-x-preserved
loop-x-preserved c = record {
  inside = omega (arith, c.min-count.ensures, c.loop-x.invariant.inside);
  counts = elim c.if-not-are_clear.branch [
    | then-not-are_clear w ↦ rw w.counts-is w.count_block.ensures
    | else-not-are_clear w ↦ rw w.counts-is (
        let clear : c.are_clear.result ≡ true = search rules in
        run_passed c.args.page.now c.args.first c.args.y c.loop-x.x c.min-count.result c.loop-x.counts (omega (arith, c.min-count.ensures, c.loop-x.invariant.inside, c.requires.changes))
        (λ k l. sym (c.requires.each _ (omega (arith, l, c.min-count.ensures, c.loop-x.invariant.inside, c.requires.changes))) ∙ c.are_clear.ensures.clear clear k l) c.loop-x.invariant.counts)
  ];
}

pub returns : goal.returns
returns c = counted_row c.args.page.now c.args.first c.args.y c.loop-x.x c.loop-x.counts (omega (arith, c.requires.changes, c.loop-x-test.false, c.loop-x.invariant.inside)) c.loop-x.invariant.counts
