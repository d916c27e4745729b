-- nearest_arms: the arms of a row, and for each sample the place of its nearest one.
use Rattle.std.proofs.Common.{arith, ◌∙◌}
use Rattle.row_values.proofs.ArmsLemmas.{answer_fits, ready, ready_rising, ready_inside, ready_known, ready_decides}
use Rattle.row_values.proofs.RowLemmas.{some_width}
use Rattle.row_values.proofs.nearest.nearest_arms.Goals as goal

pub raise_arms-count-requires-clause-fits : goal.raise_arms-count-requires-clause-fits
raise_arms-count-requires-clause-fits c = answer_fits c.args.page.now c.args.reach2 c.args.y _ c.args.codes.now c.requires.reach c.requires.codes

pub nearest_by-requires-clause-order : goal.nearest_by-requires-clause-order
nearest_by-requires-clause-order c =
    let r = ready c.args.page.now c.args.reach2 c.args.y c.width-width.result c.args.codes.now c.raise_arms-count.new.arms c.raise_arms-count.new.columns c.raise_arms-count.result c.width-width.ensures.value c.requires.reach (rw c.width-width.ensures.value c.requires.codes) c.raise_arms-count.ensures.whole (rw c.width-width.ensures.value (c.raise_arms-count.ensures.arms ∙ c.requires.arms)) (rw c.width-width.ensures.value (c.raise_arms-count.ensures.columns ∙ c.requires.columns)) in
    ready_rising _ _ _ _ _ _ _ r

pub nearest_by-requires-clause-inside : goal.nearest_by-requires-clause-inside
nearest_by-requires-clause-inside c =
    let r = ready c.args.page.now c.args.reach2 c.args.y c.width-width.result c.args.codes.now c.raise_arms-count.new.arms c.raise_arms-count.new.columns c.raise_arms-count.result c.width-width.ensures.value c.requires.reach (rw c.width-width.ensures.value c.requires.codes) c.raise_arms-count.ensures.whole (rw c.width-width.ensures.value (c.raise_arms-count.ensures.arms ∙ c.requires.arms)) (rw c.width-width.ensures.value (c.raise_arms-count.ensures.columns ∙ c.requires.columns)) in
    ready_inside _ _ _ c.width-width.result _ _ _ _ c.width-width.ensures.value (omega (arith, c.width-width.ensures.value, some_width _ c.width-width.ensures.valid)) r

pub returns-clause-known : goal.returns-clause-known
returns-clause-known c = λ x l.
    let r = ready c.args.page.now c.args.reach2 c.args.y c.width-width.result c.args.codes.now c.raise_arms-count.new.arms c.raise_arms-count.new.columns c.raise_arms-count.result c.width-width.ensures.value c.requires.reach (rw c.width-width.ensures.value c.requires.codes) c.raise_arms-count.ensures.whole (rw c.width-width.ensures.value (c.raise_arms-count.ensures.arms ∙ c.requires.arms)) (rw c.width-width.ensures.value (c.raise_arms-count.ensures.columns ∙ c.requires.columns)) in
    ready_known _ _ x _ _ _ _ _ _ (c.nearest_by.ensures.nearest x (rw c.width-width.ensures.value l)) r

pub returns-clause-deciders : goal.returns-clause-deciders
returns-clause-deciders c = λ x l.
    let r = ready c.args.page.now c.args.reach2 c.args.y c.width-width.result c.args.codes.now c.raise_arms-count.new.arms c.raise_arms-count.new.columns c.raise_arms-count.result c.width-width.ensures.value c.requires.reach (rw c.width-width.ensures.value c.requires.codes) c.raise_arms-count.ensures.whole (rw c.width-width.ensures.value (c.raise_arms-count.ensures.arms ∙ c.requires.arms)) (rw c.width-width.ensures.value (c.raise_arms-count.ensures.columns ∙ c.requires.columns)) in
    ready_decides c.args.page.now c.args.reach2 x c.args.y _ _ _ _ _ (c.nearest_by.ensures.nearest x (rw c.width-width.ensures.value l)) r
