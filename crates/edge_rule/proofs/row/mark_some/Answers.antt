-- mark_some: writes the marks of some samples of row y, from x on, and answers where the next one
-- stands.
use Rattle.std.proofs.Common.{◌≡◌, ◌+◌, ◌-◌, ◌<◌, ◌≤◌, ◌∙◌, ◌++◌, ℕ, ap, arith, drop, length, length-drop, subst, sym, take}
use Rattle.std.proofs.lemmas.List.{get_or_append_left, get_or-append_right, length-take}
use borrow.Rule.Slice.PartMut.{post_of}
use Rattle.page_model.specs.Deciding.{mark}
use Rattle.std.proofs.lemmas.Grind.{common_steps}
use Rattle.edge_rule.specs.Pairs.{LieIn}
use Rattle.edge_rule.proofs.PairLemmas.{lies}
use Rattle.edge_rule.proofs.row.mark_some.Goals as goal

pub mark_plain-requires-clause-lie : goal.mark_plain-requires-clause-lie
mark_plain-requires-clause-lie c =
    let count = c.plain_from-count.result in
    let rest = drop c.args.x c.args.out.now in
    let long : length (take (c.args.x + count - c.args.x) rest) ≡ count = omega (arith, length-take (c.args.x + count - c.args.x) rest, length-drop c.args.x c.args.out.now, c.plain_from-count.ensures.inside, c.requires.here.wide, c.requires.out) in
    let some : 1 ≤ count = omega (arith, c.if-count-eq0.false) in
    subst (λ (n : ℕ). LieIn c.args.page.now c.args.y c.args.x n c.from-zone.result) (sym long) (lies c.args.page.now c.args.y c.args.x count c.from-zone.result c.args.here.now c.args.below.now c.plates-valid.ensures.valid c.requires.row c.requires.here c.requires.below c.requires.last some c.plain_from-count.ensures.inside c.plain_from-count.ensures.low c.plain_from-count.ensures.here c.plain_from-count.ensures.below (cc))

pub returns-else-count-eq0-clause-marks : goal.returns-else-count-eq0-clause-marks
returns-else-count-eq0-clause-marks c = λ k low high.
    let x = c.args.x in
    let count = c.plain_from-count.result in
    let out = c.args.out.now in
    let new = c.mark_plain.new.out in
    let stored : length (take x out) ≡ x = omega (arith, length-take x out, c.requires.column, c.requires.out) in
    let long : length (take (x + count - x) (drop x out)) ≡ count = omega (arith, length-take (x + count - x) (drop x out), length-drop x out, c.plain_from-count.ensures.inside, c.requires.here.wide, c.requires.out) in
    let inside : k - x < count = omega (arith, low, high) in
    get_or-append_right (take x out) (new ++ post_of x (x + count - x) out) x k 0 stored low
    ∙ get_or_append_left new (post_of x (x + count - x) out) 0 (k - x) (omega (arith, inside, long, c.mark_plain.ensures.len))
    ∙ c.mark_plain.ensures.each (k - x) (omega (arith, inside, long))
    ∙ ap (λ (n : ℕ). mark c.args.page.now c.args.y n) (let back : x + (k - x) ≡ k = omega (arith, low) in back)

pub returns-then-count-eq0-clause-marks : goal.returns-then-count-eq0-clause-marks
returns-then-count-eq0-clause-marks c = grind (arith, common_steps)

pub returns-else-count-eq0-clause-kept : goal.returns-else-count-eq0-clause-kept
returns-else-count-eq0-clause-kept c = grind (arith, common_steps)

pub overflow_add-result-else-count-eq0 : goal.overflow_add-result-else-count-eq0
overflow_add-result-else-count-eq0 c = grind (arith, common_steps)
