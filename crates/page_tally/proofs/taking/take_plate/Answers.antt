-- None of a plate's row changes where none is counted.
use Rattle.std.proofs.lemmas.Grind.{common_steps}
use Rattle.std.proofs.Common.{◌≡◌, ◌∙◌, sym, arith}
use Rattle.page_model.specs.Counts.{plate_changes}
use Rattle.page_model.specs.Page.{width}
use Rattle.page_tally.proofs.CountLemmas.{none_counted, or_none}
use Rattle.page_tally.proofs.taking.take_plate.Goals as goal

pub returns-else-count-gt0-clause-each : goal.returns-else-count-gt0-clause-each
returns-else-count-gt0-clause-each c x l =
    let none : c.put_plate_row-count.result ≡ 0 = omega (arith, c.if-count-gt0.false) in
    or_none _ _ (none_counted (λ x. plate_changes c.args.page.now c.args.c (record { x = x; y = c.args.y })) (width c.args.page.now) (sym c.put_plate_row-count.ensures.count ∙ none) x l)

pub returns-then-count-gt0-clause-plane : goal.returns-then-count-gt0-clause-plane
returns-then-count-gt0-clause-plane c = grind (arith, common_steps)

pub returns-then-count-gt0-clause-each : goal.returns-then-count-gt0-clause-each
returns-then-count-gt0-clause-each c = grind (arith, common_steps)
