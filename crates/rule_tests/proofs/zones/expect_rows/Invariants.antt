-- The loops of expect_rows: looks at each row of a page.
use Rattle.std.proofs.Common.{◌≡◌}
use Rattle.rule_tests.proofs.zones.expect_rows.Given as goal

abbrev pub invariant-loop-y : goal.invariant-loop-y
invariant-loop-y g l = l.spans.wide ≡ 8
