-- How far the loops of `some_inks` have come.
use Rattle.std.proofs.Common.{◌≡◌, length}
use Rattle.std.specs.Prelude.{All}
use Rattle.page_model.specs.Conditions.{IsInk}
use Rattle.engine_tests.proofs.random_pages.some_inks.Given as goal

abbrev pub invariant-loop-c : goal.invariant-loop-c
invariant-loop-c g l = record { count : length l.inks ≡ l.c; inks : All IsInk l.inks }
