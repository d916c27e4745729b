-- earlier: of the edge found and another the one that comes first for p.
use Rattle.engine_tests.proofs.slow_traps.earlier.Goals as goal

pub comes_before-requires-clause-f : goal.comes_before-requires-clause-f
comes_before-requires-clause-f c = c.requires.found _ c.in-Some.is

pub returns-else-comes_before : goal.returns-else-comes_before
returns-else-comes_before c = c.requires.found _ c.in-Some.is
