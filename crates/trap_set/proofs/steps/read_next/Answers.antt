-- read_next: reads a later line, and puts the numbers of a run into the list.
use Rattle.std.proofs.Common.{arith}
use Rattle.std.proofs.lemmas.Grind.{common_steps}
use Rattle.trap_set.specs.Reading.{head_in}
use Rattle.trap_set.specs.Standing.{MayCome}
use Rattle.trap_set.proofs.NextLemmas.{next_none, run_found, short_next}
use Rattle.trap_set.proofs.steps.read_next.Goals as goal

pub returns-then-found-clause-line : goal.returns-then-found-clause-line
returns-then-found-clause-line g c = run_found (g.T.Tray.state c.args.tray.now) (g.T.Tray.state c.read_line.new.tray) _ _ c.read_line.new.line.items c.as_slice.result.now (head_in c.args.head) c.args.place c.next_in.result c.next_in.new.numbers c.requires.head c.as_slice.ensures.value
    c.next_in.ensures.end c.next_in.ensures.run c.next_in.ensures.bad (rw c.if-found.true at c.in_ok-found.ensures.line)

pub returns-else-found-clause-line : goal.returns-else-found-clause-line
returns-else-found-clause-line g c = next_none (MayCome (head_in c.args.head) c.args.place) (g.T.Tray.state c.args.tray.now) (g.T.Tray.state c.read_line.new.tray) _ _ (short_next (head_in c.args.head) c.args.place c.requires.head) (rw c.if-found.false at c.in_ok-found.ensures.line)

pub returns-then-found-clause-run : goal.returns-then-found-clause-run
returns-then-found-clause-run g c = grind (arith, common_steps)

pub returns-else-found-clause-run : goal.returns-else-found-clause-run
returns-else-found-clause-run g c = grind (arith, common_steps)
