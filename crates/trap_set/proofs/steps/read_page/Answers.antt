-- read_page: reads the second line, where it is a page line.
use Rattle.trap_set.specs.Standing.{IsPageLine}
use Rattle.trap_set.proofs.NextLemmas.{next_none, page_found, short_page}
use Rattle.trap_set.proofs.steps.read_page.Goals as goal

pub returns-then-found-clause-line : goal.returns-then-found-clause-line
returns-then-found-clause-line g c = page_found (g.T.Tray.state c.args.tray.now) (g.T.Tray.state c.read_line.new.tray) _ _ c.read_line.new.line.items c.as_slice.result.now c.read_page_line.result c.as_slice.ensures.value
    c.read_page_line.ensures.line c.read_page_line.ensures.range c.read_page_line.ensures.none (rw c.if-found.true at c.in_ok-found.ensures.line)

pub returns-else-found-clause-line : goal.returns-else-found-clause-line
returns-else-found-clause-line g c = next_none IsPageLine (g.T.Tray.state c.args.tray.now) (g.T.Tray.state c.read_line.new.tray) _ _ short_page (rw c.if-found.false at c.in_ok-found.ensures.line)
