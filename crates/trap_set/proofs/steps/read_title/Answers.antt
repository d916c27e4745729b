-- read_title: reads the first line, and says whether a set may begin with it.
use Rattle.std.proofs.Common.{◌≡◌, ◌↔◌, IsTrue, subst, List, ℕ}
use Rattle.trap_set.specs.SetText.{title_line}
use Rattle.trap_set.proofs.NextLemmas.{next_none, short_title, title_found}
use Rattle.trap_set.proofs.steps.read_title.Goals as goal

pub returns-then-found-clause-line : goal.returns-then-found-clause-line
returns-then-found-clause-line g c =
    let is : IsTrue c.is_title.result ↔ (c.read_line.new.line.items ≡ title_line) = subst (λ (bs : List ℕ). IsTrue c.is_title.result ↔ (bs ≡ title_line)) c.as_slice.ensures.value c.is_title.ensures in
    title_found (g.T.Tray.state c.args.tray.now) (g.T.Tray.state c.read_line.new.tray) _ _ c.read_line.new.line.items c.is_title.result is (rw c.if-found.true at c.in_ok-found.ensures.line)

pub returns-else-found-clause-line : goal.returns-else-found-clause-line
returns-else-found-clause-line g c = next_none (λ (line : List ℕ). line ≡ title_line) (g.T.Tray.state c.args.tray.now) (g.T.Tray.state c.read_line.new.tray) _ _ short_title (rw c.if-found.false at c.in_ok-found.ensures.line)
