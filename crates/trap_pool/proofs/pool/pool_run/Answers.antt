-- pool_run: gathers the page of each line in order, traps the pages by so many workers, which take
-- them by their line numbers from a queue, and gives a reply for each line.
use Rattle.std.proofs.lemmas.Grind.{common_steps}
use Rattle.std.proofs.Common.{◌∙◌, length, sym, ap, subst, arith}
use Rattle.trap_pool.specs.Pools.{Pools}
use Rattle.trap_pool.proofs.Pages.{as_many_pages}
use Rattle.trap_pool.proofs.Settling.{turn_kept}
use Rattle.trap_pool.proofs.Turns.{as_many, pools}
use Rattle.trap_pool.proofs.pool.pool_run.Goals as goal

pub waiting_lines-numbers-requires-clause-numbered : goal.waiting_lines-numbers-requires-clause-numbered
waiting_lines-numbers-requires-clause-numbered g c =
    let many = as_many 0 0 c.args.lines.now (g.T.Tray.state c.args.tray.now) (g.T.Tray.state c.gather_lines-gathering.new.tray) c.gather_lines-gathering.result.lines.items c.gather_lines-gathering.ensures.turn in
    let same = ap length c.as_slice.ensures.value in
    let places = as_many_pages c.gather_lines-gathering.result.lines.items c.gather_lines-gathering.result.pages.items c.gather_lines-gathering.ensures.pages in
    omega arith

pub waiting_lines-numbers-requires-clause-workspace : goal.waiting_lines-numbers-requires-clause-workspace
waiting_lines-numbers-requires-clause-workspace g c =
    let many = as_many 0 0 c.args.lines.now (g.T.Tray.state c.args.tray.now) (g.T.Tray.state c.gather_lines-gathering.new.tray) c.gather_lines-gathering.result.lines.items c.gather_lines-gathering.ensures.turn in
    let same = ap length c.as_slice.ensures.value in
    let places = as_many_pages c.gather_lines-gathering.result.lines.items c.gather_lines-gathering.result.pages.items c.gather_lines-gathering.ensures.pages in
    let workspace = c.in-Ok.ensures.numbers in
    omega arith

pub replies_of-requires-clause-workspace : goal.replies_of-requires-clause-workspace
replies_of-requires-clause-workspace g c =
    let many = as_many 0 0 c.args.lines.now (g.T.Tray.state c.args.tray.now) (g.T.Tray.state c.gather_lines-gathering.new.tray) c.gather_lines-gathering.result.lines.items c.gather_lines-gathering.ensures.turn in
    let last = c.trap_lines-gathered.ensures.count in
    let workspace = c.in-Ok.ensures.replies in
    omega arith

pub returns : goal.returns
returns g c =
    let a = g.T.Tray.state c.args.tray.now in
    let b = g.T.Tray.state c.gather_lines-gathering.new.tray in
    let first = c.gather_lines-gathering.result.lines.items in
    let last = c.trap_lines-gathered.result.items in
    subst (Pools c.args.lines.now a b) (sym (c.from_vec.ensures ∙ c.replies_of.ensures))
    (pools c.args.lines.now a b last (turn_kept 0 0 c.args.lines.now a b first last c.trap_lines-gathered.ensures c.gather_lines-gathering.ensures.turn))

pub trap_lines-gathered-requires-clause-numbered : goal.trap_lines-gathered-requires-clause-numbered
trap_lines-gathered-requires-clause-numbered g c κs within =
    let many = as_many 0 0 c.args.lines.now (g.T.Tray.state c.args.tray.now) (g.T.Tray.state c.gather_lines-gathering.new.tray) c.gather_lines-gathering.result.lines.items c.gather_lines-gathering.ensures.turn in
    let numbered = c.requires.numbered in
    omega arith

pub gather_lines-gathering-requires-clause-workspace : goal.gather_lines-gathering-requires-clause-workspace
gather_lines-gathering-requires-clause-workspace g c = grind (arith, common_steps)
