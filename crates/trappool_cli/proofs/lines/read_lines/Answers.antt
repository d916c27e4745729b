-- read_lines: reads the list of that name.
use Rattle.std.proofs.Common.{ℕ, List, subst, arith}
use Rattle.job_list.specs.Lists.{ReadsList}
use Rattle.trappool_cli.proofs.Prefixes.{read_judged}
use Rattle.trappool_cli.proofs.lines.read_lines.Goals as goal

pub returns-in-Ok : goal.returns-in-Ok
returns-in-Ok g c =
    let read = c.in-Ok.ensures in
    read_judged _ c.args.name.now (g.T.Tray.state c.args.tray.now) (g.T.Tray.state c.read_file.new.tray) c.in-Ok.bytes c.read_list.result c.lines_or_fault.result read.keeps read.asked read.few read.well read.taken
    (subst (λ (l : List ℕ). ReadsList l c.read_list.result) c.as_slice.ensures c.read_list.ensures) c.lines_or_fault.ensures (omega arith)
