-- The loops of trap_pages: traps all pages of the job, in their order.
use Rattle.std.proofs.Common.{◌≡◌, List, length}
use Rattle.outside.specs.Tray.{TrayState}
use Rattle.page_model.specs.declared.parts.PageParts.{PageParts}
use Rattle.traprun_cli.specs.Endings.{PagesDone}
use Rattle.traprun_cli.specs.Gathering.{JobOpened}
use Rattle.traprun_cli.specs.Opened.{order_in}
use Rattle.traprun_cli.specs.Words.{sources_of, targets_of}
use Rattle.traprun_cli.proofs.run.trap_pages.Given as goal

abbrev pub invariant-loop-page : goal.invariant-loop-page
invariant-loop-page g l =
    let order = order_in l.opened.order.now in
    (tray : TrayState) → JobOpened (sources_of order) l.opened.job tray (g.T.Tray.state l.fn.tray) → (pages : List PageParts) × (length pages ≡ l.page) × PagesDone (sources_of order) (targets_of order) tray (g.T.Tray.state l.tray) (g.R.Rack.state l.fn.rack) (g.R.Rack.state l.rack) pages
