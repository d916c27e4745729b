-- trap_job: traps all pages of a job that was read, and looks after the last one.
use Rattle.std.proofs.lemmas.Result.{err_from_is_err_and}
use Rattle.std.proofs.Common.{◌≡◌, ℕ, List, Bor, map, ap, ◌∙◌, subst, arith}
use Rattle.traprun_cli.proofs.RunLemmas.{looked_after, same_count}
use Rattle.traprun_cli.specs.Opened.{order_in}
use Rattle.traprun_cli.specs.Reading.{ExpectsEnd}
use Rattle.traprun_cli.specs.Words.{sources_of, targets_of}
use Rattle.traprun_cli.proofs.OpenLemmas.{as_many_inputs}
use Rattle.traprun_cli.proofs.run.trap_job.Goals as goal

pub expect_end-requires : goal.expect_end-requires
expect_end-requires g c = let many = as_many_inputs c.args.opened.now c.requires in let few = c.requires.within.few in omega (arith, many, few, c.as_slice.ensures.len)

pub returns : goal.returns
returns g c tray opened =
    let order = order_in c.args.opened.now.order.now in
    let named = ap (λ (fs : List (Bor (List ℕ))). map (λ (f : Bor (List ℕ)). f.now) fs) c.as_slice.ensures.value ∙ c.requires.inputs in
    let same : c.count.result ≡ opened.count = same_count c.args.opened.now.job opened.count c.count.result opened.has c.count.ensures in
    looked_after (sources_of order) (targets_of order) c.args.opened.now.job c.count.result opened.count tray (g.T.Tray.state c.trap_pages.new.tray) (g.T.Tray.state c.expect_end.new.tray) (g.R.Rack.state c.args.rack.now) (g.R.Rack.state c.trap_pages.new.rack) c.expect_end.result same opened.known opened.has
    (c.in_ok-trap_pages.ensures tray opened)
    (subst (λ (l : List (List ℕ)). ExpectsEnd c.count.result l (g.T.Tray.state c.trap_pages.new.tray) (g.T.Tray.state c.expect_end.new.tray) c.expect_end.result) named c.expect_end.ensures)

pub returns-in_err-trap_pages : goal.returns-in_err-trap_pages
returns-in_err-trap_pages g c tray opened =
    let p = err_from_is_err_and c.from_residual.result c.from_residual.ensures.1 in
    rw (p.1, p.2) (c.in_err-trap_pages.ensures tray opened)
