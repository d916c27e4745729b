-- write_out: traps the page and writes its files, and gives the receipt.
use Rattle.std.proofs.Common.{ℕ, List, Bor, length, map, ap, sym, ◌∙◌, subst}
use Rattle.trap_cli.specs.Stored.{page_in, plates_in}
use Rattle.plain_words.specs.Plates.{outputs_of}
use Rattle.trap_cli.specs.Commands.{targets_of}
use Rattle.page_output.specs.Output.{PutsOut, targets}
use Rattle.page_output.proofs.OutcomeLemmas.{not_put_out}
use Rattle.trap_cli.proofs.OutputLemmas.{as_many_files}
use Rattle.trap_cli.proofs.page.write_out.Goals as goal

pub returns-in_default : goal.returns-in_default
returns-in_default g c = not_put_out c.args.command.now.band (targets_of (page_in c.args.command.now)) c.args.page.now (g.R.Rack.state c.args.rack.now) c.plates-valid.ensures.valid

pub put_out-requires-clause-count : goal.put_out-requires-clause-count
put_out-requires-clause-count g c κs lives =
    let files = as_many_files c.as_slice.result.now c.in-Ok.outputs.items c.in-Ok.ensures in
    c.requires.count ∙ sym c.as_slice.ensures.len ∙ sym files ∙ sym (ap (λ (fs : List (Bor (List ℕ))). length fs) c.as_slice-2.ensures.value)

pub returns : goal.returns
returns g c =
    let named = ap (λ (fs : List (Bor (List ℕ))). map (λ (f : Bor (List ℕ)). f.now) fs) c.as_slice-2.ensures.value ∙ c.in-Ok.ensures ∙ ap (λ (ws : List (Bor (List ℕ))). outputs_of (plates_in ws)) c.as_slice.ensures.value in
    subst (λ (o : List (List ℕ)). PutsOut c.args.command.now.band (targets o c.args.command.now.report.now) c.args.page.now (g.R.Rack.state c.args.rack.now) (g.R.Rack.state c.put_out.new.rack) c.put_out.result) named c.put_out.ensures
