-- What `write_done` has to show.
use Rattle.std.proofs.Common.{◌≡◌, ◌∙◌, length, map, string_bytes, Err, Ok, sym, ap, arith}
use Rattle.std.proofs.lemmas.List.{length-map}
use Rattle.trappool_cli.proofs.Writing.{page_written}
use Rattle.trappool_cli.proofs.answering.write_done.Goals as goal

pub write_page-requires-clause-numbered : goal.write_page-requires-clause-numbered
write_page-requires-clause-numbered g c =
    let files : length c.outs.result.now ≡ length c.args.line.now.outs = sym (length-map c.outs.result.now string_bytes) ∙ ap length c.outs.ensures in
    let few = c.requires.few in
    let count = c.requires.outs in
    omega arith

pub write_page-requires-clause-count : goal.write_page-requires-clause-count
write_page-requires-clause-count g c =
    let files : length c.outs.result.now ≡ length c.args.line.now.outs = sym (length-map c.outs.result.now string_bytes) ∙ ap length c.outs.ensures in
    c.requires.outs ∙ sym files

pub returns-in-Ok : goal.returns-in-Ok
returns-in-Ok g c page planes text =
    page_written c.args.line.now page (g.R.Rack.state c.args.rack.now) (g.R.Rack.state c.write_page.new.rack) (map string_bytes c.outs.result.now) c.args.planes c.report.result.now c.as_slice.result.now (Ok tt)
    c.outs.ensures planes c.report.ensures (c.as_slice.ensures ∙ text) c.in-Ok.ensures

pub returns-in-Err : goal.returns-in-Err
returns-in-Err g c page planes text =
    page_written c.args.line.now page (g.R.Rack.state c.args.rack.now) (g.R.Rack.state c.write_page.new.rack) (map string_bytes c.outs.result.now) c.args.planes c.report.result.now c.as_slice.result.now (Err c.in-Err.error)
    c.outs.ensures planes c.report.ensures (c.as_slice.ensures ∙ text) c.in-Err.ensures
