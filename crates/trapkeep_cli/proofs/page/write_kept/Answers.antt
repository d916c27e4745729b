-- write_kept: writes the plates and the report.
use Rattle.std.proofs.Common.{◌≡◌, ◌∙◌, ℕ, Bor, Global, List, Ok, Err, length, map, string_bytes, sym}
use Rattle.keep_words.specs.Stored.{keep_in}
use Rattle.trapkeep_cli.specs.Commands.{written_plates}
use Rattle.trapkeep_cli.proofs.PutLemmas.{as_many, page_written}
use Rattle.trapkeep_cli.proofs.page.write_kept.Goals as goal

pub returns-in-Ok : goal.returns-in-Ok
returns-in-Ok g c =
    let count = c.requires.kept.as_many ∙ c.requires.count ∙ sym (as_many (string_bytes {Z = Global}) c.args.command.now.plates.now) in
    page_written (keep_in c.args.command.now) c.args.page.now (map (λ (f : Bor (List ℕ)). f.now) c.args.outputs.now) c.args.kept.planes c.args.kept.report c.as_slice.result.now (g.R.Rack.state c.args.rack.now) (g.R.Rack.state c.write_page.new.rack) (Ok (tt {0})) c.plates-valid.ensures.valid c.requires.narrow c.requires.kept c.requires.outputs count c.as_slice.ensures c.in-Ok.ensures

pub returns : goal.returns
returns g c =
    let count = c.requires.kept.as_many ∙ c.requires.count ∙ sym (as_many (string_bytes {Z = Global}) c.args.command.now.plates.now) in
    page_written (keep_in c.args.command.now) c.args.page.now (map (λ (f : Bor (List ℕ)). f.now) c.args.outputs.now) c.args.kept.planes c.args.kept.report c.as_slice.result.now (g.R.Rack.state c.args.rack.now) (g.R.Rack.state c.write_page.new.rack) (Err c.in-Err.error) c.plates-valid.ensures.valid c.requires.narrow c.requires.kept c.requires.outputs count c.as_slice.ensures c.in-Err.ensures
