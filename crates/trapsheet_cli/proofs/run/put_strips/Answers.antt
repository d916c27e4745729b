-- What `put_strips` has to show.
use Rattle.std.proofs.lemmas.Grind.{common_steps}
use Rattle.std.proofs.Common.{arith, ℕ, List, Bor, map, ap, ◌∙◌, subst}
use Rattle.sheet_stream.specs.Second.{course_of}
use Rattle.sheet_files.specs.Streaming.{StreamsOut}
use Rattle.trapsheet_cli.proofs.run.put_strips.Goals as goal

pub returns : goal.returns
returns g c =
    let inputs = map (λ (f : Bor (List ℕ)). f.now) c.args.inputs.now in
    let named = ap (λ (fs : List (Bor (List ℕ))). map (λ (f : Bor (List ℕ)). f.now) fs) c.as_slice.ensures.value ∙ c.in-Ok.ensures in
    subst (λ (outputs : List (List ℕ)). StreamsOut (course_of inputs outputs (map g.T.Tray.state c.args.trays.now) (map g.R.Rack.state c.args.racks.now)) c.args.order.now.report.now c.args.outline.now (map g.T.Tray.state c.stream.new.trays) (map g.R.Rack.state c.stream.new.racks) c.stream.result) named c.stream.ensures

pub stream-requires-clause-racks : goal.stream-requires-clause-racks
stream-requires-clause-racks g c = grind (arith, common_steps)

pub stream-requires-clause-inputs : goal.stream-requires-clause-inputs
stream-requires-clause-inputs g c = grind (arith, common_steps)
