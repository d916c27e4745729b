-- look_through: looks into each of these files in order, up to the first that is refused.
use Rattle.std.proofs.lemmas.Grind.{common_steps}
use Rattle.std.proofs.Common.{◌≡◌, ◌<◌, ◌++◌, ◌∷◌, [], length, rules, arith, sym}
use Rattle.page_files.proofs.LookLemmas.{look_refused, more_so_far, no_workspace}
use Rattle.page_files.proofs.looks.look_through.Goals as goal

pub loop-place-preserved : goal.loop-place-preserved
loop-place-preserved g c =
    let here : c.loop-place.place < length c.args.inputs.now = omega arith in
    let pushed : c.push.new.self ≡ c.loop-place.all ++ c.in-Ok.found ∷ [] = search rules in
    rw pushed (more_so_far (g.L.Look.sought c.args.look.now) g.S.AsStr.text c.args.inputs.now c.loop-place.place c.index-inputs-place.result (g.T.Tray.state c.args.tray.now) (g.T.Tray.state c.loop-place.tray) (g.T.Tray.state c.look.new.tray) c.loop-place.all here c.loop-place.invariant c.in-Ok.found (rw (sym c.index-inputs-place.is, sym c.as_str.ensures) c.in-Ok.ensures))

pub returns-then-is_err : goal.returns-then-is_err
returns-then-is_err g c =
    let here : c.loop-place.place < length c.args.inputs.now = omega arith in
    no_workspace (g.L.Look.sought c.args.look.now) g.S.AsStr.text c.args.inputs.now c.loop-place.place c.index-inputs-place.result (g.T.Tray.state c.args.tray.now) (g.T.Tray.state c.loop-place.tray) (g.T.Tray.state c.look.new.tray) c.loop-place.all here c.loop-place.invariant c.in-Ok.found c.no_memory.result c.no_memory.ensures (rw (sym c.index-inputs-place.is, sym c.as_str.ensures) c.in-Ok.ensures)

pub returns-in-Err : goal.returns-in-Err
returns-in-Err g c =
    let here : c.loop-place.place < length c.args.inputs.now = omega arith in
    look_refused (g.L.Look.sought c.args.look.now) g.S.AsStr.text c.args.inputs.now c.loop-place.place c.index-inputs-place.result (g.T.Tray.state c.args.tray.now) (g.T.Tray.state c.loop-place.tray) (g.T.Tray.state c.look.new.tray) c.loop-place.all here c.loop-place.invariant c.in-Err.error (rw (sym c.index-inputs-place.is, sym c.as_str.ensures) c.in-Err.ensures)

pub returns : goal.returns
returns g c = grind (arith, common_steps)
