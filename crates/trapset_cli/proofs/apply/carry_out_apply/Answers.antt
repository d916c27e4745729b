-- carry_out_apply: carries out a command `apply`.
use Rattle.std.proofs.lemmas.Grind.{common_steps}
use Rattle.std.proofs.Common.{arith, List, ℕ, Bor, map, ap, ◌∙◌}
use Rattle.trapset_cli.specs.Stored.{apply_in}
use Rattle.trapset_cli.proofs.ApplyLemmas.{patched_out, some_plates}
use Rattle.trapset_cli.proofs.apply.carry_out_apply.Goals as goal

pub returns : goal.returns
returns g c =
    let named = ap (λ (fs : List (Bor (List ℕ))). map (λ (f : Bor (List ℕ)). f.now) fs) c.as_slice.ensures.value ∙ c.in-Ok.ensures in
    patched_out (apply_in c.args.command.now) c.in_ok-planes.planes (g.T.Tray.state c.args.tray.now) (g.T.Tray.state c.patched_planes.new.tray) (g.R.Rack.state c.args.rack.now) (g.R.Rack.state c.put_plates.new.rack) (map (λ (f : Bor (List ℕ)). f.now) c.as_slice.result.now) c.put_plates.result named (some_plates _ _ c.requires.some) c.in_ok-planes.ensures c.put_plates.ensures

pub put_plates-requires-clause-planes : goal.put_plates-requires-clause-planes
put_plates-requires-clause-planes g c = grind (arith, common_steps)
