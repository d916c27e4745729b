-- patched_planes: reads the plates in the order of the words and then the set, and gives the planes
-- with the set on them.
use Rattle.std.proofs.Common.{List, ℕ, Bor, map, ap, ◌∙◌}
use Rattle.trapset_cli.specs.Stored.{apply_in}
use Rattle.trapset_cli.proofs.ApplyLemmas.{plates_patched, plates_unread, some_plates}
use Rattle.trapset_cli.proofs.planes.patched_planes.Goals as goal

pub returns-in-Ok-read_plates : goal.returns-in-Ok-read_plates
returns-in-Ok-read_plates g c =
    let named = ap (λ (fs : List (Bor (List ℕ))). map (λ (f : Bor (List ℕ)). f.now) fs) c.as_slice.ensures.value ∙ c.in-Ok.ensures in
    plates_patched c.plane_turns_back.ensures (apply_in c.args.command.now) (g.T.Tray.state c.args.tray.now) (g.T.Tray.state c.read_plates.new.tray) (g.T.Tray.state c.patch_planes.new.tray) (map (λ (f : Bor (List ℕ)). f.now) c.as_slice.result.now) c.in-Ok-read_plates.planes c.patch_planes.result named c.in-Ok-read_plates.ensures c.patch_planes.ensures

pub returns : goal.returns
returns g c =
    let named = ap (λ (fs : List (Bor (List ℕ))). map (λ (f : Bor (List ℕ)). f.now) fs) c.as_slice.ensures.value ∙ c.in-Ok.ensures in
    plates_unread (apply_in c.args.command.now) (g.T.Tray.state c.args.tray.now) (g.T.Tray.state c.read_plates.new.tray) (map (λ (f : Bor (List ℕ)). f.now) c.as_slice.result.now) c.in-Err.error named (some_plates _ _ c.requires.some) c.in-Err.ensures
