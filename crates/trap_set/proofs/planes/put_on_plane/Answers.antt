-- put_on_plane: puts plate c's tint of a run on a plane.
use Rattle.std.proofs.Common.{refl, sym, ◌∙◌, ap, arith, ◌≡◌, ◌+◌, slice_index}
use Rattle.std.proofs.lemmas.List.{get_or-drop}
use Rattle.trap_set.specs.Reading.{run_in}
use Rattle.trap_set.proofs.RunLemmas.{same_plane}
use Rattle.trap_set.proofs.PlaneLemmas.{put_plane}
use Rattle.trap_set.proofs.planes.put_on_plane.Goals as goal

pub returns : goal.returns
returns c =
    let ns = c.args.numbers.now in
    let place : 3 + c.args.c ≡ c.args.c + 3 = omega arith in
    let tint = get_or-drop 3 ns c.args.c 0 ∙ ap (slice_index ns) place in
    same_plane _ _ refl refl refl
    (put_plane (run_in ns) c.args.c c.args.plane.now c.put_tints.new.tints c.requires.some c.requires.in_row c.put_tints.ensures.many c.put_tints.ensures.before
    (λ k low high. c.put_tints.ensures.here k low high ∙ sym tint) c.put_tints.ensures.suffix)
