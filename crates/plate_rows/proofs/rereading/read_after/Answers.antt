-- read_after: fills tints with the next rows of a plate, behind those that are kept.
use Rattle.std.proofs.Common.{◌≡◌, ◌-◌, ◌++◌, ℕ, List, length, take, arith, sym, subst}
use Rattle.std.proofs.lemmas.Grind.{common_steps}
use Rattle.plate_rows.specs.Rereading.{ReadsAfter}
use Rattle.plate_rows.proofs.ReadLemmas.{rows_read_after, to_the_end}
use Rattle.plate_rows.proofs.rereading.read_after.Goals as goal

pub returns-clause-answer : goal.returns-clause-answer
returns-clause-answer g c =
    let buf = c.args.tints.now in
    let kept = c.args.next.kept in
    let part = c.read_tints.new.tints in
    let before = g.T.Tray.state c.args.tray.now in
    let after = g.T.Tray.state c.read_tints.new.tray in
    let size : length part ≡ length buf - kept = omega arith in
    subst (λ (l : List ℕ). ReadsAfter c.args.plate c.args.next buf (take kept buf ++ l) before after c.read_tints.result) (sym (to_the_end buf part kept c.requires.kept))
    (rows_read_after c.args.plate c.args.next buf part before after c.read_tints.result c.requires.kept size c.read_tints.ensures.answer)

pub read_tints-requires-clause-read : goal.read_tints-requires-clause-read
read_tints-requires-clause-read g c = grind (arith, common_steps)
