-- are_all_done: whether all pieces are done.
use Rattle.std.proofs.Common.{arith}
use Rattle.std.proofs.lemmas.Grind.{common_steps}
use Rattle.band_claims.proofs.Looking.{looks_more}
use Rattle.band_pieces.proofs.Looked.{known_before}
use Rattle.band_pieces.proofs.pages.are_all_done.Goals as goal

pub loop-piece-preserved : goal.loop-piece-preserved
loop-piece-preserved c =
    let v = c.loop-piece.invariant in let d = c.sees_done.ensures.answer in
    record {
      end = v.end;
      reader = c.sees_done.ensures.reader;
      looks = rw d.1 (looks_more c.args.reader.now.view c.loop-piece.reader.view c.loop-piece.piece d.0 v.looks);
      known = rw d.1 (known_before c.loop-piece.reader.view c.loop-piece.piece d.0 v.known (d.2.0 c.if-not-sees_done.false));
    }

pub returns-then-not-sees_done-clause-looks : goal.returns-then-not-sees_done-clause-looks
returns-then-not-sees_done-clause-looks c = grind (arith, common_steps)

pub loop-piece-init : goal.loop-piece-init
loop-piece-init c = grind (arith, common_steps)

pub returns-then-not-sees_done-clause-undone : goal.returns-then-not-sees_done-clause-undone
returns-then-not-sees_done-clause-undone c = grind (arith, common_steps)
