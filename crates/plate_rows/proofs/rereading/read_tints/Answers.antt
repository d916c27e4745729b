-- read_tints: reads the next samples of a plate and turns them into tints, piece by piece.
use Rattle.std.proofs.lemmas.Result.{err_from_is_err_and}
use Rattle.std.proofs.Common.{◌≡◌, ◌+◌, ◌-◌, ◌≤◌, List, ℕ, Ok, Err, arith, length, sym, subst, take, drop}
use Rattle.std.proofs.lemmas.Grind.{common_steps}
use Rattle.std.proofs.lemmas.List.{length-take-le, take_all}
use borrow.Rule.Slice.PartMut.{put_mid}
use Rattle.pgm_plates.proofs.RowLemmas.{filled_on}
use Rattle.plate_rows.specs.Rereading.{IsReadTo, ReadsTints}
use Rattle.pgm_plates.specs.Rows.{ReadsSome}
use Rattle.plate_rows.proofs.ReadLemmas.{next_piece, piece_refused, piece_turned}
use Rattle.plate_rows.proofs.rereading.read_tints.Goals as goal

pub read_piece-requires-clause-read : goal.read_piece-requires-clause-read
read_piece-requires-clause-read g c =
    let filled = c.loop-filled.filled in
    let buf = c.loop-filled.tints in
    let within = c.loop-filled.invariant.within in
    let first : length (take filled buf) ≡ filled = length-take-le filled buf within in
    let piece = take (filled + c.min-want.result - filled) (drop filled buf) in
    let a = g.T.Tray.state c.args.tray.now in
    let b = g.T.Tray.state c.loop-filled.tray in
    let few : length (take filled buf) + length piece ≤ length c.args.tints.now = grind (arith, common_steps) in
    subst (λ (n : ℕ). IsReadTo c.args.plate (c.args.done + n) (length piece) b) first
    (next_piece c.args.plate c.args.done (take filled buf) a b c.loop-filled.invariant.read (length c.args.tints.now) (length piece) few c.requires.read)

pub loop-filled-preserved : goal.loop-filled-preserved
loop-filled-preserved g c =
    let filled = c.loop-filled.filled in
    let want = c.min-want.result in
    let k = filled + want - filled in
    let buf = c.loop-filled.tints in
    let part = c.read_piece.new.tints in
    let within = c.loop-filled.invariant.within in
    let first : length (take filled buf) ≡ filled = length-take-le filled buf within in
    let a = g.T.Tray.state c.args.tray.now in
    let b = g.T.Tray.state c.loop-filled.tray in
    let d = g.T.Tray.state c.read_piece.new.tray in
    let all : length part ≡ want = grind (arith, common_steps) in
    record {
      read = subst (λ (l : List ℕ). ReadsTints c.args.plate c.args.done l a d (Ok tt)) (filled_on buf part filled k want within all)
          (piece_turned c.args.plate c.args.done (take filled buf) a b c.loop-filled.invariant.read part d
          (subst (λ (n : ℕ). ReadsTints c.args.plate (c.args.done + n) part b d (Ok tt)) (sym first) c.in_ok-read_piece.ensures.answer));
      within = grind (arith, common_steps);
    }

pub returns-in_err-read_piece-clause-answer : goal.returns-in_err-read_piece-clause-answer
returns-in_err-read_piece-clause-answer g c =
    let p = err_from_is_err_and c.from_residual.result c.from_residual.ensures.1 in
    rw (p.1, p.2) (
    let filled = c.loop-filled.filled in
    let want = c.min-want.result in
    let buf = c.loop-filled.tints in
    let part = c.read_piece.new.tints in
    let first : length (take filled buf) ≡ filled = length-take-le filled buf c.loop-filled.invariant.within in
    let a = g.T.Tray.state c.args.tray.now in
    let b = g.T.Tray.state c.loop-filled.tray in
    let d = g.T.Tray.state c.read_piece.new.tray in
    let now = put_mid filled (filled + want - filled) buf part in
    let few : length (take filled buf) + length part ≤ length now = grind (arith, common_steps) in
    piece_refused c.args.plate c.args.done (take filled buf) a b c.loop-filled.invariant.read now (length part) d c.in_err-read_piece.field-0.0 few
    (subst (λ (n : ℕ). ReadsSome c.args.plate (c.args.done + n) (length part) b d (Err c.in_err-read_piece.field-0.0)) (sym first) c.in_err-read_piece.ensures.answer)
    )

pub returns-clause-answer : goal.returns-clause-answer
returns-clause-answer g c =
    let filled = c.loop-filled.filled in
    let buf = c.loop-filled.tints in
    let whole : length buf ≤ filled = omega arith in
    subst (λ (l : List ℕ). ReadsTints c.args.plate c.args.done l (g.T.Tray.state c.args.tray.now) (g.T.Tray.state c.loop-filled.tray) (Ok tt)) (take_all filled buf whole) c.loop-filled.invariant.read

pub loop-filled-init : goal.loop-filled-init
loop-filled-init g c = grind (arith, common_steps)

pub returns-in_err-read_piece-clause-memory : goal.returns-in_err-read_piece-clause-memory
returns-in_err-read_piece-clause-memory g c = grind (arith, common_steps)
