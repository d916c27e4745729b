-- read_piece: reads the next samples of a plate and turns them into tints, all at once.
use Rattle.std.proofs.Common.{◌≡◌, List, ℕ, Ok, arith, length, refl, sym, subst}
use Rattle.std.proofs.lemmas.Grind.{common_steps}
use Rattle.std.proofs.lemmas.Result.{err_from_is_err_and}
use Rattle.plate_rows.specs.Rereading.{IsReadTo, ReadsTints}
use Rattle.plate_rows.proofs.ReadLemmas.{rows_fit, rows_turned}
use Rattle.plate_rows.proofs.rereading.read_piece.Goals as goal

pub turn-requires-clause-below : goal.turn-requires-clause-below
turn-requires-clause-below g c =
    let before = g.T.Tray.state c.args.tray.now in
    let rows = c.read_rows.new.samples in
    let same : length c.args.tints.now ≡ length rows = grind (arith, common_steps) in
    rows_fit c.args.plate c.args.done rows before (g.T.Tray.state c.read_rows.new.tray)
    (subst (λ (n : ℕ). IsReadTo c.args.plate c.args.done n before) same c.requires.read) c.in_ok-read_rows.ensures.rows

pub returns-clause-answer : goal.returns-clause-answer
returns-clause-answer g c =
    let before = g.T.Tray.state c.args.tray.now in
    let after = g.T.Tray.state c.read_rows.new.tray in
    let rows = c.read_rows.new.samples in
    let same : length c.args.tints.now ≡ length rows = grind (arith, common_steps) in
    subst (λ (l : List ℕ). ReadsTints c.args.plate c.args.done l before after (Ok tt)) (sym c.turn.ensures)
    (rows_turned c.args.plate c.args.done rows before after
    (subst (λ (n : ℕ). IsReadTo c.args.plate c.args.done n before) same c.requires.read) c.in_ok-read_rows.ensures.rows)

pub returns-in_err-read_rows-clause-answer : goal.returns-in_err-read_rows-clause-answer
returns-in_err-read_rows-clause-answer g c =
    let p = err_from_is_err_and c.from_residual.result c.from_residual.ensures.1 in
    rw (p.1, p.2) (c.read_rows.new.samples, refl, c.in_err-read_rows.ensures.rows)
