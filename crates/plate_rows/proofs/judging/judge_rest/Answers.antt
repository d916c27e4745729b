-- judge_rest: reads a plate that is begun to its end.
use Rattle.std.proofs.lemmas.Result.{err_from_is_err_and}
use Rattle.plate_rows.proofs.JudgeLemmas.{rest_judged, rest_refused}
use Rattle.plate_rows.proofs.judging.judge_rest.Goals as goal

pub returns-clause-answer : goal.returns-clause-answer
returns-clause-answer g c = rest_judged c.args.plate (g.T.Tray.state c.args.tray.now) (g.T.Tray.state c.judge_rows.new.tray) (g.T.Tray.state c.end_plate.new.tray) c.end_plate.result c.in_ok-judge_rows.ensures.rows c.end_plate.ensures.ended

pub returns-in_err-judge_rows-clause-answer : goal.returns-in_err-judge_rows-clause-answer
returns-in_err-judge_rows-clause-answer g c =
    let p = err_from_is_err_and c.from_residual.result c.from_residual.ensures.1 in
    rw (p.1, p.2) (rest_refused c.args.plate (g.T.Tray.state c.args.tray.now) (g.T.Tray.state c.judge_rows.new.tray) c.in_err-judge_rows.field-0.0 c.in_err-judge_rows.ensures.rows)
