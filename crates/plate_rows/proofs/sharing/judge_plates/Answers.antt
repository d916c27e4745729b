-- judge_plates: judges the plates of these files side by side.
use Rattle.std.proofs.Common.{map}
use Rattle.plate_rows.proofs.JudgeLemmas.{plates_refused}
use Rattle.plate_rows.proofs.sharing.judge_plates.Goals as goal

pub returns-in-Err : goal.returns-in-Err
returns-in-Err g c =
    plates_refused (map g.S.AsStr.text c.args.inputs.now) c.judge_share.new.headers (map g.T.Tray.state c.args.trays.now) (map g.T.Tray.state c.judge_share.new.trays) c.in-Err.error c.error_at_plate.result c.error_at_plate.ensures c.in-Err.ensures
