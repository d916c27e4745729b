-- leave_row: closes row y, all rows near it having been asked.
use Rattle.std.proofs.Common.{refl, arith}
use Rattle.std.specs.Vec.{with_items}
use Rattle.std.proofs.lemmas.List.{with_items_is}
use Rattle.misregister.proofs.PlateLemmas.{leave_way}
use Rattle.misregister.proofs.plate.leave_row.Goals as goal

pub returns-clause-left : goal.returns-clause-left
returns-clause-left c = λ r plate older entered all way.
    (let workspace = c.args.workspace.now in
    leave_way c.args.sheet.now r plate c.args.y entered older workspace
    (record { row = workspace.row; until = workspace.until; shades = with_items workspace.shades c.close_row.new.shades })
    c.as_slice-until.result.now c.as_mut_slice.result.now c.close_row.new.shades c.requires.row all refl
    (omega arith) c.as_slice-until.ensures.value c.as_mut_slice.ensures.value (with_items_is workspace.shades c.close_row.new.shades (omega arith)) c.close_row.ensures way)
