-- columns: writes, row by row from `first_row` on, for each of the `2 * width - 1` doubled columns
-- 0 where no deciding edge is within `reach2` half-samples above or below the row's middle, else
-- the offset `Y - 2y` of the nearest one, the upper one where two are as near, plus 257.
use Rattle.std.proofs.lemmas.Grind.{common_steps}
use Rattle.std.proofs.Common.{arith, ◌∙◌, ◌+◌, ◌-◌}
use Rattle.column_scan.proofs.ColumnLemmas.{column-meets}
use Rattle.column_scan.proofs.RowLemmas.{all_steps}
use Rattle.column_scan.proofs.sweeps.columns.Goals as goal

pub last_row_of-requires-clause-rows : goal.last_row_of-requires-clause-rows
last_row_of-requires-clause-rows g c = omega (arith, c.requires.from, c.requires.to, c.rows-valid.ensures.valid.ends)

pub returns-clause-answers : goal.returns-clause-answers
returns-clause-answers g c = λ page marks cover k x2 lk lx.
    let top = c.first_row.ensures in
    let from = c.requires.from in
    let to = c.requires.to in
    c.rows_up.ensures.columns k x2 lk lx ∙ column-meets page c.args.marks.now x2 (c.args.first_row - c.first_row.result + k) c.args.first_row c.args.rows c.args.reach2 k marks cover c.requires.reach (omega (arith, lx, c.requires.width)) lk (omega (arith, top, from)) (omega (arith, top, from, to, lk))

pub returns-clause-steps : goal.returns-clause-steps
returns-clause-steps g c =
    let top = c.first_row.ensures in
    let from = c.requires.from in
    let to = c.requires.to in
    let some = c.requires.some in
    all_steps _ _ _ _ _ _ _ c.rows_down.ensures.steps c.last_row_of.ensures.steps (omega (arith, from, to, top, some)) (omega (arith, from, to, top, some))

pub rows_up-requires-clause-above : goal.rows_up-requires-clause-above
rows_up-requires-clause-above g c = grind (arith, common_steps)

pub rows_up-requires-clause-last : goal.rows_up-requires-clause-last
rows_up-requires-clause-last g c = grind (arith, common_steps)

pub last_row_of-requires-clause-above : goal.last_row_of-requires-clause-above
last_row_of-requires-clause-above g c = grind (arith, common_steps)
