-- covered_in_row: the marks of a row of a core.
use Rattle.std.proofs.Common.{◌+◌, ◌*◌, ap, ◌∙◌, ℕ, arith}
use Rattle.keep_sheets.proofs.RowLemmas.{row_covered}
use Rattle.keep_sheets.proofs.core_counts.covered_in_row.Goals as goal

pub returns-clause-count : goal.returns-clause-count
returns-clause-count c =
    let core = c.args.core.now in
    let y = core.top + c.args.k in
    c.marked.ensures.count ∙ row_covered c.args.page.now c.args.used.now c.args.marks.now core.left core.width y (y * c.width.result + core.left) c.requires.marks c.requires.core.across (omega (arith, c.requires.core.down, c.requires.row)) (ap (λ (n : ℕ). y * n + core.left) c.width.ensures.value)
