-- most_rows: how many rows a window has at most, with so many columns and rows at least.
use Rattle.std.proofs.Common.{◌*◌, ◌/◌}
use Rattle.sheet_geometry.proofs.SizeLemmas.{bounded, rows_few}
use Rattle.sheet_geometry.proofs.budget.most_rows.Goals as goal

pub returns-clause-few_samples : goal.returns-clause-few_samples
returns-clause-few_samples c = rows_few c.args.columns c.args.rows c.args.plates c.max.result (160000000 / (c.from.result * c.from-2.result)) c.requires.few_samples (λ i. 160000000 / (c.from.ensures i * c.from-2.ensures i)) (bounded _ _ _ _ _ _ c.max.ensures c.min-2.ensures c.from-4.ensures)
