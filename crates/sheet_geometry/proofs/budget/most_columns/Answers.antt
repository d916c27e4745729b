-- most_columns: how many columns a window of so many rows has at most.
use Rattle.std.proofs.Common.{◌*◌, ◌/◌, ◌≤◌, arith}
use Rattle.sheet_geometry.proofs.SizeLemmas.{bounded, columns_few}
use Rattle.sheet_geometry.proofs.budget.most_columns.Goals as goal

pub returns-clause-few_samples : goal.returns-clause-few_samples
returns-clause-few_samples c =
    let few : c.min.result ≤ 160000000 = (let e = c.min.ensures in omega (arith, e)) in
    columns_few c.args.workspace c.args.rows c.args.plates c.min.result c.max.result (c.min.result / (c.from.result * c.from-2.result)) c.requires.few_samples few (λ i. c.min.result / (c.from.ensures i * c.from-2.ensures i)) (bounded _ _ _ _ _ _ c.max.ensures c.min-2.ensures c.from-4.ensures)
