-- closed_words: the words of the two ZONES pieces and their cells of a table that was left half
-- done, before and after it is finished alone.
use Rattle.std.proofs.Common.{◌<◌, sym, ap, ◌∙◌, subst, arith}
use Rattle.band_claims.specs.declared.table_key.TableKey.{TableKey}
use Rattle.band_core.specs.Places.{cells_of}
use Rattle.band_tests.proofs.OneZone.{two_cells}
use Rattle.band_tests.proofs.table.closed_words.Goals as goal

pub cell-requires : goal.cell-requires
cell-requires c = subst (λ (s : TableKey). 0 < cells_of s.layout) (sym c.close_all-closed.ensures.table_key) (let t = two_cells c.args.shared.table_key c.requires.table_key in omega (arith, t))

pub cell-requires-2 : goal.cell-requires-2
cell-requires-2 c = subst (λ (s : TableKey). 1 < cells_of s.layout) (sym c.close_all-closed.ensures.table_key) (two_cells c.args.shared.table_key c.requires.table_key)

pub set_cell-requires : goal.set_cell-requires
set_cell-requires c = subst (λ (s : TableKey). 1 < cells_of s.layout) (sym c.close_all-closed.ensures.table_key) (two_cells c.args.shared.table_key c.requires.table_key)

pub cell-requires-3 : goal.cell-requires-3
cell-requires-3 c = subst (λ (s : TableKey). 0 < cells_of s.layout) (sym (c.set_done.ensures.table_key ∙ (ap (λ z. z.table_key) c.set_cell.ensures ∙ c.close_all-closed.ensures.table_key))) (let t = two_cells c.args.shared.table_key c.requires.table_key in omega (arith, t))

pub cell-requires-4 : goal.cell-requires-4
cell-requires-4 c = subst (λ (s : TableKey). 1 < cells_of s.layout) (sym (c.set_done.ensures.table_key ∙ (ap (λ z. z.table_key) c.set_cell.ensures ∙ c.close_all-closed.ensures.table_key))) (two_cells c.args.shared.table_key c.requires.table_key)
