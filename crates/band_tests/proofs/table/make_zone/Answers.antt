-- make_zone: makes the zones of the band that the pass holds.
use Rattle.std.proofs.Common.{ℕ, ◌+◌, sym, ap, ◌∙◌, arith}
use Rattle.band_claims.specs.TableKeys.{cell}
use Rattle.band_core.specs.Places.{first_cell_of}
use Rattle.band_tests.proofs.OneZone.{one_cell, cell_is_1}
use Rattle.band_tests.proofs.table.make_zone.Goals as goal

pub put_cell-requires-clause-next : goal.put_cell-requires-clause-next
put_cell-requires-clause-next c =
    let table_key = c.args.shared.now.table_key in let i : ℕ = c.args.piece in let none = c.requires.none_filled in let one = one_cell table_key c.requires.table_key i c.requires.piece in
    (i, c.requires.stored, omega (arith, none, one), sym (ap (λ (o : ℕ). cell table_key (first_cell_of table_key.layout i + o)) none ∙ cell_is_1 table_key c.requires.table_key i c.requires.piece))

pub finish-requires-clause-full : goal.finish-requires-clause-full
finish-requires-clause-full c =
    let table_key = c.args.shared.now.table_key in let i : ℕ = c.args.piece in let none = c.requires.none_filled in let one = one_cell table_key c.requires.table_key i c.requires.piece in
    let put = c.put_cell.ensures.put in let filled = ap (λ z. z.filled) put in
    (i, ap (λ z. z.stored) put ∙ c.requires.stored, omega (arith, filled, none, one))
