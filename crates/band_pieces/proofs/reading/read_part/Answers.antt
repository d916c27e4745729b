-- read_part: unpacks values from one cell.
use Rattle.std.proofs.lemmas.Grind.{common_steps}
use Rattle.std.proofs.Common.{rules, ℕ, ◌+◌, ◌-◌, sym, ap, ◌∙◌, subst, arith}
use Rattle.band_core.specs.Packing.{lane}
use Rattle.band_core.specs.Places.{first_cell_of}
use Rattle.band_core.specs.TableShapes.{Has}
use Rattle.band_claims.specs.declared.table_key.TableKey.{TableKey}
use Rattle.band_claims.specs.TableKeys.{cell, shape_of}
use Rattle.band_claims.proofs.Steps.{cell_some, small_word}
use Rattle.band_pieces.proofs.Cells.{Reads, reads_has, reads_small, reads_value}
use Rattle.band_pieces.proofs.reading.read_part.Goals as goal

pub overflow_add-part : goal.overflow_add-part
overflow_add-part g c =
    let part = c.args.part in let key : TableKey = g.C.CellSource.table_key c.args.source.now c.args.seat.now in
    let r : Reads key c.args.layout.now part.piece part.cell part.lane part.count = record { same = c.requires.layout; fit = c.requires.fit; piece = c.requires.piece; some = c.requires.some; few = c.requires.few; inside = c.requires.inside } in
    omega (arith, reads_small _ _ _ _ _ _ r, c.requires.first)

pub word-word-requires : goal.word-word-requires
word-word-requires g c =
    let part = c.args.part in let key : TableKey = g.C.CellSource.table_key c.args.source.now c.args.seat.now in
    let r : Reads key c.args.layout.now part.piece part.cell part.lane part.count = record { same = c.requires.layout; fit = c.requires.fit; piece = c.requires.piece; some = c.requires.some; few = c.requires.few; inside = c.requires.inside } in
    record { known = (part.piece, subst (λ (z : ℕ). Has (shape_of key) part.piece (z + part.cell)) (sym c.requires.first) (reads_has _ _ _ _ _ _ r), c.requires.known) }

pub without_lanes-rest-requires-clause-some : goal.without_lanes-rest-requires-clause-some
without_lanes-rest-requires-clause-some g c =
    let part = c.args.part in let key : TableKey = g.C.CellSource.table_key c.args.source.now c.args.seat.now in
    let r : Reads key c.args.layout.now part.piece part.cell part.lane part.count = record { same = c.requires.layout; fit = c.requires.fit; piece = c.requires.piece; some = c.requires.some; few = c.requires.few; inside = c.requires.inside } in
    let e = c.word-word.ensures.word ∙ ap (λ (z : ℕ). cell key (z + part.cell)) c.requires.first in
    omega (arith, e, cell_some key c.requires.fit (first_cell_of c.args.layout.now part.piece + part.cell) (small_word key c.requires.fit part.piece _ (reads_has _ _ _ _ _ _ r)).0)

pub returns-clause-here : goal.returns-clause-here
returns-clause-here g c j l =
    let part = c.args.part in let key : TableKey = g.C.CellSource.table_key c.args.source.now c.args.seat.now in
    let r : Reads key c.args.layout.now part.piece part.cell part.lane part.count = record { same = c.requires.layout; fit = c.requires.fit; piece = c.requires.piece; some = c.requires.some; few = c.requires.few; inside = c.requires.inside } in
    let e = c.word-word.ensures.word ∙ ap (λ (z : ℕ). cell key (z + part.cell)) c.requires.first in
    c.unpack_at.ensures.here j l ∙ (c.without_lanes-rest.ensures.rest j ∙ ((λ i. lane (c.requires.bits i) (e i - 1) (part.lane + j)) ∙ reads_value _ _ _ _ _ _ j r l))

pub unpack_at-requires-clause-some : goal.unpack_at-requires-clause-some
unpack_at-requires-clause-some g c = search rules

pub unpack_at-requires-clause-few : goal.unpack_at-requires-clause-few
unpack_at-requires-clause-few g c = grind (arith, common_steps)

pub returns-clause-kept : goal.returns-clause-kept
returns-clause-kept g c = grind (arith, common_steps)

pub without_lanes-rest-requires-clause-few : goal.without_lanes-rest-requires-clause-few
without_lanes-rest-requires-clause-few g c = grind (arith, common_steps)
