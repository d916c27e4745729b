-- make_words: the words of so many cells of a piece of that phase, from cell `first` on.
use Rattle.std.proofs.lemmas.Grind.{common_steps}
use Rattle.std.proofs.Common.{◌≡◌, ℕ, ◌+◌, ◌-◌, ◌*◌, ◌<◌, ◌≤◌, List, length, slice_index, sym, ap, ◌∙◌, subst, arith}
use Rattle.band_core.specs.Places.{lanes_of}
use Rattle.band_core.proofs.Numbers.{as_many}
use Rattle.band_claims.proofs.Cutting.{cell_at, within_span, zero_cell}
use Rattle.band_claims.proofs.putting.make_words.Goals as goal

pub overflow_mul-from : goal.overflow_mul-from
overflow_mul-from g c =
    let t = cell_at c.args.table_key.now.layout c.args.piece c.args.first c.lanes-per_cell.result c.requires.fit.made (omega (arith, c.requires.cells, c.requires.some)) (c.lanes-per_cell.ensures.value ∙ ap lanes_of c.requires.phase) in
    omega (arith, t.0, t.1)

pub overflow_sub-to : goal.overflow_sub-to
overflow_sub-to g c =
    let t = cell_at c.args.table_key.now.layout c.args.piece c.args.first c.lanes-per_cell.result c.requires.fit.made (omega (arith, c.requires.cells, c.requires.some)) (c.lanes-per_cell.ensures.value ∙ ap lanes_of c.requires.phase) in
    omega (arith, t.0, c.min-to.ensures, c.requires.values.long, as_many g.met.V.CellValue.each c.args.values.now)

pub part_of-requires : goal.part_of-requires
part_of-requires g c =
    let t = cell_at c.args.table_key.now.layout c.args.piece c.args.first c.lanes-per_cell.result c.requires.fit.made (omega (arith, c.requires.cells, c.requires.some)) (c.lanes-per_cell.ensures.value ∙ ap lanes_of c.requires.phase) in
    omega (arith, t.0, c.min-to.ensures, c.requires.values.long, as_many g.met.V.CellValue.each c.args.values.now)

pub returns-then-are_zero-clause-words : goal.returns-then-are_zero-clause-words
returns-then-are_zero-clause-words g c k l =
    let all : List ℕ = g.V.CellValue.numbers c.args.values.now in let part : List ℕ = g.V.CellValue.numbers c.part_of.result.now in
    let n : ℕ = c.lanes-per_cell.result in let first : ℕ = c.args.first in let table_key = c.args.table_key.now in
    let lanes_are : n ≡ lanes_of g.row.PHASE = c.lanes-per_cell.ensures.value in
    let many = as_many g.met.V.CellValue.each c.args.values.now in
    let at = cell_at table_key.layout c.args.piece first n c.requires.fit.made (omega (arith, c.requires.cells, c.requires.some)) (c.lanes-per_cell.ensures.value ∙ ap lanes_of c.requires.phase) in
    let few : k < 16 = omega (arith, l, c.put_ones.ensures.len, c.requires.few) in
    let zeros : (j : ℕ) → (first + k) * n ≤ j → j < (first + k) * n + n → j < length all → slice_index all j ≡ 0 = λ j from below inside.
    let w = within_span first k n j few from below in
    let size : j - first * n < c.min-to.result - first * n = omega (arith, w.0, w.1, inside, many, c.min-to.ensures) in
    let e : first * n + (j - first * n) ≡ j = omega (arith, w.0) in
    ap (slice_index all) (sym e) ∙ (sym (c.part_of.ensures.each (j - first * n) size) ∙ c.are_zero.ensures c.if-are_zero.true (j - first * n) (omega (arith, size, c.part_of.ensures.len))) in
    c.put_ones.ensures.each k (omega (arith, l, c.put_ones.ensures.len)) ∙ sym (zero_cell table_key c.args.piece (first + k) g.row.PHASE all c.requires.piece (omega (arith, l, c.put_ones.ensures.len, c.requires.cells)) c.requires.phase (omega (arith, c.lanes-per_cell.ensures.few, lanes_are)) c.requires.values (subst (λ (z : ℕ). (j : ℕ) → (first + k) * z ≤ j → j < (first + k) * z + z → j < length all → slice_index all j ≡ 0) lanes_are zeros))

pub pack_words-requires-clause-values : goal.pack_words-requires-clause-values
pack_words-requires-clause-values g c = grind (arith, common_steps)

pub returns-clause-words : goal.returns-clause-words
returns-clause-words g c = grind (arith, common_steps)
