-- put_word: puts its defined word in cell o of a piece, whose first cells, o of them, have theirs.
use Rattle.std.proofs.Common.{◌+◌, ap, ◌∙◌, arith}
use Rattle.std.specs.Prelude.{slice_set}
use Rattle.band_core.specs.Layouts.{Layout}
use Rattle.band_core.specs.Places.{first_cell_of}
use Rattle.band_claims.specs.TableKeys.{shape_of}
use Rattle.band_claims.proofs.Steps.{small_word}
use Rattle.band_pieces.proofs.Cells.{has_at}
use Rattle.band_pieces.proofs.alone_puts.put_word.Goals as goal

pub overflow_add-first : goal.overflow_add-first
overflow_add-first c =
    let key = c.args.closed.now.table_key in let fit = c.layout.ensures.fits in
    let first = c.first_cell-first.ensures.value ∙ ap (λ (z : Layout). first_cell_of z c.args.piece) c.layout.ensures.same in
    omega (arith, first, (small_word key fit c.args.piece _ (has_at key c.args.piece c.args.o c.requires.piece c.requires.cell)).1)

pub set_cell-requires : goal.set_cell-requires
set_cell-requires c =
    let key = c.args.closed.now.table_key in let fit = c.layout.ensures.fits in
    let first = c.first_cell-first.ensures.value ∙ ap (λ (z : Layout). first_cell_of z c.args.piece) c.layout.ensures.same in
    omega (arith, first, (small_word key fit c.args.piece _ (has_at key c.args.piece c.args.o c.requires.piece c.requires.cell)).0)

pub returns : goal.returns
returns c =
    let key = c.args.closed.now.table_key in let s = c.set_cell.ensures in
    let first = c.first_cell-first.ensures.value ∙ ap (λ (z : Layout). first_cell_of z c.args.piece) c.layout.ensures.same in
    let word = c.requires.word in
    record {
      table_key = ap (λ z. z.table_key) s;
      lists = record { published = ap (λ z. z.published) s; seen = ap (λ z. z.seen) s; looked = ap (λ z. z.looked) s; reported = ap (λ z. z.reported) s; left = ap (λ z. z.left) s; workspace = ap (λ z. z.workspace) s };
      alone = ap (λ z. z.alone) s;
      words = ap (λ z. z.words) s ∙ (λ i. slice_set c.args.closed.now.words ((shape_of key).pieces + (first i + c.args.o)) (word i));
    }
