-- The shape of a layout.
use Rattle.std.proofs.Common.{ℕ, suc, arith}
use Rattle.band_core.proofs.NeedLemmas.{need_less}
use Rattle.band_core.specs.Layouts.{Layout}
use Rattle.band_core.specs.Layouts.{IsLayout}
use Rattle.band_core.specs.Places.{HasCell, piece_count, cell_total}
use Rattle.band_core.proofs.Sums.{sum_at_most}
use Rattle.band_core.specs.Shapes.{shape_of}
use Rattle.band_core.specs.TableShapes.{IsShape, Has}

pub is_shape : (layout : Layout) → IsLayout layout → IsShape (shape_of layout)
is_shape layout is = record {
  in_order = λ i j l m. sum_at_most (cell_total layout) (suc i) j (omega (arith, l));
  inside = λ i l. sum_at_most (cell_total layout) (suc i) (piece_count layout) (omega (arith, l));
  earlier = λ i n l need. need_less layout.bands i n is.bands need;
}

pub has_cell : (layout : Layout) (i j : ℕ) → Has (shape_of layout) i j → HasCell layout i j
has_cell layout i j h = record { from = h.from; below = h.below }
