-- What a board reads of a layout.
use Rattle.band_core.specs.Needs.{is_need}
use Rattle.band_core.specs.Layouts.{Layout}
use Rattle.band_core.specs.Places.{piece_count, cells_of, first_cell_of, cell_total}
use Rattle.band_core.specs.TableShapes.{Shape}

abbrev pub shape_of : Layout → Shape
shape_of layout =
    record {
      pieces = piece_count layout;
      cells = cells_of layout;
      start = first_cell_of layout;
      size = cell_total layout;
      needs = is_need layout.bands;
    }
