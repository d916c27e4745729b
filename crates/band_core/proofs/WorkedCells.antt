-- Cells that were worked out by hand.
use Rattle.std.proofs.Common.{◌≡◌, [], ◌∷◌, ◌+◌, refl}
use Rattle.lists.specs.Words.{list_below}
use Rattle.band_core.specs.Layouts.{Layout}
use Rattle.band_core.specs.Packing.{packed}
use Rattle.band_core.specs.Places.{cell_total, first_cell_of, piece_of_cell}

zones_cell : 1 + packed 8 (1 ∷ 0 ∷ 2 ∷ []) ≡ 131074
zones_cell = refl

edges_cell : 1 + packed 2 (1 ∷ 2 ∷ 3 ∷ []) ≡ 58
edges_cell = refl

columns_cell : 1 + packed 10 (0 ∷ 258 ∷ []) ≡ 264193
columns_cell = refl

traps_cell : 1 + packed 16 (255 ∷ 0 ∷ 128 ∷ []) ≡ 549755814144
traps_cell = refl

-- 8 by 3 samples in bands of 2 rows, 2 plates: 16 and 8 zones in 3 and 2 cells, marks in 1 and 1, 30 and 15 answers in 5 and 3, 32 and 16 tints in 11 and 6
abbrev small : Layout
small = record { bands = record { rows = 3; height = 2; count = 2; reach2 = 4 }; width = 8; plates = 2 }

cells_small : list_below (cell_total small) 8 ≡ 3 ∷ 2 ∷ 1 ∷ 1 ∷ 5 ∷ 3 ∷ 11 ∷ 6 ∷ []
unfolding cell_total
cells_small = refl

firsts_small : list_below (first_cell_of small) 8 ≡ 0 ∷ 3 ∷ 5 ∷ 6 ∷ 7 ∷ 12 ∷ 15 ∷ 26 ∷ []
unfolding cell_total
firsts_small = refl

pieces_small : list_below (piece_of_cell small) 8 ≡ 0 ∷ 0 ∷ 0 ∷ 1 ∷ 1 ∷ 2 ∷ 3 ∷ 4 ∷ []
unfolding cell_total piece_of_cell
pieces_small = refl
