-- Needs that were worked out by hand.
use Rattle.std.proofs.Common.{◌≡◌, ℕ, zero, suc, ◌++◌, List, [], ◌∷◌, refl}
use Rattle.std.specs.Prelude.{if◌then◌else◌}
use Rattle.page_model.specs.declared.bands.Bands.{Bands}
use Rattle.page_model.specs.Bands.{ceiling, rows_in}
use Rattle.band_core.specs.Needs.{halo_bands, is_need}

abbrev cut_up : ℕ → ℕ → ℕ → Bands
cut_up rows height reach2 = record { rows = rows; height = height; count = ceiling rows height; reach2 = reach2 }

-- in bands of that height: for a reach of 0, 1, 2, 255 and 256 half-samples
abbrev halos : ℕ → List ℕ
halos height = halo_bands (cut_up 12288 height 0) ∷ halo_bands (cut_up 12288 height 1) ∷ halo_bands (cut_up 12288 height 2) ∷ halo_bands (cut_up 12288 height 255) ∷ halo_bands (cut_up 12288 height 256) ∷ []

halos_1 : halos 1 ≡ 0 ∷ 1 ∷ 1 ∷ 128 ∷ 128 ∷ []
halos_1 = refl

halos_4 : halos 4 ≡ 0 ∷ 1 ∷ 1 ∷ 32 ∷ 32 ∷ []
halos_4 = refl

halos_64 : halos 64 ≡ 0 ∷ 1 ∷ 1 ∷ 2 ∷ 2 ∷ []
halos_64 = refl

halos_4096 : halos 4096 ≡ 0 ∷ 1 ∷ 1 ∷ 1 ∷ 1 ∷ []
halos_4096 = refl

-- the needs of a piece
abbrev needs_below : Bands → ℕ → ℕ → List ℕ
needs_below bands i zero = []
needs_below bands i (suc n) = needs_below bands i n ++ (if is_need bands i n then n ∷ [] else [])

columns_12_1 : needs_below (cut_up 12 1 10) 24 48 ≡ 12 ∷ 13 ∷ 14 ∷ 15 ∷ 16 ∷ 17 ∷ []
unfolding is_need
columns_12_1 = refl

columns_12_4 : needs_below (cut_up 12 4 10) 6 12 ≡ 3 ∷ 4 ∷ 5 ∷ []
unfolding is_need
columns_12_4 = refl

columns_12_4096 : needs_below (cut_up 12 4096 10) 2 4 ≡ 1 ∷ []
unfolding is_need
columns_12_4096 = refl

columns_5_2 : needs_below (cut_up 5 2 0) 6 12 ≡ 3 ∷ []
unfolding is_need
columns_5_2 = refl

-- zones need nothing, edges the zones of this band and of the next one, traps the zones and the columns
zones_5_2 : needs_below (cut_up 5 2 0) 1 12 ≡ []
unfolding is_need
zones_5_2 = refl

edges_5_2 : needs_below (cut_up 5 2 0) 4 12 ≡ 1 ∷ 2 ∷ []
unfolding is_need
edges_5_2 = refl

last_edges_5_2 : needs_below (cut_up 5 2 0) 5 12 ≡ 2 ∷ []
unfolding is_need
last_edges_5_2 = refl

traps_5_2 : needs_below (cut_up 5 2 0) 10 12 ≡ 1 ∷ 7 ∷ []
unfolding is_need
traps_5_2 = refl

last_band : rows_in (cut_up 5 2 0) 2 ≡ 1
last_band = refl
