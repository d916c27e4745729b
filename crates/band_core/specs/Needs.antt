-- What a piece needs.
use Rattle.std.specs.Prelude.{ℕ, zero, suc, ◌+◌, Bool, false, ◌&&◌, ◌||◌, nat_le, ◌==◌}
use Rattle.page_model.specs.declared.bands.Bands.{Bands}
use Rattle.page_model.specs.Bands.{ceiling, phase_of, band_of}
use Rattle.page_model.specs.Columns.{halo}

-- how many bands above and below a band the reach of the page touches
abbrev pub halo_bands : Bands → ℕ
halo_bands bands = ceiling (halo bands.reach2) bands.height

-- the bands lie within the halo of one another
abbrev pub near_bands : Bands → ℕ → ℕ → Bool
near_bands bands a b = nat_le a (b + halo_bands bands) && nat_le b (a + halo_bands bands)

-- A piece of that phase of band b needs the piece of phase q of band a. Zones need nothing;
-- edges the zones of b and of the next band; columns the edges of each band within the halo of
-- b; traps the zones and the columns of b.
abbrev pub phase_needs : Bands → ℕ → ℕ → ℕ → ℕ → Bool
phase_needs bands zero b q a = false
phase_needs bands (suc zero) b q a = (q == 0) && (a == b || a == b + 1)
phase_needs bands (suc (suc zero)) b q a = (q == 1) && near_bands bands a b
phase_needs bands (suc (suc (suc phase))) b q a = (q == 0 || q == 2) && (a == b)

-- piece i needs piece n
unfoldable pub is_need : Bands → ℕ → ℕ → Bool
is_need bands i n =
    phase_needs bands (phase_of bands i) (band_of bands i) (phase_of bands n) (band_of bands n)
