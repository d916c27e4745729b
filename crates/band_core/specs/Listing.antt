-- How the needs of a piece are found without a search of all pieces. No public clause rests on it.
use Rattle.std.specs.Prelude.{ℕ, ◌+◌, ◌-◌, ◌*◌, ◌==◌, nat_lt, min, if◌then◌else◌}
use Rattle.page_model.specs.declared.bands.Bands.{Bands}
use Rattle.page_model.specs.Bands.{phase_of, band_of}
use Rattle.band_core.specs.Needs.{halo_bands}

-- the first and the last band within the halo
abbrev pub lowest_band : Bands → ℕ → ℕ
lowest_band bands b = b - halo_bands bands

abbrev pub highest_band : Bands → ℕ → ℕ
highest_band bands b = min (b + halo_bands bands) (bands.count - 1)

-- how many needs a piece of a phase and band has, and its k-th need, from 0
abbrev pub needs_of_phase : Bands → ℕ → ℕ → ℕ
needs_of_phase bands phase b =
    if phase == 0 then 0
    else if phase == 1 then (if nat_lt (b + 1) bands.count then 2 else 1)
    else if phase == 2 then highest_band bands b + 1 - lowest_band bands b
    else 2

abbrev pub need_of_phase : Bands → ℕ → ℕ → ℕ → ℕ
need_of_phase bands phase b k =
    if phase == 1 then b + k
    else if phase == 2 then bands.count + lowest_band bands b + k
    else if k == 0 then b else 2 * bands.count + b

unfoldable pub need_total : Bands → ℕ → ℕ
need_total bands i = needs_of_phase bands (phase_of bands i) (band_of bands i)

unfoldable pub need_number : Bands → ℕ → ℕ → ℕ
need_number bands i k = need_of_phase bands (phase_of bands i) (band_of bands i) k
