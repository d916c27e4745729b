-- Layout::first_cell: the number of the first cell of a piece.
use Rattle.std.proofs.lemmas.Grind.{common_steps}
use Rattle.std.proofs.Common.{◌≡◌, ℕ, ◌+◌, ◌*◌, ap, subst, arith}
use Rattle.page_model.specs.Bands.{phase_of, band_of}
use Rattle.page_model.proofs.BandLemmas.{band-less, piece-is}
use Rattle.band_core.specs.Layouts.{Layout, IsLayout}
use Rattle.band_core.specs.Places.{first_cell_of, cells_in}
use Rattle.band_core.proofs.Places.{before_band}
use Rattle.band_core.proofs.layout.Layout.first_cell.Goals as goal

-- the phases before, and the bands before in its phase
abbrev Joins : Layout → Layout → ℕ → ℕ → ℕ → Type 0
Joins inside layout i a b = a ≡ first_cell_of layout (phase_of inside.bands i * layout.bands.count) → b ≡ band_of inside.bands i * cells_in layout (phase_of inside.bands i) layout.bands.height → a + b ≡ first_cell_of layout i

joined : (layout : Layout) (i a b : ℕ) → IsLayout layout → Joins layout layout i a b
joined layout i a b is = λ phases bands.
    let before = before_band layout (phase_of layout.bands i) (band_of layout.bands i) is.bands (band-less layout.bands i is.bands) in
    omega (arith, phases, bands, before, ap (first_cell_of layout) (piece-is layout.bands i))

pub returns-clause-value : goal.returns-clause-value
returns-clause-value c =
    let inside : Layout = record { bands = c.self.inside.bands; width = c.self.inside.width; plates = c.self.inside.plates } in
    subst (λ (l : Layout). Joins inside l c.args.piece c.before_phase.result c.before_band.result) c.self.view_is (joined inside c.args.piece c.before_phase.result c.before_band.result c.self.invariant) c.before_phase.ensures.value c.before_band.ensures.value

pub returns-clause-bound : goal.returns-clause-bound
returns-clause-bound c = grind (arith, common_steps)
