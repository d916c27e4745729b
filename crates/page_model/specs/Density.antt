-- How dark a sample is, and which samples are shut.
use Rattle.std.specs.Prelude.{ℕ, ◌*◌, Bool, true, false, ◌&&◌, nat_lt, if◌then◌else◌}
use Rattle.page_model.specs.declared.parts.At.{At}
use Rattle.page_model.specs.declared.parts.InkKind.{InkKind}
use Rattle.page_model.specs.declared.parts.InkKind.TheVariants.{Normal, Transparent, Opaque}
use Rattle.page_model.specs.declared.parts.InkKind.TheVariants.{OpaqueIgnore}
use Rattle.page_model.specs.declared.parts.PageParts.{PageParts}
use Rattle.page_model.specs.Page.{ink_at, plates, tint}
use Rattle.lists.specs.Words.{sum_below, any_below}

-- whether an ink adds to the density
abbrev pub counts : InkKind → Bool
counts Normal = true
counts Opaque = true
counts Transparent = false
counts OpaqueIgnore = false

-- whether an ink spreads into its neighbours
abbrev pub spreads : InkKind → Bool
spreads Normal = true
spreads Transparent = false
spreads Opaque = false
spreads OpaqueIgnore = false

-- whether an ink shuts the samples that it covers
abbrev pub shuts : InkKind → Bool
shuts OpaqueIgnore = true
shuts Normal = false
shuts Transparent = false
shuts Opaque = false

-- whether plate c's ink counts
abbrev pub plate_counts : PageParts → ℕ → Bool
plate_counts page c = counts (ink_at page c).kind

-- what a unit of tint of plate c adds to the density
abbrev pub weight : PageParts → ℕ → ℕ
weight page c = if plate_counts page c then (ink_at page c).density else 0

-- the neutral density of tints that are given by plate
abbrev pub density_of : PageParts → (ℕ → ℕ) → ℕ
density_of page tints = sum_below (λ c. weight page c * tints c) (plates page)

-- the neutral density of a sample
abbrev pub density : PageParts → At → ℕ
density page p = density_of page (λ c. tint page c p)

-- a sample is shut where an OpaqueIgnore ink lies on it: it is neither trapped nor trapped into
abbrev pub shut : PageParts → At → Bool
shut page p = any_below (λ c. shuts (ink_at page c).kind && nat_lt 0 (tint page c p)) (plates page)
