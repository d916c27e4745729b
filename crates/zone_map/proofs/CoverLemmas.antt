-- Which zone covers a sample, kept zone by zone along the paths' windings.
use Rattle.std.proofs.Common.{◌≡◌, ◌∙◌, ap, ℕ, if◌then◌else◌, false, pos}
use Rattle.std.specs.Prelude.{ℤ, not}
use Rattle.std.specs.Ordering.{int_eq}
use Rattle.page_model.specs.declared.parts.At.{At}
use Rattle.page_model.specs.declared.parts.PageParts.{PageParts}
use Rattle.page_model.specs.Page.{path_at}
use Rattle.page_model.specs.Zones.{centre, covers, winding}
use Rattle.zone_map.proofs.TallyLemmas.{chosen}

-- a path covers no sample round which it does not wind
pub uncovered : (page : PageParts) (p : At) (z : ℕ) → winding page.resolution (centre page p) (path_at page z) ≡ pos 0 → covers page p z ≡ false
unfolding covers
uncovered page p z h = ap (λ (w : ℤ). not (int_eq w (pos 0))) h

pub covered : (page : PageParts) (p : At) (z old : ℕ) (w : ℤ) → w ≡ winding page.resolution (centre page p) (path_at page z) → (if int_eq w (pos 0) then old else z) ≡ (if covers page p z then z else old)
unfolding covers
covered page p z old w h = chosen (int_eq w (pos 0)) old z ∙ ap (λ (v : ℤ). if not (int_eq v (pos 0)) then z else old) h
