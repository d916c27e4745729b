-- Planes of one shape.
use Rattle.std.specs.Prelude.{◌≡◌, ℕ, ◌*◌, ◌≤◌, List, length, All}
use Rattle.page_model.specs.declared.parts.Plane.{Plane}
use Rattle.page_model.specs.Conditions.{IsPlane}
use Rattle.page_model.specs.Limits.{most_plates, most_samples}
use Rattle.page_model.specs.Planes.{plane_at}

-- the samples of a row of planes that are of one shape
abbrev pub wide : List Plane → ℕ
wide planes = (plane_at planes 0).width

-- their rows
abbrev pub tall : List Plane → ℕ
tall planes = (plane_at planes 0).height

-- their tint of full ink
abbrev pub deep : List Plane → ℕ
deep planes = (plane_at planes 0).maxval

-- a plane with the sides and the maxval of these planes
pub record IsLike (planes : List Plane) (plane : Plane) : Type 0 where
  pub as_wide : plane.width ≡ wide planes
  pub as_tall : plane.height ≡ tall planes
  pub as_deep : plane.maxval ≡ deep planes

-- as many planes as a page may have, each in range, alike, and together with no more samples than a
-- page may have
pub record AreOneShape (planes : List Plane) : Type 0 where
  pub some : 1 ≤ length planes
  pub few : length planes ≤ most_plates
  pub in_range : All IsPlane planes
  pub alike : All (IsLike planes) planes
  pub few_samples : wide planes * tall planes * length planes ≤ most_samples
