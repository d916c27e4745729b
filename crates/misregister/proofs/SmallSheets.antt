-- The sheets of the tests.
use Rattle.std.proofs.Common.{◌≡◌, ℕ}
use Rattle.page_model.specs.declared.parts.Plane.{Plane}
use Rattle.page_model.specs.Conditions.{IsPlane}

pub record IsSmall (w h : ℕ) (plane : Plane) : Type 0 where
  pub in_range : IsPlane plane
  pub as_wide : plane.width ≡ w
  pub as_tall : plane.height ≡ h
  pub as_deep : plane.maxval ≡ 255
