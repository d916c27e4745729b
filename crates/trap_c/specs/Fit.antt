-- What the arguments of a call have to be, and what the tints have to be.
use Rattle.std.specs.Prelude.{◌≡◌, ℕ, ◌*◌, ◌<◌, ◌≤◌, Bool, ◌==◌, ◌&&◌, nat_le, nat_lt}
use Rattle.std.specs.Prelude.{if◌then◌else◌, List, length, slice_index, Option, Some, None}
use Rattle.std.specs.List.{position}
use Rattle.lists.specs.Words.{first_some}
use Rattle.page_model.specs.declared.parts.Plane.{Plane}
use Rattle.page_model.specs.Limits.{most_maxval, most_plates, most_samples, most_side}
use Rattle.page_model.specs.Planes.{plane_at}
use Rattle.pgm_plates.specs.declared.plate.PlateFault.TheVariants.{SampleAboveMaxval}
use Rattle.common_errors.specs.declared.common.CommonError.{CommonError}
use Rattle.common_errors.specs.declared.common.CommonError.TheVariants.{Plate}
use Rattle.trap_c.specs.declared.layout.Layout.{Layout}
use Rattle.trap_c.specs.declared.error.CallFault.{CallFault}
use Rattle.trap_c.specs.declared.error.CallFault.TheVariants.{Names, Sides, Step, Maxval, Samples}
use Rattle.trap_c.specs.Names.{are_names}
use Rattle.trap_c.specs.Planes.{size}

-- a side that a plane may have
abbrev pub is_side : ℕ → Bool
is_side n = nat_le 1 n && nat_le n most_side

-- sides that a plane may have
abbrev pub are_sides : Layout → Bool
are_sides layout =
    is_side layout.width && is_side layout.height && nat_le (size layout) most_samples

-- a maxval from 1 on, that the samples' type holds
abbrev pub is_maxval : ℕ → ℕ → Bool
is_maxval most maxval = nat_le 1 maxval && nat_le maxval most

-- the first fault of the arguments: `count` samples, of a type that holds numbers up to `most`
abbrev pub call_fault : ℕ → List (List ℕ) → Layout → ℕ → Option CallFault
call_fault most names layout count =
    if are_names names then
    (if are_sides layout then
    (if nat_le layout.width layout.step then
    (if is_maxval most layout.maxval then
    (if count == length names * layout.height * layout.step then None
    else Some Samples) else Some Maxval) else Some Step) else Some Sides) else Some Names

-- Sides that a plane may have.
pub record AreSides (layout : Layout) : Type 0 where
  pub some_width : 1 ≤ layout.width
  pub narrow : layout.width ≤ most_side
  pub some_height : 1 ≤ layout.height
  pub low : layout.height ≤ most_side
  pub product : size layout ≤ most_samples

-- Sides and a maxval that a plane may have, and rows that lie apart.
pub record IsLayout (layout : Layout) : Type 0 where
  pub sides : AreSides layout
  pub apart : layout.width ≤ layout.step
  pub some_maxval : 1 ≤ layout.maxval
  pub maxval_fits : layout.maxval ≤ most_maxval

-- A call whose arguments have no fault.
pub record IsCall (names : List (List ℕ)) (layout : Layout) (count : ℕ) : Type 0 where
  pub some : 1 ≤ length names
  pub few : length names ≤ most_plates
  pub laid_out : IsLayout layout
  pub all : count ≡ length names * layout.height * layout.step

-- No tint is above the maxval.
abbrev pub AreFit : ℕ → List ℕ → Type 0
AreFit maxval tints = (k : ℕ) → k < length tints → slice_index tints k ≤ maxval

-- No tint of any plane is above the plane's maxval.
abbrev pub ArePlanesFit : List Plane → Type 0
ArePlanesFit planes =
    (c : ℕ) → c < length planes → AreFit (plane_at planes c).maxval (plane_at planes c).tints

-- a tint above the maxval, at that place of plane c
abbrev pub above_at : ℕ → Option ℕ → Option CommonError
above_at c None = None
above_at c (Some at) = Some (Plate c (SampleAboveMaxval at))

-- the first tint of plane c that is above its maxval
abbrev pub above_in : List Plane → ℕ → Option CommonError
above_in planes c =
    above_at c (position (λ t. nat_lt (plane_at planes c).maxval t) (plane_at planes c).tints)

-- the first of all planes
abbrev pub first_above : List Plane → Option CommonError
first_above planes = first_some (above_in planes) (length planes)

-- A plane in range, but for tints above its maxval.
pub record IsFull (layout : Layout) (plane : Plane) : Type 0 where
  pub wide : plane.width ≡ layout.width
  pub tall : plane.height ≡ layout.height
  pub deep : plane.maxval ≡ layout.maxval
  pub full : length plane.tints ≡ size layout
