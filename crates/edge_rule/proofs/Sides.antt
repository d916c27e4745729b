-- The samples beside the edge to the right of a sample, and beside the one below it.
use Rattle.std.proofs.Common.{◌≡◌, refl, ℕ, ◌+◌, ◌*◌, ◌/◌, ◌%◌, ◌<◌, arith}
use Rattle.page_model.specs.declared.parts.PageParts.{PageParts}
use Rattle.page_model.specs.Edges.{IsEdge, first, second}
use Rattle.page_model.specs.Page.{height, width}

half_even : (n : ℕ) → (2 * n) / 2 ≡ n
half_even n = omega arith

half_odd : (n : ℕ) → (2 * n + 1) / 2 ≡ n
half_odd n = omega arith

half_next : (n : ℕ) → (2 * n + 1 + 1) / 2 ≡ n + 1
half_next n = omega arith

odd_across : (x y : ℕ) → ((2 * x + 1) + (2 * y)) % 2 ≡ 1
odd_across x y = omega arith

odd_down : (x y : ℕ) → ((2 * x) + (2 * y + 1)) % 2 ≡ 1
odd_down x y = omega arith

pub first-right : (x y : ℕ) → first (record { x2 = 2 * x + 1; y2 = 2 * y }) ≡ record { x = x; y = y }
first-right x y = rw (half_odd x, half_even y) refl

pub second-right : (x y : ℕ) → second (record { x2 = 2 * x + 1; y2 = 2 * y }) ≡ record { x = x + 1; y = y }
second-right x y = rw (half_next x, half_odd y) refl

pub first-lower : (x y : ℕ) → first (record { x2 = 2 * x; y2 = 2 * y + 1 }) ≡ record { x = x; y = y }
first-lower x y = rw (half_even x, half_odd y) refl

pub second-lower : (x y : ℕ) → second (record { x2 = 2 * x; y2 = 2 * y + 1 }) ≡ record { x = x; y = y + 1 }
second-lower x y = rw (half_odd x, half_next y) refl

pub right-edge : (page : PageParts) (x y : ℕ) → x + 1 < width page → y < height page → IsEdge page (record { x2 = 2 * x + 1; y2 = 2 * y })
right-edge page x y h k = record { one_odd = odd_across x y; across_page = omega (arith, h); down_page = omega (arith, k) }

pub lower-edge : (page : PageParts) (x y : ℕ) → x < width page → y + 1 < height page → IsEdge page (record { x2 = 2 * x; y2 = 2 * y + 1 })
lower-edge page x y h k = record { one_odd = odd_down x y; across_page = omega (arith, h); down_page = omega (arith, k) }

-- the edges of a sample's right and lower sides, and the samples beside them
pub ruleset sides = (first-right, second-right, first-lower, second-lower, right-edge, lower-edge)
