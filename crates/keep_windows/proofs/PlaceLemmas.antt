-- Places of a window and of its sheet: which are near one another, and which lie how deep in the window.
use Rattle.std.proofs.Common.{◌≡◌, ℕ, ◌+◌, ◌-◌, ◌*◌, ◌<◌, ◌≤◌, inl, inr, arith}
use Rattle.std.proofs.lemmas.Bool.{cases_lt}
use Rattle.lists.specs.Words.{gap}
use Rattle.page_model.specs.declared.parts.At.{At}
use Rattle.page_model.specs.declared.parts.PageParts.{PageParts}
use Rattle.sheet_geometry.specs.declared.cuts.Cut.{Cut}
use Rattle.sheet_geometry.specs.WindowLaw.{IsInside}
use Rattle.sheet_geometry.proofs.Parts.{Lies}

pub lies_in : (cut : Cut) (x y : ℕ) → x < cut.width → y < cut.height → Lies cut (record { x = x; y = y })
lies_in cut x y l m = record { x = l; y = m }

pub lies_inside : (sheet : PageParts) (cut : Cut) (reach : ℕ) (p : At) → IsInside sheet cut reach p → Lies cut p
lies_inside sheet cut reach p inside = record { x = inside.x; y = inside.y }

-- a place on the sheet near a pixel is a place of the window, if the pixel has its halo there
pub place_in : (low size whole at n r : ℕ) → low + size ≤ whole → (0 < low → r ≤ at) → (low + size < whole → r + at + 1 ≤ size) → at < size → n < whole → gap (low + at) n ≤ r → (m : ℕ) × (n ≡ low + m) × (m < size)
place_in low size whole at n r fits before past inside on_page near =
    let begun : low ≤ n = elim (cases_lt 0 low) [ inl l ↦ let b = before l in omega arith | inr l ↦ omega arith ] in
    let ended : n < low + size = elim (cases_lt (low + size) whole) [ inl l ↦ let b = past l in omega arith | inr l ↦ omega arith ] in
    (n - low, omega arith, omega arith)

pub same_gap : (low a b : ℕ) → gap (low + a) (low + b) ≡ gap a b
same_gap low a b = omega arith

-- what lies as deep as one reach lies as deep as a lesser one
pub deeper : {reach : ℕ} (sheet : PageParts) (cut : Cut) (less : ℕ) (p : At) → less ≤ reach → IsInside sheet cut reach p → IsInside sheet cut less p
deeper sheet cut less p is inside = record {
  x = inside.x;
  y = inside.y;
  left = λ l. let b = inside.left l in omega arith;
  right = λ l. let b = inside.right l in omega arith;
  top = λ l. let b = inside.top l in omega arith;
  bottom = λ l. let b = inside.bottom l in omega arith;
}

-- a pixel as near as the radius to one that is deep in the window has its neighbours there
pub deep : (sheet : PageParts) (cut : Cut) (radius : ℕ) (p : At) (j k : ℕ) → IsInside sheet cut (2 * (radius + 1)) p → gap p.x j ≤ radius → gap p.y k ≤ radius → j < cut.width → k < cut.height → IsInside sheet cut 2 (record { x = j; y = k })
deep sheet cut radius p j k inside near_x near_y in_row on_page = record {
  x = in_row;
  y = on_page;
  left = λ l. let b = inside.left l in omega arith;
  right = λ l. let b = inside.right l in omega arith;
  top = λ l. let b = inside.top l in omega arith;
  bottom = λ l. let b = inside.bottom l in omega arith;
}
