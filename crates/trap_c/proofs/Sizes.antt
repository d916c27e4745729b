-- Rows one after the other lie within all samples.
use Rattle.std.proofs.Common.{◌≡◌, ℕ, ◌+◌, ◌-◌, ◌*◌, ◌<◌, ◌≤◌, ap, ◌∙◌, arith}

-- what lies in a row of all lies within all
pub row_inside : (r rows step width total : ℕ) → r < rows → width ≤ step → rows * step ≤ total → r * step + width ≤ total
row_inside r rows step width total l apart inside = (let d = rows - (r + 1) in let n : rows ≡ r + 1 + d = omega (arith, l) in plain d n) where
  plain : (d : ℕ) → rows ≡ r + 1 + d → r * step + width ≤ total
  plain d n = (let whole : rows * step ≡ (r + 1 + d) * step = ap (λ (k : ℕ). k * step) n in omega (arith, whole))

-- the rows of plane c lie within those of all
pub plane_inside : (c count height step total : ℕ) → c < count → total ≡ count * height * step → (c * height + height) * step ≤ total
plane_inside c count height step total l e = (let d = count - (c + 1) in let n : count ≡ c + 1 + d = omega (arith, l) in plain d n) where
  plain : (d : ℕ) → count ≡ c + 1 + d → (c * height + height) * step ≤ total
  plain d n = (let whole : total ≡ (c + 1 + d) * height * step = e ∙ ap (λ (k : ℕ). k * height * step) n in omega (arith, whole))

-- and those of one plane before those of a later one
pub plane_before : (j c height : ℕ) → j < c → j * height + height ≤ c * height
plane_before j c height l = (let d = c - (j + 1) in let n : c ≡ j + 1 + d = omega (arith, l) in plain d n) where
  plain : (d : ℕ) → c ≡ j + 1 + d → j * height + height ≤ c * height
  plain d n = (let whole : c * height ≡ (j + 1 + d) * height = ap (λ (k : ℕ). k * height) n in omega (arith, whole))

pub times_le : (a b step : ℕ) → a ≤ b → a * step ≤ b * step
times_le a b step l = (let d = b - a in let n : b ≡ a + d = omega (arith, l) in plain d n) where
  plain : (d : ℕ) → b ≡ a + d → a * step ≤ b * step
  plain d n = (let whole : b * step ≡ (a + d) * step = ap (λ (k : ℕ). k * step) n in omega (arith, whole))
