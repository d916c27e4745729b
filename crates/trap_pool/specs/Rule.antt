-- The rule of the queue of line numbers: what it holds, and what each pass has pushed and taken.
use Rattle.std.specs.Prelude.{◌≡◌, ℕ, ◌+◌, ◌<◌, ◌≤◌, Bool, true, false, List, [], ◌∷◌, ⊤, eqb}
use mathlib.Core.Option.{some}
use lib.ListN.{get_elem?}
use Rattle.trap_pool.specs.declared.rule.PassView.{PassView}

-- the parts of all passes together: a pass that has them all is the only one that can have pushed
-- or taken
abbrev pub whole : ℕ
whole = 1024

abbrev pub pass_view : ℕ → Bool → List ℕ → List ℕ → PassView
pass_view parts mark pushed taken = record {
  parts = parts;
  mark = mark;
  pushed = pushed;
  taken = taken;
}

abbrev pub one_if : Bool → ℕ
one_if true = 1
one_if false = 0

-- how often the line stands in the list
abbrev pub times : ℕ → List ℕ → ℕ
times line [] = 0
times line (x ∷ xs) = one_if (eqb x line) + times line xs

-- the number of each view, added up
abbrev pub total : (PassView → ℕ) → List PassView → ℕ
total f [] = 0
total f (v ∷ vs) = f v + total f vs

-- the line is above each one of the list
abbrev pub IsAbove : ℕ → List ℕ → Type 0
IsAbove line xs = (x : ℕ) → 0 < times x xs → x < line

-- each line is below all that come after it
abbrev pub Ascends : List ℕ → Type 0
Ascends [] = ⊤
Ascends (x ∷ xs) = ((y : ℕ) → 0 < times y xs → x < y) × Ascends xs

-- both pass views in one
abbrev pub either_mark : Bool → Bool → Bool
either_mark true b = true
either_mark false b = b

-- what holds of each pass alone: without the mark it has pushed nothing, what it pushed ascends,
-- and with no part it has taken nothing
abbrev pub IsOrderly : PassView → Type 0
IsOrderly v = (v.mark ≡ false → v.pushed ≡ []) × Ascends v.pushed × (v.parts ≡ 0 → v.taken ≡ [])

-- the rule
pub record IsKept (items : List ℕ) (views : List PassView) : Type 0 where
  -- the lines in the queue ascend
  pub ascends : Ascends items
  -- those in the queue and in all taken lists together are those that were pushed
  pub balance : (line : ℕ)
      → times line items + total (λ v. times line v.taken) views
      ≡ total (λ v. times line v.pushed) views
  -- each once
  pub once : (line : ℕ) → total (λ v. times line v.pushed) views ≤ 1
  -- at most one pass bears the mark
  pub mark : total (λ v. one_if v.mark) views ≤ 1
  pub orderly : (port : ℕ) (v : PassView) → get_elem? views port ≡ some v → IsOrderly v
  pub parts : total (λ v. v.parts) views ≡ whole

-- what a pass knows of the lines in the queue at one moment: they ascend and each stands once; with
-- the mark, they are of those that it pushed;
-- with every part, what it pushed is what it took and what the queue holds
abbrev pub Known : PassView → List ℕ → Type 0
Known v items = Ascends items
    × (v.mark ≡ true → (line : ℕ) → times line items ≤ times line v.pushed)
    × (v.mark ≡ true → v.parts ≡ whole → (line : ℕ)
    → times line v.pushed ≡ times line v.taken + times line items)
