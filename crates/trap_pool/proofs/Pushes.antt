-- Lines that are pushed in order.
use Rattle.std.proofs.Common.{ℕ, zero, suc, ◌<◌, List, [], ◌∷◌, length, take, slice_index_or, subst, arith}
use mathlib.Core.Logic.{dite}
use native.Mathlib.Decide.{ℕ_discrete}
use Rattle.trap_pool.specs.Rule.{times, IsAbove, Ascends}
use Rattle.trap_pool.proofs.Keeps.{here, there}

there_at : (xs : List ℕ) (k d : ℕ) → k < length xs → 0 < times (slice_index_or xs k d) xs
there_at [] k d workspace = absurd (omega arith)
there_at (x ∷ xs) zero d workspace = let h = here x xs in omega arith
there_at (x ∷ xs) (suc k) d workspace = let h = there_at xs k d (omega arith) in omega arith

-- in a list that ascends, each line is above those before it
pub above_next : (xs : List ℕ) (k d : ℕ) → Ascends xs → k < length xs → IsAbove (slice_index_or xs k d) (take k xs)
above_next [] k d a workspace = absurd (omega arith)
above_next (x ∷ xs) zero d a workspace = λ y some. absurd (omega arith)
above_next (x ∷ xs) (suc k) d a workspace = λ y some. dite (ℕ_discrete x y)
    (λ e. subst (λ z. z < slice_index_or xs k d) e (a.0 (slice_index_or xs k d) (there_at xs k d (omega arith))))
    (λ ne. above_next xs k d a.1 (omega arith) y (let p = there x y (take k xs) ne in omega arith))
