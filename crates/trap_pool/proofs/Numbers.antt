-- Line numbers in ascending order.
use Rattle.std.proofs.Common.{◌≡◌, ℕ, ◌+◌, ◌<◌, List, [], ◌∷◌, ◌++◌, sym, arith}
use mathlib.Core.Logic.{dite}
use native.Mathlib.Decide.{ℕ_discrete}
use Rattle.trap_pool.specs.Rule.{Ascends, IsAbove, times}
use Rattle.trap_pool.proofs.Keeps.{here, there}

times_after : (x : ℕ) (xs : List ℕ) (n : ℕ) → times x (xs ++ n ∷ []) ≡ times x xs + times x (n ∷ [])
times_after x [] n = omega arith
times_after x (y ∷ ys) n = let later = times_after x ys n in omega arith

-- what is above all and one more number
pub above_both : (xs : List ℕ) (n m : ℕ) → IsAbove n xs → n < m → IsAbove m (xs ++ n ∷ [])
above_both xs n m above less x some =
    let sum = times_after x xs n in
    dite (ℕ_discrete x n) (λ same. omega arith) (λ other.
    let none = there n x [] (λ e. other (sym e)) in
    let before : x < n = above x (omega arith) in
    omega arith)

pub ascends_more : (xs : List ℕ) (n : ℕ) → Ascends xs → IsAbove n xs → Ascends (xs ++ n ∷ [])
ascends_more [] n up above = (λ y some. absurd (omega arith), tt)
ascends_more (x ∷ xs) n up above = (
  λ y some.
      let sum = times_after y xs n in
      dite (ℕ_discrete y n)
      (λ same. let first : x < n = above x (let h = here x xs in omega arith) in omega arith)
      (λ other. let none = there n y [] (λ e. other (sym e)) in up.0 y (omega arith)),
  ascends_more xs n up.1 (λ y some. above y (omega arith)),
)
