-- touches_row: whether a row has a black pixel in a column or beside it.
use Rattle.std.proofs.Common.{◌≡◌, ◌+◌, ◌-◌, ◌==◌, ◌≤◌, ◌<◌, ℕ, true, false, length, min, slice_index, sym, arith}
use Rattle.std.proofs.lemmas.Bool.Decides.{nat_tests}
use Rattle.keepaway.proofs.RowLemmas.{near_some, near_none}
use Rattle.keepaway.proofs.marks.touches_row.Goals as goal
use Rattle.keepaway.proofs.marks.touches_row.Goals.{then-x-length, else-x-length}

two_is : (n : ℕ) → n ≡ 2 → (n == 2) ≡ true
two_is n e = grind (arith, nat_tests)

not_two : (n : ℕ) → (n ≡ 2 → ⊥) → (n == 2) ≡ false
not_two n ne = grind (arith, nat_tests, ne)

pub returns-then-row-j-eq2 : goal.returns-then-row-j-eq2
returns-then-row-j-eq2 c =
    let inside : c.loop-j.j < length c.args.row.now = elim c.if-x-length.branch [ then-x-length w ↦ omega arith | else-x-length w ↦ omega arith ] in
    let below : c.loop-j.j ≤ c.args.x + 1 = elim c.if-x-length.branch [ then-x-length w ↦ omega arith | else-x-length w ↦ omega arith ] in
    sym (near_some c.args.x (length c.args.row.now) (λ (j : ℕ). slice_index c.args.row.now j == 2) c.loop-j.j inside (omega arith) (two_is (slice_index c.args.row.now c.loop-j.j) c.if-row-j-eq2.true))

pub returns : goal.returns
returns c =
    let last : c.if-x-length.last ≡ min (c.args.x + 2) (length c.args.row.now) = elim c.if-x-length.branch [ then-x-length w ↦ omega arith | else-x-length w ↦ omega arith ] in
    sym (near_none c.args.x (length c.args.row.now) (c.args.x - 1) c.if-x-length.last (λ (j : ℕ). slice_index c.args.row.now j == 2) (omega arith) last
    (λ k l m. not_two (slice_index c.args.row.now k) (c.loop-j.invariant k l (omega arith))))
