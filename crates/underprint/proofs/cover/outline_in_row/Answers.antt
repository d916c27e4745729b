-- bare_in_row: whether a row has a pixel without colour in a column or beside it.
use Rattle.std.proofs.Common.{◌≡◌, ◌+◌, ◌-◌, ◌==◌, ◌&&◌, ◌≤◌, ◌<◌, ◌⊎◌, ℕ, Bool, not, true, false, length, min, slice_index, refl, sym, inl, inr, arith}
use Rattle.std.proofs.lemmas.Bool.Decides.{nat_tests}
use Rattle.keepaway.proofs.RowLemmas.{near_some, near_none}
use Rattle.underprint.proofs.cover.outline_in_row.Goals as goal
use Rattle.underprint.proofs.cover.outline_in_row.Goals.{then-x-length, else-x-length}

eq_is : (a b : ℕ) → a ≡ b → (a == b) ≡ true
eq_is a b e = grind (arith, nat_tests)

eq_not : (a b : ℕ) → (a ≡ b → ⊥) → (a == b) ≡ false
eq_not a b ne = grind (arith, nat_tests, ne)

both : (a b : Bool) → a ≡ true → b ≡ true → (a && b) ≡ true
both true b p q = q
both false b p q = p

-- a pixel that is not left out
counts : (a b : Bool) → (a ≡ false) ⊎ (b ≡ false) → not (a && b) ≡ true
counts true true (inl e) = absurd (cc)
counts true true (inr e) = absurd (cc)
counts true false e = refl
counts false b e = refl

other : (left_out : Bool) (j x : ℕ) → ((left_out ≡ true) × (j ≡ x → ⊥)) ⊎ (left_out ≡ false) → not (left_out && (j == x)) ≡ true
other left_out j x (inl h) = counts left_out (j == x) (inr (eq_not j x h.1))
other left_out j x (inr e) = counts left_out (j == x) (inl e)

pub returns-then-row-j-eq0 : goal.returns-then-row-j-eq0
returns-then-row-j-eq0 c =
    let inside : c.loop-j.j < length c.args.row.now = elim c.if-x-length.branch [ then-x-length w ↦ omega arith | else-x-length w ↦ omega arith ] in
    let below : c.loop-j.j ≤ c.args.x + 1 = elim c.if-x-length.branch [ then-x-length w ↦ omega arith | else-x-length w ↦ omega arith ] in
    sym (near_some c.args.x (length c.args.row.now) (λ (j : ℕ). not (c.args.left_out && (j == c.args.x)) && (slice_index c.args.row.now j == 0)) c.loop-j.j inside (omega arith)
    (both (not (c.args.left_out && (c.loop-j.j == c.args.x))) (slice_index c.args.row.now c.loop-j.j == 0) (other c.args.left_out c.loop-j.j c.args.x c.if-not-j-x.either) (eq_is (slice_index c.args.row.now c.loop-j.j) 0 c.if-row-j-eq0.true)))

pub returns : goal.returns
returns c =
    let last : c.if-x-length.last ≡ min (c.args.x + 2) (length c.args.row.now) = elim c.if-x-length.branch [ then-x-length w ↦ omega arith | else-x-length w ↦ omega arith ] in
    sym (near_none c.args.x (length c.args.row.now) (c.args.x - 1) c.if-x-length.last (λ (j : ℕ). not (c.args.left_out && (j == c.args.x)) && (slice_index c.args.row.now j == 0)) (omega arith) last
    (λ k l m. c.loop-j.invariant k l (omega arith)))
