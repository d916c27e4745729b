-- are_zero: whether all values are 0.
use Rattle.std.proofs.Common.{◌≡◌, ℕ, ◌+◌, ◌<◌, Bool, true, false, ◌&&◌, List, slice_index, nat_eq, refl, sym, ap, ◌∙◌, inl, inr, arith}
use Rattle.std.proofs.lemmas.Bool.{cases_eq, eqb-true, false≢true}
use Rattle.band_core.proofs.Numbers.{number_read}
use Rattle.band_claims.proofs.putting.are_zero.Goals as goal

both : (a b : Bool) → (a && b) ≡ true → (a ≡ true) × (b ≡ true)
both true b e = (refl, e)
both false b e = absurd (false≢true e)

one_more : (all : Bool) (k x : ℕ) (vs : List ℕ) → (all && nat_eq x 0) ≡ true → x ≡ slice_index vs k → (all ≡ true → (j : ℕ) → j < k → slice_index vs j ≡ 0) → (j : ℕ) → j < k + 1 → slice_index vs j ≡ 0
one_more all k x vs e is before j l =
    let two = both all (nat_eq x 0) e in elim (cases_eq j k) [
      | inl same ↦ ap (slice_index vs) same ∙ (sym is ∙ eqb-true x 0 two.1)
      | inr other ↦ before two.0 j (omega (arith, l, other))
    ]

pub loop-k-preserved : goal.loop-k-preserved
loop-k-preserved g c =
    let read = c.to_u64.ensures ∙ number_read g.met.V.CellValue.each c.args.values.now c.loop-k.k c.index-values-k.result (omega (arith, c.loop-k-test.true)) c.index-values-k.is in
    λ e j l. one_more c.loop-k.all c.loop-k.k c.to_u64.result (g.V.CellValue.numbers c.args.values.now) e read c.loop-k.invariant j l
