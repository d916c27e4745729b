-- Products of differences of integers.
use Rattle.std.proofs.Common.{◌≡◌, ◌∙◌, ap, refl, ℕ, zero, suc, pos, arith}
use Rattle.std.specs.Prelude.{ℤ, negsuc, ◌+ℤ◌, ◌-ℤ◌, ◌*ℤ◌, neg_ℤ}
use Rattle.std.proofs.Math.IntN.{*ℤ_comm, *ℤ-zero, *ℤ-negsuc, suc_ℤ-*ℤ}
use Rattle.std.proofs.lemmas.Int.{ints}

times-suc : (m : ℤ) (r : ℕ) → m *ℤ pos (suc r) ≡ m *ℤ pos r +ℤ m
times-suc m r = *ℤ_comm m (pos (suc r)) ∙ suc_ℤ-*ℤ (pos r) m ∙ ap (λ (x : ℤ). x +ℤ m) (*ℤ_comm (pos r) m)

none-left : pos 0 ≡ pos 0 -ℤ pos 0
none-left = refl

one-more : (p a b x y : ℤ) → p ≡ x -ℤ y → p +ℤ (a -ℤ b) ≡ (x +ℤ a) -ℤ (y +ℤ b)
one-more p a b x y e = omega (arith, ints)

both-turned : (p x y : ℤ) → p ≡ x -ℤ y → neg_ℤ p ≡ neg_ℤ x -ℤ neg_ℤ y
both-turned p x y e = omega (arith, ints)

sub-times : (a b : ℤ) (r : ℕ) → (a -ℤ b) *ℤ pos r ≡ a *ℤ pos r -ℤ b *ℤ pos r
sub-times a b zero = rw (*ℤ-zero (a -ℤ b), *ℤ-zero a, *ℤ-zero b) none-left
sub-times a b (suc r) = rw (times-suc (a -ℤ b) r, times-suc a r, times-suc b r) (one-more ((a -ℤ b) *ℤ pos r) a b (a *ℤ pos r) (b *ℤ pos r) (sub-times a b r))

-- a product of a difference
pub sub-mul : (a b c : ℤ) → (a -ℤ b) *ℤ c ≡ (a *ℤ c) -ℤ (b *ℤ c)
sub-mul a b (pos r) = sub-times a b r
sub-mul a b (negsuc n) = rw (*ℤ-negsuc (a -ℤ b) n, *ℤ-negsuc a n, *ℤ-negsuc b n) (both-turned ((a -ℤ b) *ℤ pos (suc n)) (a *ℤ pos (suc n)) (b *ℤ pos (suc n)) (sub-times a b (suc n)))

pub mul-sub : (a b c : ℤ) → a *ℤ (b -ℤ c) ≡ (a *ℤ b) -ℤ (a *ℤ c)
mul-sub a b c = *ℤ_comm a (b -ℤ c) ∙ sub-mul b c a ∙ rw (*ℤ_comm b a, *ℤ_comm c a) refl
