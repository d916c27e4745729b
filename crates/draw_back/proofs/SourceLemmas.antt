-- The sources of a pixel, row by row.
use Rattle.std.proofs.Common.{◌≡◌, ℕ, ◌+◌, ◌*◌, ◌<◌, ◌≤◌, ◌==◌, Bool, true, false, ◌&&◌, nat_le, List, slice_index, refl, inl, inr, arith}
use Rattle.std.proofs.lemmas.Bool.{cases_lt}
use Rattle.std.proofs.lemmas.Bool.Decides.{nat_tests}
use Rattle.std.proofs.lemmas.Nat.{mul-le}
use Rattle.lists.specs.Words.{gap, square}
use Rattle.draw_back.specs.Drawn.{Scene, distance2, drawn, is_source}
use Rattle.draw_back.specs.Fields.{Lists, entry, scene_of}
use Rattle.draw_back.specs.Lowers.{Lowers, IsOfSource}
use Rattle.draw_back.proofs.DrawnLemmas.{drawn_only}

-- the two parts of a source
both : (a b : Bool) → (a && b) ≡ true → (a ≡ true) × (b ≡ true)
both true true e = (refl, refl)
both true false e = absurd (cc)
both false b e = absurd (cc)

pub source_free : (s : Scene) (x y j k : ℕ) → is_source s x y j k ≡ true → s.is_free j k ≡ true
source_free s x y j k e = (both (s.is_free j k) (nat_le (distance2 x y j k) s.limit) e).0

pub source_near : (s : Scene) (x y j k : ℕ) → is_source s x y j k ≡ true → distance2 x y j k ≤ s.limit
source_near s x y j k e = let n : nat_le (distance2 x y j k) s.limit ≡ true = (both (s.is_free j k) (nat_le (distance2 x y j k) s.limit) e).1 in grind (arith, nat_tests)

pub source_of : (s : Scene) (x y j k : ℕ) → s.is_free j k ≡ true → distance2 x y j k ≤ s.limit → is_source s x y j k ≡ true
source_of s x y j k free near = rw free (within near)
  where
    within : distance2 x y j k ≤ s.limit → (true && nat_le (distance2 x y j k) s.limit) ≡ true
    within near = grind (arith, nat_tests)

pub free_is : (n : ℕ) → (n == 0) ≡ true → n ≡ 0
free_is n e = grind (arith, nat_tests)

pub is_free : (n : ℕ) → n ≡ 0 → (n == 0) ≡ true
is_free n e = rw e refl

-- a number whose square is small is small
pub root_small : (a r limit : ℕ) → square a ≤ limit → limit < square (r + 1) → a ≤ r
root_small a r limit low high = elim (cases_lt r a) [
  | inl l ↦ let grown : (r + 1) * (r + 1) ≤ a * a = mul-le (r + 1) (r + 1) a a (omega arith) (omega arith) in absurd (omega arith)
  | inr l ↦ l
]

-- a source is at most the radius away, by columns and by rows
pub source_columns : (s : Scene) (x y j k r : ℕ) → s.limit < square (r + 1) → is_source s x y j k ≡ true → gap x j ≤ r
source_columns s x y j k r beyond e = let near : distance2 x y j k ≤ s.limit = source_near s x y j k e in
    root_small (gap x j) r s.limit (omega arith) beyond

pub source_rows : (s : Scene) (x y j k r : ℕ) → s.limit < square (r + 1) → is_source s x y j k ≡ true → gap y k ≤ r
source_rows s x y j k r beyond e = let near : distance2 x y j k ≤ s.limit = source_near s x y j k e in
    root_small (gap y k) r s.limit (omega arith) beyond

-- a row lowered by all sources is drawn back
pub lowers_drawn : (lists : Lists) (a b : List ℕ) (from to y limit x : ℕ) → Lowers a b from to (IsOfSource (scene_of lists limit) y lists.tall) → from ≤ x → x < to → slice_index a x ≡ entry lists.tints lists.wide x y → slice_index b x ≡ drawn (scene_of lists limit) x y
lowers_drawn lists a b from to y limit x so begun ended old = drawn_only (scene_of lists limit) x y (slice_index b x) (record {
  own = omega (arith, so.less x, old);
  each = λ j k in_row on_page source. so.each x (entry lists.tints lists.wide j k) begun ended (record { column = j; row = k; inside = in_row; above = on_page; source = source; is = refl });
  greatest = λ n own all. so.greatest x n (rw old own) (λ v o. rw o.is (all o.column o.row o.inside o.above o.source));
})
