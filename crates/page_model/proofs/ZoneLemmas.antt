-- The last zone that covers a sample, kept zone by zone.
use Rattle.std.proofs.Common.{◌≡◌, ℕ, zero, suc, ◌-◌, ◌<◌, ◌≤◌, true, false, length, arith, inl, inr}
use Rattle.std.proofs.lemmas.Bool.{cases_Bool, cases_eq}
use Rattle.page_model.specs.declared.parts.At.{At}
use Rattle.page_model.specs.declared.parts.PageParts.{PageParts}
use Rattle.page_model.specs.Conditions.{IsPage}
use Rattle.page_model.specs.Laws.{IsZoneOf}
use Rattle.page_model.specs.Zones.{zone_of, greatest_cover, covers}

-- z is at most n, it covers unless it is 0, and none above it up to n does
pub record IsGreatestCover (page : PageParts) (p : At) (n z : ℕ) : Type 0 where
  pub most : z ≤ n
  pub covered : 0 < z → covers page p z ≡ true
  pub last : (k : ℕ) → z < k → k ≤ n → covers page p k ≡ false

pub greatest_cover-is : (page : PageParts) (p : At) (n : ℕ) → IsGreatestCover page p n (greatest_cover page p n)
greatest_cover-is page p zero = record { most = omega arith; covered = λ some. absurd (omega (arith, some)); last = λ k above most. absurd (omega (arith, above, most)) }
greatest_cover-is page p (suc n) =
    let before = greatest_cover-is page p n in
    elim (cases_Bool (covers page p (suc n))) [
      | inl t ↦ rw t (record { most = omega arith; covered = λ _. t; last = λ k above most. absurd (omega (arith, above, most)) })
      | inr f ↦ rw f (record {
        most = omega (arith, before.most);
        covered = before.covered;
        last = λ k above most. elim (cases_eq k (suc n)) [ inl e ↦ rw e f | inr ne ↦ before.last k above (omega (arith, most, ne)) ];
      })
    ]

pub zone_of-is : (page : PageParts) (p : At) → IsPage page → IsZoneOf page p (zone_of page p)
unfolding zone_of
zone_of-is page p valid =
    let is = greatest_cover-is page p (length page.zones - 1) in
    record {
      known = omega (arith, is.most, valid.parts.some_zones);
      covered = is.covered;
      last = λ k above below. is.last k above (omega (arith, below));
    }
