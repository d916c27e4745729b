-- Parts without a fault are a page, and parts with one are none.
use Rattle.std.proofs.Common.{◌≡◌, ℕ, ◌*◌, ◌≤◌, ◌&&◌, ◌==◌, nat_lt, inl, inr, false, length, refl, arith, None}
use Rattle.std.proofs.lemmas.Bool.{cases_Bool, and_parts, eqb-true, eq-eqb, ltb-false, le-ltb}
use Rattle.page_model.specs.declared.parts.PageParts.{PageParts}
use Rattle.page_model.specs.declared.page.PageFault.TheVariants.{SizeDiffers, MaxvalDiffers, TooManySamples, ReachTooWide}
use Rattle.page_model.specs.Conditions.{Agrees, IsParts, IsPage}
use Rattle.page_model.specs.Faults.{difference, too_many, too_wide, page_fault}
use Rattle.page_model.specs.Page.{plates, width, height, maxval}
use Rattle.page_model.specs.Planes.{plane_at}
use Rattle.page_model.specs.Reach.{zone_reach}
use Rattle.lists.specs.Words.{or_else, first_some}
use Rattle.lists.proofs.FirstSome.{some_is_none, both_none, each_none, all_none}

-- a plate without a difference agrees with the page
pub agrees_from : (page : PageParts) (c : ℕ) → difference page c ≡ None → Agrees page c
agrees_from page c h =
    let plane = plane_at page.planes c in
    elim (cases_Bool ((plane.width == width page) && (plane.height == height page))) [
      | inl same ↦ elim (cases_Bool (plane.maxval == maxval page)) [
        | inl deep ↦ (let sides = and_parts (plane.width == width page) (plane.height == height page) same in
            record { wide = eqb-true _ _ sides.0; tall = eqb-true _ _ sides.1; deep = eqb-true _ _ deep })
        | inr other ↦ absurd (some_is_none (MaxvalDiffers c) (rw (same, other) at h))
      ]
      | inr other ↦ absurd (some_is_none (SizeDiffers c) (rw other at h))
    ]

pub few_from : (page : PageParts) → too_many page ≡ None → width page * height page * plates page ≤ 160000000
few_from page h = elim (cases_Bool (nat_lt 160000000 (width page * height page * plates page))) [
  | inl t ↦ absurd (some_is_none TooManySamples (rw t at h))
  | inr f ↦ omega (arith, ltb-false _ _ f)
]

pub near_from : (page : PageParts) (z : ℕ) → too_wide page z ≡ None → zone_reach page z ≤ 256
near_from page z h = elim (cases_Bool (nat_lt 256 (zone_reach page z))) [
  | inl t ↦ absurd (some_is_none (ReachTooWide z) (rw t at h))
  | inr f ↦ omega (arith, ltb-false _ _ f)
]

-- parts without a fault are a page
pub page_from : (page : PageParts) → IsParts page → page_fault page ≡ None → IsPage page
page_from page parts h =
    let outer = both_none (or_else (first_some (difference page) (plates page)) (too_many page)) (first_some (too_wide page) (length page.zones)) h in
    let none = both_none (first_some (difference page) (plates page)) (too_many page) outer.0 in
    record {
      parts = parts;
      agree = λ c l. agrees_from page c (each_none (difference page) (plates page) none.0 c l);
      few_samples = few_from page none.1;
      near = λ z l. near_from page z (each_none (too_wide page) (length page.zones) outer.1 z l);
    }

same_none : (page : PageParts) (c : ℕ) → Agrees page c → difference page c ≡ None
same_none page c a = rw (a.wide, a.tall, a.deep, eq-eqb (width page) (width page) refl, eq-eqb (height page) (height page) refl, eq-eqb (maxval page) (maxval page) refl) refl

-- a page has no fault
pub faultless : (page : PageParts) → IsPage page → page_fault page ≡ None
faultless page valid =
    let same = all_none (difference page) (plates page) (λ c l. same_none page c (valid.agree c l)) in
    let few : nat_lt 160000000 (width page * height page * plates page) ≡ false = le-ltb _ _ valid.few_samples in
    let near = all_none (too_wide page) (length page.zones) (λ z l. (let small : nat_lt 256 (zone_reach page z) ≡ false = le-ltb _ _ (valid.near z l) in rw small refl)) in
    rw (same, few, near) refl
