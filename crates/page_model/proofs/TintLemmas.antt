-- A new tint is at most the maxval.
use Rattle.std.specs.Prelude.{⊤}
use Rattle.std.proofs.Common.{ℕ, ◌+◌, ◌*◌, ◌-◌, ◌/◌, ◌<◌, ◌≤◌, ◌&&◌, length, Option, Some, None, inl, inr, arith}
use Rattle.std.specs.Option.{MatchOption}
use Rattle.std.proofs.lemmas.Bool.{cases_Bool}
use Rattle.std.proofs.Math.Nat.{mul-le-mul, div-le_of_le-mul}
use Rattle.page_model.specs.declared.parts.At.{At}
use Rattle.page_model.specs.declared.parts.EdgeAt.{EdgeAt}
use Rattle.page_model.specs.declared.parts.PageParts.{PageParts}
use Rattle.page_model.specs.Conditions.{IsPage}
use Rattle.page_model.specs.Decider.{decider, IsDecider}
use Rattle.page_model.specs.Density.{density, spreads}
use Rattle.page_model.specs.Edges.{IsEdge, across, on_first_side}
use Rattle.page_model.specs.Page.{InPage, ink_at, params_at, plates, maxval, no_zone}
use Rattle.page_model.specs.Tints.{full, full_density, scaled_in, new_in, new_from, new}
use Rattle.page_model.specs.Trapped.{trapped_in}
use Rattle.page_model.specs.Zones.{zone_of}
use Rattle.page_model.proofs.DeciderLemmas.{decider_found}
use Rattle.page_model.proofs.PageLemmas.{tint_at_most}
use Rattle.page_model.proofs.DensityLemmas.{density-le-full}
use Rattle.page_model.proofs.ZoneLemmas.{zone_of-is}

across_in : (page : PageParts) (p : At) (e : EdgeAt) → IsEdge page e → InPage page (across p e)
across_in page p e edge = elim (cases_Bool (on_first_side p e)) [
  | inl t ↦ rw t (record { x = omega (arith, edge.across_page); y = omega (arith, edge.down_page) })
  | inr f ↦ rw f (record { x = omega (arith, edge.across_page); y = omega (arith, edge.down_page) })
]

full_at_most : (page : PageParts) (p : At) (e : EdgeAt) (c : ℕ) → IsPage page → c < plates page → InPage page p → IsEdge page e → full page p e c ≤ maxval page
full_at_most page p e c valid l inside edge =
    let here = tint_at_most page c p valid l inside in
    let there = tint_at_most page c (across p e) valid l (across_in page p e edge) in
    elim (cases_Bool (spreads (ink_at page c).kind)) [ inl t ↦ rw t (omega (arith, here, there)) | inr f ↦ rw f here ]

-- a part of what is added, of at most one
part_at_most : (here there part : ℕ) → here ≤ there → part ≤ 10000 → here * 10000 + part * (there - here) ≤ there * 10000
part_at_most here there part grows few =
    let cut : part * (there - here) ≤ 10000 * (there - here) = mul-le-mul few (omega arith) in
    omega (arith, cut, grows)

-- a scaled full tint is no darker than the full tint
pub scaled_at_most : (f here there part : ℕ) → here ≤ there → part ≤ 10000 → (f * (here * 10000 + part * (there - here))) / (there * 10000) ≤ f
scaled_at_most f here there part grows few =
    let light = here * 10000 + part * (there - here) in
    let most : f * light ≤ f * (there * 10000) = mul-le-mul (omega arith) (part_at_most here there part grows few) in
    let turned : f * light ≤ there * 10000 * f = omega (arith, most) in
    div-le_of_le-mul (there * 10000) turned

new_in_at_most : (page : PageParts) (z : ℕ) (p : At) (e : EdgeAt) (c : ℕ) → IsPage page → z < length page.zones → c < plates page → InPage page p → IsEdge page e → new_in page z p e c ≤ maxval page
unfolding new_in
new_in_at_most page z p e c valid known l inside edge = elim (cases_Bool (trapped_in page z p e && spreads (ink_at page c).kind)) [
  | inl t ↦ rw t (
      let few = ((valid.parts.zones_in_range z no_zone known).params).scaling in
      let cut : scaled_in page z p e c ≤ full page p e c = scaled_at_most (full page p e c) (density page p) (full_density page p e) (params_at page z).trap_color_scaling (density-le-full page p e) few in
      omega (arith, cut, full_at_most page p e c valid l inside edge))
  | inr f ↦ rw f (tint_at_most page c p valid l inside)
]

pub new_at_most : (page : PageParts) (p : At) (c : ℕ) → IsPage page → c < plates page → InPage page p → new page p c ≤ maxval page
new_at_most page p c valid l inside = go (decider page p) (decider_found page p valid) where
  go : (o : Option EdgeAt) → MatchOption o ⊤ (IsDecider page p) → new_from page p c o ≤ maxval page
  go None h = tint_at_most page c p valid l inside
  go (Some e) h = new_in_at_most page (zone_of page p) p e c valid (zone_of-is page p valid).known l inside h.edge
