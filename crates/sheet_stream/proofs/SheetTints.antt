-- The new tints of a sheet of any sides are at most its maxval.
use Rattle.std.proofs.Common.{ℕ, ◌+◌, ◌*◌, ◌-◌, ◌<◌, ◌≤◌, ◌&&◌, length, Option, Some, None, inl, inr, arith}
use Rattle.std.specs.List.{All}
use Rattle.std.proofs.lemmas.Bool.{cases_Bool}
use Rattle.std.proofs.lemmas.Nat.{mul-add-lt}
use Rattle.std.proofs.Math.Nat.{div-lt_iff_lt-mul, mod-lt}
use Rattle.lists.proofs.ListBelow.{all_below}
use Rattle.page_model.specs.declared.parts.At.{At}
use Rattle.page_model.specs.declared.parts.EdgeAt.{EdgeAt}
use Rattle.page_model.specs.declared.parts.PageParts.{PageParts}
use Rattle.page_model.specs.Decider.{decider}
use Rattle.page_model.specs.Density.{density, spreads}
use Rattle.page_model.specs.Edges.{IsEdge, across, on_first_side}
use Rattle.page_model.specs.Page.{InPage, height, ink_at, maxval, no_zone, params_at, place, plates, sample_at, samples, tint, width}
use Rattle.page_model.specs.Planes.{no_plane, plane_at}
use Rattle.page_model.specs.Tints.{full, full_density, new, new_from, new_in, new_tints, scaled_in, trapped_plane, trapped_planes}
use Rattle.page_model.specs.Trapped.{trapped_in}
use Rattle.page_model.specs.Zones.{zone_of}
use Rattle.page_model.proofs.DeciderLemmas.{Decides, decider-is}
use Rattle.page_model.proofs.DensityLemmas.{density-le-full}
use Rattle.page_model.proofs.TintLemmas.{scaled_at_most}
use Rattle.page_model.proofs.ZoneLemmas.{greatest_cover-is}
use Rattle.page_model.specs.Limits.{most_maxval}
use Rattle.page_model.specs.declared.parts.Plane.{Plane}
use Rattle.sheet_geometry.specs.Areas.{traps}
use Rattle.sheet_geometry.specs.StripCores.{new_from as new_from_sample}
use Rattle.sheet_geometry.specs.Sheets.{IsSheet, IsSheetPlane}

module _ (sheet : PageParts) (valid : IsSheet sheet) where
  plane_in : (c : ℕ) → c < plates sheet → IsSheetPlane (plane_at sheet.planes c)
  plane_in c l = valid.parts.planes_in_range c no_plane l

  tint_at_most : (c : ℕ) (p : At) → c < plates sheet → InPage sheet p → tint sheet c p ≤ maxval sheet
  tint_at_most c p l h =
      let plane = plane_in c l in
      let same = valid.agree c l in
      let inside : p.y * width sheet + p.x < width sheet * height sheet = mul-add-lt p.y (width sheet) p.x (height sheet) h.y h.x in
      let stored : place sheet p < length (plane_at sheet.planes c).tints = omega (arith, inside, plane.full, rw (same.wide, same.tall) at plane.full) in
      rw (← same.deep) (plane.below (place sheet p) 0 stored)

  across_in : (p : At) (e : EdgeAt) → IsEdge sheet e → InPage sheet (across p e)
  across_in p e edge = elim (cases_Bool (on_first_side p e)) [
    | inl t ↦ rw t (record { x = omega (arith, edge.across_page); y = omega (arith, edge.down_page) })
    | inr f ↦ rw f (record { x = omega (arith, edge.across_page); y = omega (arith, edge.down_page) })
  ]

  full_at_most : (p : At) (e : EdgeAt) (c : ℕ) → c < plates sheet → InPage sheet p → IsEdge sheet e → full sheet p e c ≤ maxval sheet
  full_at_most p e c l inside edge =
      let here = tint_at_most c p l inside in
      let there = tint_at_most c (across p e) l (across_in p e edge) in
      elim (cases_Bool (spreads (ink_at sheet c).kind)) [ inl t ↦ rw t (omega (arith, here, there)) | inr f ↦ rw f here ]

  zone_known : (p : At) → zone_of sheet p < length sheet.zones
  unfolding zone_of
  zone_known p =
      let is = greatest_cover-is sheet p (length sheet.zones - 1) in
      omega (arith, is.most, valid.parts.some_zones)

  new_in_at_most : (z : ℕ) (p : At) (e : EdgeAt) (c : ℕ) → z < length sheet.zones → c < plates sheet → InPage sheet p → IsEdge sheet e → new_in sheet z p e c ≤ maxval sheet
  unfolding new_in
  new_in_at_most z p e c known l inside edge = elim (cases_Bool (trapped_in sheet z p e && spreads (ink_at sheet c).kind)) [
    | inl t ↦ rw t (
        let few = ((valid.parts.zones_in_range z no_zone known).params).scaling in
        let cut : scaled_in sheet z p e c ≤ full sheet p e c = scaled_at_most (full sheet p e c) (density sheet p) (full_density sheet p e) (params_at sheet z).trap_color_scaling (density-le-full sheet p e) few in
        omega (arith, cut, full_at_most p e c l inside edge))
    | inr f ↦ rw f (tint_at_most c p l inside)
  ]

  new_at_most : (p : At) (c : ℕ) → c < plates sheet → InPage sheet p → new sheet p c ≤ maxval sheet
  new_at_most p c l inside = go (decider sheet p) (decider-is sheet p (plane_in 0 (omega arith)).some_height) where
    go : (o : Option EdgeAt) → Decides sheet p o → new_from sheet p c o ≤ maxval sheet
    go None h = tint_at_most c p l inside
    go (Some e) h = new_in_at_most (zone_of sheet p) p e c (zone_known p) l inside h.edge

  sample_in : (k : ℕ) → k < samples sheet → InPage sheet (sample_at sheet k)
  sample_in k l =
      let some : 0 < width sheet = (let first = (plane_in 0 (let s = valid.parts.some_plates in omega arith)).some_width in omega arith) in
      record { x = mod-lt k some; y = (div-lt_iff_lt-mul some).1 (omega (arith, l)) }

  pub row_fits : (c first count : ℕ) → c < plates sheet → first + count ≤ samples sheet → All (λ (t : ℕ). t ≤ maxval sheet) (new_from_sample traps sheet c first count)
  row_fits c first count l within = all_below (λ (t : ℕ). t ≤ maxval sheet) (λ i. new sheet (sample_at sheet (first + i)) c) count (λ i below. new_at_most (sample_at sheet (first + i)) c l (sample_in (first + i) (omega (arith, below, within))))

  tints_at_most : (c : ℕ) → c < plates sheet → All (λ (t : ℕ). t ≤ maxval sheet) (new_tints sheet c)
  unfolding new_tints
  tints_at_most c l = all_below (λ (t : ℕ). t ≤ maxval sheet) (λ k. new sheet (sample_at sheet k) c) (samples sheet) (λ k below. new_at_most (sample_at sheet k) c l (sample_in k below))

  -- the trapped planes have a maxval in range, and no tint above it
  pub maxvals_fit : All (λ (plane : Plane). plane.maxval ≤ most_maxval) (trapped_planes sheet)
  unfolding trapped_planes
  maxvals_fit = all_below (λ (plane : Plane). plane.maxval ≤ most_maxval) (trapped_plane sheet) (plates sheet) (λ c l. (plane_in 0 (omega arith)).maxval_fits)

  pub tints_fit : All (λ (plane : Plane). All (λ (t : ℕ). t ≤ plane.maxval) plane.tints) (trapped_planes sheet)
  unfolding trapped_planes
  tints_fit = all_below (λ (plane : Plane). All (λ (t : ℕ). t ≤ plane.maxval) plane.tints) (trapped_plane sheet) (plates sheet) tints_at_most
