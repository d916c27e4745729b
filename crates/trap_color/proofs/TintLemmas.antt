-- New tints that are written plate by plate.
use Rattle.std.proofs.Common.{◌≡◌, ◌<◌, ◌≤◌, ◌&&◌, ℕ, Bool, true, false, if◌then◌else◌, max, ap, arith, List, length, slice_index, slice_set, ◌+◌, ◌-◌, ◌*◌, ◌/◌, inl, inr, sym, ◌∙◌, refl}
use Rattle.std.proofs.lemmas.List.{get_or-set_same, get_or-set_other}
use Rattle.std.proofs.lemmas.Bool.{cases_eq}
use Rattle.std.proofs.Math.Nat.{mul-div_cancel}
use Rattle.page_model.specs.declared.parts.At.{At}
use Rattle.page_model.specs.declared.parts.EdgeAt.{EdgeAt}
use Rattle.page_model.specs.declared.parts.PageParts.{PageParts}
use Rattle.page_model.specs.Density.{density, spreads}
use Rattle.page_model.specs.Edges.{across}
use Rattle.page_model.specs.Page.{ink_at, params_at, tint}
use Rattle.page_model.specs.Tints.{full, full_density, new_in, scaled_in}
use Rattle.page_model.specs.Trapped.{trapped_in}

-- a sample that is not trapped keeps its tints
pub kept_in : (page : PageParts) (z : ℕ) (p : At) (e : EdgeAt) (c : ℕ) → trapped_in page z p e ≡ false → new_in page z p e c ≡ tint page c p
unfolding new_in
kept_in page z p e c h = ap (λ (b : Bool). if b && spreads (ink_at page c).kind then scaled_in page z p e c else tint page c p) h

-- a list that follows f below i follows it below i + 1 once f i is written
pub more : (f : ℕ → ℕ) (xs : List ℕ) (i v : ℕ) → i < length xs → v ≡ f i → ((k : ℕ) → k < i → slice_index xs k ≡ f k) → (k : ℕ) → k < i + 1 → slice_index (slice_set xs i v) k ≡ f k
more f xs i v long at below k l = elim (cases_eq k i) [
  | inl e ↦ rw e (get_or-set_same xs i v 0 long ∙ at)
  | inr ne ↦ get_or-set_other xs i k v 0 ne ∙ below k (omega (arith, ne))
]

-- a full tint that is scaled by 1
unscaled : (f here there : ℕ) → here ≤ there → 0 < there → (f * (here * 10000 + 10000 * (there - here))) / (there * 10000) ≡ f
unscaled f here there le some =
    let sum : here * 10000 + 10000 * (there - here) ≡ there * 10000 = omega (arith, le) in
    rw sum (mul-div_cancel f (omega (arith, some)))

spread : (page : PageParts) (z : ℕ) (p : At) (e : EdgeAt) (c : ℕ) (s : Bool) → (params_at page z).trap_color_scaling ≡ 10000 → density page p ≤ full_density page p e → 0 < full_density page p e → s ≡ spreads (ink_at page c).kind → full page p e c ≡ (if spreads (ink_at page c).kind then scaled_in page z p e c else tint page c p)
spread page z p e c true whole le some is =
    sym (unscaled (full page p e c) (density page p) (full_density page p e) le some)
    ∙ ap (λ (k : ℕ). (full page p e c * (density page p * 10000 + k * (full_density page p e - density page p))) / (full_density page p e * 10000)) (sym whole)
    ∙ ap (λ (b : Bool). if b then scaled_in page z p e c else tint page c p) is
spread page z p e c false whole le some is =
    sym (ap (λ (b : Bool). if b then max (tint page c p) (tint page c (across p e)) else tint page c p) is)
    ∙ ap (λ (b : Bool). if b then scaled_in page z p e c else tint page c p) is

pub full_is_new : (page : PageParts) (z : ℕ) (p : At) (e : EdgeAt) (c : ℕ) → trapped_in page z p e ≡ true → (params_at page z).trap_color_scaling ≡ 10000 → density page p ≤ full_density page p e → 0 < full_density page p e → full page p e c ≡ new_in page z p e c
unfolding new_in
full_is_new page z p e c trapped whole le some =
    spread page z p e c (spreads (ink_at page c).kind) whole le some refl
    ∙ sym (ap (λ (b : Bool). if b && spreads (ink_at page c).kind then scaled_in page z p e c else tint page c p) trapped)
