-- What a pixel of a window has in common with its pixel of the sheet: how black it is, and whether it is open.
use Rattle.std.proofs.Common.{◌≡◌, ℕ, zero, suc, Bool, ◌&&◌, not, nat_le, nat_lt, refl, ap, ◌∙◌, if◌then◌else◌}
use Rattle.lists.specs.Words.{any_below, greatest_below}
use Rattle.page_model.specs.declared.parts.At.{At}
use Rattle.page_model.specs.declared.parts.PageParts.{PageParts}
use Rattle.page_model.specs.declared.parts.TrapParams.{TrapParams}
use Rattle.page_model.specs.declared.parts.Zone.{Zone}
use Rattle.page_model.specs.Density.{shut, shuts, spreads}
use Rattle.page_model.specs.Page.{ink_at, maxval, params_at, plates, tint}
use Rattle.page_model.specs.Zones.{zone_of}
use Rattle.sheet_geometry.specs.declared.cuts.Cut.{Cut}
use Rattle.sheet_geometry.specs.Windows.{IsCut, on_sheet, window}
use Rattle.sheet_geometry.proofs.Parts.{Lies, maxval-same, plates-same, tint-same, zone_at-is}
use Rattle.sheet_geometry.proofs.Zones.{zone_of-same}
use Rattle.keepaway.specs.Keepaway.{is_black_ink, is_open, level, plate_level, tint_level}

greatest_below-same : (f g : ℕ → ℕ) (n : ℕ) → ((k : ℕ) → f k ≡ g k) → greatest_below f n ≡ greatest_below g n
greatest_below-same f g zero each = refl
greatest_below-same f g (suc n) each = rw (greatest_below-same f g n each, each n) refl

any_below-alike : (f g : ℕ → Bool) (n : ℕ) → ((k : ℕ) → f k ≡ g k) → any_below f n ≡ any_below g n
any_below-alike f g zero each = refl
any_below-alike f g (suc n) each = rw (any_below-alike f g n each, each n) refl

-- a zone has the same parameters
params_same : (sheet : PageParts) (cut : Cut) (z : ℕ) → params_at (window sheet cut) z ≡ params_at sheet z
params_same sheet cut z = ap (λ (zone : Zone). zone.params) (zone_at-is sheet cut z)

pub zone_params : (sheet : PageParts) (cut : Cut) (p : At) → IsCut sheet cut → Lies cut p → params_at (window sheet cut) (zone_of (window sheet cut) p) ≡ params_at sheet (zone_of sheet (on_sheet cut p))
zone_params sheet cut p is lies = params_same sheet cut (zone_of (window sheet cut) p) ∙ ap (params_at sheet) (zone_of-same sheet cut p is lies)

-- an ink is black there as on the sheet
pub black_same : (sheet : PageParts) (cut : Cut) (p : At) (c : ℕ) → IsCut sheet cut → Lies cut p → is_black_ink (window sheet cut) (zone_of (window sheet cut) p) c ≡ is_black_ink sheet (zone_of sheet (on_sheet cut p)) c
black_same sheet cut p c is lies = ap (λ (params : TrapParams). spreads (ink_at sheet c).kind && nat_le params.black_density_limit (ink_at sheet c).density) (zone_params sheet cut p is lies)

plate_level-same : (sheet : PageParts) (cut : Cut) (limit : ℕ) (p : At) (c : ℕ) → IsCut sheet cut → Lies cut p → plate_level (window sheet cut) limit p c ≡ plate_level sheet limit (on_sheet cut p) c
plate_level-same sheet cut limit p c is lies =
    ap (λ (b : Bool). if b then tint_level limit (maxval (window sheet cut)) (tint (window sheet cut) c p) else 0) (black_same sheet cut p c is lies)
    ∙ ap (λ (m : ℕ). if is_black_ink sheet (zone_of sheet (on_sheet cut p)) c then tint_level limit m (tint (window sheet cut) c p) else 0) (maxval-same sheet cut)
    ∙ ap (λ (t : ℕ). if is_black_ink sheet (zone_of sheet (on_sheet cut p)) c then tint_level limit (maxval sheet) t else 0) (tint-same sheet cut c p is lies)

-- a pixel is as black as on the sheet
pub level_same : (sheet : PageParts) (cut : Cut) (limit : ℕ) (p : At) → IsCut sheet cut → Lies cut p → level (window sheet cut) limit p ≡ level sheet limit (on_sheet cut p)
level_same sheet cut limit p is lies =
    ap (greatest_below (plate_level (window sheet cut) limit p)) (plates-same sheet cut)
    ∙ greatest_below-same (plate_level (window sheet cut) limit p) (plate_level sheet limit (on_sheet cut p)) (plates sheet) (λ c. plate_level-same sheet cut limit p c is lies)

shut_same : (sheet : PageParts) (cut : Cut) (p : At) → IsCut sheet cut → Lies cut p → shut (window sheet cut) p ≡ shut sheet (on_sheet cut p)
shut_same sheet cut p is lies =
    ap (any_below (λ c. shuts (ink_at sheet c).kind && nat_lt 0 (tint (window sheet cut) c p))) (plates-same sheet cut)
    ∙ any_below-alike (λ c. shuts (ink_at sheet c).kind && nat_lt 0 (tint (window sheet cut) c p)) (λ c. shuts (ink_at sheet c).kind && nat_lt 0 (tint sheet c (on_sheet cut p))) (plates sheet)
    (λ c. ap (λ (t : ℕ). shuts (ink_at sheet c).kind && nat_lt 0 t) (tint-same sheet cut c p is lies))

-- and open as there
pub open_same : (sheet : PageParts) (cut : Cut) (p : At) → IsCut sheet cut → Lies cut p → is_open (window sheet cut) p ≡ is_open sheet (on_sheet cut p)
open_same sheet cut p is lies =
    ap (λ (params : TrapParams). params.enabled && not (shut (window sheet cut) p)) (zone_params sheet cut p is lies)
    ∙ ap (λ (b : Bool). (params_at sheet (zone_of sheet (on_sheet cut p))).enabled && not b) (shut_same sheet cut p is lies)
