-- What follows from the form of a page.
use Rattle.std.proofs.Common.{◌≡◌, ℕ, zero, suc, ◌<◌, List, [], ◌∷◌, length, refl, sym, ap, ◌∙◌, arith}
use Rattle.std.specs.Prelude.{map, slice_get, slice_index_or, Some}
use Rattle.std.proofs.lemmas.List.{get_or-map, length-map}
use Rattle.page_model.specs.declared.parts.Ink.{Ink}
use Rattle.page_model.specs.declared.parts.PageParts.{PageParts}
use Rattle.page_model.specs.declared.parts.Plane.{Plane}
use Rattle.page_model.specs.declared.parts.Zone.{Zone}
use Rattle.page_model.specs.Page.{plates, width}
use Rattle.sheet_geometry.specs.declared.cuts.Cut.{Cut}
use Rattle.sheet_geometry.specs.Windows.{moved_vertex, moved_zone, right_of, shown_plane, up_of, window}
use Rattle.sheet_geometry.specs.Forms.{Form, ZoneForm, form_of, zone_form}

pub form_deep : (a b : PageParts) → form_of a ≡ form_of b → plates a ≡ plates b
unfolding form_of
form_deep a b e = ap (λ (f : Form). f.deep) e

pub form_inks : (a b : PageParts) → form_of a ≡ form_of b → a.inks ≡ b.inks
unfolding form_of
form_inks a b e = ap (λ (f : Form). f.inks) e

pub form_zones : (a b : PageParts) → form_of a ≡ form_of b → map zone_form a.zones ≡ map zone_form b.zones
unfolding form_of
form_zones a b e = ap (λ (f : Form). f.zones) e

pub zones_many : (a b : List Zone) → map zone_form a ≡ map zone_form b → length a ≡ length b
zones_many a b e = sym (length-map a zone_form) ∙ ap length e ∙ length-map b zone_form

pub zone_each : (a b : List Zone) (j : ℕ) (d : Zone) → map zone_form a ≡ map zone_form b → j < length b → zone_form (slice_index_or a j d) ≡ zone_form (slice_index_or b j d)
zone_each a b j d e l =
    sym (get_or-map zone_form a j d (zone_form d) (let n = zones_many a b e in omega (arith, n, l)))
    ∙ ap (λ (fs : List ZoneForm). slice_index_or fs j (zone_form d)) e
    ∙ get_or-map zone_form b j d (zone_form d) l

-- the zones of a window have the forms of the sheet's
moved_form : (right up : ℕ) (zones : List Zone) → map zone_form (map (moved_zone right up) zones) ≡ map zone_form zones
moved_form right up [] = refl
moved_form right up (z ∷ zs) = λ i. (record { vertices = length-map z.path (moved_vertex right up) i; limits = z.limits }) ∷ moved_form right up zs i

pub window_form : (sheet : PageParts) (cut : Cut) → form_of (window sheet cut) ≡ form_of sheet
unfolding form_of
window_form sheet cut = λ i. record {
  deep = length-map sheet.planes (shown_plane (width sheet) cut) i;
  inks = sheet.inks;
  zones = moved_form (right_of sheet cut) (up_of sheet cut) sheet.zones i;
}

-- the parts of a window
pub window_made : (sheet : PageParts) (cut : Cut) (r : ℕ) (ps : List Plane) (is : List Ink) (zs : List Zone) → r ≡ sheet.resolution → ps ≡ map (shown_plane (width sheet) cut) sheet.planes → is ≡ sheet.inks → zs ≡ map (moved_zone (right_of sheet cut) (up_of sheet cut)) sheet.zones → record { resolution = r; planes = ps; inks = is; zones = zs } ≡ window sheet cut
window_made sheet cut r ps is zs er ep ei ez = λ i. record { resolution = er i; planes = ep i; inks = ei i; zones = ez i }

pub item_read : {X : Type 0} (xs : List X) (k : ℕ) (x d : X) → slice_get xs k ≡ Some x → x ≡ slice_index_or xs k d
item_read [] k x d e = cc
item_read (z ∷ zs) zero x d e = cc
item_read (z ∷ zs) (suc k) x d e = item_read zs k x d e
