-- Strips that are turned to other rows.
use Rattle.std.proofs.Common.{◌≡◌, ℕ, ◌+◌, ◌-◌, List, [], ◌∷◌, map, refl, sym, ap, ◌∙◌, subst}
use Rattle.std.proofs.lemmas.List.{length-map}
use Rattle.page_model.specs.declared.parts.Zone.{Zone}
use Rattle.page_model.specs.Page.{height}
use Rattle.sheet_stream.specs.Holding.{HaveWorkspaceFor}
use Rattle.sheet_stream.specs.StoredStrips.{StripsHaveForm, TurnedIsStrip}
use Rattle.sheet_geometry.specs.Windows.{moved_vertex, moved_zone, points_of}
use Rattle.sheet_geometry.specs.Forms.{zone_form}

zone_kept : (right up : ℕ) (zone : Zone) → zone_form (moved_zone right up zone) ≡ zone_form zone
zone_kept right up zone = λ i. record { vertices = length-map zone.path (moved_vertex right up) i; limits = zone.limits }

zones_kept : (right up : ℕ) (zones : List Zone) → map zone_form (map (moved_zone right up) zones) ≡ map zone_form zones
zones_kept right up [] = refl
zones_kept right up (zone ∷ zones) = λ i. zone_kept right up zone i ∷ zones_kept right up zones i

pub have_form : StripsHaveForm
have_form outline row parts is =
    ap (map zone_form) is.zones ∙ zones_kept (points_of outline.resolution 0) (points_of outline.resolution (height outline - (row.from + row.wide))) outline.zones

pub turned_is : TurnedIsStrip
turned_is outline last row old new is same turns = record {
  resolution = turns.resolution ∙ is.resolution;
  inks = turns.inks ∙ is.inks;
  zones = turns.zones;
  planes = subst (HaveWorkspaceFor outline row.wide) (sym turns.planes) (subst (λ (n : ℕ). HaveWorkspaceFor outline n old.planes) same is.planes);
}
