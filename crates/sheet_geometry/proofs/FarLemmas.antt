-- No zone is too far where each vertex is in range from each corner of the sheet, and only there.
use Rattle.std.proofs.Common.{◌≡◌, ℕ, zero, suc, ◌+◌, ◌<◌, Bool, false, nat_lt, inl, inr, subst, arith, List, [], ◌∷◌, length, None}
use Rattle.std.specs.Prelude.{nat_abs, slice_index_or}
use Rattle.std.specs.List.{All, list_any}
use Rattle.std.proofs.lemmas.Bool.{cases_Bool, ltb-false, or_parts}
use Rattle.lists.specs.Words.{first_some}
use Rattle.lists.proofs.FirstSome.{each_none, some_is_none}
use Rattle.page_model.specs.declared.parts.PageParts.{PageParts}
use Rattle.page_model.specs.declared.parts.Vertex.{Vertex}
use Rattle.page_model.specs.declared.parts.Zone.{Zone}
use Rattle.page_model.specs.Limits.{most_coordinate}
use Rattle.page_model.specs.Page.{height, no_zone, path_at, width}
use Rattle.sheet_geometry.specs.declared.sheet_errors.SheetError.TheVariants.{Far}
use Rattle.sheet_geometry.specs.CommonErrors.{far, is_far}
use Rattle.sheet_geometry.specs.Sheets.{IsNearSheet, IsNearVertex}
use Rattle.sheet_geometry.specs.Windows.{points_of}
use Rattle.sheet_geometry.proofs.Pages.{any_default}

none_of : (p : Vertex → Bool) (xs : List Vertex) → list_any p xs ≡ false → (k : ℕ) (d : Vertex) → k < length xs → p (slice_index_or xs k d) ≡ false
none_of p [] h k d l = absurd (omega (arith, l))
none_of p (x ∷ xs) h zero d l = (or_parts (p x) (list_any p xs) h).0
none_of p (x ∷ xs) h (suc k) d l = none_of p xs (or_parts (p x) (list_any p xs) h).1 k d (omega (arith, l))

near_vertex : (sheet : PageParts) (v : Vertex) → is_far sheet v ≡ false → IsNearVertex sheet v
near_vertex sheet v h =
    let both = or_parts (nat_lt most_coordinate (nat_abs v.x + points_of sheet.resolution (width sheet))) (nat_lt most_coordinate (nat_abs v.y + points_of sheet.resolution (height sheet))) h in
    record {
      x = (let a = ltb-false _ _ both.0 in omega (arith, a));
      y = (let a = ltb-false _ _ both.1 in omega (arith, a));
    }

near_path : (sheet : PageParts) (z : ℕ) → far sheet z ≡ None → All (IsNearVertex sheet) (path_at sheet z)
near_path sheet z h = elim (cases_Bool (list_any (is_far sheet) (path_at sheet z))) [
  | inl t ↦ absurd (some_is_none (Far z) (rw t at h))
  | inr f ↦ λ k d l. near_vertex sheet _ (none_of (is_far sheet) (path_at sheet z) f k d l)
]

pub near_from : (sheet : PageParts) → first_some (far sheet) (length sheet.zones) ≡ None → IsNearSheet sheet
near_from sheet h = λ k d l. subst (λ (z : Zone). All (IsNearVertex sheet) z.path) (any_default sheet.zones k no_zone d l) (near_path sheet k (each_none (far sheet) (length sheet.zones) h k l))
