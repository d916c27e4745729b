-- One span after another, and the room that is left for the rest.
use Rattle.std.proofs.Common.{◌≡◌, ℕ, zero, suc, ◌+◌, ◌*◌, ◌<◌, ◌≤◌, Bool, ◌&&◌, List, [], ◌∷◌, length, drop, get_or, refl, ◌∙◌, subst, arith, drop-cons}
use Rattle.std.specs.Prelude.{◌==◌}
use Rattle.std.proofs.Math.Nat.{mul-le-mul}
use Rattle.page_model.specs.declared.parts.At.{At}
use Rattle.page_model.specs.declared.parts.PageParts.{PageParts}
use Rattle.page_model.specs.Counts.{plate_changes, sample_changes}
use Rattle.page_model.specs.Page.{plates}
use Rattle.page_model.specs.Zones.{zone_of}
use Rattle.sheet_geometry.specs.declared.spans.Ruler.{Ruler}
use Rattle.sheet_geometry.specs.declared.spans.Span.{Span}
use Rattle.sheet_geometry.specs.Areas.{area_sum, changes_in, changes_plate, edges_at, lies_in, one_if, traps}
use Rattle.sheet_geometry.proofs.Areas.{area-no_columns}
use Rattle.sheet_geometry.specs.Spans.{AreSpans, IsSpan}
use Rattle.sheet_engine.specs.Growth.{AddsArea, Grows, HasWorkspace, HasWorkspaces}
use Rattle.sheet_engine.specs.declared.counts.SheetCounts.{SheetCounts}
use Rattle.sheet_engine.proofs.Growing.{area_edges, area_few}

pub next_span : (ruler : Ruler) (spans : List Span) (i at end : ℕ) (d : Span) → i < length spans → AreSpans ruler at (drop i spans) end → IsSpan ruler at (get_or spans i d) × AreSpans ruler (at + (get_or spans i d).core) (drop (i + 1) spans) end
next_span ruler spans i at end d l are =
    let cons : drop i spans ≡ get_or spans i d ∷ drop (i + 1) spans = (let b : suc i ≡ i + 1 = omega arith in drop-cons spans i d l ∙ (λ j. get_or spans i d ∷ drop (b j) spans)) in
    subst (λ (xs : List Span). AreSpans ruler at xs end) cons are

nothing_grows : (n top rows : ℕ) (f : ℕ → At → ℕ) (counts : List ℕ) → Grows n (λ z. area_sum (f z) 0 top 0 rows) counts counts
nothing_grows n top rows f counts = record { long = refl; each = λ z l. (let e = area-no_columns (f z) 0 top rows in omega (arith, e)) }

pub nothing_added : (sheet : PageParts) (top rows : ℕ) (counts : SheetCounts) → AddsArea sheet 0 top 0 rows counts counts
nothing_added sheet top rows counts = record {
  zone_samples = nothing_grows (length sheet.zones) top rows (λ z. lies_in z sheet) counts.zone_samples.items;
  zone_changed = nothing_grows (length sheet.zones) top rows (λ z. changes_in traps z sheet) counts.zone_changed.items;
  plate_changed = nothing_grows (plates sheet) top rows (λ c. changes_plate traps c sheet) counts.plate_changed.items;
  edges = (let e = area-no_columns (edges_at sheet) 0 top rows in omega (arith, e));
}

pub spans_order : (ruler : Ruler) (spans : List Span) (at end : ℕ) → AreSpans ruler at spans end → at ≤ end
spans_order ruler [] at end are = omega (arith, are)
spans_order ruler (span ∷ spans) at end are = (let rest = spans_order ruler spans (at + span.core) end are.1 in omega (arith, rest))

columns_fit : (left core wide rows : ℕ) → left + core ≤ wide → left * rows + core * rows ≤ wide * rows
columns_fit left core wide rows l = (let t : (left + core) * rows ≤ wide * rows = mul-le-mul l (omega arith) in omega (arith, t))

workspace_after : (n top left core wide rows : ℕ) (f : ℕ → At → Bool) (before counts : List ℕ) → HasWorkspace n (wide * rows) before → Grows n (λ z. area_sum (λ p. one_if (f z p)) 0 top left rows) before counts → left + core ≤ wide → HasWorkspace n (core * rows) counts
workspace_after n top left core wide rows f before counts workspace h l = record {
  long = h.long ∙ workspace.long;
  low = λ z m. (let a = h.each z m in let b = workspace.low z m in let few = area_few (f z) 0 top left rows in let fit = columns_fit left core wide rows l in omega (arith, a, b, few, fit));
}

-- there is room for a window that is still to come
pub workspace_left : (sheet : PageParts) (top left core wide rows : ℕ) (before counts : SheetCounts) → HasWorkspaces sheet (wide * rows) before → AddsArea sheet 0 top left rows before counts → left + core ≤ wide → HasWorkspaces sheet (core * rows) counts
workspace_left sheet top left core wide rows before counts workspace h l = record {
  zone_samples = workspace_after (length sheet.zones) top left core wide rows (λ z p. zone_of sheet p == z) before.zone_samples.items counts.zone_samples.items workspace.zone_samples h.zone_samples l;
  zone_changed = workspace_after (length sheet.zones) top left core wide rows (λ z p. (zone_of sheet p == z) && sample_changes sheet p) before.zone_changed.items counts.zone_changed.items workspace.zone_changed h.zone_changed l;
  plate_changed = workspace_after (plates sheet) top left core wide rows (λ c p. plate_changes sheet c p) before.plate_changed.items counts.plate_changed.items workspace.plate_changed h.plate_changed l;
  edges = (let a = h.edges in let b = workspace.edges in let few = area_edges sheet 0 top left rows in let fit = columns_fit left core wide rows l in omega (arith, a, b, few, fit));
}

drop_past : {X : Type 0} (xs : List X) (i : ℕ) → length xs ≤ i → drop i xs ≡ []
drop_past [] zero l = refl
drop_past [] (suc i) l = refl
drop_past (x ∷ xs) zero l = absurd (omega (arith, l))
drop_past (x ∷ xs) (suc i) l = drop_past xs i (omega (arith, l))

pub spans_end : (ruler : Ruler) (spans : List Span) (i at end : ℕ) → length spans ≤ i → AreSpans ruler at (drop i spans) end → at ≡ end
spans_end ruler spans i at end l are = subst (λ (xs : List Span). AreSpans ruler at xs end) (drop_past spans i l) are
