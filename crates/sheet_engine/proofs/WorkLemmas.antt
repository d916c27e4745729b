-- The windows of a strip that are trapped side by side: the room for their counts, and what they add.
use Rattle.std.proofs.Common.{◌≡◌, ℕ, suc, ◌*◌, ◌<◌, ◌≤◌, ◌^◌, Bool, ◌&&◌, List, [], ◌∷◌, length, slice_index, refl, sym, ◌∙◌, ap, arith}
use Rattle.std.specs.Prelude.{◌==◌, map, replicate, slice_index_or}
use Rattle.std.proofs.Math.Nat.{mul-le-mul}
use Rattle.std.proofs.lemmas.List.{length-replicate}
use Rattle.page_model.specs.declared.parts.At.{At}
use Rattle.page_model.specs.declared.parts.PageParts.{PageParts}
use Rattle.page_model.specs.Counts.{plate_changes, sample_changes}
use Rattle.page_model.specs.Page.{height, plates, width}
use Rattle.page_model.specs.Zones.{zone_of}
use Rattle.sheet_geometry.specs.declared.spans.Ruler.{Ruler}
use Rattle.sheet_geometry.specs.declared.spans.Span.{Span}
use Rattle.sheet_geometry.specs.Areas.{area_sum, changes_in, changes_plate, lies_in, one_if, traps}
use Rattle.sheet_geometry.specs.Spans.{IsSpan}
use Rattle.sheet_engine.specs.Works.{AreAdded, AreNone, CanAdd, CanAddEach, HasArea}
use Rattle.sheet_engine.proofs.Wholes.{grown_from_none, none_workspace}
use Rattle.sheet_engine.specs.Growth.{AddsArea, Grows, HasWorkspace, HasWorkspaces}
use Rattle.sheet_engine.specs.declared.counts.SheetCounts.{SheetCounts}
use Rattle.sheet_engine.proofs.Growing.{area_edges, area_few}

-- what a function gives of lists whose items it does not tell apart
pub maps_same : {X Y : Type 0} (f : X → Y) (xs ys : List X) → length ys ≡ length xs → ((k : ℕ) (d : X) → k < length xs → f (slice_index_or ys k d) ≡ f (slice_index_or xs k d)) → map f ys ≡ map f xs
maps_same f [] [] e h = refl
maps_same f [] (y ∷ ys) e h = absurd (omega (arith, e))
maps_same f (x ∷ xs) [] e h = absurd (omega (arith, e))
maps_same f (x ∷ xs) (y ∷ ys) e h = λ i. h 0 x (omega arith) i ∷ maps_same f xs ys (omega (arith, e)) (λ k d l. h (suc k) d (omega (arith, l))) i

part_workspace : (n most more : ℕ) (counts : List ℕ) → more ≤ most → HasWorkspace n most counts → HasWorkspace n more counts
part_workspace n most more counts l workspace = record { long = workspace.long; low = λ z m. (let a = workspace.low z m in omega (arith, a, l)) }

-- room for many samples is room for fewer
part_workspaces : (sheet : PageParts) (most more : ℕ) (counts : SheetCounts) → more ≤ most → HasWorkspaces sheet most counts → HasWorkspaces sheet more counts
part_workspaces sheet most more counts l workspace = record {
  zone_samples = part_workspace (length sheet.zones) most more counts.zone_samples.items l workspace.zone_samples;
  zone_changed = part_workspace (length sheet.zones) most more counts.zone_changed.items l workspace.zone_changed;
  plate_changed = part_workspace (plates sheet) most more counts.plate_changed.items l workspace.plate_changed;
  edges = (let a = workspace.edges in omega (arith, a, l));
}

core_fits : (ruler : Ruler) (at : ℕ) (span : Span) → IsSpan ruler at span → span.core ≤ ruler.side
core_fits ruler at span is = (let a = is.core in let b = is.inside in omega (arith, a, b))

-- counts that are all 0 have room for a window
pub window_workspace : (sheet : PageParts) (across down : Ruler) (x y : ℕ) (column row : Span) (counts : SheetCounts) → width sheet < 2 ^ 30 → height sheet < 2 ^ 30 → across.side ≡ width sheet → down.side ≡ height sheet → IsSpan across x column → IsSpan down y row → AreNone sheet counts → HasWorkspaces sheet (column.core * row.core) counts
window_workspace sheet across down x y column row counts narrow low wide tall cx cy none =
    let a : column.core ≤ width sheet = (let f = core_fits across x column cx in omega (arith, f, wide)) in
    let b : row.core ≤ height sheet = (let f = core_fits down y row cy in omega (arith, f, tall)) in
    part_workspaces sheet (width sheet * height sheet) (column.core * row.core) counts (mul-le-mul a b) (none_workspace sheet counts none narrow low)

can_each : (n left top wide rows : ℕ) (f : ℕ → At → Bool) (before more counts : List ℕ) → before ≡ replicate n 0 → Grows n (λ z. area_sum (λ p. one_if (f z p)) left top wide rows) before more → HasWorkspace n (wide * rows) counts → CanAddEach counts more
can_each n left top wide rows f before more counts none h workspace = record {
  long = h.long ∙ ap length none ∙ length-replicate n 0 ∙ sym workspace.long;
  few = λ z l. (let inside : z < n = (let a = workspace.long in omega (arith, l, a)) in
      let a = grown_from_none n z (area_sum (λ p. one_if (f z p)) left top wide rows) before more none inside (h.each z inside) in
      let b = workspace.low z inside in
      let few = area_few (f z) left top wide rows in omega (arith, a, b, few));
}

-- what is counted in an area can be added where there is room for its samples
pub can_add : (sheet : PageParts) (left top wide rows : ℕ) (counts more : SheetCounts) → HasWorkspaces sheet (wide * rows) counts → HasArea sheet left top wide rows more → CanAdd counts more
can_add sheet left top wide rows counts more workspace h = record {
  zone_samples = can_each (length sheet.zones) left top wide rows (λ z p. zone_of sheet p == z) h.before.zone_samples.items more.zone_samples.items counts.zone_samples.items h.none.zone_samples h.adds.zone_samples workspace.zone_samples;
  zone_changed = can_each (length sheet.zones) left top wide rows (λ z p. (zone_of sheet p == z) && sample_changes sheet p) h.before.zone_changed.items more.zone_changed.items counts.zone_changed.items h.none.zone_changed h.adds.zone_changed workspace.zone_changed;
  plate_changed = can_each (plates sheet) left top wide rows (λ c p. plate_changes sheet c p) h.before.plate_changed.items more.plate_changed.items counts.plate_changed.items h.none.plate_changed h.adds.plate_changed workspace.plate_changed;
  edges = (let a = h.adds.edges in let b = h.none.edges in let c = workspace.edges in let few = area_edges sheet left top wide rows in omega (arith, a, b, c, few));
}

added_each : (n : ℕ) (by : ℕ → ℕ) (before more counts after : List ℕ) → before ≡ replicate n 0 → Grows n by before more → length counts ≡ n → Grows (length counts) (slice_index more) counts after → Grows n by counts after
added_each n by before more counts after none h long g = record {
  long = g.long;
  each = λ z l. (let a = g.each z (omega (arith, l, long)) in let b = grown_from_none n z (by z) before more none l (h.each z l) in omega (arith, a, b));
}

-- and it is added
pub added : (sheet : PageParts) (left top wide rows : ℕ) (counts more after : SheetCounts) → HasWorkspaces sheet (wide * rows) counts → HasArea sheet left top wide rows more → AreAdded counts more after → AddsArea sheet left top wide rows counts after
added sheet left top wide rows counts more after workspace h g = record {
  zone_samples = added_each (length sheet.zones) (λ z. area_sum (lies_in z sheet) left top wide rows) h.before.zone_samples.items more.zone_samples.items counts.zone_samples.items after.zone_samples.items h.none.zone_samples h.adds.zone_samples workspace.zone_samples.long g.zone_samples;
  zone_changed = added_each (length sheet.zones) (λ z. area_sum (changes_in traps z sheet) left top wide rows) h.before.zone_changed.items more.zone_changed.items counts.zone_changed.items after.zone_changed.items h.none.zone_changed h.adds.zone_changed workspace.zone_changed.long g.zone_changed;
  plate_changed = added_each (plates sheet) (λ c. area_sum (changes_plate traps c sheet) left top wide rows) h.before.plate_changed.items more.plate_changed.items counts.plate_changed.items after.plate_changed.items h.none.plate_changed h.adds.plate_changed workspace.plate_changed.long g.plate_changed;
  edges = (let a = g.edges in let b = h.adds.edges in let c = h.none.edges in omega (arith, a, b, c));
}
