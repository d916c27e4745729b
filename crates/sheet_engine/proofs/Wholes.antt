-- A sheet strip by strip: rows below rows, and all of them.
use Rattle.std.proofs.Common.{◌≡◌, ℕ, zero, suc, ◌+◌, ◌*◌, ◌<◌, ◌≤◌, ◌^◌, Bool, ◌&&◌, List, [], ◌∷◌, ◌++◌, length, get_or, slice_index, sym, ◌∙◌, ap, subst, arith}
use Rattle.std.specs.Prelude.{◌==◌, map, replicate, slice_index_or}
use Rattle.std.specs.List.{All}
use Rattle.std.proofs.Math.Nat.{mul-le-mul}
use Rattle.std.proofs.lemmas.List.{get_or-replicate, length-replicate}
use Rattle.page_model.specs.declared.parts.At.{At}
use Rattle.page_model.specs.declared.parts.PageParts.{PageParts}
use Rattle.lists.specs.Words.{list_below}
use Rattle.page_model.specs.Counts.{plate_changes, sample_changes}
use Rattle.page_model.specs.Page.{height, plates, sample_at, samples, width}
use Rattle.page_model.specs.Tints.{new, new_tints}
use Rattle.page_model.specs.Zones.{zone_of}
use Rattle.sheet_geometry.specs.declared.spans.Ruler.{Ruler}
use Rattle.sheet_geometry.specs.declared.spans.Span.{Span}
use Rattle.sheet_geometry.specs.Areas.{area_sum, changes_in, changes_plate, edges_at, lies_in, one_if, traps}
use Rattle.sheet_geometry.specs.Plans.{AreRulersFor, tile_of}
use Rattle.sheet_geometry.specs.Spans.{AreSpans, IsSpan}
use Rattle.sheet_geometry.specs.Tiles.{strip_rows}
use Rattle.sheet_geometry.proofs.Areas.{area-rows, counts_by_samples}
use Rattle.sheet_geometry.proofs.PlanLemmas.{strip_is}
use Rattle.sheet_geometry.proofs.Tiles.{rows_to, traps_local}
use Rattle.sheet_engine.specs.Strips.{IsSomeSpan}
use Rattle.sheet_engine.specs.Whole.{AreTintsTo, HasStrip, IsCounted}
use Rattle.sheet_engine.specs.Works.{AreNone}
use Rattle.sheet_engine.specs.Growth.{AddsArea, Grows, HasWorkspace, HasWorkspaces}
use Rattle.sheet_engine.specs.declared.counts.SheetCounts.{SheetCounts}
use Rattle.sheet_engine.proofs.Growing.{area_edges, area_few}
use Rattle.page_model.specs.Columns.{halo}
use Rattle.page_model.specs.Reach.{page_reach}

pub some_span : (ruler : Ruler) (at : ℕ) (span : Span) → IsSpan ruler at span → IsSomeSpan ruler span
some_span ruler at span is = subst (λ (n : ℕ). IsSpan ruler n span) (sym is.begins) is

each_of : (ruler : Ruler) (s : Span) (ss : List Span) → IsSomeSpan ruler s → All (IsSomeSpan ruler) ss → (k : ℕ) (d : Span) → k < length (s ∷ ss) → IsSomeSpan ruler (get_or (s ∷ ss) k d)
each_of ruler s ss first rest zero d l = first
each_of ruler s ss first rest (suc k) d l = rest k d (omega (arith, l))

pub all_some : (ruler : Ruler) (spans : List Span) (at end : ℕ) → AreSpans ruler at spans end → All (IsSomeSpan ruler) spans
all_some ruler [] at end are = λ k d l. absurd (omega (arith, l))
all_some ruler (s ∷ ss) at end are = each_of ruler s ss (some_span ruler at s are.0) (all_some ruler ss (at + s.core) end are.1)

-- rows below rows
grows_rows : (n left top wide a b : ℕ) (f : ℕ → At → ℕ) (before mid after : List ℕ) → Grows n (λ z. area_sum (f z) left top wide a) before mid → Grows n (λ z. area_sum (f z) left (top + a) wide b) mid after → Grows n (λ z. area_sum (f z) left top wide (a + b)) before after
grows_rows n left top wide a b f before mid after g h = record {
  long = h.long ∙ g.long;
  each = λ z l. (let s = g.each z l in let t = h.each z l in let e = area-rows (f z) left top wide a b in omega (arith, s, t, e));
}

pub rows_add : (sheet : PageParts) (left top wide a b : ℕ) (before mid after : SheetCounts) → AddsArea sheet left top wide a before mid → AddsArea sheet left (top + a) wide b mid after → AddsArea sheet left top wide (a + b) before after
rows_add sheet left top wide a b before mid after g h = record {
  zone_samples = grows_rows (length sheet.zones) left top wide a b (λ z. lies_in z sheet) before.zone_samples.items mid.zone_samples.items after.zone_samples.items g.zone_samples h.zone_samples;
  zone_changed = grows_rows (length sheet.zones) left top wide a b (λ z. changes_in traps z sheet) before.zone_changed.items mid.zone_changed.items after.zone_changed.items g.zone_changed h.zone_changed;
  plate_changed = grows_rows (plates sheet) left top wide a b (λ c. changes_plate traps c sheet) before.plate_changed.items mid.plate_changed.items after.plate_changed.items g.plate_changed h.plate_changed;
  edges = (let s = g.edges in let t = h.edges in let e = area-rows (edges_at sheet) left top wide a b in omega (arith, s, t, e));
}

rows_fit : (wide at rows high : ℕ) → at + rows ≤ high → wide * at + wide * rows ≤ wide * high
rows_fit wide at rows high l = (let t : wide * (at + rows) ≤ wide * high = mul-le-mul (omega arith) l in omega (arith, t))

workspace_after : (n wide at rows high : ℕ) (f : ℕ → At → Bool) (before counts : List ℕ) → HasWorkspace n (wide * high) before → Grows n (λ z. area_sum (λ p. one_if (f z p)) 0 0 wide at) before counts → at + rows ≤ high → HasWorkspace n (wide * rows) counts
workspace_after n wide at rows high f before counts workspace h l = record {
  long = h.long ∙ workspace.long;
  low = λ z m. (let a = h.each z m in let b = workspace.low z m in let few = area_few (f z) 0 0 wide at in let fit = rows_fit wide at rows high l in omega (arith, a, b, few, fit));
}

-- there is room for a strip that is still to come
pub strip_workspace : (sheet : PageParts) (wide at rows high : ℕ) (before counts : SheetCounts) → HasWorkspaces sheet (wide * high) before → AddsArea sheet 0 0 wide at before counts → at + rows ≤ high → HasWorkspaces sheet (wide * rows) counts
strip_workspace sheet wide at rows high before counts workspace h l = record {
  zone_samples = workspace_after (length sheet.zones) wide at rows high (λ z p. zone_of sheet p == z) before.zone_samples.items counts.zone_samples.items workspace.zone_samples h.zone_samples l;
  zone_changed = workspace_after (length sheet.zones) wide at rows high (λ z p. (zone_of sheet p == z) && sample_changes sheet p) before.zone_changed.items counts.zone_changed.items workspace.zone_changed h.zone_changed l;
  plate_changed = workspace_after (plates sheet) wide at rows high (λ c p. plate_changes sheet c p) before.plate_changed.items counts.plate_changed.items workspace.plate_changed h.plate_changed l;
  edges = (let a = h.edges in let b = workspace.edges in let few = area_edges sheet 0 0 wide at in let fit = rows_fit wide at rows high l in omega (arith, a, b, few, fit));
}

few_samples : (w h : ℕ) → w < 2 ^ 30 → h < 2 ^ 30 → w * h ≤ 2 ^ 60
few_samples w h lw lh =
    let a : w ≤ 1073741824 = omega (arith, lw) in
    let b : h ≤ 1073741824 = omega (arith, lh) in
    let t : w * h ≤ 1073741824 * 1073741824 = mul-le-mul a b in
    omega (arith, t)

workspace_of_none : (n more : ℕ) (counts : List ℕ) → counts ≡ replicate n 0 → more ≤ 2 ^ 60 → HasWorkspace n more counts
workspace_of_none n more counts e l = record {
  long = ap length e ∙ length-replicate n 0;
  low = λ z m. (let a : slice_index counts z ≡ 0 = ap (λ (xs : List ℕ). slice_index xs z) e ∙ get_or-replicate n z 0 0 m in omega (arith, a, l));
}

pub none_workspace : (sheet : PageParts) (counts : SheetCounts) → AreNone sheet counts → width sheet < 2 ^ 30 → height sheet < 2 ^ 30 → HasWorkspaces sheet (width sheet * height sheet) counts
none_workspace sheet counts none lw lh =
    let few = few_samples (width sheet) (height sheet) lw lh in
    record {
      zone_samples = workspace_of_none (length sheet.zones) (width sheet * height sheet) counts.zone_samples.items none.zone_samples few;
      zone_changed = workspace_of_none (length sheet.zones) (width sheet * height sheet) counts.zone_changed.items none.zone_changed few;
      plate_changed = workspace_of_none (plates sheet) (width sheet * height sheet) counts.plate_changed.items none.plate_changed few;
      edges = (let e = none.edges in omega (arith, e, few));
    }

pub grown_from_none : (n z by : ℕ) (before after : List ℕ) → before ≡ replicate n 0 → z < n → slice_index after z ≡ slice_index before z + by → slice_index after z ≡ by
grown_from_none n z by before after e l h = (let a : slice_index before z ≡ 0 = ap (λ (xs : List ℕ). slice_index xs z) e ∙ get_or-replicate n z 0 0 l in omega (arith, a, h))

grown_long : (n : ℕ) (by : ℕ → ℕ) (before after : List ℕ) → before ≡ replicate n 0 → Grows n by before after → length after ≡ n
grown_long n by before after e h = h.long ∙ ap length e ∙ length-replicate n 0

-- the counts of all samples
pub all_counted : (sheet : PageParts) (before after : SheetCounts) → 1 ≤ width sheet → 1 ≤ height sheet → AreNone sheet before → AddsArea sheet 0 0 (width sheet) (height sheet) before after → IsCounted sheet after
all_counted sheet before after wide tall none h =
    let counts = counts_by_samples sheet wide tall in
    record {
      zones = grown_long (length sheet.zones) (λ z. area_sum (lies_in z sheet) 0 0 (width sheet) (height sheet)) before.zone_samples.items after.zone_samples.items none.zone_samples h.zone_samples;
      zones_too = grown_long (length sheet.zones) (λ z. area_sum (changes_in traps z sheet) 0 0 (width sheet) (height sheet)) before.zone_changed.items after.zone_changed.items none.zone_changed h.zone_changed;
      plates_all = grown_long (plates sheet) (λ c. area_sum (changes_plate traps c sheet) 0 0 (width sheet) (height sheet)) before.plate_changed.items after.plate_changed.items none.plate_changed h.plate_changed;
      zone_samples = λ z l. grown_from_none (length sheet.zones) z (area_sum (lies_in z sheet) 0 0 (width sheet) (height sheet)) before.zone_samples.items after.zone_samples.items none.zone_samples l (h.zone_samples.each z l) ∙ sym (counts.zone_samples z);
      zone_changed = λ z l. grown_from_none (length sheet.zones) z (area_sum (changes_in traps z sheet) 0 0 (width sheet) (height sheet)) before.zone_changed.items after.zone_changed.items none.zone_changed l (h.zone_changed.each z l) ∙ sym (counts.zone_changed z);
      plate_changed = λ c l. grown_from_none (plates sheet) c (area_sum (changes_plate traps c sheet) 0 0 (width sheet) (height sheet)) before.plate_changed.items after.plate_changed.items none.plate_changed l (h.plate_changed.each c l) ∙ sym (counts.plate_changed c);
      edges = (let e = h.edges in let z = none.edges in let a : after.edges ≡ area_sum (edges_at sheet) 0 0 (width sheet) (height sheet) = omega (arith, e, z) in a ∙ sym counts.edges);
    }

-- one strip more
pub strip_added : (sheet : PageParts) (across down : Ruler) (columns : List Span) (row : Span) (at : ℕ) (before after : List (List ℕ)) → 1 ≤ plates sheet → 1 ≤ length sheet.zones → AreRulersFor traps sheet across down → AreSpans across 0 columns (width sheet) → IsSpan down at row
    → AreTintsTo sheet at before → HasStrip sheet columns row before after → AreTintsTo sheet (at + row.core) after
strip_added sheet across down columns row at before after some zones are spans is b h = record {
  count = h.count ∙ b.count;
  each = λ c l. h.each c l ∙ ap (λ (xs : List ℕ). xs ++ strip_rows traps c sheet (map (λ (column : Span). tile_of column row) columns) row.core) (b.each c l)
      ∙ sym (rows_to traps traps_local (halo (page_reach sheet)) c sheet (omega arith) (map (λ (column : Span). tile_of column row) columns) at row.core row.core (omega arith) (strip_is (halo (page_reach sheet)) sheet across down some zones are columns 0 at row is spans));
}

-- all rows
pub all_tints : (sheet : PageParts) (out : List (List ℕ)) (c : ℕ) → c < plates sheet → AreTintsTo sheet (height sheet) out → slice_index_or out c [] ≡ new_tints sheet c
unfolding new_tints
all_tints sheet out c l are = (let e : height sheet * width sheet ≡ samples sheet = omega arith in are.each c l ∙ ap (list_below (λ k. new sheet (sample_at sheet k) c)) e)
