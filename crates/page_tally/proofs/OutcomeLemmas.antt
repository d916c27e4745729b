-- What an outcome holds: with no row of the page, with one row more, and with all.
use Rattle.std.proofs.Common.{◌≡◌, ℕ, Bool, ◌&&◌, ◌+◌, ◌*◌, ◌<◌, ◌∙◌, ap, arith, subst, List, length, slice_index, replicate}
use Rattle.std.specs.Prelude.{◌==◌}
use Rattle.std.proofs.lemmas.List.{get_or-replicate, length-replicate}
use Rattle.page_model.specs.declared.parts.Counts.{Counts}
use Rattle.page_model.specs.declared.parts.PageParts.{PageParts}
use Rattle.page_tally.specs.declared.outcome.Outcome.{Outcome}
use Rattle.page_model.specs.Conditions.{IsPage}
use Rattle.page_model.specs.Counts.{deciding_edges, page_counts, sample_changes, zone_changed, zone_samples}
use Rattle.page_model.specs.Page.{height, plates, sample_at, width}
use Rattle.page_model.specs.Zones.{zone_of}
use Rattle.page_model.proofs.PageLemmas.{plane_of}
use Rattle.lists.specs.Words.{count_below, list_below, sum_below}
use Rattle.page_tally.specs.Standing.{ArePlatesCounted, AreSamplesCounted, AreTrappedTo, AreZonesCounted, HasRows, edges_of}
use Rattle.page_tally.proofs.CountLemmas.{plates_whole, samples_whole, zones_whole}
use Rattle.page_tally.proofs.EdgeCount.{edges_by_samples}

pub edges_whole : (page : PageParts) (edges : ℕ) → IsPage page → edges ≡ sum_below (edges_of page) (height page * width page) → edges ≡ deciding_edges page
edges_whole page edges valid e =
    let plane = plane_of page 0 valid valid.parts.some_plates in
    e ∙ edges_by_samples page (height page * width page) plane.some_width plane.some_height (omega arith)

abbrev counts_of : List ℕ → List ℕ → ℕ → List ℕ → Counts
counts_of a b e d = record { zone_samples = a; zone_changed = b; edges = e; plate_changed = d }

-- all counts of the page
pub counts_whole : (page : PageParts) (a b d : List ℕ) (e : ℕ) → IsPage page → AreSamplesCounted page 0 (height page * width page) a → AreZonesCounted page 0 (height page * width page) b → e ≡ sum_below (edges_of page) (height page * width page) → ArePlatesCounted page (height page * width page) d → record { zone_samples = a; zone_changed = b; edges = e; plate_changed = d } ≡ page_counts page
unfolding page_counts
counts_whole page a b d e valid ha hb he hd =
    ap (λ (x : List ℕ). counts_of x b e d) (samples_whole page a ha)
    ∙ ap (λ (x : List ℕ). counts_of (list_below (zone_samples page) (length page.zones)) x e d) (zones_whole page b hb)
    ∙ ap (λ (x : ℕ). counts_of (list_below (zone_samples page) (length page.zones)) (list_below (zone_changed page) (length page.zones)) x d) (edges_whole page e valid he)
    ∙ ap (λ (x : List ℕ). counts_of (list_below (zone_samples page) (length page.zones)) (list_below (zone_changed page) (length page.zones)) (deciding_edges page) x) (plates_whole page d hd)

zero_at : (counts : List ℕ) (n z : ℕ) → z < n → counts ≡ replicate n 0 → slice_index counts z ≡ 0
zero_at counts n z l e = rw e (get_or-replicate n z 0 0 l)

no_rows : (w : ℕ) → 0 ≡ 0 * w
no_rows w = omega arith

none_yet : {a : ℕ} (f : ℕ → Bool) (w : ℕ) → a ≡ 0 → a + count_below f (0 * w) ≡ count_below f 0
none_yet f w e = omega (arith, e, ap (count_below f) (no_rows w))

-- no row of the page
pub none_taken : (page : PageParts) (o : Outcome) {zones count : ℕ} → zones ≡ length page.zones → count ≡ plates page → AreTrappedTo page o.planes 0 → o.zone_samples.items ≡ replicate zones 0 → o.zone_changed.items ≡ replicate zones 0 → o.plate_changed.items ≡ replicate count 0 → o.edges ≡ 0 → length o.changes.items ≡ width page → HasRows page 0 o
none_taken page o {zones} {count} ez ec planes es ex ep ee changes = record {
  planes = subst (AreTrappedTo page o.planes) (no_rows (width page)) planes;
  zone_samples = subst (λ (n : ℕ). AreSamplesCounted page 0 n o.zone_samples.items) (no_rows (width page)) (record { long = ap length es ∙ length-replicate zones 0 ∙ ez; each = λ z l. none_yet (λ i. zone_of page (sample_at page i) == z) (width page) (zero_at o.zone_samples.items zones z (omega (arith, l, ez)) es) });
  zone_changed = subst (λ (n : ℕ). AreZonesCounted page 0 n o.zone_changed.items) (no_rows (width page)) (record { long = ap length ex ∙ length-replicate zones 0 ∙ ez; each = λ z l. none_yet (λ i. (zone_of page (sample_at page i) == z) && sample_changes page (sample_at page i)) (width page) (zero_at o.zone_changed.items zones z (omega (arith, l, ez)) ex) });
  plate_changed = subst (λ (n : ℕ). ArePlatesCounted page n o.plate_changed.items) (no_rows (width page)) (record { long = ap length ep ∙ length-replicate count 0 ∙ ec; each = λ c l. zero_at o.plate_changed.items count c (omega (arith, l, ec)) ep });
  edges = ee ∙ ap (sum_below (edges_of page)) (no_rows (width page));
  few_edges = omega (arith, ee);
  changes = changes;
}
