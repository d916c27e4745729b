-- What becomes of a cut sheet.
use Rattle.std.proofs.Common.{◌≡◌, ℕ, ◌<◌, List, [], length, map, sym, ap, ◌∙◌, arith}
use Rattle.std.specs.Prelude.{slice_index, slice_index_or}
use Rattle.std.proofs.lemmas.List.{get_or-map, get_or_default, length-map, same_lists}
use Rattle.lists.specs.Words.{list_below}
use Rattle.lists.proofs.ListBelow.{length-list_below, list_below-at}
use Rattle.page_model.specs.declared.parts.Counts.{Counts}
use Rattle.page_model.specs.declared.parts.PageParts.{PageParts}
use Rattle.page_model.specs.Counts.{deciding_edges, page_counts, plate_changed, zone_changed, zone_samples}
use Rattle.page_model.specs.Page.{plates}
use Rattle.page_model.specs.Tints.{new_tints, trapped_plane, trapped_planes}
use Rattle.sheet_engine.specs.Whole.{IsCounted}
use Rattle.sheet_engine.specs.declared.counts.SheetCounts.{SheetCounts}
use Rattle.sheet_files.specs.Trapping.{plane_with}

-- a list of numbers by their places
counted : (f : ℕ → ℕ) (n : ℕ) (xs : List ℕ) → length xs ≡ n → ((k : ℕ) → k < n → slice_index xs k ≡ f k) → xs ≡ list_below f n
counted f n xs long each = same_lists xs (list_below f n) (long ∙ sym (length-list_below f n)) (λ k d within.
    let below : k < n = omega (arith, long) in
    get_or_default xs k d 0 within ∙ each k below ∙ sym (list_below-at f n k d below))

pub counts_are : (sheet : PageParts) (counts : SheetCounts) → IsCounted sheet counts → record { zone_samples = counts.zone_samples.items; zone_changed = counts.zone_changed.items; edges = counts.edges; plate_changed = counts.plate_changed.items } ≡ page_counts sheet
unfolding page_counts
counts_are sheet counts is =
    let a = counted (zone_samples sheet) (length sheet.zones) counts.zone_samples.items is.zones is.zone_samples in
    let b = counted (zone_changed sheet) (length sheet.zones) counts.zone_changed.items is.zones_too is.zone_changed in
    let c = counted (plate_changed sheet) (plates sheet) counts.plate_changed.items is.plates_all is.plate_changed in
    let e = is.edges in
    ap (λ (xs : List ℕ). made xs counts.zone_changed.items counts.edges counts.plate_changed.items) a
    ∙ ap (λ (xs : List ℕ). made (list_below (zone_samples sheet) (length sheet.zones)) xs counts.edges counts.plate_changed.items) b
    ∙ ap (λ (n : ℕ). made (list_below (zone_samples sheet) (length sheet.zones)) (list_below (zone_changed sheet) (length sheet.zones)) n counts.plate_changed.items) e
    ∙ ap (λ (xs : List ℕ). made (list_below (zone_samples sheet) (length sheet.zones)) (list_below (zone_changed sheet) (length sheet.zones)) (deciding_edges sheet) xs) c
  where
    made : List ℕ → List ℕ → ℕ → List ℕ → Counts
    made zs zc edges pc = record { zone_samples = zs; zone_changed = zc; edges = edges; plate_changed = pc }

-- the planes of the new tints of each plate
pub planes_are : (sheet : PageParts) (tints : List (List ℕ)) → length tints ≡ plates sheet → ((c : ℕ) → c < plates sheet → slice_index_or tints c [] ≡ new_tints sheet c) → map (plane_with sheet) tints ≡ trapped_planes sheet
unfolding trapped_planes
planes_are sheet tints long each = same_lists (map (plane_with sheet) tints) (list_below (trapped_plane sheet) (plates sheet)) (length-map tints (plane_with sheet) ∙ long ∙ sym (length-list_below (trapped_plane sheet) (plates sheet))) (λ k d within.
    let here : k < length tints = omega (arith, length-map tints (plane_with sheet)) in
    let below : k < plates sheet = omega (arith, long) in
    get_or-map (plane_with sheet) tints k [] d here ∙ ap (plane_with sheet) (each k below) ∙ sym (list_below-at (trapped_plane sheet) (plates sheet) k d below))

pub trapped_count : (sheet : PageParts) → length (trapped_planes sheet) ≡ plates sheet
unfolding trapped_planes
trapped_count sheet = length-list_below (trapped_plane sheet) (plates sheet)
