-- What is put of a strip is put of the sheet.
use Rattle.std.proofs.Common.{◌≡◌, ℕ, zero, suc, ◌+◌, ◌*◌, ◌≤◌, List, ◌++◌, Some, Ok, Err, sym, ap, ◌∙◌, subst, arith}
use Rattle.outside.specs.Rack.{RackState}
use Rattle.sheet_geometry.specs.Areas.{traps}
use Rattle.sheet_geometry.specs.StripCores.{new_from}
use Rattle.sheet_geometry.proofs.CoreLemmas.{row_alike, wide_is}
use Rattle.page_model.specs.declared.parts.PageParts.{PageParts}
use Rattle.page_model.specs.Page.{width}
use Rattle.page_model.specs.Planes.{no_plane}
use Rattle.pgm_plates.specs.declared.header.Header.{Header}
use Rattle.pgm_plates.specs.Rows.{HasWritten}
use Rattle.plate_rows.specs.Images.{BreaksRows}
use Rattle.plate_rows.specs.Racks.{rack_at}
use Rattle.plate_rows.specs.Trays.{name_at}
use Rattle.common_errors.specs.declared.common.CommonError.TheVariants.{Write}
use Rattle.sheet_stream.specs.Growing.{new_rows}
use Rattle.sheet_stream.specs.Writing.{RowsAreWritten}
use Rattle.sheet_geometry.specs.declared.spans.Ruler.{Ruler}
use Rattle.sheet_geometry.specs.declared.spans.Span.{Span}
use Rattle.sheet_geometry.specs.Plans.{AreRulersFor}
use Rattle.sheet_geometry.specs.Sheets.{IsNearSheet, IsSheet}
use Rattle.sheet_geometry.specs.Spans.{IsSpan}
use Rattle.sheet_geometry.specs.Strips.{strip_parts, strip_tile}
use Rattle.sheet_geometry.proofs.StripLemmas.{strip_law}
use Rattle.sheet_engine.proofs.Adding.{tile_adds}
use Rattle.sheet_stream.specs.Cores.{WritesCore, core_row_of, core_rows_of, core_span_of}
use Rattle.sheet_stream.specs.OnSheet.{StripIsBroken, StripIsCounted, StripIsWritten, strip_cut}
use Rattle.sheet_stream.proofs.RowLemmas.{new_more, span_more, span_none}
use Rattle.sheet_engine.specs.Growth.{AddsArea}
use Rattle.sheet_engine.specs.declared.counts.SheetCounts.{SheetCounts}
use Rattle.page_model.specs.Columns.{halo}
use Rattle.page_model.specs.Reach.{page_reach}
use Rattle.sheet_geometry.proofs.Tiles.{traps_local}

module _ (sheet : PageParts) (across down : Ruler) (at : ℕ) (row : Span) (ok : IsSheet sheet) (near : IsNearSheet sheet) (are : AreRulersFor traps sheet across down) (is : IsSpan down at row) where
  abbrev strip : PageParts
  strip = strip_parts sheet row

  -- rows of the core, by the strip and by the sheet
  span_same : (c k n : ℕ) → k + n ≤ row.core → core_span_of strip (strip_cut across down row) k n c ≡ new_from traps sheet c ((at + k) * width sheet) (n * width sheet)
  span_same c k zero l = span_none strip (strip_cut across down row) k c ∙ sym (let e : 0 * width sheet ≡ 0 = omega arith in ap (new_from traps sheet c ((at + k) * width sheet)) e)
  span_same c k (suc n) l =
      let before = span_same c k n (omega (arith, l)) in
      let here : core_row_of strip (strip_cut across down row) (k + n) c ≡ new_from traps sheet c ((at + (k + n)) * width sheet) (width sheet) = row_alike (halo (page_reach sheet)) sheet across down at row ok near are is traps traps_local (omega arith) c (k + n) (omega (arith, l)) in
      let place : (at + (k + n)) * width sheet ≡ (at + k) * width sheet + n * width sheet = omega arith in
      let end : n * width sheet + width sheet ≡ suc n * width sheet = omega arith in
      ap (λ (rows : ℕ). core_span_of strip (strip_cut across down row) k rows c) (let e : suc n ≡ n + 1 = omega arith in e)
      ∙ sym (span_more strip (strip_cut across down row) k n c)
      ∙ (λ i. before i ++ here i)
      ∙ ap (λ (from : ℕ). new_from traps sheet c ((at + k) * width sheet) (n * width sheet) ++ new_from traps sheet c from (width sheet)) place
      ∙ new_more sheet c ((at + k) * width sheet) (n * width sheet) (width sheet)
      ∙ ap (new_from traps sheet c ((at + k) * width sheet)) end

  -- .. the first ones
  core_same : (c n : ℕ) → n ≤ row.core → core_rows_of strip (strip_cut across down row) n c ≡ new_from traps sheet c (at * width sheet) (n * width sheet)
  core_same c n l =
      let top : row.skip * width strip ≡ (row.skip + 0) * width strip = omega arith in
      let place : (at + 0) * width sheet ≡ at * width sheet = omega arith in
      ap (λ (from : ℕ). new_from traps strip c from (n * width strip)) top
      ∙ span_same c 0 n (omega (arith, l))
      ∙ ap (λ (from : ℕ). new_from traps sheet c from (n * width sheet)) place

  rows_more : (c n : ℕ) → n ≤ row.core → new_rows sheet c at ++ core_rows_of strip (strip_cut across down row) n c ≡ new_rows sheet c (at + n)
  rows_more c n l =
      let from : at * width sheet ≡ 0 + at * width sheet = omega arith in
      let end : at * width sheet + n * width sheet ≡ (at + n) * width sheet = omega arith in
      ap (λ (t : List ℕ). new_rows sheet c at ++ t) (core_same c n l ∙ ap (λ (k : ℕ). new_from traps sheet c k (n * width sheet)) from)
      ∙ new_more sheet c 0 (at * width sheet) (n * width sheet)
      ∙ ap (new_from traps sheet c 0) end

  pub strip_written : (outputs : List (List ℕ)) (header : Header) (count : ℕ) (start before after : List RackState) → RowsAreWritten outputs header count sheet at start before → WritesCore count header strip (strip_cut across down row) before after (Ok tt) → RowsAreWritten outputs header count sheet (at + row.core) start after
  strip_written outputs header count start before after wrote writes =
      let more = writes outputs (λ c. new_rows sheet c at) start wrote in
      record {
        each = λ k l. subst (λ (ts : List ℕ). HasWritten (name_at outputs k) header ts (rack_at start k) (rack_at after k)) (rows_more k row.core (omega arith)) (more.each k l);
        others = more.others;
      }

  pub strip_broken : (outputs : List (List ℕ)) (header : Header) (count k : ℕ) (start before after : List RackState) → RowsAreWritten outputs header count sheet at start before → WritesCore count header strip (strip_cut across down row) before after (Err (Write (Some k))) → (line n : ℕ) × (1 ≤ n) × (line + n ≤ at + row.core) × BreaksRows outputs header count k (λ c. new_rows sheet c line) (λ c. new_from traps sheet c (line * width sheet) (n * width sheet)) start after
  strip_broken outputs header count k start before after wrote writes =
      let breaks = writes outputs (λ c. new_rows sheet c at) start wrote in
      let m : ℕ = breaks.0 in
      let n : ℕ = breaks.1 in
      let some : 1 ≤ n = breaks.2 in
      let less : m + n ≤ row.core = breaks.3 in
      let so_far : (c : ℕ) → new_rows sheet c at ++ core_rows_of strip (strip_cut across down row) m c ≡ new_rows sheet c (at + m) = λ c. rows_more c m (omega (arith, less)) in
      let here : (c : ℕ) → core_span_of strip (strip_cut across down row) m n c ≡ new_from traps sheet c ((at + m) * width sheet) (n * width sheet) = λ c. span_same c m n less in (
        at + m,
        n,
        some,
        omega (arith, less),
        subst (λ (f : ℕ → List ℕ). BreaksRows outputs header count k f (λ c. new_from traps sheet c ((at + m) * width sheet) (n * width sheet)) start after) (λ i c. so_far c i)
            (subst (λ (f : ℕ → List ℕ). BreaksRows outputs header count k (λ c. new_rows sheet c at ++ core_rows_of strip (strip_cut across down row) m c) f start after) (λ i c. here c i) breaks.4),
      )

  some : 1 ≤ width sheet
  some = (ok.parts.planes_in_range 0 no_plane (let plates = ok.parts.some_plates in omega (arith, plates))).some_width

  pub strip_counted : (before after : SheetCounts) → AddsArea strip 0 row.skip (width strip) row.core before after → AddsArea sheet 0 at (width sheet) row.core before after
  strip_counted before after adds =
      tile_adds sheet (strip_tile sheet row) 0 at row.core before after (strip_law (halo (page_reach sheet)) sheet across down at row ok near are is some).tile
      (subst (λ (w : ℕ). AddsArea strip 0 row.skip w row.core before after) (wide_is (halo (page_reach sheet)) sheet across down at row ok near are is) adds)

pub is_written : StripIsWritten
is_written outputs header count at sheet across down row start before after ok near are is wrote writes = strip_written sheet across down at row ok near are is outputs header count start before after wrote writes

pub is_broken : StripIsBroken
is_broken outputs header count at k sheet across down row start before after ok near are is wrote writes = strip_broken sheet across down at row ok near are is outputs header count k start before after wrote writes

pub is_counted : StripIsCounted
is_counted at sheet across down row before after ok near are is adds = strip_counted sheet across down at row ok near are is before after adds
