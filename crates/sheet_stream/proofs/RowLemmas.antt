-- The rows of a core, some of all plates at once.
use Rattle.std.proofs.Common.{◌≡◌, ℕ, zero, suc, ◌+◌, ◌*◌, ◌/◌, ◌%◌, ◌<◌, ◌≤◌, List, [], ◌∷◌, ◌++◌, length, map, get_or, drop, take, Some, None, Ok, Err, inl, inr, refl, sym, ap, ◌∙◌, subst, arith, append_assoc, length-append, div-add-mod', length-take, length-drop}
use Rattle.std.specs.List.{All}
use Rattle.std.proofs.Math.Nat.{div-lt_iff_lt-mul, mod-lt, mul-le-mul}
use Rattle.std.proofs.lemmas.Bool.{cases_eq}
use Rattle.std.proofs.lemmas.List.{append-nil, drop-append-le, drop_at, get_or-drop, get_or-take, take-append-drop, take-append-le, take_at}
use Rattle.lists.specs.Words.{list_below}
use Rattle.lists.proofs.ListBelow.{length-list_below, list_below-add}
use Rattle.lists.proofs.Same.{list_below-same}
use Rattle.outside.specs.Rack.{RackState}
use Rattle.outside.specs.Writing.{WritesFile}
use Rattle.sheet_geometry.specs.Areas.{traps}
use Rattle.sheet_geometry.specs.StripCores.{new_from}
use Rattle.sheet_geometry.proofs.CoreLemmas.{row_from}
use Rattle.page_model.specs.declared.parts.PageParts.{PageParts}
use Rattle.page_model.specs.Page.{height, sample_at, samples, width}
use Rattle.page_model.specs.Tints.{new}
use Rattle.pgm_plates.specs.declared.header.Header.{Header}
use Rattle.pgm_plates.specs.Rows.{HasWritten, spelled_so_far}
use Rattle.plate_rows.specs.Images.{BreaksRows, HaveWritten, WritesNext, part_at}
use Rattle.plate_rows.specs.Racks.{rack_at}
use Rattle.plate_rows.specs.Trays.{name_at}
use Rattle.plate_rows.proofs.WriteLemmas.{writing_breaks, writing_grows}
use Rattle.common_errors.specs.declared.common.CommonError.{CommonError}
use Rattle.common_errors.specs.declared.common.CommonError.TheVariants.{Job as JobFails, Memory, NoDetails, Page, Plate, Read, Usage, Write}
use Rattle.sheet_geometry.specs.declared.spans.Span.{Span}
use Rattle.sheet_geometry.specs.Plans.{tile_of}
use Rattle.sheet_geometry.specs.Sheets.{IsSheet}
use Rattle.sheet_geometry.specs.Tiles.{strip_row}
use Rattle.sheet_geometry.proofs.PlanLemmas.{strip_is}
use Rattle.sheet_stream.specs.declared.core_rows.StripCut.{StripCut}
use Rattle.sheet_stream.specs.Cores.{AreOpen, IsCutStrip, WritesCore, core_row_of, core_rows_of, core_span_of}
use Rattle.sheet_engine.specs.declared.workspace.StripWorkspace.{StripWorkspace}
use Rattle.sheet_engine.specs.Workspaces.{columns_in}
use Rattle.page_model.specs.Columns.{halo}
use Rattle.page_model.specs.Reach.{page_reach}
use Rattle.sheet_geometry.proofs.Tiles.{traps_local}

-- what is put of a row of a plate
pub row_is : (strip : PageParts) (cut : StripCut) (workspace : StripWorkspace) (k c : ℕ) → IsSheet strip → IsCutStrip strip cut workspace → k < cut.row.core → strip_row traps c strip k (map (λ (column : Span). tile_of column cut.row) (columns_in workspace)) ≡ core_row_of strip cut k c
row_is strip cut workspace k c ok is l =
    row_from traps traps_local (halo (page_reach strip)) c strip (omega arith) (map (λ (column : Span). tile_of column cut.row) (columns_in workspace)) cut.row.skip cut.row.core
    (strip_is (halo (page_reach strip)) strip cut.across cut.down ok.parts.some_plates ok.parts.some_zones is.rulers (columns_in workspace) 0 cut.row.skip cut.row is.row is.columns) k l

-- new tints of a sheet, and those behind them
pub new_more : (sheet : PageParts) (c first a b : ℕ) → new_from traps sheet c first a ++ new_from traps sheet c (first + a) b ≡ new_from traps sheet c first (a + b)
new_more sheet c first a b =
    let f : ℕ → ℕ = λ i. new sheet (sample_at sheet (first + i)) c in
    ap (λ (t : List ℕ). list_below f a ++ t) (list_below-same (λ i. new sheet (sample_at sheet (first + a + i)) c) (λ i. f (a + i)) b (λ i l. ap (λ (n : ℕ). new sheet (sample_at sheet n) c) (let e : first + a + i ≡ first + (a + i) = omega arith in e)))
    ∙ sym (list_below-add f a b)

-- one row more behind some of a core
pub span_more : (strip : PageParts) (cut : StripCut) (k n c : ℕ) → core_span_of strip cut k n c ++ core_row_of strip cut (k + n) c ≡ core_span_of strip cut k (n + 1) c
span_more strip cut k n c =
    let w = width strip in
    let first : ℕ = (cut.row.skip + k) * w in
    let place : (cut.row.skip + (k + n)) * w ≡ first + n * w = omega arith in
    let end : n * w + w ≡ (n + 1) * w = omega arith in
    ap (λ (from : ℕ). new_from traps strip c first (n * w) ++ new_from traps strip c from w) place
    ∙ new_more strip c first (n * w) w
    ∙ ap (new_from traps strip c first) end

-- n rows more of a core
pub core_more : (strip : PageParts) (cut : StripCut) (k n c : ℕ) → core_rows_of strip cut k c ++ core_span_of strip cut k n c ≡ core_rows_of strip cut (k + n) c
core_more strip cut k n c =
    let w = width strip in
    let first : ℕ = cut.row.skip * w in
    let place : (cut.row.skip + k) * w ≡ first + k * w = omega arith in
    let end : k * w + n * w ≡ (k + n) * w = omega arith in
    ap (λ (from : ℕ). new_from traps strip c first (k * w) ++ new_from traps strip c from (n * w)) place
    ∙ new_more strip c first (k * w) (n * w)
    ∙ ap (new_from traps strip c first) end

pub span_none : (strip : PageParts) (cut : StripCut) (k c : ℕ) → core_span_of strip cut k 0 c ≡ []
span_none strip cut k c = (let e : 0 * width strip ≡ 0 = omega arith in ap (new_from traps strip c ((cut.row.skip + k) * width strip)) e)

pub core_none : (strip : PageParts) (cut : StripCut) (c : ℕ) → core_rows_of strip cut 0 c ≡ []
core_none strip cut c = (let e : 0 * width strip ≡ 0 = omega arith in ap (list_below (λ i. new strip (sample_at strip (cut.row.skip * width strip + i)) c)) e)

module _ (names : List (List ℕ)) (header : Header) (count : ℕ) (strip : PageParts) (cut : StripCut) (tints : ℕ → List ℕ) (start : List RackState) where
  abbrev Rows : ℕ → List RackState → Type 0
  Rows k now = HaveWritten names header count (λ c. tints c ++ core_rows_of strip cut k c) start now

  pub none_written : (a : List RackState) → HaveWritten names header count tints start a → Rows 0 a
  none_written a have = record {
    each = λ k l. subst (λ (ts : List ℕ). HasWritten (name_at names k) header ts (rack_at start k) (rack_at a k)) (sym (ap (λ (t : List ℕ). tints k ++ t) (core_none strip cut k) ∙ append-nil (tints k))) (have.each k l);
    others = have.others;
  }

  pub rows_written : (k n : ℕ) (line : List ℕ) (a b : List RackState) → Rows k a → ((c : ℕ) → c < count → part_at (n * width strip) line c ≡ core_span_of strip cut k n c) → WritesNext count header (part_at (n * width strip) line) a b (Ok tt) → Rows (k + n) b
  rows_written k n line a b have rows writes =
      let more = writing_grows names header count (λ c. tints c ++ core_rows_of strip cut k c) (part_at (n * width strip) line) start a b have writes in
      record {
        each = λ j l. subst (λ (ts : List ℕ). HasWritten (name_at names j) header ts (rack_at start j) (rack_at b j))
            (ap (λ (t : List ℕ). tints j ++ core_rows_of strip cut k j ++ t) (rows j l) ∙ append_assoc (tints j) (core_rows_of strip cut k j) (core_span_of strip cut k n j) ∙ ap (λ (t : List ℕ). tints j ++ t) (core_more strip cut k n j)) (more.each j l);
        others = more.others;
      }

  pub rows_break : (k n j : ℕ) (line : List ℕ) (a b : List RackState) → Rows k a → ((c : ℕ) → c < count → part_at (n * width strip) line c ≡ core_span_of strip cut k n c) → WritesNext count header (part_at (n * width strip) line) a b (Err (Write (Some j))) → BreaksRows names header count j (λ c. tints c ++ core_rows_of strip cut k c) (core_span_of strip cut k n) start b
  rows_break k n j line a b have rows writes =
      let breaks = writing_breaks names header count j (λ c. tints c ++ core_rows_of strip cut k c) (part_at (n * width strip) line) start a b have writes in
      record {
        known = breaks.known;
        failed = breaks.failed;
        here = λ more. subst (λ (t : List ℕ). WritesFile {T = Unit {0}} (name_at names j) (spelled_so_far header (tints j ++ core_rows_of strip cut k j ++ (t ++ more))) (rack_at start j) (rack_at b j) (Err breaks.failed)) (rows j breaks.known) (breaks.here more);
        done = λ i l. subst (λ (t : List ℕ). HasWritten (name_at names i) header (tints i ++ core_rows_of strip cut k i ++ t) (rack_at start i) (rack_at b i)) (rows i (let known = breaks.known in omega (arith, l, known))) (breaks.done i l);
        left = breaks.left;
        others = breaks.others;
      }

-- all of a line fits, where each of its parts does
pub line_fits : (most wide count : ℕ) (line : List ℕ) → length line ≡ count * wide → ((c : ℕ) → c < count → All (λ (t : ℕ). t ≤ most) (part_at wide line c)) → All (λ (t : ℕ). t ≤ most) line
line_fits most wide count line long each = λ j d l. elim (cases_eq wide 0) [
  | inl none ↦ absurd (let m : count * wide ≡ count * 0 = ap (λ (n : ℕ). count * n) none in omega (arith, l, long, m))
  | inr other ↦ (let some : 0 < wide = omega (arith, other) in
      let c : ℕ = j / wide in
      let r : ℕ = j % wide in
      let lc : c < count = (div-lt_iff_lt-mul some).1 (omega (arith, l, long)) in
      let lr : r < wide = mod-lt j some in
      let next : (c + 1) * wide ≤ count * wide = mul-le-mul (omega (arith, lc)) (omega arith) in
      let inside : r < length (part_at wide line c) = omega (arith, lr, next, long, length-take wide (drop (c * wide) line), length-drop (c * wide) line) in
      let e : get_or (part_at wide line c) r d ≡ get_or line j d = get_or-take wide (drop (c * wide) line) r d lr ∙ get_or-drop (c * wide) line r d ∙ ap (λ (n : ℕ). get_or line n d) (div-add-mod' j wide) in
      subst (λ (t : ℕ). t ≤ most) e (each c lc r d inside))
]

drop_nothing : {X : Type 0} (k : ℕ) → ◌≡◌ {A = List X} (drop k []) []
drop_nothing zero = refl
drop_nothing (suc k) = refl

pub drop_more : {X : Type 0} (m n : ℕ) (xs : List X) → drop n (drop m xs) ≡ drop (m + n) xs
drop_more zero n xs = ap (λ (k : ℕ). drop k xs) (let e : n ≡ 0 + n = omega arith in e)
drop_more (suc m) n [] = ap (drop n) (drop_nothing (suc m)) ∙ drop_nothing n ∙ sym (drop_nothing (suc m + n))
drop_more (suc m) n (x ∷ xs) = drop_more m n xs ∙ ap (λ (k : ℕ). drop k (x ∷ xs)) (let e : suc (m + n) ≡ suc m + n = omega arith in e)

-- ---- rows that are put in a line

front : (wide j c : ℕ) (first rest : List ℕ) → length first ≡ c * wide → j < c → part_at wide (first ++ rest) j ≡ take wide (drop (j * wide) first)
front wide j c first rest long l =
    let next : (j + 1) * wide ≤ c * wide = mul-le-mul (omega (arith, l)) (omega arith) in
    ap (take wide) (drop-append-le (j * wide) first rest (omega (arith, next, long)))
    ∙ take-append-le wide (drop (j * wide) first) rest (omega (arith, next, long, length-drop (j * wide) first))

-- the parts before it stay, and it is the next one
pub part_put : (wide c j : ℕ) (line row new : List ℕ) → length row ≡ wide → c * wide + wide ≤ length line → new ≡ take (c * wide) line ++ (row ++ drop (c * wide + wide) line) → j < c → part_at wide new j ≡ part_at wide line j
part_put wide c j line row new long workspace is l =
    let first : length (take (c * wide) line) ≡ c * wide = omega (arith, workspace, length-take (c * wide) line) in
    ap (λ (t : List ℕ). part_at wide t j) is
    ∙ front wide j c (take (c * wide) line) (row ++ drop (c * wide + wide) line) first l
    ∙ sym (front wide j c (take (c * wide) line) (drop (c * wide) line) first l)
    ∙ ap (λ (t : List ℕ). part_at wide t j) (take-append-drop (c * wide) line)

pub part_new : (wide c : ℕ) (line row new : List ℕ) → length row ≡ wide → c * wide + wide ≤ length line → new ≡ take (c * wide) line ++ (row ++ drop (c * wide + wide) line) → part_at wide new c ≡ row
part_new wide c line row new long workspace is =
    let first : length (take (c * wide) line) ≡ c * wide = omega (arith, workspace, length-take (c * wide) line) in
    ap (λ (t : List ℕ). part_at wide t c) is
    ∙ ap (take wide) (drop_at (take (c * wide) line) (row ++ drop (c * wide + wide) line) (c * wide) first)
    ∙ take_at row (drop (c * wide + wide) line) wide long

pub put_long : (wide c : ℕ) (line row new : List ℕ) → length row ≡ wide → c * wide + wide ≤ length line → new ≡ take (c * wide) line ++ (row ++ drop (c * wide + wide) line) → length new ≡ length line
put_long wide c line row new long workspace is =
    ap length is ∙ (let a = length-append (take (c * wide) line) (row ++ drop (c * wide + wide) line) in let b = length-append row (drop (c * wide + wide) line) in let t = length-take (c * wide) line in let d = length-drop (c * wide + wide) line in
    let e : length (take (c * wide) line ++ (row ++ drop (c * wide + wide) line)) ≡ length line = omega (arith, a, b, t, d, long, workspace) in e)

-- a row behind the first ones of a plate
pub row_put : (from n wide : ℕ) (line rows row mid new : List ℕ) → length rows ≡ n * wide → length row ≡ wide → from + (n + 1) * wide ≤ length line → mid ≡ take from line ++ (rows ++ drop (from + n * wide) line) → new ≡ take (from + n * wide) mid ++ (row ++ drop (from + n * wide + wide) mid) → new ≡ take from line ++ ((rows ++ row) ++ drop (from + (n + 1) * wide) line)
row_put from n wide line rows row mid new some long workspace is put =
    let first = take from line ++ rows in
    let rest = drop (from + n * wide) line in
    let at : length first ≡ from + n * wide = (let a = length-append (take from line) rows in let t = length-take from line in omega (arith, a, t, some, workspace)) in
    let parts : mid ≡ first ++ rest = is ∙ sym (append_assoc (take from line) rows rest) in
    let before : take (from + n * wide) mid ≡ first = ap (take (from + n * wide)) parts ∙ take_at first rest (from + n * wide) at in
    let next : from + n * wide + wide ≡ from + (n + 1) * wide = omega arith in
    let after : drop (from + n * wide + wide) mid ≡ drop (from + (n + 1) * wide) line =
    sym (drop_more (from + n * wide) wide mid)
    ∙ ap (λ (t : List ℕ). drop wide (drop (from + n * wide) t)) parts
    ∙ ap (drop wide) (drop_at first rest (from + n * wide) at)
    ∙ drop_more (from + n * wide) wide line
    ∙ ap (λ (k : ℕ). drop k line) next in
    put
    ∙ (λ i. before i ++ (row ++ after i))
    ∙ append_assoc (take from line) rows (row ++ drop (from + (n + 1) * wide) line)
    ∙ ap (λ (t : List ℕ). take from line ++ t) (sym (append_assoc rows row (drop (from + (n + 1) * wide) line)))

pub row_long : (strip : PageParts) (cut : StripCut) (k c : ℕ) → length (core_row_of strip cut k c) ≡ width strip
row_long strip cut k c = length-list_below (λ i. new strip (sample_at strip ((cut.row.skip + k) * width strip + i)) c) (width strip)

pub span_long : (strip : PageParts) (cut : StripCut) (k n c : ℕ) → length (core_span_of strip cut k n c) ≡ n * width strip
span_long strip cut k n c = length-list_below (λ i. new strip (sample_at strip ((cut.row.skip + k) * width strip + i)) c) (n * width strip)

-- a write that failed in some rows of the core
pub core_stops : (count : ℕ) (header : Header) (strip : PageParts) (cut : StripCut) (k n : ℕ) (line : List ℕ) (begin a b : List RackState) (common_error : CommonError) → 1 ≤ n → k + n ≤ cut.row.core → ((names : List (List ℕ)) (tints : ℕ → List ℕ) (start : List RackState) → HaveWritten names header count tints start begin → HaveWritten names header count (λ c. tints c ++ core_rows_of strip cut k c) start a) → ((c : ℕ) → c < count → part_at (n * width strip) line c ≡ core_span_of strip cut k n c) → WritesNext count header (part_at (n * width strip) line) a b (Err common_error) → WritesCore count header strip cut begin b (Err common_error)
core_stops count header strip cut k n line begin a b (Write (Some j)) some inside so_far rows writes = λ names tints start have. (k, n, some, inside, rows_break names header count strip cut tints start k n j line a b (so_far names tints start have) rows writes)
core_stops count header strip cut k n line begin a b (Write None) some inside so_far rows writes = absurd writes
core_stops count header strip cut k n line begin a b (Read file) some inside so_far rows writes = absurd writes
core_stops count header strip cut k n line begin a b (JobFails fault) some inside so_far rows writes = absurd writes
core_stops count header strip cut k n line begin a b (NoDetails plate) some inside so_far rows writes = absurd writes
core_stops count header strip cut k n line begin a b (Plate plate fault) some inside so_far rows writes = absurd writes
core_stops count header strip cut k n line begin a b (Page fault) some inside so_far rows writes = absurd writes
core_stops count header strip cut k n line begin a b Usage some inside so_far rows writes = absurd writes
core_stops count header strip cut k n line begin a b Memory some inside so_far rows writes = absurd writes

-- the files are open still
pub open_on : (count : ℕ) (header : Header) (rows : ℕ → List ℕ) (a b : List RackState) → AreOpen header count a → WritesNext count header rows a b (Ok tt) → AreOpen header count b
open_on count header rows a b are writes = record {
  names = are.names;
  tints = λ c. are.tints c ++ rows c;
  start = are.start;
  written = writing_grows are.names header count are.tints rows are.start a b are.written writes;
}

-- rows of the core lie on the strip
pub rows_inside : (strip : PageParts) (cut : StripCut) (workspace : StripWorkspace) (k n : ℕ) → IsCutStrip strip cut workspace → k + n ≤ cut.row.core → (cut.row.skip + k) * width strip + n * width strip ≤ samples strip
rows_inside strip cut workspace k n is l =
    let within : cut.row.skip + k + n ≤ height strip = (let a = is.row.core in let b = is.row.inside in let e = is.rulers.tall in omega (arith, a, b, e, l)) in
    let m : (cut.row.skip + k + n) * width strip ≤ height strip * width strip = mul-le-mul within (omega arith) in
    omega (arith, m)
