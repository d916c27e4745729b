-- trap_rows: traps the strips of these rows, one below the other, into tints and counts of none.
use Rattle.std.proofs.Common.{◌≡◌, ℕ, ◌+◌, ◌≤◌, get_or, subst, arith, drop, ◌∙◌}
use Rattle.page_model.specs.Page.{height, width}
use Rattle.sheet_geometry.specs.declared.spans.Span.{Span}
use Rattle.sheet_engine.specs.Whole.{AreTintsTo}
use Rattle.sheet_engine.proofs.Walking.{next_span, spans_end, spans_order}
use Rattle.sheet_engine.proofs.Wholes.{all_some, none_workspace, rows_add, strip_added, strip_workspace}
use Rattle.sheet_engine.specs.Growth.{AddsArea}
use Rattle.sheet_engine.proofs.Growing.{area_none}
use Rattle.sheet_files.proofs.whole.trap_rows.Goals as goal

pub loop-row-init : goal.loop-row-init
loop-row-init g c = record {
  spans = c.requires.rows;
  tints = c.requires.tints;
  counts = area_none c.args.sheet.now 0 0 (width c.args.sheet.now) c.args.work.now.counts;
  line = c.requires.line;
  kept = tt;
}

pub trap_row-requires-clause-workspace : goal.trap_row-requires-clause-workspace
trap_row-requires-clause-workspace g c = λ κs alive.
    let sheet = c.args.sheet.now in
    let rows = c.args.cut.now.rows.now in
    let none : Span = record { from = 0; wide = 0; skip = 0; core = 0 } in
    let next = next_span c.args.cut.now.down.now rows c.loop-row.row-index c.loop-row.at (height sheet) none c.loop-row-test.true c.loop-row.invariant.spans in
    let core : ℕ = (get_or rows c.loop-row.row-index none).core in
    let inside : c.loop-row.at + core ≤ height sheet = spans_order c.args.cut.now.down.now (drop (c.loop-row.row-index + 1) rows) (c.loop-row.at + core) (height sheet) next.1 in
    let valid = c.width-valid.ensures.valid in
    strip_workspace sheet (width sheet) c.loop-row.at core (height sheet) c.args.work.now.counts c.loop-row.work.counts (none_workspace sheet c.args.work.now.counts c.requires.counts valid.narrow valid.low) c.loop-row.invariant.counts inside

pub trap_row-requires-clause-row : goal.trap_row-requires-clause-row
trap_row-requires-clause-row g c = λ κs alive.
    (next_span c.args.cut.now.down.now c.args.cut.now.rows.now c.loop-row.row-index c.loop-row.at (height c.args.sheet.now) (record { from = 0; wide = 0; skip = 0; core = 0 }) c.loop-row-test.true c.loop-row.invariant.spans).0

pub trap_row-requires-clause-some_row : goal.trap_row-requires-clause-some_row
trap_row-requires-clause-some_row g c = λ κs alive. all_some c.args.cut.now.down.now c.args.cut.now.rows.now 0 (height c.args.sheet.now) c.requires.rows c.loop-row.row-index (record { from = 0; wide = 0; skip = 0; core = 0 }) c.loop-row-test.true

pub trap_row-requires-clause-kept : goal.trap_row-requires-clause-kept
trap_row-requires-clause-kept g c = λ κs alive. c.loop-row.invariant.kept

pub trap_row-requires-clause-line : goal.trap_row-requires-clause-line
trap_row-requires-clause-line g c = λ κs alive. c.loop-row.invariant.line

pub trap_row-requires-clause-plates : goal.trap_row-requires-clause-plates
trap_row-requires-clause-plates g c = λ κs alive. c.loop-row.invariant.tints.count

pub trap_row-requires-clause-some : goal.trap_row-requires-clause-some
trap_row-requires-clause-some g c = λ κs alive. all_some c.args.cut.now.across.now c.args.cut.now.columns.now 0 (width c.args.sheet.now) c.requires.columns

pub overflow_add-at : goal.overflow_add-at
overflow_add-at g c =
    let sheet = c.args.sheet.now in
    let rows = c.args.cut.now.rows.now in
    let none : Span = record { from = 0; wide = 0; skip = 0; core = 0 } in
    let next = next_span c.args.cut.now.down.now rows c.loop-row.row-index c.loop-row.at (height sheet) none c.loop-row-test.true c.loop-row.invariant.spans in
    let core : ℕ = (get_or rows c.loop-row.row-index none).core in
    let inside : c.loop-row.at + core ≤ height sheet = spans_order c.args.cut.now.down.now (drop (c.loop-row.row-index + 1) rows) (c.loop-row.at + core) (height sheet) next.1 in
    let low = c.width-valid.ensures.valid.low in
    omega (arith, inside, low)

pub loop-row-preserved : goal.loop-row-preserved
loop-row-preserved g c =
    let sheet = c.args.sheet.now in
    let rows = c.args.cut.now.rows.now in
    let none : Span = record { from = 0; wide = 0; skip = 0; core = 0 } in
    let next = next_span c.args.cut.now.down.now rows c.loop-row.row-index c.loop-row.at (height sheet) none c.loop-row-test.true c.loop-row.invariant.spans in
    let core : ℕ = (get_or rows c.loop-row.row-index none).core in
    let parts = c.width-valid.ensures.valid.ranges.parts in
    let at : c.loop-row.at ≡ 0 + c.loop-row.at = omega arith in
    record {
      spans = next.1;
      tints = strip_added sheet c.args.cut.now.across.now c.args.cut.now.down.now c.args.cut.now.columns.now (get_or rows c.loop-row.row-index none) c.loop-row.at c.loop-row.work.tints c.trap_row.new.work.tints parts.some_plates parts.some_zones c.requires.rulers c.requires.columns next.0 c.loop-row.invariant.tints c.in_ok-workspace.ensures.tints;
      counts = rows_add sheet 0 0 (width sheet) c.loop-row.at core c.args.work.now.counts c.loop-row.work.counts c.trap_row.new.work.counts c.loop-row.invariant.counts
          (subst (λ (n : ℕ). AddsArea sheet 0 n (width sheet) core c.loop-row.work.counts c.trap_row.new.work.counts) at c.in_ok-workspace.ensures.counts);
      line = c.trap_row.ensures.line ∙ c.loop-row.invariant.line;
      kept = c.in_ok-workspace.ensures.kept;
    }

pub returns-clause-tints : goal.returns-clause-tints
returns-clause-tints g c =
    let sheet = c.args.sheet.now in
    let end : c.loop-row.at ≡ height sheet = spans_end c.args.cut.now.down.now c.args.cut.now.rows.now c.loop-row.row-index c.loop-row.at (height sheet) c.loop-row-test.false c.loop-row.invariant.spans in
    subst (λ (n : ℕ). AreTintsTo sheet n c.loop-row.work.tints) end c.loop-row.invariant.tints

pub returns-clause-counts : goal.returns-clause-counts
returns-clause-counts g c =
    let sheet = c.args.sheet.now in
    let end : c.loop-row.at ≡ height sheet = spans_end c.args.cut.now.down.now c.args.cut.now.rows.now c.loop-row.row-index c.loop-row.at (height sheet) c.loop-row-test.false c.loop-row.invariant.spans in
    subst (λ (n : ℕ). AddsArea sheet 0 0 (width sheet) n c.args.work.now.counts c.loop-row.work.counts) end c.loop-row.invariant.counts
