-- put_strip_row: puts row k of the new tints of plate c of the strip that was trapped in the room
-- last.
use Rattle.std.proofs.lemmas.Grind.{common_steps}
use Rattle.std.proofs.Common.{◌≡◌, ℕ, ◌+◌, ◌++◌, ◌<◌, ◌≤◌, List, ap, arith, drop, length, sym, take, ◌∙◌}
use Rattle.std.specs.Prelude.{map, slice_index_or}
use Rattle.std.proofs.lemmas.List.{length-map}
use Rattle.page_model.specs.Page.{width}
use Rattle.sheet_geometry.specs.Areas.{traps}
use Rattle.sheet_geometry.specs.declared.spans.Span.{Span}
use Rattle.sheet_geometry.specs.Plans.{tile_of}
use Rattle.sheet_geometry.specs.Tiles.{core_row, strip_row}
use Rattle.sheet_engine.specs.declared.workspace.WindowWorkspace.{WindowWorkspace}
use Rattle.sheet_engine.specs.Workspaces.{columns_in}
use Rattle.sheet_engine.specs.Strips.{planes_of}
use Rattle.sheet_engine.proofs.CoreRows.{row_more}
use Rattle.sheet_engine.proofs.WorkspaceLemmas.{column_at, core_long, next_window, put_prefix, put_long, tile_at}
use Rattle.sheet_engine.proofs.Walking.{spans_order}
use Rattle.sheet_engine.proofs.Wholes.{some_span}
use Rattle.sheet_engine.proofs.rows.put_strip_row.Goals as goal

pub row_of_core-run-requires-clause-column : goal.row_of_core-run-requires-clause-column
row_of_core-run-requires-clause-column c =
    let w = c.index-windows-j.result in
    let value = c.as_slice-windows.ensures.value in
    let items = c.args.workspace.now.windows.items in
    let is = c.index-windows-j.is ∙ ap (λ (ws : List WindowWorkspace). slice_index_or ws c.loop-j.j w) value in
    let inside : c.loop-j.j < length items = omega (arith, c.loop-j-test.true, ap length value) in
    some_span c.args.across.now c.loop-j.left w.column (next_window c.args.across.now items c.loop-j.j c.loop-j.left (width c.args.strip.now) w inside is c.loop-j.invariant.spans).0

pub row_of_core-run-requires-clause-planes : goal.row_of_core-run-requires-clause-planes
row_of_core-run-requires-clause-planes c =
    let strip = c.args.strip.now in
    let row = c.args.row.now in
    let w = c.index-windows-j.result in
    let value = c.as_slice-windows.ensures.value in
    let items = c.args.workspace.now.windows.items in
    let is = c.index-windows-j.is ∙ ap (λ (ws : List WindowWorkspace). slice_index_or ws c.loop-j.j w) value in
    let inside : c.loop-j.j < length items = omega (arith, c.loop-j-test.true, ap length value) in
    c.as_slice-planes.ensures ∙ ap (λ (v : WindowWorkspace). v.workspace.outcome.planes) is ∙ tile_at strip row items c.loop-j.j w inside c.requires.tiles ∙ sym (ap (λ (v : WindowWorkspace). planes_of strip row v.column) is)

pub put_run-requires : goal.put_run-requires
put_run-requires c =
    let w = c.index-windows-j.result in
    let value = c.as_slice-windows.ensures.value in
    let items = c.args.workspace.now.windows.items in
    let is = c.index-windows-j.is ∙ ap (λ (ws : List WindowWorkspace). slice_index_or ws c.loop-j.j w) value in
    let inside : c.loop-j.j < length items = omega (arith, c.loop-j-test.true, ap length value) in
    let next = next_window c.args.across.now items c.loop-j.j c.loop-j.left (width c.args.strip.now) w inside is c.loop-j.invariant.spans in
    let fits = spans_order c.args.across.now (drop (c.loop-j.j + 1) (columns_in c.args.workspace.now)) (c.loop-j.left + w.column.core) (width c.args.strip.now) next.1 in
    let long = core_long c.args.c c.args.strip.now c.args.k (tile_of w.column c.args.row.now) c.row_of_core-run.result.now c.row_of_core-run.ensures in
    omega (arith, fits, long, c.loop-j.invariant.long)

pub overflow_add-left : goal.overflow_add-left
overflow_add-left c =
    let w = c.index-windows-j.result in
    let value = c.as_slice-windows.ensures.value in
    let items = c.args.workspace.now.windows.items in
    let is = c.index-windows-j.is ∙ ap (λ (ws : List WindowWorkspace). slice_index_or ws c.loop-j.j w) value in
    let inside : c.loop-j.j < length items = omega (arith, c.loop-j-test.true, ap length value) in
    let next = next_window c.args.across.now items c.loop-j.j c.loop-j.left (width c.args.strip.now) w inside is c.loop-j.invariant.spans in
    let fits = spans_order c.args.across.now (drop (c.loop-j.j + 1) (columns_in c.args.workspace.now)) (c.loop-j.left + w.column.core) (width c.args.strip.now) next.1 in
    let narrow = c.width-valid.ensures.valid.narrow in
    omega (arith, fits, narrow)

pub loop-j-preserved : goal.loop-j-preserved
loop-j-preserved c =
    let strip = c.args.strip.now in
    let row = c.args.row.now in
    let w = c.index-windows-j.result in
    let j = c.loop-j.j in
    let left = c.loop-j.left in
    let out = c.loop-j.out in
    let run = c.row_of_core-run.result.now in
    let value = c.as_slice-windows.ensures.value in
    let items = c.args.workspace.now.windows.items in
    let columns = columns_in c.args.workspace.now in
    let is = c.index-windows-j.is ∙ ap (λ (ws : List WindowWorkspace). slice_index_or ws j w) value in
    let inside : j < length items = omega (arith, c.loop-j-test.true, ap length value) in
    let next = next_window c.args.across.now items j left (width strip) w inside is c.loop-j.invariant.spans in
    let fits = spans_order c.args.across.now (drop (j + 1) columns) (left + w.column.core) (width strip) next.1 in
    let long = core_long c.args.c strip c.args.k (tile_of w.column row) run c.row_of_core-run.ensures in
    let workspace : left + length run ≤ length out = omega (arith, fits, long, c.loop-j.invariant.long) in
    let column = column_at items j w w.column inside is in
    let after = c.put_run.new.tints in
    let all : left + w.column.core ≡ left + length run = omega (arith, long) in
    let many : j < length columns = omega (arith, inside, length-map items (λ (w : WindowWorkspace). w.column)) in
    record {
      spans = next.1;
      long = put_long out run after left workspace c.put_run.ensures ∙ c.loop-j.invariant.long;
      done = ap (λ (n : ℕ). take n after) all
          ∙ put_prefix out run after left workspace c.put_run.ensures
          ∙ (λ i. c.loop-j.invariant.done i ++ c.row_of_core-run.ensures i)
          ∙ sym (row_more c.args.c strip c.args.k (λ (column : Span). tile_of column row) columns j w.column many ∙ ap (λ (s : Span). strip_row traps c.args.c strip c.args.k (map (λ (column : Span). tile_of column row) (take j columns)) ++ core_row traps c.args.c strip c.args.k (tile_of s row)) column);
    }

pub row_of_core-run-requires-clause-row : goal.row_of_core-run-requires-clause-row
row_of_core-run-requires-clause-row c = grind (arith, common_steps)

pub returns : goal.returns
returns c = grind (arith, common_steps)
