-- trap_sheet: traps a sheet of any sides, window by window, by rulers for its columns and rows.
use Rattle.std.proofs.Common.{ℕ, ◌≤◌, List, arith, subst, sym}
use Rattle.std.proofs.lemmas.Result.{IfOk-weaker}
use Rattle.page_model.specs.Page.{height, width}
use Rattle.sheet_geometry.specs.declared.spans.Span.{Span}
use Rattle.sheet_geometry.specs.Spans.{AreSpans}
use Rattle.sheet_engine.proofs.Wholes.{all_counted, all_tints}
use Rattle.sheet_files.proofs.whole.trap_sheet.Goals as goal

pub trap_cut-requires-clause-columns : goal.trap_cut-requires-clause-columns
trap_cut-requires-clause-columns g c = λ κs alive.
    subst (λ (n : ℕ). AreSpans c.args.across.now 0 c.as_slice.result.now n) c.requires.rulers.wide
    (subst (λ (xs : List Span). AreSpans c.args.across.now 0 xs c.args.across.now.side) (sym c.as_slice.ensures.value) c.in_ok-columns.ensures)

pub trap_cut-requires-clause-rows : goal.trap_cut-requires-clause-rows
trap_cut-requires-clause-rows g c = λ κs alive.
    subst (λ (n : ℕ). AreSpans c.args.down.now 0 c.as_slice-2.result.now n) c.requires.rulers.tall
    (subst (λ (xs : List Span). AreSpans c.args.down.now 0 xs c.args.down.now.side) (sym c.as_slice-2.ensures.value) c.in_ok-rows.ensures)

pub returns-clause-count : goal.returns-clause-count
returns-clause-count g c = IfOk-weaker c.trap_cut.result _ _ (λ trapped are. are.count) c.trap_cut.ensures.tints

pub returns-clause-tints : goal.returns-clause-tints
returns-clause-tints g c = IfOk-weaker c.trap_cut.result _ _ (λ trapped are p l. all_tints c.args.sheet.now trapped.tints p l are) c.trap_cut.ensures.tints

pub returns-clause-counts : goal.returns-clause-counts
returns-clause-counts g c =
    let sheet = c.args.sheet.now in
    let wide : 1 ≤ width sheet = (let a = c.requires.across.some_side in let b = c.requires.rulers.wide in omega (arith, a, b)) in
    let tall : 1 ≤ height sheet = (let a = c.requires.down.some_side in let b = c.requires.rulers.tall in omega (arith, a, b)) in
    IfOk-weaker c.trap_cut.result _ _ (λ trapped area. all_counted sheet area.before trapped.counts wide tall area.none area.adds) c.trap_cut.ensures.counts
