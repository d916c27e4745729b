-- trap_strip_in: traps the windows of a strip side by side, by so many workers, in a room for
-- strips of its form and number of rows, and adds what is counted in the strip.
use Rattle.std.proofs.lemmas.Grind.{common_steps}
use Rattle.std.proofs.Common.{List, ap, arith, length, subst, sym, ◌∙◌}
use Rattle.std.specs.Prelude.{map}
use Rattle.std.specs.List.{All}
use Rattle.std.proofs.lemmas.List.{with_items_is}
use Rattle.page_model.specs.Page.{width}
use Rattle.sheet_geometry.specs.declared.spans.Span.{Span}
use Rattle.sheet_geometry.specs.Spans.{AreSpans}
use Rattle.sheet_engine.specs.declared.workspace.WindowWorkspace.{WindowWorkspace}
use Rattle.sheet_engine.specs.Workspaces.{IsTrappedIn, IsWindowOf, IsWindowWorkspace}
use Rattle.sheet_engine.specs.Strips.{planes_of}
use Rattle.sheet_engine.proofs.WorkspaceLemmas.{tiles_are, windows_of}
use Rattle.sheet_engine.proofs.WorkLemmas.{maps_same}
use Rattle.sheet_geometry.specs.Forms.{form_of}
use Rattle.sheet_engine.proofs.workspace.trap_strip_in.Goals as goal

pub trap_each_in-requires-clause-columns : goal.trap_each_in-requires-clause-columns
trap_each_in-requires-clause-columns g c = λ κs within.
    subst (λ (ws : List WindowWorkspace). All (IsWindowOf c.args.plan.now.across) ws) (sym c.deref_mut.ensures.value) (windows_of c.args.plan.now.across c.args.workspace.now.windows.items (width c.args.strip.now) c.requires.columns)

pub trap_each_in-requires-clause-workspaces : goal.trap_each_in-requires-clause-workspaces
trap_each_in-requires-clause-workspaces g c = λ κs within.
    subst (λ (ws : List WindowWorkspace). All (IsWindowWorkspace (form_of c.args.strip.now) c.args.plan.now.row.wide) ws) (sym c.deref_mut.ensures.value) c.requires.windows

pub add_windows-requires-clause-windows : goal.add_windows-requires-clause-windows
add_windows-requires-clause-windows g c =
    let ws = c.trap_each_in.new.windows in
    let items = with_items_is c.args.workspace.now.windows ws (omega (arith, c.trap_each_in.ensures.count, ap length c.deref_mut.ensures.value, c.args.workspace.now.windows.ok)) in
    subst (λ (vs : List WindowWorkspace). All (IsTrappedIn c.args.strip.now c.args.plan.now.row c.args.plan.now.at) vs) (sym (c.deref.ensures.value ∙ items)) c.trap_each_in.ensures.trapped

pub add_windows-requires-clause-workspace : goal.add_windows-requires-clause-workspace
add_windows-requires-clause-workspace g c = c.requires.workspace

pub add_windows-requires-clause-columns : goal.add_windows-requires-clause-columns
add_windows-requires-clause-columns g c =
    let ws = c.trap_each_in.new.windows in
    let before = c.deref_mut.result.now in
    let value = c.deref_mut.ensures.value in
    let same = maps_same (λ (w : WindowWorkspace). w.column) before ws c.trap_each_in.ensures.count (λ k d l. c.trap_each_in.ensures.columns k d l) ∙ ap (map (λ (w : WindowWorkspace). w.column)) value in
    let items = with_items_is c.args.workspace.now.windows ws (omega (arith, c.trap_each_in.ensures.count, ap length value, c.args.workspace.now.windows.ok)) in
    subst (λ (cs : List Span). AreSpans c.args.plan.now.across 0 cs (width c.args.strip.now)) (sym (ap (map (λ (w : WindowWorkspace). w.column)) (c.deref.ensures.value ∙ items) ∙ same)) c.requires.columns

pub returns-clause-columns : goal.returns-clause-columns
returns-clause-columns g c =
    let ws = c.trap_each_in.new.windows in
    let value = c.deref_mut.ensures.value in
    let items = with_items_is c.args.workspace.now.windows ws (omega (arith, c.trap_each_in.ensures.count, ap length value, c.args.workspace.now.windows.ok)) in
    ap (map (λ (w : WindowWorkspace). w.column)) items ∙ maps_same (λ (w : WindowWorkspace). w.column) c.deref_mut.result.now ws c.trap_each_in.ensures.count (λ k d l. c.trap_each_in.ensures.columns k d l) ∙ ap (map (λ (w : WindowWorkspace). w.column)) value

pub returns-clause-windows : goal.returns-clause-windows
returns-clause-windows g c =
    let ws = c.trap_each_in.new.windows in
    let items = with_items_is c.args.workspace.now.windows ws (omega (arith, c.trap_each_in.ensures.count, ap length c.deref_mut.ensures.value, c.args.workspace.now.windows.ok)) in
    subst (λ (vs : List WindowWorkspace). All (IsWindowWorkspace (form_of c.args.strip.now) c.args.plan.now.row.wide) vs) (sym items) (λ k d l. (c.trap_each_in.ensures.trapped k d l).workspace)

pub returns-clause-counts : goal.returns-clause-counts
returns-clause-counts g c = c.add_windows.ensures

pub returns-clause-planes : goal.returns-clause-planes
returns-clause-planes g c =
    let ws = c.trap_each_in.new.windows in
    let value = c.deref_mut.ensures.value in
    let same = maps_same (λ (w : WindowWorkspace). w.column) c.deref_mut.result.now ws c.trap_each_in.ensures.count (λ k d l. c.trap_each_in.ensures.columns k d l) ∙ ap (map (λ (w : WindowWorkspace). w.column)) value in
    let items = with_items_is c.args.workspace.now.windows ws (omega (arith, c.trap_each_in.ensures.count, ap length value, c.args.workspace.now.windows.ok)) in
    ap (map (λ (w : WindowWorkspace). w.workspace.outcome.planes)) items ∙ tiles_are c.args.strip.now c.args.plan.now.row c.args.plan.now.at ws c.trap_each_in.ensures.trapped ∙ ap (map (planes_of c.args.strip.now c.args.plan.now.row)) same

pub trap_each_in-requires-clause-row : goal.trap_each_in-requires-clause-row
trap_each_in-requires-clause-row g c = grind (arith, common_steps)
