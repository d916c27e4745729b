-- add_strip: adds the new tints of the strip that was trapped in the room last after those of the
-- strips above it, plate by plate.
use Rattle.std.proofs.lemmas.Grind.{common_steps}
use Rattle.std.proofs.Common.{◌≡◌, ℕ, ◌+◌, ◌<◌, List, sym, ◌∙◌, subst, arith}
use Rattle.std.specs.Prelude.{map}
use Rattle.page_model.specs.Page.{plates}
use Rattle.sheet_geometry.specs.Areas.{traps}
use Rattle.sheet_geometry.specs.declared.spans.Span.{Span}
use Rattle.sheet_geometry.specs.Plans.{tile_of}
use Rattle.sheet_geometry.specs.Tiles.{strip_rows}
use Rattle.sheet_engine.specs.Workspaces.{columns_in}
use Rattle.sheet_files.proofs.Extending.{AreExtending, extending_next, extending_none}
use Rattle.sheet_files.proofs.whole.add_strip.Goals as goal

pub loop-c-init : goal.loop-c-init
loop-c-init c = record { line = c.requires.line; out = extending_none (plates c.args.sheet.now) (λ (p : ℕ). strip_rows traps p c.args.sheet.now (map (λ (column : Span). tile_of column c.args.row.now) (columns_in c.args.workspace.now)) c.args.row.now.core) c.args.out.now }

pub loop-c-preserved : goal.loop-c-preserved
loop-c-preserved c =
    let sheet = c.args.sheet.now in
    let by : ℕ → List ℕ = λ (p : ℕ). strip_rows traps p sheet (map (λ (column : Span). tile_of column c.args.row.now) (columns_in c.args.workspace.now)) c.args.row.now.core in
    let inside : c.loop-c.c < plates sheet = (let a = c.loop-c-test.true in let b = c.plates-c-end.ensures.value in omega (arith, a, b)) in
    let more : c.as_slice.result.now ≡ by c.loop-c.c = c.as_slice.ensures.value ∙ c.in_ok-tints.ensures.tints in
    record {
      line = c.strip_tints.ensures.line ∙ c.loop-c.invariant.line;
      out = subst (AreExtending (plates sheet) (c.loop-c.c + 1) by c.args.out.now) (sym c.in_ok-extend_plate.ensures)
          (extending_next (plates sheet) c.loop-c.c by c.args.out.now c.loop-c.out c.as_slice.result.now c.requires.plates inside more c.loop-c.invariant.out);
    }

pub returns-clause-out : goal.returns-clause-out
returns-clause-out c = record {
  count = c.loop-c.invariant.out.long;
  each = λ j l. c.loop-c.invariant.out.done j (let a = c.loop-c-test.false in let b = c.plates-c-end.ensures.value in omega (arith, l, a, b)) l;
}

pub strip_tints-requires-clause-row : goal.strip_tints-requires-clause-row
strip_tints-requires-clause-row c = grind (arith, common_steps)
