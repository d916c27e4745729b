-- What `go_on` has to show.
use Rattle.std.proofs.lemmas.Result.{err_from_is_err_and}
use Rattle.std.proofs.Common.{◌≤◌, map, refl, sym, subst, arith}
use Rattle.std.proofs.lemmas.Grind.{common_steps}
use Rattle.sheet_stream.specs.declared.rows.Progress.{Progress}
use Rattle.sheet_stream.specs.Going.{IsNextRow}
use Rattle.sheet_stream.specs.Strips.{IsSomeStrip}
use Rattle.sheet_stream.specs.Workspaces.{CanHoldStrip}
use Rattle.sheet_stream.proofs.strips.go_on.Goals as goal

pub loop-progress-init : goal.loop-progress-init
loop-progress-init g c = record {
  trays_same = refl;
  racks_same = refl;
  hand = c.requires.second;
  progress_is = c.progress_after-progress.ensures.value;
  progress_valid = c.progress_after-progress.ensures.is;
  workspace_is = c.requires.workspace;
  waiting = c.requires.waiting;
  awaits = λ course none awaits. awaits;
}

pub stream_strip-requires-clause-next : goal.stream_strip-requires-clause-next
stream_strip-requires-clause-next g c κs within =
    subst (λ (p : Progress). IsNextRow c.args.sheet.now.plan.now.down p c.next_row-next.result) c.loop-progress.invariant.progress_is c.next_row-next.ensures.next

pub stream_strip-requires-clause-way : goal.stream_strip-requires-clause-way
stream_strip-requires-clause-way g c κs within =
    let way = c.requires.way in
    record {
      course = way.course;
      none = way.none;
      empty = way.empty;
      awaits = c.loop-progress.invariant.awaits way.course way.none way.awaits;
    }

pub loop-progress-preserved : goal.loop-progress-preserved
loop-progress-preserved g c =
    let before = c.loop-progress.invariant in
    record {
      trays_same = (let same = c.stream_strip.auto.trays in let b = before.trays_same in omega (arith, same, b));
      racks_same = (let same = c.stream_strip.auto.racks in let b = before.racks_same in omega (arith, same, b));
      hand = c.next_row-next.ensures.strip;
      progress_is = c.progress_after-progress-in-loop-progress.ensures.value;
      progress_valid = c.progress_after-progress-in-loop-progress.ensures.is;
      workspace_is = c.in_ok-stream_strip.ensures.workspace;
      waiting = c.in_ok-stream_strip.ensures.waiting;
      awaits = λ course none awaits. c.in_ok-stream_strip.ensures.goes course none (before.awaits course none awaits);
    }

pub returns-in_err-stream_strip-clause-reaches : goal.returns-in_err-stream_strip-clause-reaches
returns-in_err-stream_strip-clause-reaches g c =
    let p = err_from_is_err_and c.from_residual.result c.from_residual.ensures.1 in
    rw (p.1, p.2) (λ course none awaits. c.in_err-stream_strip.ensures.goes course none (c.loop-progress.invariant.awaits course none awaits))

pub write_waiting-requires-clause-racks : goal.write_waiting-requires-clause-racks
write_waiting-requires-clause-racks g c =
    let inv = c.loop-progress.invariant in
    let are = inv.workspace_is.ahead.is_strip.planes.count in
    let count = c.requires.headers.count in
    let enough = c.requires.racks in
    let same = inv.racks_same in
    omega (arith, are, count, enough, same)

pub write_waiting-requires-clause-opened : goal.write_waiting-requires-clause-opened
write_waiting-requires-clause-opened g c =
    let way = c.requires.way in
    (c.loop-progress.invariant.awaits way.course way.none way.awaits).opened

pub returns-in-Ok-clause-last : goal.returns-in-Ok-clause-last
returns-in-Ok-clause-last g c =
    let inv = c.loop-progress.invariant in
    record { hand = inv.hand; last = subst (λ (p : Progress). c.args.sheet.now.plan.now.down.side ≤ p.at) inv.progress_is c.loop-progress-test.false }

pub returns-in-Ok-clause-workspace : goal.returns-in-Ok-clause-workspace
returns-in-Ok-clause-workspace g c =
    let outline = c.args.sheet.now.outline.now in
    let plan = c.args.sheet.now.plan.now in
    let is = c.loop-progress.invariant.workspace_is in
    let put = c.write_waiting.ensures in
    record {
      strip = is.strip;
      ahead = subst (IsSomeStrip outline plan) (sym put.strip) is.ahead;
      one = is.one;
      other = subst (CanHoldStrip outline plan) (sym put.windows) is.other;
      line = (let l = is.line in let e = put.line in omega (arith, l, e));
      bytes = (let e = put.bytes in let b = is.bytes in omega (arith, e, b));
      pieces = is.pieces;
    }

pub returns-in-Ok-clause-reaches : goal.returns-in-Ok-clause-reaches
returns-in-Ok-clause-reaches g c course none awaits =
    let now = c.loop-progress.invariant.awaits course none awaits in
    record {
      at = record { at_hand = now.at.at_hand; holds = now.at.holds; counted = now.at.counted };
      written = now.written (map g.R.Rack.state c.write_waiting.new.racks) c.in-Ok.ensures.written;
    }

pub returns-in-Err-clause-reaches : goal.returns-in-Err-clause-reaches
returns-in-Err-clause-reaches g c course none awaits =
    (c.loop-progress.invariant.awaits course none awaits).unwritten (map g.R.Rack.state c.write_waiting.new.racks) c.in-Err.common_error c.in-Err.ensures.written

pub loop-progress-smaller : goal.loop-progress-smaller
loop-progress-smaller g c = grind (arith, common_steps)

pub next_row-next-requires-clause-ruler : goal.next_row-next-requires-clause-ruler
next_row-next-requires-clause-ruler g c = grind (arith, common_steps)

pub next_row-next-requires-clause-progress : goal.next_row-next-requires-clause-progress
next_row-next-requires-clause-progress g c = grind (arith, common_steps)

pub stream_strip-requires-clause-headers : goal.stream_strip-requires-clause-headers
stream_strip-requires-clause-headers g c = grind (arith, common_steps)

pub stream_strip-requires-clause-racks : goal.stream_strip-requires-clause-racks
stream_strip-requires-clause-racks g c = grind (arith, common_steps)

pub stream_strip-requires-clause-trays : goal.stream_strip-requires-clause-trays
stream_strip-requires-clause-trays g c = grind (arith, common_steps)

pub progress_after-progress-requires : goal.progress_after-progress-requires
progress_after-progress-requires g c = grind (arith, common_steps)

pub stream_strip-requires-clause-row : goal.stream_strip-requires-clause-row
stream_strip-requires-clause-row g c = grind (arith, common_steps)
