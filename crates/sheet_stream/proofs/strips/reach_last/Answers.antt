-- reach_last: puts all strips but the last, which is at hand then.
use Rattle.std.proofs.Common.{map, subst, arith}
use Rattle.std.proofs.lemmas.Grind.{common_steps}
use Rattle.sheet_stream.specs.declared.rows.Progress.{Progress}
use Rattle.sheet_stream.specs.Going.{IsNextRow}
use Rattle.sheet_stream.proofs.StreamLemmas.{reached}
use Rattle.sheet_stream.proofs.strips.reach_last.Goals as goal

pub trap_first-requires-clause-next : goal.trap_first-requires-clause-next
trap_first-requires-clause-next g c κs within =
    subst (λ (p : Progress). IsNextRow c.args.sheet.now.plan.now.down p c.next_row-second.result) c.progress_after-progress.ensures.value c.next_row-second.ensures.next

pub trap_first-requires-clause-way : goal.trap_first-requires-clause-way
trap_first-requires-clause-way g c κs within =
    let way = c.requires.way in
    record { course = way.course; none = way.none; empty = way.empty; at = way.stands.at }

pub go_on-requires-clause-way : goal.go_on-requires-clause-way
go_on-requires-clause-way g c κs within =
    let way = c.requires.way in
    record {
      course = way.course;
      none = way.none;
      empty = way.empty;
      awaits = c.in-Ok.ensures.goes way.course way.none (map g.R.Rack.state c.args.racks.now) way.stands;
    }

pub returns-in-Ok-clause-reaches : goal.returns-in-Ok-clause-reaches
returns-in-Ok-clause-reaches g c =
    let racks = map g.R.Rack.state c.args.racks.now in
    reached c.args.sheet.now.outline.now c.args.sheet.now.plan.now c.args.sheet.now.plates.now c.args.first.now c.next_row-second.result (map g.T.Tray.state c.args.trays.now) (map g.T.Tray.state c.trap_first.new.trays) (map g.T.Tray.state c.go_on.new.trays) racks (map g.R.Rack.state c.go_on.new.racks) c.args.workspace.now c.trap_first.new.workspace c.go_on.new.workspace c.go_on.result c.go_on.ensures.reaches
    (λ course none stands. c.in-Ok.ensures.goes course none racks stands)

pub returns-in-Err-clause-reaches : goal.returns-in-Err-clause-reaches
returns-in-Err-clause-reaches g c course none stands = c.in-Err.ensures.goes course none (map g.R.Rack.state c.args.racks.now) stands

pub go_on-requires-clause-second : goal.go_on-requires-clause-second
go_on-requires-clause-second g c = grind (arith, common_steps)

pub progress_after-progress-requires : goal.progress_after-progress-requires
progress_after-progress-requires g c = grind (arith, common_steps)

pub next_row-second-requires-clause-ruler : goal.next_row-second-requires-clause-ruler
next_row-second-requires-clause-ruler g c = grind (arith, common_steps)

pub go_on-requires-clause-headers : goal.go_on-requires-clause-headers
go_on-requires-clause-headers g c = grind (arith, common_steps)

pub go_on-requires-clause-trays : goal.go_on-requires-clause-trays
go_on-requires-clause-trays g c = grind (arith, common_steps)

pub go_on-requires-clause-racks : goal.go_on-requires-clause-racks
go_on-requires-clause-racks g c = grind (arith, common_steps)

pub trap_first-requires-clause-row : goal.trap_first-requires-clause-row
trap_first-requires-clause-row g c = grind (arith, common_steps)

pub next_row-second-requires-clause-progress : goal.next_row-second-requires-clause-progress
next_row-second-requires-clause-progress g c = grind (arith, common_steps)
