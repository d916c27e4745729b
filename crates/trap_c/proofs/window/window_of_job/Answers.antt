-- Goals of window_of_job that want a lemma by name.
use Rattle.std.proofs.lemmas.Grind.{common_steps}
use Rattle.std.proofs.Common.{◌≡◌, Bool, true, length, sym, subst, rules, arith}
use Rattle.std.proofs.lemmas.Bool.Decides.{nat_tests}
use Rattle.job_reader.specs.declared.job.Job.{Job}
use Rattle.trap_c.specs.Places.{suits}
use Rattle.trap_c.specs.Planes.{planes_in}
use Rattle.trap_c.specs.Sources.{numbers}
use Rattle.trap_c.specs.Windows.{GivesWindow, IsMovedJob, moved_job, near_window, placed}
use Rattle.trap_c.proofs.MovedJobs.{moved_in_range}
use Rattle.trap_c.proofs.window.window_of_job.Goals as goal

pub window_of_moved-requires-clause-job : goal.window_of_moved-requires-clause-job
window_of_moved-requires-clause-job c = subst IsMovedJob (sym c.in-Ok.ensures) (moved_in_range c.args.layout c.args.place.now c.args.job.now c.requires.job)

pub returns-in-Ok-clause-gives : goal.returns-in-Ok-clause-gives
returns-in-Ok-clause-gives c =
    let planes = planes_in c.args.layout (numbers c.args.source.now) (length c.args.names.now) in
    let right : suits c.args.job.now c.args.layout c.args.place.now ≡ true = first_of (cc, first_of (search rules, grind (arith, nat_tests))) in
    subst (λ (b : Bool). GivesWindow (placed b (near_window (moved_job c.args.layout c.args.place.now c.args.job.now) c.args.names.now planes)) c.window_of_moved.result) (sym right)
    (subst (λ (j : Job). GivesWindow (near_window j c.args.names.now planes) c.window_of_moved.result) c.in-Ok.ensures c.window_of_moved.ensures.gives)

pub returns-then-not-suits-clause-gives : goal.returns-then-not-suits-clause-gives
returns-then-not-suits-clause-gives c = grind (arith, common_steps)
