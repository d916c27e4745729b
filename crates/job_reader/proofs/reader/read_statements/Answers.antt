-- read_statements: the job of its objects, statement after statement.
use Rattle.std.proofs.Common.{◌≡◌, Some, None, sym, ◌∙◌, arith}
use Rattle.std.specs.Prelude.{slice_get}
use Rattle.job_reader.specs.Calls.{call_of}
use Rattle.job_reader.proofs.Reading.{read_on-none, read_on-unknown, read_on-job_shown, read_on-state_after, read_on-refused, read_on-end}
use Rattle.job_reader.proofs.reader.read_statements.Goals as goal
use Rattle.job_reader.proofs.reader.read_statements.Goals.{in-Some+in-Some-operator+else-is_showpage+in-Ok, in-None}

pub returns-in-None-operator : goal.returns-in-None-operator
returns-in-None-operator c =
    let at : call_of (slice_get c.args.objects.now c.loop-place.place) ≡ Some c.in-Some.call = rw c.as_slice-all.ensures at (sym c.in-Some.ensures) in
    sym c.loop-place.invariant.same ∙ read_on-unknown c.args.objects.now c.args.len c.loop-place.state c.loop-place.from c.loop-place.place c.in-Some.call (omega arith) at c.in-None-operator.is

pub returns-then-is_showpage : goal.returns-then-is_showpage
returns-then-is_showpage c =
    let at : call_of (slice_get c.args.objects.now c.loop-place.place) ≡ Some c.in-Some.call = rw c.as_slice-all.ensures at (sym c.in-Some.ensures) in
    let reported = rw c.as_slice-all.ensures at c.show.ensures in
    let same = sym c.loop-place.invariant.same ∙ read_on-job_shown c.args.objects.now c.args.len c.loop-place.state c.loop-place.from c.loop-place.place c.in-Some.call c.in-Some-operator.operator (omega arith) at c.in-Some-operator.is (sym c.is_showpage.ensures ∙ c.if-is_showpage.true) in
    rw same reported

pub returns-in-Err : goal.returns-in-Err
returns-in-Err c =
    let at : call_of (slice_get c.args.objects.now c.loop-place.place) ≡ Some c.in-Some.call = rw c.as_slice-all.ensures at (sym c.in-Some.ensures) in
    let refused = read_on-refused c.args.objects.now c.args.len c.loop-place.state c.loop-place.from c.loop-place.place c.in-Some.call c.in-Some-operator.operator c.in-Err.common_error (omega arith) at c.in-Some-operator.is (sym c.is_showpage.ensures ∙ c.if-is_showpage.false) c.in-Err.ensures in
    rw c.loop-place.invariant.same at refused

pub loop-place-preserved : goal.loop-place-preserved
loop-place-preserved c =
    elim c.match-call_at.branch [
      | in-Some+in-Some-operator+else-is_showpage+in-Ok w ↦
          let at : call_of (slice_get c.args.objects.now c.loop-place.place) ≡ Some w.in-Some.call = rw c.as_slice-all.ensures at (sym w.in-Some.ensures) in
          let step = read_on-state_after c.args.objects.now c.args.len c.loop-place.state _ c.loop-place.from c.loop-place.place w.in-Some.call w.in-Some-operator.operator (omega arith) at w.in-Some-operator.is (sym w.is_showpage.ensures ∙ w.if-is_showpage.false) w.in-Ok.ensures in
          record { same = rw (w.state-is, w.from-is) (sym step ∙ c.loop-place.invariant.same); suffix = omega arith }
      | in-None w ↦
          let at : call_of (slice_get c.args.objects.now c.loop-place.place) ≡ None = rw c.as_slice-all.ensures at (sym w.in-None.ensures) in
          let step = read_on-none c.args.objects.now c.args.len c.loop-place.state c.loop-place.from c.loop-place.place (omega arith) at in
          record { same = rw (w.state-is, w.from-is) (sym step ∙ c.loop-place.invariant.same); suffix = omega arith }
    ]

pub returns : goal.returns
returns c = sym c.loop-place.invariant.same ∙ read_on-end c.args.objects.now c.args.len c.loop-place.state c.loop-place.from c.loop-place.place (omega arith)
