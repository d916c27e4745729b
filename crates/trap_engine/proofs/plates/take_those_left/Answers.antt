-- take_those_left: takes out of the closed table the plates that are not taken yet.
use Rattle.std.proofs.Common.{◌<◌, ◌∙◌, ap, arith, inl, inr, length, sym}
use Rattle.std.specs.Prelude.{vec_capacity}
use Rattle.std.proofs.lemmas.Bool.{cases_eq}
use Rattle.std.proofs.lemmas.List.{get_or-set_other, get_or-set_same, get_or_read, length-set}
use Rattle.std.proofs.lemmas.Grind.{common_steps}
use Rattle.trap_engine.specs.declared.plates.PlateWork.{PlateWork}
use Rattle.trap_engine.proofs.TakeLemmas.{work_kept}
use Rattle.trap_engine.proofs.plates.take_those_left.Goals as goal

pub loop-c-preserved : goal.loop-c-preserved
loop-c-preserved c =
    let v = c.loop-c.invariant in let k = c.loop-c.c in let works = c.loop-c.works in let one = c.take_left.new.work in
    let within : k < length works = omega (arith, v.count, v.end, c.loop-c-test.true) in
    record {
      end = v.end;
      count = length-set works k one ∙ v.count;
      workspace = work_kept c.args.works.now works k one within (λ d. c.take_left.ensures.workspace ∙ ap (λ (w : PlateWork). vec_capacity w.row) (sym c.index-works-c.is ∙ get_or_read works k c.index-works-c.result within c.index-works-c.is d)) v.workspace;
      done = λ j d l. elim (cases_eq j k) [
        | inl e ↦ rw (e, get_or-set_same works k one d within) c.take_left.ensures.taken
        | inr ne ↦ rw (get_or-set_other works k j one d ne) (v.done j d (omega (arith, l, ne)))
      ];
      rest = λ j d a l. rw (get_or-set_other works k j one d (λ e. omega (arith, e, a))) (v.rest j d (omega (arith, a)) l);
    }

pub returns-clause-works : goal.returns-clause-works
returns-clause-works c = grind (arith, common_steps)

pub take_left-requires-clause-work : goal.take_left-requires-clause-work
take_left-requires-clause-work c = grind (arith, common_steps)
