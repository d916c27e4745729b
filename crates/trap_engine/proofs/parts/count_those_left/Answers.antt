-- count_those_left: counts out of the closed table in the parts that are not done yet.
use Rattle.std.proofs.Common.{◌<◌, ◌∙◌, ap, arith, inl, inr, length, refl, subst, sym}
use Rattle.std.specs.Prelude.{slice_set}
use Rattle.std.proofs.lemmas.Bool.{cases_eq}
use Rattle.std.proofs.lemmas.List.{get_or-set_other, get_or-set_same, get_or_read, length-set}
use Rattle.std.proofs.lemmas.Grind.{common_steps}
use Rattle.trap_engine.proofs.PartLemmas.{cover_kept, one_kept}
use Rattle.trap_engine.specs.declared.parts.Part.{Part}
use Rattle.trap_engine.specs.Memory.{KeepsTally}
use Rattle.trap_engine.proofs.parts.count_those_left.Goals as goal

pub loop-i-preserved : goal.loop-i-preserved
loop-i-preserved c =
    let v = c.loop-i.invariant in let k = c.loop-i.i in let parts = c.loop-i.parts in let one = c.count_left.new.part in
    let within : k < length parts = omega (arith, v.end, c.loop-i-test.true) in
    record {
      end = v.end ∙ sym (length-set parts k one);
      cover = cover_kept c.args.page.now parts (slice_set parts k one) (length-set parts k one) (λ j d l. elim (cases_eq j k) [
        | inl e ↦ rw (e, get_or-set_same parts k one d within) (c.count_left.ensures.rows ∙ ap (λ (p : Part). p.rows) (sym c.index-parts-i.is ∙ get_or_read parts k c.index-parts-i.result within c.index-parts-i.is d))
        | inr ne ↦ rw (get_or-set_other parts k j one d ne) refl
      ]) v.cover;
      workspace = one_kept c.args.parts.now parts k one within (λ d. subst (λ (p : Part). KeepsTally p.tally one.tally) (sym c.index-parts-i.is ∙ get_or_read parts k c.index-parts-i.result within c.index-parts-i.is d) c.count_left.ensures.workspace) v.workspace;
      done = λ j d l m. elim (cases_eq j k) [
        | inl e ↦ rw (e, get_or-set_same parts k one d within) c.count_left.ensures.part
        | inr ne ↦ rw (get_or-set_other parts k j one d ne) (v.done j d (omega (arith, l, ne)) (omega (arith, m, length-set parts k one)))
      ];
      rest = λ j d a l. rw (get_or-set_other parts k j one d (λ e. omega (arith, e, a))) (v.rest j d (omega (arith, a)) (omega (arith, l, length-set parts k one)));
    }

pub loop-i-init : goal.loop-i-init
loop-i-init c = grind (arith, common_steps)

pub count_left-requires-clause-part : goal.count_left-requires-clause-part
count_left-requires-clause-part c = grind (arith, common_steps)

pub returns-clause-parts : goal.returns-clause-parts
returns-clause-parts c = grind (arith, common_steps)
