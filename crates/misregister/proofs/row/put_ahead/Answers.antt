-- put_ahead: puts the value where a sample up to `lead` places ahead bares the place, as far as
-- that sample lies in the row.
use Rattle.std.proofs.Common.{◌≡◌, ◌+◌, ◌<◌, length, nat_lt, slice_index, ap, sym, ◌∙◌, inl, inr, arith, if◌then◌else◌}
use Rattle.std.proofs.lemmas.Bool.{cases_eq}
use Rattle.std.proofs.lemmas.Bool.Decides.{nat_tests}
use Rattle.std.proofs.lemmas.List.{get_or-set_same, get_or-set_other}
use Rattle.misregister.specs.Sweep.{bared_until, is_clear}
use Rattle.misregister.proofs.RowLemmas.{bared_until-next}
use Rattle.misregister.proofs.row.put_ahead.Goals as goal

pub loop-x-preserved : goal.loop-x-preserved
loop-x-preserved c =
    let row = c.args.row.now in
    let x = c.loop-x.x in
    let lead = c.args.lead in
    let r = c.args.radius in
    let up : bared_until (is_clear row) r (x + lead + 1) ≡ (if is_clear row (x + lead) then x + lead + r + 1 else bared_until (is_clear row) r (x + lead)) = bared_until-next (is_clear row) r (x + lead) in
    let order : x + 1 + lead ≡ x + lead + 1 = omega arith in
    let reach : c.if-row-x-eq2.reach ≡ bared_until (is_clear row) r (x + lead + 1) = grind (arith, nat_tests) in
    let stored = c.loop-x.invariant.later x (omega arith) in
    let here : c.if-x-reach.until ≡ (if nat_lt x (bared_until (is_clear row) r (x + lead + 1)) then c.args.value else slice_index c.args.until.now x) = grind (arith, nat_tests) in
    let lt : x < length c.loop-x.until = omega arith in
    record {
      reach = reach ∙ ap (bared_until (is_clear row) r) (sym order);
      put = λ k l. elim (cases_eq k x) [
        | inl e ↦ rw e (get_or-set_same c.loop-x.until x c.if-x-reach.until 0 lt ∙ here)
        | inr ne ↦ get_or-set_other c.loop-x.until x k c.if-x-reach.until 0 ne ∙ c.loop-x.invariant.put k (omega (arith, ne))
      ];
      later = λ k l. get_or-set_other c.loop-x.until x k c.if-x-reach.until 0 (λ e. absurd (omega arith)) ∙ c.loop-x.invariant.later k (omega arith);
    }
