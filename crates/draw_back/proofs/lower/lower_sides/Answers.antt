use Rattle.std.proofs.Common.{◌≡◌, ℕ, ◌+◌, ◌-◌, ◌<◌, ◌≤◌, ◌^◌, slice_index, subst, sym, inl, inr, arith}
use Rattle.std.proofs.lemmas.Bool.{cases_eq}
use Rattle.draw_back.specs.Lowers.{Lowers, IsOfSide}
use Rattle.draw_back.proofs.LowerLemmas.{lowers_next, lowers_not}
use Rattle.draw_back.proofs.DiskLemmas.{side_low, side_source, side_greatest}
use Rattle.draw_back.proofs.lower.lower_sides.Goals as goal

pub loop-x-init : goal.loop-x-init
loop-x-init c = record {
  lowers = lowers_not c.args.out.now c.args.window.from c.args.window.from (IsOfSide c.args.best.now c.args.window.from c.args.window.halo c.args.step) (λ x v l m o. absurd (omega arith));
  small = λ i l m. absurd (omega arith);
}

pub loop-x-preserved : goal.loop-x-preserved
loop-x-preserved c =
    let x = c.loop-x.x in
    let from = c.args.window.from in
    let halo = c.args.window.halo in
    let step = c.args.step in
    let best = c.args.best.now in
    let t = slice_index c.loop-x.out x in
    let begun : from ≤ x = omega arith in
    let close : step ≤ halo = c.requires.step in
    record {
      lowers = lowers_next c.args.out.now c.loop-x.out from x c.least_of.result (IsOfSide best from halo step) begun (omega arith) c.loop-x.invariant.lowers
          (rw c.least_of.ensures.value (side_low t (slice_index best (x - from + halo - step)) (slice_index best (x - from + halo + step))))
          (λ v o. rw c.least_of.ensures.value (side_source best from halo step x v t begun close o))
          (λ b own all. rw c.least_of.ensures.value (side_greatest best from halo step x t b begun close own all));
      small = λ i l m. elim (cases_eq i x) [
        | inl e ↦ subst (λ (n : ℕ). slice_index c.args.out.now n < 2 ^ 16) (sym e) (subst (λ (n : ℕ). n < 2 ^ 16) (c.loop-x.invariant.lowers.past x (omega arith)) c.least_of.ensures.small)
        | inr ne ↦ c.loop-x.invariant.small i l (omega (arith, m, ne))
      ];
    }

pub returns-clause-lowers : goal.returns-clause-lowers
returns-clause-lowers c =
    let e : c.loop-x.x ≡ c.args.window.to = omega arith in
    subst (λ (n : ℕ). Lowers c.args.out.now c.loop-x.out c.args.window.from n (IsOfSide c.args.best.now c.args.window.from c.args.window.halo c.args.step)) e c.loop-x.invariant.lowers
