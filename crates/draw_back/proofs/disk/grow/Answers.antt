use Rattle.std.proofs.Common.{◌≡◌, ℕ, ◌+◌, ◌≤◌, replicate, subst, sym, inl, inr, arith}
use Rattle.std.proofs.lemmas.Bool.{cases_eq}
use Rattle.lists.specs.Words.{square}
use Rattle.draw_back.specs.Lowers.{IsGrown, places_of}
use Rattle.draw_back.proofs.DiskLemmas.{rows_step}
use Rattle.draw_back.proofs.disk.grow.Goals as goal

pub loop-h-preserved : goal.loop-h-preserved
loop-h-preserved c =
    let h = c.loop-h.h in
    let w = c.args.window in
    record {
      best = record {
        long = omega (arith, c.loop-h.invariant.best.long);
        lowers = rows_step c.args.field.now (replicate 544 65535) c.loop-h.best c.lower_by_above.new.best c.lower_by_below.new.best (places_of w) w.from w.halo c.args.y h c.loop-h.invariant.best.lowers c.lower_by_above.ensures c.lower_by_below.ensures;
      };
      near = λ i l. elim (cases_eq i h) [
        | inl e ↦ subst (λ (n : ℕ). square n + square c.args.step ≤ c.args.reach.limit) (sym e) (c.is_far.ensures.near c.if-is_far.false)
        | inr ne ↦ c.loop-h.invariant.near i (omega (arith, l, ne))
      ];
    }

pub returns-then-is_far-clause-best : goal.returns-then-is_far-clause-best
returns-then-is_far-clause-best c = c.loop-h.invariant.best

pub returns-then-is_far-clause-near : goal.returns-then-is_far-clause-near
returns-then-is_far-clause-near c = c.loop-h.invariant.near

pub returns-then-is_far-clause-far : goal.returns-then-is_far-clause-far
returns-then-is_far-clause-far c = c.is_far.ensures.far c.if-is_far.true

pub returns-clause-best : goal.returns-clause-best
returns-clause-best c =
    let e : c.loop-h.h ≡ c.args.reach.radius + 1 = omega arith in
    subst (λ (n : ℕ). IsGrown c.args.field.now c.args.window c.args.y n c.loop-h.best) e c.loop-h.invariant.best

pub returns-clause-near : goal.returns-clause-near
returns-clause-near c = λ h l. c.loop-h.invariant.near h (omega arith)
