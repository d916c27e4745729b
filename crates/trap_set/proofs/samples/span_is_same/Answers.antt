-- span_is_same: whether no plane has another tint than before at some samples of a row, one beside
-- another.
use Rattle.std.proofs.Common.{◌≡◌, ◌==◌, ℕ, false, not, length, arith, subst}
use Rattle.lists.specs.Words.{any_below}
use Rattle.trap_set.specs.Runs.{tint_at}
use Rattle.trap_set.proofs.SkipLemmas.{none_more, unlike}
use Rattle.trap_set.proofs.samples.span_is_same.Goals as goal

pub loop-c-preserved : goal.loop-c-preserved
loop-c-preserved c x low high =
    none_more (λ (k : ℕ). not (tint_at c.args.old.now k x c.args.y == tint_at c.args.new.now k x c.args.y)) c.loop-c.c (c.loop-c.invariant x low high)
    (unlike (tint_at c.args.old.now c.loop-c.c x c.args.y) (tint_at c.args.new.now c.loop-c.c x c.args.y) (c.plane_is_same.ensures c.if-not-plane_is_same.false x low high))

pub returns : goal.returns
returns c f x low high =
    let end : c.loop-c.c ≡ length c.args.old.now = omega arith in
    subst (λ (n : ℕ). any_below (λ (k : ℕ). not (tint_at c.args.old.now k x c.args.y == tint_at c.args.new.now k x c.args.y)) n ≡ false) end (c.loop-c.invariant x low high)
