use Rattle.std.proofs.Common.{◌≡◌, ℕ, ◌+◌, ◌-◌, ◌<◌, ◌≤◌, replicate, refl, subst, sym, arith}
use Rattle.lists.specs.Words.{gap, square}
use Rattle.draw_back.specs.Fields.{scene_of}
use Rattle.draw_back.specs.Lowers.{Lowers, IsOfFar, IsOfSource, places_of}
use Rattle.draw_back.proofs.DiskLemmas.{far_all, far_none, far_step, no_rows, nearer}
use Rattle.draw_back.proofs.disk.lower_by_field.Goals as goal

whole : (r : ℕ) → r + 1 ≡ r + 1 - 0
whole r = omega arith

pub loop-k-init : goal.loop-k-init
loop-k-init c =
    let lists = c.args.field.now in
    let w = c.window_of-window.result in
    let r = c.args.reach.radius in
    record {
      lowers = subst (λ (n : ℕ). Lowers c.args.out.now c.args.out.now w.from w.to (IsOfFar (scene_of lists c.args.reach.limit) c.args.y n)) (whole r) (far_none lists c.args.out.now w.from w.to c.args.y c.args.reach.limit r c.args.reach.beyond);
      best = record {
        long = refl;
        lowers = no_rows lists (replicate 544 65535) (places_of w) w.from w.halo (λ k. gap c.args.y k < 0) (λ k l m. absurd (omega arith));
      };
      near = λ i l. absurd (omega arith);
      most = omega arith;
    }

pub grow-grown-requires-clause-near : goal.grow-grown-requires-clause-near
grow-grown-requires-clause-near c = λ h l. nearer h (c.args.reach.radius + 1 - c.loop-k.k) (c.args.reach.radius - c.loop-k.k) c.args.reach.limit (omega arith) (c.loop-k.invariant.near h l)

pub loop-k-preserved : goal.loop-k-preserved
loop-k-preserved c =
    let lists = c.args.field.now in
    let y = c.args.y in
    let limit = c.args.reach.limit in
    let w = c.window_of-window.result in
    let r = c.args.reach.radius in
    let k = c.loop-k.k in
    let step = r - k in
    let e : r + 1 - k ≡ step + 1 = omega arith in
    let f : r + 1 - (k + 1) ≡ step = omega arith in
    let before : Lowers c.args.out.now c.loop-k.out w.from w.to (IsOfFar (scene_of lists limit) y (step + 1)) = subst (λ (n : ℕ). Lowers c.args.out.now c.loop-k.out w.from w.to (IsOfFar (scene_of lists limit) y n)) e c.loop-k.invariant.lowers in
    let after = far_step lists c.args.out.now c.loop-k.out c.lower_sides.new.out c.grow-grown.new.best w.from w.to w.halo y limit step c.grow-grown.result (omega arith) c.lower_sides.ensures.small (omega arith) c.grow-grown.ensures.near c.grow-grown.ensures.far c.grow-grown.ensures.best.lowers before c.lower_sides.ensures.lowers in
    record {
      lowers = subst (λ (n : ℕ). Lowers c.args.out.now c.lower_sides.new.out w.from w.to (IsOfFar (scene_of lists limit) y n)) (sym f) after;
      best = c.grow-grown.ensures.best;
      near = subst (λ (n : ℕ). (i : ℕ) → i < c.grow-grown.result → square i + square n ≤ limit) (sym f) c.grow-grown.ensures.near;
      most = c.grow-grown.ensures.most;
    }

pub returns : goal.returns
returns c =
    let lists = c.args.field.now in
    let scene = scene_of lists c.args.reach.limit in
    let w = c.window_of-window.result in
    let y = c.args.y in
    let a = c.args.out.now in
    let b = c.loop-k.out in
    let e : c.args.reach.radius + 1 - c.loop-k.k ≡ 0 = omega arith in
    let all : Lowers a b w.from w.to (IsOfSource scene y lists.tall) = far_all lists a b w.from w.to y c.args.reach.limit (subst (λ (n : ℕ). Lowers a b w.from w.to (IsOfFar scene y n)) e c.loop-k.invariant.lowers) in
    subst (λ (n : ℕ). Lowers a b c.args.span.from n (IsOfSource scene y lists.tall)) c.window_of-window.ensures.to (subst (λ (n : ℕ). Lowers a b n w.to (IsOfSource scene y lists.tall)) c.window_of-window.ensures.from all)
