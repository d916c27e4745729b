-- risk_count: how many samples of the sheet are at risk where each plate shifts by at most `radius`
-- samples to each side.
use Rattle.std.proofs.lemmas.Grind.{common_steps}
use Rattle.std.proofs.Common.{◌≡◌, ℕ, suc, ◌+◌, ◌*◌, min, List, length, ap, ◌∙◌, arith, count_by, nat_eq}
use Rattle.std.proofs.Math.Nat.{add-mul}
use Rattle.page_model.specs.declared.parts.Plane.{Plane}
use Rattle.page_model.specs.Shapes.{wide, tall}
use Rattle.misregister.specs.Sweep.{least_shade, shade}
use Rattle.misregister.proofs.CountLemmas.{risk_by}
use Rattle.misregister.proofs.count.risk_count.Goals as goal

-- the least shade with one plate more, and its steps
shade_more : (planes : List Plane) (r x y n least now : ℕ) → least ≡ least_shade planes r x y n → now ≡ min least (shade planes r n x y) → now ≡ least_shade planes r x y (n + 1)
shade_more planes r x y n least now is more =
    let order : suc n ≡ n + 1 = omega arith in
    more ∙ ap (λ (v : ℕ). min v (shade planes r n x y)) is ∙ ap (least_shade planes r x y) order

steps_more : (before size n now after : ℕ) → now ≡ before + n * size → after ≡ now + size → after ≡ before + (n + 1) * size
steps_more before size n now after is more = omega (arith, add-mul n 1 size)

pub loop-c-preserved : goal.loop-c-preserved
loop-c-preserved g c =
    let planes = c.args.sheet.now in
    record {
      workspace = c.shade_plate.ensures.workspace;
      memory = record {
        row = c.shade_plate.ensures.memory.row ∙ c.loop-c.invariant.memory.row;
        until = c.shade_plate.ensures.memory.until ∙ c.loop-c.invariant.memory.until;
        shades = c.shade_plate.ensures.memory.shades ∙ c.loop-c.invariant.memory.shades;
      };
      shades = λ x y l m. shade_more planes c.args.radius x y c.loop-c.c _ _ (c.loop-c.invariant.shades x y l m) (c.shade_plate.ensures.shades x y l m);
      steps = steps_more c.args.steps.now (wide planes * tall planes) c.loop-c.c c.loop-c.steps c.shade_plate.new.steps c.loop-c.invariant.steps c.shade_plate.ensures.steps;
    }

pub returns-clause-risk : goal.returns-clause-risk
returns-clause-risk g c =
    let planes = c.args.sheet.now in
    let shades = c.loop-c.workspace.shades.items in
    let all : c.loop-c.c ≡ length planes = omega arith in
    c.at_risk.ensures ∙ ap (count_by (λ (s : ℕ). nat_eq s 1)) c.as_slice.ensures.value
    ∙ risk_by planes c.args.radius shades (omega arith) (omega arith) (λ x y l m. c.loop-c.invariant.shades x y l m ∙ ap (least_shade planes c.args.radius x y) all)

pub loop-c-init : goal.loop-c-init
loop-c-init g c = grind (arith, common_steps)
