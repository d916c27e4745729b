-- nearest_row: writes for each sample of a row the place in `arms` of the arm with the least `((X -
-- 2x)^2 + offset^2, X)`.
use Rattle.std.proofs.lemmas.Grind.{common_steps}
use Rattle.std.proofs.Common.{ap, arith, ◌∙◌, sym}
use Rattle.std.proofs.lemmas.Bool.{eqb-true}
use Rattle.row_envelope.specs.Workspace.{Workspace}
use Rattle.row_envelope.proofs.HullLemmas.{nearest_none, few_arms}
use Rattle.row_envelope.proofs.row.nearest_row.Goals as goal

pub returns-then-is_empty-clause-nearest : goal.returns-then-is_empty-clause-nearest
returns-then-is_empty-clause-nearest g c = λ x l. (c.clear.ensures x (omega arith) ∙ nearest_none c.args.arms.now x (eqb-true _ _ (sym c.is_empty.ensures ∙ c.if-is_empty.true)))

pub build_hull-stored-requires-clause-few : goal.build_hull-stored-requires-clause-few
build_hull-stored-requires-clause-few g c = omega (arith, few_arms c.args.arms.now c.args.width c.requires.some c.requires.order c.requires.inside)

pub build_hull-stored-requires-clause-places : goal.build_hull-stored-requires-clause-places
build_hull-stored-requires-clause-places g c = (let few = few_arms c.args.arms.now c.args.width c.requires.some c.requires.order c.requires.inside in omega (arith, few, c.as_mut_slice-places.ensures.len, ap (λ (r : Workspace). r.columns) c.hull.view_is, c.requires.hull))

pub build_hull-stored-requires-clause-starts : goal.build_hull-stored-requires-clause-starts
build_hull-stored-requires-clause-starts g c = (let few = few_arms c.args.arms.now c.args.width c.requires.some c.requires.order c.requires.inside in omega (arith, few, c.as_mut_slice-starts.ensures.len, ap (λ (r : Workspace). r.columns) c.hull.view_is, c.hull.invariant, c.requires.hull))

pub spread-requires-clause-places : goal.spread-requires-clause-places
spread-requires-clause-places g c = (let few = few_arms c.args.arms.now c.args.width c.requires.some c.requires.order c.requires.inside in omega (arith, few, c.build_hull-stored.ensures.hull.few, c.build_hull-stored.ensures.places, c.as_mut_slice-places.ensures.len, ap (λ (r : Workspace). r.columns) c.hull.view_is, c.requires.hull))

pub spread-requires-clause-starts : goal.spread-requires-clause-starts
spread-requires-clause-starts g c = (let few = few_arms c.args.arms.now c.args.width c.requires.some c.requires.order c.requires.inside in omega (arith, few, c.build_hull-stored.ensures.hull.few, c.build_hull-stored.ensures.starts, c.as_mut_slice-starts.ensures.len, ap (λ (r : Workspace). r.columns) c.hull.view_is, c.hull.invariant, c.requires.hull))

pub returns-clause-cost : goal.returns-clause-cost
returns-clause-cost g c = omega (arith, c.build_hull-stored.ensures.cost, few_arms c.args.arms.now c.args.width c.requires.some c.requires.order c.requires.inside)

pub returns-clause-len : goal.returns-clause-len
returns-clause-len g c = grind (arith, common_steps)

pub build_hull-stored-requires-clause-order : goal.build_hull-stored-requires-clause-order
build_hull-stored-requires-clause-order g c = grind (arith, common_steps)

pub returns-clause-nearest : goal.returns-clause-nearest
returns-clause-nearest g c = grind (arith, common_steps)

pub spread-requires-clause-some : goal.spread-requires-clause-some
spread-requires-clause-some g c = grind (arith, common_steps)
