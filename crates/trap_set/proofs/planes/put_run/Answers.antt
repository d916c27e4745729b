-- put_run: puts the tints of a run on the samples that it covers.
use Rattle.std.proofs.Common.{[], ◌∷◌, ◌∙◌, sym, ap, subst, arith, ◌≡◌, ◌*◌, ◌<◌, length}
use Rattle.page_model.specs.declared.parts.Plane.{Plane}
use Rattle.page_model.specs.Planes.{plane_at, no_plane}
use Rattle.trap_set.specs.Applied.{applied_plane}
use Rattle.trap_set.specs.Applying.{IsFull}
use Rattle.trap_set.specs.Reading.{head_in, run_in}
use Rattle.trap_set.proofs.PlaneLemmas.{few_samples, item_is, put_more, put_all}
use Rattle.trap_set.proofs.planes.put_run.Goals as goal

pub put_on_plane-requires-clause-small : goal.put_on_plane-requires-clause-small
put_on_plane-requires-clause-small c =
    let same : c.item_mut.result.now ≡ plane_at c.args.planes.now c.loop-c.c = item_is c.loop-c.planes c.loop-c.c c.item_mut.result.now c.item_mut.ensures.item ∙ c.loop-c.invariant.left c.loop-c.c (omega arith) in
    subst (λ (p : Plane). p.width * p.height < 4294967296) (sym same) (few_samples (head_in c.args.head) c.args.planes.now c.loop-c.c c.requires.head c.requires.fits (omega (arith, c.loop-c.invariant.many)))

pub put_on_plane-requires-clause-some : goal.put_on_plane-requires-clause-some
put_on_plane-requires-clause-some c =
    let same : c.item_mut.result.now ≡ plane_at c.args.planes.now c.loop-c.c = item_is c.loop-c.planes c.loop-c.c c.item_mut.result.now c.item_mut.ensures.item ∙ c.loop-c.invariant.left c.loop-c.c (omega arith) in
    let l : c.loop-c.c < length c.args.planes.now = omega (arith, c.loop-c.invariant.many) in
    omega (arith, c.requires.head.some_width, (c.requires.fits.sized c.loop-c.c no_plane l).as_wide, ap (λ (p : Plane). p.width) same)

pub put_on_plane-requires-clause-full : goal.put_on_plane-requires-clause-full
put_on_plane-requires-clause-full c =
    let same : c.item_mut.result.now ≡ plane_at c.args.planes.now c.loop-c.c = item_is c.loop-c.planes c.loop-c.c c.item_mut.result.now c.item_mut.ensures.item ∙ c.loop-c.invariant.left c.loop-c.c (omega arith) in
    let l : c.loop-c.c < length c.args.planes.now = omega (arith, c.loop-c.invariant.many) in
    subst IsFull (sym same) (c.requires.full c.loop-c.c no_plane l)

pub put_on_plane-requires-clause-row : goal.put_on_plane-requires-clause-row
put_on_plane-requires-clause-row c =
    let same : c.item_mut.result.now ≡ plane_at c.args.planes.now c.loop-c.c = item_is c.loop-c.planes c.loop-c.c c.item_mut.result.now c.item_mut.ensures.item ∙ c.loop-c.invariant.left c.loop-c.c (omega arith) in
    let l : c.loop-c.c < length c.args.planes.now = omega (arith, c.loop-c.invariant.many) in
    omega (arith, c.requires.run.in_rows, (c.requires.fits.sized c.loop-c.c no_plane l).as_tall, ap (λ (p : Plane). p.height) same)

pub put_on_plane-requires-clause-in_row : goal.put_on_plane-requires-clause-in_row
put_on_plane-requires-clause-in_row c =
    let same : c.item_mut.result.now ≡ plane_at c.args.planes.now c.loop-c.c = item_is c.loop-c.planes c.loop-c.c c.item_mut.result.now c.item_mut.ensures.item ∙ c.loop-c.invariant.left c.loop-c.c (omega arith) in
    let l : c.loop-c.c < length c.args.planes.now = omega (arith, c.loop-c.invariant.many) in
    omega (arith, c.requires.run.in_row, (c.requires.fits.sized c.loop-c.c no_plane l).as_wide, ap (λ (p : Plane). p.width) same)

pub loop-c-preserved : goal.loop-c-preserved
loop-c-preserved c = put_more (run_in c.args.numbers.now ∷ []) c.loop-c.c c.args.planes.now c.loop-c.planes c.put_on_plane.new.plane c.loop-c.invariant (omega arith)
    (c.put_on_plane.ensures ∙ ap (applied_plane (run_in c.args.numbers.now ∷ []) c.loop-c.c) (item_is c.loop-c.planes c.loop-c.c c.item_mut.result.now c.item_mut.ensures.item))

pub returns : goal.returns
returns c = put_all (run_in c.args.numbers.now ∷ []) c.loop-c.c c.args.planes.now c.loop-c.planes c.loop-c.invariant (omega arith)
