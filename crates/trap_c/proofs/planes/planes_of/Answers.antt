-- Goals of planes_of that want a lemma by name.
use Rattle.std.proofs.lemmas.Grind.{common_steps}
use Rattle.std.proofs.Common.{◌≡◌, ℕ, length, arith, subst}
use Rattle.trap_c.specs.declared.planes.Copies.{Copies}
use Rattle.trap_c.specs.Copies.{AreCopies}
use Rattle.trap_c.specs.Sources.{numbers}
use Rattle.trap_c.proofs.PageLemmas.{copies_made}
use Rattle.trap_c.proofs.planes.planes_of.Goals as goal

pub returns : goal.returns
returns c =
    let copies : Copies = record { planes = c.loop-c.planes; are_fit = c.loop-c.are_fit } in
    let whole : c.loop-c.c ≡ length c.args.names.now = omega (arith, c.loop-c-test.false, c.loop-c.auto.c-end, c.loop-c.invariant.end) in
    subst (λ (n : ℕ). AreCopies c.args.layout (numbers c.args.source.now) n copies) whole (copies_made c.args.layout (numbers c.args.source.now) c.loop-c.c copies c.loop-c.invariant.made c.loop-c.invariant.fit)

pub loop-c-preserved : goal.loop-c-preserved
loop-c-preserved c = grind (arith, common_steps)
