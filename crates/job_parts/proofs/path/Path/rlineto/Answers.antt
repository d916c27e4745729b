-- Path::rlineto: adds a vertex so far from the current point; after `close` it first begins a
-- subpath there.
use Rattle.std.proofs.Common.{◌≡◌, sym, ap, ◌∙◌, arith, rules, w64}
use Rattle.std.proofs.lemmas.Int.{ints}
use mir.Val.{to_z, of_z}
use Rattle.job_parts.specs.Paths.{Drawing}
use Rattle.job_parts.proofs.Drawings.{rlineto-far}
use Rattle.job_parts.proofs.path.Path.rlineto.Goals as goal

pub returns-in-None : goal.returns-in-None
returns-in-None c =
    let x : to_z w64 (of_z w64 c.args.dx) ≡ c.args.dx = omega (arith, ints) in
    let y : to_z w64 (of_z w64 c.args.dy) ≡ c.args.dy = omega (arith, ints) in
    let far = rw (x, y) at c.in-None.ensures in
    (rlineto-far c.args.self.now c.in-Some.pen c.args.dx c.args.dy (sym (ap (λ (d : Drawing). d.pen) c.self.view_is) ∙ c.in-Some.is) far, search rules)
