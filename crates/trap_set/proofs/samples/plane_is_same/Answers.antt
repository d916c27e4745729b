-- plane_is_same: whether plane c has the tints of before at some samples of a row, one beside
-- another.
use Rattle.std.proofs.Common.{◌-◌, ◌*◌, ◌<◌, ℕ, List, length, take, drop, get_or, sym, ap, ◌∙◌, arith, length-drop, length-take}
use Rattle.page_model.specs.Planes.{tints_of}
use Rattle.page_model.specs.Shapes.{wide}
use Rattle.trap_set.proofs.SkipLemmas.{span_at}
use Rattle.trap_set.proofs.samples.plane_is_same.Goals as goal

pub returns : goal.returns
returns c f x low high =
    let old = tints_of c.args.old.now c.args.c in
    let new = tints_of c.args.new.now c.args.c in
    let span = λ (row : List ℕ). get_or (take (c.args.to - c.args.from) (drop c.args.from row)) (x - c.args.from) 0 in
    let row = c.row_of-before.result.now in
    let within : x - c.args.from < length (take (c.args.to - c.args.from) (drop c.args.from row)) = omega (arith, low, high, length-take (c.args.to - c.args.from) (drop c.args.from row), length-drop c.args.from row, c.row_of-before.ensures.wide, c.requires.span.1) in
    sym (span_at old (c.args.y * wide c.args.old.now) (wide c.args.old.now) c.args.from c.args.to x low high c.requires.span.1)
    ∙ sym (ap span c.row_of-before.ensures.tints)
    ∙ c.are_same.ensures f (x - c.args.from) within
    ∙ ap span c.row_of-after.ensures.tints
    ∙ span_at new (c.args.y * wide c.args.new.now) (wide c.args.new.now) c.args.from c.args.to x low high (omega (arith, c.requires.span.1, c.requires.pair.as_wide))
