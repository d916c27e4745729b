use Rattle.std.proofs.Common.{◌<◌, ◌==◌, ℕ, slice_index, ap, ◌∙◌, arith, if◌then◌else◌}
use Rattle.draw_back.specs.Fields.{entry, scene_of}
use Rattle.draw_back.specs.Drawn.{drawn}
use Rattle.draw_back.proofs.SourceLemmas.{lowers_drawn}
use Rattle.draw_back.proofs.block.draw_block.Goals as goal

pub returns-then-has_edge-clause-block : goal.returns-then-has_edge-clause-block
returns-then-has_edge-clause-block c = λ x begun ended.
    let lists = c.args.field.now in
    let in_row : x < lists.wide = omega arith in
    let drawn_is = lowers_drawn lists c.args.out.now c.lower_by_field.new.out c.args.span.from c.args.span.to c.args.y c.args.reach.limit x c.lower_by_field.ensures begun ended (c.requires.old x begun ended) in
    c.restore.ensures.block x begun ended
    ∙ ap (λ (m : ℕ). if m == 2 then slice_index c.lower_by_field.new.out x else slice_index c.tints.result.now x) (c.marks.ensures.each x in_row)
    ∙ ap (λ (d : ℕ). if entry lists.marks lists.wide x c.args.y == 2 then d else slice_index c.tints.result.now x) drawn_is
    ∙ ap (λ (t : ℕ). if entry lists.marks lists.wide x c.args.y == 2 then drawn (scene_of lists c.args.reach.limit) x c.args.y else t) (c.tints.ensures.each x in_row)
