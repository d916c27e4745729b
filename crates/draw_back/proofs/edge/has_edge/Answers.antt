use Rattle.std.proofs.Common.{sym, ◌∙◌, arith}
use Rattle.draw_back.specs.Fields.{entry, scene_of}
use Rattle.draw_back.proofs.DrawnLemmas.{drawn_alone, drawn_outline}
use Rattle.draw_back.proofs.SourceLemmas.{source_columns, source_free, source_rows, free_is}
use Rattle.draw_back.proofs.edge.has_edge.Goals as goal

pub returns-then-may_change : goal.returns-then-may_change
returns-then-may_change c = λ no x begun ended marked.
    let lists = c.args.field.now in
    let scene = scene_of lists c.args.reach.limit in
    drawn_alone scene x c.args.y (λ j k in_row on_page source.
    let columns = source_columns scene x c.args.y j k c.args.reach.radius c.args.reach.beyond source in
    let rows = source_rows scene x c.args.y j k c.args.reach.radius c.args.reach.beyond source in
    c.is_free_near.ensures no j k in_row on_page (omega arith) (omega arith) (omega arith) (omega arith)
    (free_is (entry lists.marks lists.wide j k) (source_free scene x c.args.y j k source)))

pub returns-else-may_change : goal.returns-else-may_change
returns-else-may_change c = λ no x begun ended marked.
    drawn_outline (scene_of c.args.field.now c.args.reach.limit) x c.args.y
    (sym (c.tints.ensures.each x (omega arith)) ∙ c.may_change.ensures c.if-may_change.false x begun ended (c.marks.ensures.each x (omega arith) ∙ marked))
