-- Goals of put_plane_words that want a lemma by name.
use Rattle.std.proofs.lemmas.Grind.{common_steps}
use Rattle.std.proofs.Common.{◌+◌, ◌*◌, refl, arith}
use Rattle.std.specs.Prelude.{slice_range}
use Rattle.trap_c.proofs.Rows.{put_more, tint_row}
use Rattle.trap_c.proofs.planes.put_plane_words.Goals as goal

pub loop-y-preserved : goal.loop-y-preserved
loop-y-preserved c =
    let from = c.loop-y.y * c.args.layout.width in
    put_more c.args.layout c.args.tints.now c.args.samples.now c.loop-y.samples c.put_words_row.new.samples (slice_range c.args.tints.now from (from + c.args.layout.width)) c.args.c c.loop-y.y c.requires.layout (omega arith) (omega (arith, c.requires.inside)) (tint_row c.args.layout c.args.tints.now c.loop-y.y (omega arith) c.requires.full) refl c.put_words_row.ensures c.loop-y.invariant

pub overflow_mul-first-in-loop-y : goal.overflow_mul-first-in-loop-y
overflow_mul-first-in-loop-y c = grind (arith, common_steps)

pub returns-clause-here : goal.returns-clause-here
returns-clause-here c = grind (arith, common_steps)

pub slice_bounds-put_words_row-end : goal.slice_bounds-put_words_row-end
slice_bounds-put_words_row-end c = grind (arith, common_steps)

pub put_words_row-requires : goal.put_words_row-requires
put_words_row-requires c = grind (arith, common_steps)

pub offset_bounds-tints-y : goal.offset_bounds-tints-y
offset_bounds-tints-y c = grind (arith, common_steps)
