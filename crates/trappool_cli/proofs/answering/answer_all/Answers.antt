-- answer_all: line by line writes the files of what is done, and tells what became of it.
use Rattle.std.proofs.lemmas.Grind.{common_steps}
use Rattle.std.proofs.Common.{◌≡◌, ◌∙◌, ◌+◌, ◌<◌, List, [], ◌∷◌, drop, get_or, length, rules, refl, sym, ap, subst, arith}
use Rattle.std.proofs.lemmas.List.{nil_from_length}
use Rattle.std.specs.Vec.Iter.{into_iter_items}
use Rattle.job_list.specs.Lines.{LineParts}
use Rattle.trap_pool.specs.Replies.{ReplyParts}
use Rattle.trappool_cli.specs.Answers.{AllHaveOuts, AnswersAll}
use Rattle.trappool_cli.proofs.Steps.{all_answered, left_first, line_left, untold_here}
use Rattle.trappool_cli.proofs.answering.answer_all.Goals as goal

pub returns-in-None-answer_line : goal.returns-in-None-answer_line
returns-in-None-answer_line g c =
    let lines = c.args.lines.now in
    let n = c.loop-reply.number in
    let line = c.index-as_slice-number.result in
    let rest = into_iter_items c.next.new.self in
    let after = g.R.Rack.state c.answer_line.new.rack in
    let yields : into_iter_items c.loop-reply.reply-iterator ≡ c.in-Some.reply ∷ rest = search rules in
    let item : line ≡ get_or lines n line = c.index-as_slice-number.is ∙ ap (λ (l : List LineParts). get_or l n line) c.as_slice.ensures in
    let here : n < length lines = line_left lines n c.in-Some.reply rest (subst (AllHaveOuts (drop n lines)) yields c.loop-reply.invariant.outs) in
    c.loop-reply.invariant.goes_on after 6 (subst (λ (r : List ReplyParts). AnswersAll n c.loop-reply.status (drop n lines) r (g.R.Rack.state c.loop-reply.rack) after 6) (sym yields)
    (untold_here n c.loop-reply.status (drop (n + 1) lines) (drop n lines) line c.in-Some.reply rest (g.R.Rack.state c.loop-reply.rack) after 6 (left_first lines n line here item) c.in-None-answer_line.ensures refl))

pub returns : goal.returns
returns g c =
    let lines = c.args.lines.now in
    let n = c.loop-reply.number in
    let rack = g.R.Rack.state c.loop-reply.rack in
    let left = c.loop-reply.reply-iterator in
    let none : into_iter_items left ≡ [] = nil_from_length (into_iter_items left) (omega (arith, left.rest.ok, c.in-None.ensures.steps)) in
    c.loop-reply.invariant.goes_on rack c.loop-reply.status (subst (λ (r : List ReplyParts). AnswersAll n c.loop-reply.status (drop n lines) r rack rack c.loop-reply.status) (sym none)
    (all_answered n c.loop-reply.status (drop n lines) rack (subst (AllHaveOuts (drop n lines)) none c.loop-reply.invariant.outs)))

pub overflow_add-number : goal.overflow_add-number
overflow_add-number g c = grind (arith, common_steps)

pub offset_bounds-as_slice-number : goal.offset_bounds-as_slice-number
offset_bounds-as_slice-number g c = grind (arith, common_steps)

pub loop-reply-preserved : goal.loop-reply-preserved
loop-reply-preserved g c = grind (arith, common_steps)

pub loop-reply-preserved-in-Some-Done : goal.loop-reply-preserved-in-Some-Done
loop-reply-preserved-in-Some-Done g c = grind (arith, common_steps)

pub overflow_cast-number : goal.overflow_cast-number
overflow_cast-number g c = grind (arith, common_steps)

pub answer_line-requires : goal.answer_line-requires
answer_line-requires g c = grind (arith, common_steps)

pub bounds-as_slice-number : goal.bounds-as_slice-number
bounds-as_slice-number g c = grind (arith, common_steps)

pub overflow_add-number-in-Some-answer_line : goal.overflow_add-number-in-Some-answer_line
overflow_add-number-in-Some-answer_line g c = grind (arith, common_steps)
