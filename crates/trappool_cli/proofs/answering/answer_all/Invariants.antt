-- The loops of answer_all: line by line writes the files of what is done, and tells what became of
-- it.
use Rattle.std.proofs.Common.{ℕ, drop}
use Rattle.std.specs.Vec.Iter.{into_iter_items}
use Rattle.outside.specs.Rack.{RackState}
use Rattle.trappool_cli.specs.Answers.{AllHaveOuts, AnswersAll}
use Rattle.trappool_cli.proofs.answering.answer_all.Given as goal

abbrev pub invariant-loop-reply : goal.invariant-loop-reply
invariant-loop-reply g l = record {
  outs : AllHaveOuts (drop l.number l.lines) (into_iter_items l.reply-iterator);
  goes_on : (after : RackState) (status : ℕ) → AnswersAll l.number l.status (drop l.number l.lines) (into_iter_items l.reply-iterator) (g.R.Rack.state l.rack) after status → AnswersAll 0 0 l.lines l.fn.replies (g.R.Rack.state l.fn.rack) after status;
}
