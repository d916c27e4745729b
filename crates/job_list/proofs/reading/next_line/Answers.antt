-- next_line: the line that comes next after so many bytes and these lines, and what is after it;
-- `None` where it is a bad one.
use Rattle.std.proofs.lemmas.Grind.{common_steps}
use Rattle.std.proofs.Common.{◌≡◌, ◌∙◌, ℕ, List, Option, Some, sym, subst, arith}
use Rattle.job_list.specs.Apart.{NextLine}
use Rattle.job_list.specs.Lines.{LineParts, line_of}
use Rattle.job_list.proofs.Steps.{judged, no_line, too_long}
use Rattle.job_list.proofs.reading.next_line.Goals as goal

pub returns-then-seen-text-ge-MOST_BYTES : goal.returns-then-seen-text-ge-MOST_BYTES
returns-then-seen-text-ge-MOST_BYTES c = too_long c.args.seen c.args.lines.now c.args.rest.now c.in-Some.text.now c.in-Some.suffix.now c.in-Some.ensures (omega arith)

pub returns-in-Some-2 : goal.returns-in-Some-2
returns-in-Some-2 c =
    let is : Some c.in-Some-2.line ≡ line_of c.in-Some.text.now = sym c.in-Some-2.is ∙ c.in_ok-line.ensures in
    subst (λ (n : Option (LineParts × List ℕ)). NextLine c.args.seen c.args.lines.now c.args.rest.now n) (sym c.if_new.ensures)
    (judged c.args.seen c.args.lines.now c.args.rest.now c.in-Some.text.now c.in-Some.suffix.now c.in-Some.ensures c.in-Some-2.line is (omega arith) (omega arith))

pub returns-in-None : goal.returns-in-None
returns-in-None c = no_line c.args.seen c.args.lines.now c.args.rest.now c.in-Some.text.now c.in-Some.suffix.now c.in-Some.ensures (sym c.in-None.is ∙ c.in_ok-line.ensures)

pub overflow_add-seen : goal.overflow_add-seen
overflow_add-seen c = grind (arith, common_steps)
