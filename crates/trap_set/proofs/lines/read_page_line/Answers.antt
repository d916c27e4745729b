-- read_page_line: the sides, the maxval and the number of planes of a page line, which has its LF;
-- `None` for every other line.
use Rattle.std.proofs.Common.{sym, ◌∙◌, subst}
use Rattle.std.proofs.lemmas.Bool.{both_ways}
use Rattle.trap_set.specs.Reading.{head_in}
use Rattle.trap_set.specs.SetText.{IsHead}
use Rattle.trap_set.proofs.LineLemmas.{same_head, short_head}
use Rattle.trap_set.proofs.lines.read_page_line.Goals as goal

pub returns-else-is_head-clause-none : goal.returns-else-is_head-clause-none
returns-else-is_head-clause-none c head h e =
    let same = same_head head (head_in c.in-Some.head) (short_head head h) c.in-Some.ensures.short (sym e ∙ c.in-Some.ensures.line) in
    both_ways _ c.if-is_head.false (c.is_head.ensures.1 (subst IsHead same h))
