-- read_run_line: reads the numbers of a run's line, which has its LF.
use Rattle.std.proofs.Common.{length, refl, sym, ◌∙◌, arith, subst}
use Rattle.std.proofs.lemmas.Bool.{both_ways}
use Rattle.trap_set.specs.Reading.{head_in}
use Rattle.trap_set.specs.SetText.{IsRun}
use Rattle.trap_set.proofs.LineLemmas.{same_run, short_run}
use Rattle.trap_set.proofs.lines.read_run_line.Goals as goal

pub returns-then-read_run_words-clause-none : goal.returns-then-read_run_words-clause-none
returns-then-read_run_words-clause-none c f h run is e =
    let ns = c.read_run_words.new.numbers in
    let same = same_run ns run (length ns) (omega arith) (omega arith) (c.if-read_run_words.ensures.short refl) (short_run (head_in c.args.head) run (length ns) h is (omega arith)) (sym (c.if-read_run_words.ensures.line refl) ∙ e) in
    both_ways _ f (c.is_run.ensures.1 (subst (IsRun (head_in c.args.head)) (sym same) is))
