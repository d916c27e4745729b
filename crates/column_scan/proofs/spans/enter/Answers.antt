-- enter: row r + 1 of the marks, from row r.
use Rattle.std.proofs.Common.{◌∙◌, ap, ◌+◌, ◌%◌, Bool}
use Rattle.column_scan.specs.Sweep.{passes, above_step}
use Rattle.column_scan.proofs.RowLemmas.{above_next}
use Rattle.column_scan.proofs.spans.enter.Goals as goal

pub returns-clause-code : goal.returns-clause-code
returns-clause-code g c =
    let m = c.args.marks.now in
    let x2 = c.args.x2 in
    let reach = c.args.reach2 in
    c.step_code.ensures ∙ ap (λ (b : Bool). above_step x2 reach b c.args.code) c.decides-seen.ensures.decides ∙ ap (above_step x2 reach (passes m x2 (c.args.r + x2 % 2))) c.requires.code ∙ above_next m x2 reach c.args.r c.requires.reach
