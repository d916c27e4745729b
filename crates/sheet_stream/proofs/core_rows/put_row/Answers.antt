-- put_row: puts row k of the core of one plate in a line, from there on.
use Rattle.std.proofs.lemmas.Grind.{common_steps}
use Rattle.std.proofs.Common.{◌≡◌, ℕ, ◌+◌, ◌-◌, List, ◌++◌, drop, take, ap, ◌∙◌, arith}
use Rattle.page_model.specs.Page.{width}
use Rattle.sheet_stream.proofs.RowLemmas.{drop_more, row_is}
use Rattle.sheet_stream.proofs.core_rows.put_row.Goals as goal

pub returns : goal.returns
returns c =
    let strip = c.args.strip.now in
    let line : List ℕ = c.args.line.now in
    let from : ℕ = c.args.from in
    let wide : ℕ = c.width-wide.result in
    let row = c.put_strip_row.ensures ∙ row_is strip c.args.cut.now c.args.workspace.now c.args.k c.args.c c.width-valid.ensures.valid.ranges c.requires.cut c.requires.row in
    let count : from + wide - from ≡ wide = omega arith in
    let rest : drop (from + wide - from) (drop from line) ≡ drop (from + width strip) line = ap (λ (n : ℕ). drop n (drop from line)) count ∙ drop_more from wide line ∙ ap (λ (n : ℕ). drop (from + n) line) c.width-wide.ensures.value in
    λ i. take from line ++ (row i ++ rest i)

pub put_strip_row-requires-clause-row : goal.put_strip_row-requires-clause-row
put_strip_row-requires-clause-row c = grind (arith, common_steps)
