-- covered_by_black: marks that are not 0 are covered pixels.
use Rattle.std.proofs.Common.{List, ℕ, length, subst, sym, ◌∙◌}
use Rattle.keepaway.specs.Rows.{AreMarks}
use Rattle.keep_pages.proofs.PageLemmas.{black_covered}
use Rattle.keep_pages.proofs.outcome.covered_by_black.Goals as goal

pub returns : goal.returns
returns c =
    let are = subst (λ (m : List ℕ). AreMarks c.args.page.now c.args.rich.now.limit m) (sym c.marks.ensures) c.requires.marks in
    c.count_covered.ensures ∙ black_covered c.args.page.now c.args.rich.now (length c.marks.result.now) c.marks.result.now are are.long
