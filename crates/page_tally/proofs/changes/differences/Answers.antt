-- Rows that are the same differ nowhere.
use Rattle.std.proofs.Common.{ℕ, List, ap, length, not, slice_index, sym}
use Rattle.std.specs.Prelude.{◌==◌}
use Rattle.std.proofs.lemmas.Bool.{eq-eqb}
use Rattle.page_tally.proofs.CountLemmas.{count_none}
use Rattle.page_tally.proofs.changes.differences.Goals as goal

pub returns-then-are_same-clause-count : goal.returns-then-are_same-clause-count
returns-then-are_same-clause-count c = sym (count_none (λ k. not (slice_index c.args.after.now k == slice_index c.args.before.now k)) (length c.args.after.now) (λ k l. ap not (eq-eqb _ _ (sym (ap (λ (xs : List ℕ). slice_index xs k) (c.are_same.ensures.same c.if-are_same.true))))))
