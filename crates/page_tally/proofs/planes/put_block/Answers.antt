-- put_block: puts the new tints of some samples of plate c into row y of its plane, from sample x
-- on, where they are not those of the page.
use Rattle.std.proofs.lemmas.Grind.{common_steps}
use Rattle.std.proofs.Common.{◌≡◌, ◌∙◌, true, arith, rules, ap, sym, List, ℕ}
use Rattle.std.specs.Prelude.{slice_index}
use Rattle.page_tally.proofs.StandingLemmas.{row_kept}
use Rattle.page_tally.proofs.planes.put_block.Goals as goal
use Rattle.page_tally.proofs.planes.put_block.Goals.{then-not-are_same, else-not-are_same}

pub returns-clause-plane : goal.returns-clause-plane
returns-clause-plane c = elim c.if-not-are_same.branch [
  | then-not-are_same w ↦ rw w.plane-is w.put_samples.ensures
  | else-not-are_same w ↦ rw w.plane-is (
      let same : c.are_same.result ≡ true = search rules in
      let e = c.are_same.ensures.same same in
      row_kept c.args.page.now c.args.y c.args.c c.args.x c.min-count.result c.args.plane.now c.requires.line (omega (arith, c.min-count.ensures, c.requires.after.long, c.requires.column))
      (λ k l. sym (c.requires.after.each _ (omega (arith, l, c.min-count.ensures, c.requires.after.long, c.requires.column)))
      ∙ (sym (c.part_of-2.ensures.each k l) ∙ (ap (λ (xs : List ℕ). slice_index xs k) (sym e) ∙ (c.part_of.ensures.each k l ∙ c.requires.before.each _ (omega (arith, l, c.min-count.ensures, c.requires.after.long, c.requires.column))))))
      c.requires.plane)
]

pub put_samples-requires-clause-plane : goal.put_samples-requires-clause-plane
put_samples-requires-clause-plane c = grind (arith, common_steps)
