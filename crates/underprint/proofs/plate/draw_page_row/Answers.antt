-- draw_page_row: the rows of the lists are those of the page, and pixel by pixel thin ink is judged.
use Rattle.std.proofs.Common.{◌≡◌, ℕ, Some, slice_index, sym, ap, subst, ◌∙◌, inl, inr, arith}
use Rattle.std.proofs.lemmas.Bool.{cases_eq}
use Rattle.underprint.specs.Underprint.{drawn_to, kept_by}
use Rattle.underprint.proofs.UnderLemmas.{field_drawn}
use Rattle.underprint.proofs.plate.draw_page_row.Goals as goal

pub loop-x-init : goal.loop-x-init
loop-x-init c =
    let page = c.args.page.now in
    let whites = c.args.whites.now in
    record {
      long = omega arith;
      done = λ i l. absurd (omega arith);
      later = λ i l m. c.draw_row.ensures i (omega (arith, m, c.field_of-field.ensures.wide))
          ∙ field_drawn c.window_law.ensures page whites c.args.c c.field_of-field.result c.reach_of.result.limit c.reach_of.result.radius i c.args.y c.reach_of.result.beyond c.field_of-field.ensures m c.requires.row
          ∙ ap (λ (n : ℕ). drawn_to page whites c.args.c n (record { x = i; y = c.args.y })) c.reach_of.ensures;
    }

pub loop-x-preserved : goal.loop-x-preserved
loop-x-preserved c =
    let page = c.args.page.now in
    let whites = c.args.whites.now in
    record {
      long = c.put_thin.ensures.long ∙ c.loop-x.invariant.long;
      done = λ i l. elim (cases_eq i c.loop-x.x) [
        | inl e ↦ subst (λ (n : ℕ). slice_index c.put_thin.new.out n ≡ kept_by page whites (Some c.args.wide) c.args.c (record { x = n; y = c.args.y })) (sym e) c.put_thin.ensures.there
        | inr ne ↦ c.put_thin.ensures.others i ne ∙ c.loop-x.invariant.done i (omega (arith, l, ne))
      ];
      later = λ i l m. c.put_thin.ensures.others i (λ e. absurd (omega (arith, e, l))) ∙ c.loop-x.invariant.later i (omega arith) m;
    }
