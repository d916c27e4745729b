-- rows_up: goes up over the asked rows.
use Rattle.std.proofs.Common.{arith, ◌+◌, ◌-◌, ◌∙◌, ◌≡◌, ap, refl, ℕ, inl, inr}
use Rattle.std.proofs.lemmas.Bool.{cases_eq}
use Rattle.column_scan.specs.Sweep.{above_of, column_of, raised, slot}
use Rattle.column_scan.proofs.RowLemmas.{column_next}
use Rattle.column_scan.proofs.sweeps.rows_up.Goals as goal

pub loop-i-preserved : goal.loop-i-preserved
loop-i-preserved c =
    let row = c.args.rows - (c.loop-i.i + 2) in
    let m = c.args.marks.now in
    let reach = c.args.reach2 in
    record {
      end = refl;
      len = c.row_up.ensures.written.len ∙ c.loop-i.invariant.len;
      low = λ k x2 lk l. c.row_up.ensures.written.kept k x2 l (λ e. omega (arith, e, lk)) ∙ c.loop-i.invariant.low k x2 (omega (arith, lk)) l;
      high = λ k x2 a lk l. elim (cases_eq k row) [
        | inl e ↦ (let here = c.loop-i.invariant.low row x2 (omega arith) l in
            let next : c.args.first + (row + 1) ≡ c.args.first + row + 1 = omega arith in
            let under = c.loop-i.invariant.high (row + 1) x2 (omega arith) (omega arith) l ∙ ap (column_of m x2 reach) next in
            rw e (c.row_up.ensures.written.done x2 l ∙ ap (λ (n : ℕ). raised reach n (slot c.loop-i.out c.args.columns (row + 1) x2)) here ∙ ap (raised reach (above_of m x2 reach (c.args.first + row))) under ∙ column_next m x2 reach (c.args.first + row) c.requires.reach (omega arith)))
        | inr ne ↦ c.row_up.ensures.written.kept k x2 l ne ∙ c.loop-i.invariant.high k x2 (omega (arith, a, ne)) lk l
      ];
    }
