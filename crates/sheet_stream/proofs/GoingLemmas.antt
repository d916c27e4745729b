-- The rows of one strip after those of another.
use Rattle.std.proofs.Common.{◌≡◌, ℕ, ◌+◌, ◌-◌, ◌%◌, ◌<◌, ◌≤◌, max, inl, inr, sym, subst, arith}
use Rattle.std.specs.Prelude.{if◌then◌else◌}
use Rattle.std.proofs.lemmas.Bool.{cases_lt}
use Rattle.sheet_stream.specs.declared.rows.Progress.{Progress}
use Rattle.sheet_stream.specs.Going.{IsNextRow, IsProgress, IsStripRow, gone_on}
use Rattle.sheet_geometry.specs.declared.spans.Ruler.{Ruler}
use Rattle.sheet_geometry.specs.declared.spans.Span.{Span}
use Rattle.sheet_geometry.specs.Spans.{IsSpan, even_wide}

module _ (down : Ruler) (p : Progress) (span : Span) (from : ℕ) (is : IsProgress down p) (span_is : IsSpan down p.at span) (wide : span.wide ≡ even_wide down) (from_is : from ≡ max span.from p.from) where
  abbrev row : Span
  row = record { from = from; wide = span.wide; skip = p.at - from; core = span.core }

  -- where the window begins above the rows that are held, it is the last strip's
  raised : span.from < p.from → IsSpan down p.at row
  raised above =
      let same : from ≡ p.from = omega (arith, from_is, above) in
      let placed = is.placed (omega (arith, above)) in
      let tall : ℕ = span.wide in
      let inside : p.from + tall ≤ down.side = subst (λ (n : ℕ). p.from + n ≤ down.side) (sym wide) placed.inside in
      let exact : (if down.from_end then down.side - (p.from + tall) else p.from) % down.step ≡ 0 = subst (λ (n : ℕ). (if down.from_end then down.side - (p.from + n) else p.from) % down.step ≡ 0) (sym wide) placed.exact in
      let halo = placed.halo in
      let stored = is.stored in
      let begins = span_is.begins in
      let core = span_is.core in
      record {
        begins = omega (arith, same, stored);
        some = span_is.some;
        core = omega (arith, same, stored, begins, core, above);
        inside = omega (arith, same, inside);
        small = span_is.small;
        before = λ more. omega (arith, same, halo, more);
        after = λ more. (let workspace = span_is.after (omega (arith, same, inside, above, more)) in omega (arith, same, stored, begins, workspace, above));
        exact = subst (λ (n : ℕ). (if down.from_end then down.side - (n + span.wide) else n) % down.step ≡ 0) (sym same) exact;
      }

  as_it_is : p.from ≤ span.from → IsSpan down p.at row
  as_it_is below =
      let same : from ≡ span.from = omega (arith, from_is, below) in
      let begins = span_is.begins in
      let core = span_is.core in
      let inside = span_is.inside in
      record {
        begins = omega (arith, same, begins);
        some = span_is.some;
        core = omega (arith, same, begins, core);
        inside = omega (arith, same, inside);
        small = span_is.small;
        before = λ more. (let halo = span_is.before (omega (arith, same, more)) in omega (arith, same, begins, halo));
        after = λ more. (let workspace = span_is.after (omega (arith, same, more)) in omega (arith, same, begins, workspace));
        exact = subst (λ (n : ℕ). (if down.from_end then down.side - (n + span.wide) else n) % down.step ≡ 0) (sym same) span_is.exact;
      }

  row_is : IsSpan down p.at row
  row_is = elim (cases_lt span.from p.from) [ inl above ↦ raised above | inr below ↦ as_it_is below ]

  pub next_is : IsNextRow down p row
  next_is = record {
    span = row_is;
    wide = wide;
    below = omega (arith, from_is);
    above = (let begins = span_is.begins in let stored = is.stored in let known = is.known in omega (arith, from_is, begins, stored, known));
  }

pub goes_on : (down : Ruler) (row : Span) → IsStripRow down row → IsProgress down (gone_on row)
goes_on down row is =
    let span = is.span in
    let core = span.core in
    let inside = span.inside in
    record {
      inside = inside;
      stored = omega arith;
      known = omega (arith, core);
      placed = λ more. record {
        inside = subst (λ (n : ℕ). row.from + n ≤ down.side) is.wide inside;
        halo = (let halo = span.before more in omega (arith, halo));
        exact = subst (λ (n : ℕ). (if down.from_end then down.side - (row.from + n) else row.from) % down.step ≡ 0) is.wide span.exact;
      };
    }

pub hand_of : (down : Ruler) (p : Progress) (row : Span) → IsNextRow down p row → IsStripRow down row
hand_of down p row next = record {
  span = subst (λ (at : ℕ). IsSpan down at row) (sym next.span.begins) next.span;
  wide = next.wide;
}
