-- Scratch::new: the memory for the pieces of pages like this one, in these bands.
use Rattle.std.proofs.Common.{◌≡◌, ℕ, ◌*◌, ◌≤◌, sym, ap, ◌∙◌, arith}
use Rattle.std.proofs.Math.Nat.{mul-le-mul_right}
use Rattle.page_model.specs.declared.bands.Bands.{Bands}
use Rattle.page_model.specs.Columns.{halo}
use Rattle.band_core.specs.Layouts.{Layout}
use Rattle.band_core.specs.Places.{per_row}
use Rattle.band_core.proofs.Places.{rows_fit}
use Rattle.band_pieces.specs.Workspace.{most_rows}
use Rattle.band_pieces.proofs.scratch.Scratch.new.Goals as goal

pub overflow_mul-band-2 : goal.overflow_mul-band-2
overflow_mul-band-2 c = let low = c.requires.bands.low in omega (arith, rows_fit c.min-band.result c.row_values-4.result (omega (arith, c.min-band.ensures, low)) c.row_values-4.ensures.few)

-- room for so many values, and for no fewer rows
enough : (most rows per here n : ℕ) → most ≤ rows → here ≡ per → n ≡ rows * here → most * per ≤ n
enough most rows per here n l e m = let t : most * per ≤ rows * per = mul-le-mul_right per l in let u : rows * here ≡ rows * per = ap (λ (z : ℕ). rows * z) e in omega (arith, t, u, m)

pub invariant_of-result : goal.invariant_of-result
invariant_of-result c =
    let value = c.new-layout.ensures.value in let layout = c.new-layout.result in let bands = ap (λ (z : Layout). z.bands) value in
    let h = ap (λ (b : Bands). b.height) bands in let r = ap (λ (b : Bands). b.rows) bands in let d = ap (λ (b : Bands). b.reach2) bands in
    record {
      made = c.new-layout.ensures.valid;
      wide = c.in_ok-new.ensures.wide ∙ (sym c.width.ensures.value ∙ sym (ap (λ (z : Layout). z.width) value));
      deep = c.in_ok-new.ensures.deep ∙ (sym c.plates.ensures.value ∙ sym (ap (λ (z : Layout). z.plates) value));
      for_zones = enough (most_rows layout 1) c.min-below.result (per_row layout 0) c.row_values.result _ (omega (arith, c.min-below.ensures, h, r)) c.row_values.ensures.value c.in_ok-vec_of.ensures;
      for_marks = enough (most_rows layout (2 * halo layout.bands.reach2)) c.min-near.result (per_row layout 1) c.row_values-2.result _ (omega (arith, c.min-near.ensures, h, r, d)) c.row_values-2.ensures.value c.in_ok-vec_of-2.ensures;
      for_answers = enough (most_rows layout 0) c.min-band.result (per_row layout 2) c.row_values-3.result _ (omega (arith, c.min-band.ensures, h, r)) c.row_values-3.ensures.value c.in_ok-vec_of-3.ensures;
      for_tints = enough (most_rows layout 0) c.min-band.result (per_row layout 3) c.row_values-4.result _ (omega (arith, c.min-band.ensures, h, r)) c.row_values-4.ensures.value c.in_ok-vec_of-4.ensures;
    }
