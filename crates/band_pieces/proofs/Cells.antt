-- Cells of pieces: where they stand, and what is unpacked from them.
use Rattle.std.proofs.Common.{◌≡◌, ℕ, ◌+◌, ◌-◌, ◌*◌, ◌^◌, ◌<◌, ◌≤◌, sym, ◌∙◌, subst, arith}
use Rattle.std.proofs.lemmas.Nat.{div-mul-add, mod-mul-add}
use Rattle.page_model.specs.Bands.{phase_of, pieces_of}
use Rattle.band_core.specs.Layouts.{Layout}
use Rattle.band_core.specs.Packing.{lane}
use Rattle.band_core.specs.Places.{HasCell, bits_of, cell_total, first_cell_of, lanes_of, value_total}
use Rattle.band_core.specs.TableShapes.{Has}
use Rattle.band_core.specs.Values.{value}
use Rattle.band_core.proofs.Bridges.{cell_unpacks}
use Rattle.band_core.proofs.Cells.{cell_inside}
use Rattle.band_claims.specs.declared.table_key.TableKey.{TableKey}
use Rattle.band_claims.specs.TableKeys.{IsFit, cell, shape_of}
use Rattle.band_claims.proofs.Steps.{small_word}

-- cell o of a piece
pub has_at : (key : TableKey) (i o : ℕ) → i < (shape_of key).pieces → o < cell_total key.layout i → Has (shape_of key) i (first_cell_of key.layout i + o)
has_at key i o l m = record { piece = l; from = omega arith; below = omega (arith, m) }

-- the cell of a value
pub cell_has : (key : TableKey) (i o q : ℕ) → i < (shape_of key).pieces → q < lanes_of (phase_of key.layout.bands i) → o * lanes_of (phase_of key.layout.bands i) + q < value_total key.layout i → Has (shape_of key) i (first_cell_of key.layout i + o)
cell_has key i o q l few inside =
    let n : ℕ = lanes_of (phase_of key.layout.bands i) in
    let h : HasCell key.layout i (first_cell_of key.layout i + o) = subst (λ (z : ℕ). HasCell key.layout i (first_cell_of key.layout i + z)) (div-mul-add o n q few) (cell_inside key.layout i (o * n + q) inside) in
    record { piece = l; from = h.from; below = h.below }

-- what stands in its lane
pub lane_value : (key : TableKey) (i o q : ℕ) → IsFit key → i < (shape_of key).pieces → q < lanes_of (phase_of key.layout.bands i) → o * lanes_of (phase_of key.layout.bands i) + q < value_total key.layout i
    → lane (bits_of (phase_of key.layout.bands i)) (cell key (first_cell_of key.layout i + o) - 1) q ≡ value key.page.value key.layout i (o * lanes_of (phase_of key.layout.bands i) + q)
unfolding cell
lane_value key i o q fit l few inside =
    let n : ℕ = lanes_of (phase_of key.layout.bands i) in let e = sym (div-mul-add o n q few) in let m = sym (mod-mul-add o n q few) in
    (λ z. lane (bits_of (phase_of key.layout.bands i)) (cell key (first_cell_of key.layout i + e z) - 1) (m z)) ∙ cell_unpacks key.page.value key.layout i (o * n + q) fit l inside

-- some values of cell o of piece i, so many from lane q on, over a layout that is the key's
pub record Reads (key : TableKey) (layout : Layout) (i o q n : ℕ) : Type 0 where
  pub same : layout ≡ key.layout
  pub fit : IsFit key
  pub piece : i < pieces_of layout.bands
  pub some : 1 ≤ n
  pub few : q + n ≤ lanes_of (phase_of layout.bands i)
  pub inside : o * lanes_of (phase_of layout.bands i) + q + n ≤ value_total layout i

pub reads_has : (key : TableKey) (layout : Layout) (i o q n : ℕ) → Reads key layout i o q n → Has (shape_of key) i (first_cell_of layout i + o)
reads_has key layout i o q n r =
    let few = r.few in let some = r.some in let inside = r.inside in
    subst (λ (z : Layout). Has (shape_of key) i (first_cell_of z i + o)) (sym r.same)
    (cell_has key i o q (subst (λ (z : Layout). i < pieces_of z.bands) r.same r.piece)
    (subst (λ (z : Layout). q < lanes_of (phase_of z.bands i)) r.same (omega (arith, few, some)))
    (subst (λ (z : Layout). o * lanes_of (phase_of z.bands i) + q < value_total z i) r.same (omega (arith, inside, some))))

pub reads_small : (key : TableKey) (layout : Layout) (i o q n : ℕ) → Reads key layout i o q n → first_cell_of layout i + o + 1 < 2 ^ 32
reads_small key layout i o q n r = let t = (small_word key r.fit i (first_cell_of layout i + o) (reads_has key layout i o q n r)).1 in omega (arith, t)

pub reads_value : (key : TableKey) (layout : Layout) (i o q n j : ℕ) → Reads key layout i o q n → j < n
    → lane (bits_of (phase_of layout.bands i)) (cell key (first_cell_of layout i + o) - 1) (q + j) ≡ value key.page.value layout i (o * lanes_of (phase_of layout.bands i) + q + j)
reads_value key layout i o q n j r l =
    let few = r.few in let inside = r.inside in
    subst (λ (z : Layout). lane (bits_of (phase_of z.bands i)) (cell key (first_cell_of z i + o) - 1) (q + j) ≡ value key.page.value z i (o * lanes_of (phase_of z.bands i) + q + j)) (sym r.same)
    (let t = lane_value key i o (q + j) r.fit (subst (λ (z : Layout). i < pieces_of z.bands) r.same r.piece)
    (subst (λ (z : Layout). q + j < lanes_of (phase_of z.bands i)) r.same (omega (arith, few, l)))
    (subst (λ (z : Layout). o * lanes_of (phase_of z.bands i) + (q + j) < value_total z i) r.same (omega (arith, inside, l))) in
    t ∙ (let e : o * lanes_of (phase_of key.layout.bands i) + (q + j) ≡ o * lanes_of (phase_of key.layout.bands i) + q + j = omega arith in λ z. value key.page.value key.layout i (e z)))
