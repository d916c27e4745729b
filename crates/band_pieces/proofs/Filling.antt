-- A closed table whose cells are filled one after another.
use Rattle.std.proofs.Common.{◌≡◌, ℕ, ◌+◌, ◌-◌, ◌<◌, ◌≤◌, List, length, refl, sym, ap, ◌∙◌, subst, inl, inr, arith, get_or-set_same, get_or-set_other}
use Rattle.std.specs.Prelude.{slice_index, slice_set}
use Rattle.std.proofs.lemmas.Bool.{cases_eq}
use Rattle.std.proofs.lemmas.List.{length-set}
use Rattle.band_core.specs.Places.{cell_total, first_cell_of}
use Rattle.band_core.specs.TableShapes.{Has}
use Rattle.band_core.proofs.Boards.{one_owner}
use Rattle.band_claims.specs.declared.table_key.TableKey.{TableKey}
use Rattle.band_claims.specs.Receipt.{Receipt}
use Rattle.band_claims.specs.Rule.{cell_word}
use Rattle.band_claims.specs.TableKeys.{IsFit, cell, shape_of}
use Rattle.band_claims.proofs.Steps.{fit_shape}
use Rattle.band_pieces.specs.Fills.{FillsPiece, FillsTo, HasCells, KeepsLists}

-- the piece's cells are defined, over the table's key
abbrev pub HasCellsOf : TableKey → List ℕ → ℕ → Type 0
HasCellsOf key words i = (j : ℕ) → Has (shape_of key) i j → cell_word (shape_of key) words j ≡ cell key j

-- the first cells of the piece, n of them, have their defined values, and all else is as before
pub record FillsUpTo (before after : Receipt) (piece n : ℕ) : Type 0 where
  pub table_key : after.table_key ≡ before.table_key
  pub lists : KeepsLists before after
  pub alone : after.alone ≡ before.alone
  pub long : length after.words ≡ length before.words
  pub states : (i : ℕ) → i < (shape_of before.table_key).pieces → slice_index after.words i ≡ slice_index before.words i
  pub prefix : (o : ℕ) → o < n → cell_word (shape_of before.table_key) after.words (first_cell_of before.table_key.layout piece + o) ≡ cell before.table_key (first_cell_of before.table_key.layout piece + o)
  pub same : (j : ℕ) → (Has (shape_of before.table_key) piece j → ⊥) → cell_word (shape_of before.table_key) after.words j ≡ cell_word (shape_of before.table_key) before.words j

pub filled_none : (r : Receipt) (piece : ℕ) → FillsUpTo r r piece 0
filled_none r piece = record {
  table_key = refl;
  lists = record { published = refl; seen = refl; looked = refl; reported = refl; left = refl; workspace = refl };
  alone = refl;
  long = refl;
  states = λ i l. refl;
  prefix = λ o l. absurd (omega (arith, l));
  same = λ j h. refl;
}

pub filled_more : (before now after : Receipt) (piece o : ℕ) → IsFit before.table_key → length before.words ≡ (shape_of before.table_key).pieces + (shape_of before.table_key).cells → Has (shape_of before.table_key) piece (first_cell_of before.table_key.layout piece + o) → FillsUpTo before now piece o → FillsTo now after piece o → FillsUpTo before after piece (o + 1)
filled_more before now after piece o fit wide has f s = record {
  table_key = s.table_key ∙ f.table_key;
  lists = record { published = s.lists.published ∙ f.lists.published; seen = s.lists.seen ∙ f.lists.seen; looked = s.lists.looked ∙ f.lists.looked; reported = s.lists.reported ∙ f.lists.reported; left = s.lists.left ∙ f.lists.left; workspace = s.lists.workspace ∙ f.lists.workspace };
  alone = s.alone ∙ f.alone;
  long = ap length words ∙ (length-set now.words place value ∙ f.long);
  states = λ i l. other i (λ e. omega (arith, e, l)) ∙ f.states i l;
  prefix = λ q l. elim (cases_eq q o) [
    | inl e ↦ rw e (ap (λ (ws : List ℕ). slice_index ws place) words ∙ get_or-set_same now.words place value 0 inside)
    | inr ne ↦ other (pieces + (start + q)) (λ e. ne (omega (arith, e))) ∙ f.prefix q (omega (arith, l, ne))
  ];
  same = λ j no. other (pieces + j) (λ e. no (subst (λ (z : ℕ). Has (shape_of before.table_key) piece z) (let t : start + o ≡ j = omega (arith, e) in t) has)) ∙ f.same j no;
} where
  pieces : ℕ
  pieces = (shape_of before.table_key).pieces

  start : ℕ
  start = first_cell_of before.table_key.layout piece

  place : ℕ
  place = pieces + (start + o)

  value : ℕ
  value = cell before.table_key (start + o)

  words : after.words ≡ slice_set now.words place value
  words = let e = f.table_key in s.words ∙ (λ i. slice_set now.words ((shape_of (e i)).pieces + ((shape_of (e i)).start piece + o)) (cell (e i) ((shape_of (e i)).start piece + o)))

  inside : place < length now.words
  inside = let t = (fit_shape before.table_key fit).inside piece has.piece in let b = has.below in omega (arith, f.long, wide, t, b)

  other : (k : ℕ) → (k ≡ place → ⊥) → slice_index after.words k ≡ slice_index now.words k
  other k ne = ap (λ (ws : List ℕ). slice_index ws k) words ∙ get_or-set_other now.words place k value 0 ne

pub filled_all : (before after : Receipt) (piece n : ℕ) → IsFit before.table_key → piece < (shape_of before.table_key).pieces → cell_total before.table_key.layout piece ≤ n → FillsUpTo before after piece n → FillsPiece before after piece
filled_all before after piece n fit inside all f = record {
  table_key = f.table_key;
  lists = f.lists;
  alone = f.alone;
  long = f.long;
  states = f.states;
  filled = at_table_key piece here;
  others = λ i l h. elim (cases_eq i piece) [
    | inl e ↦ subst (HasCells after) (sym e) (at_table_key piece here)
    | inr ne ↦ at_table_key i (λ j hj. f.same j (λ hp. ne (one_owner (shape_of before.table_key) piece i j (fit_shape before.table_key fit) hp hj)) ∙ h j hj)
  ];
} where
  at_table_key : (i : ℕ) → HasCellsOf before.table_key after.words i → HasCells after i
  at_table_key i h = subst (λ (key : TableKey). HasCellsOf key after.words i) (sym f.table_key) h

  here : HasCellsOf before.table_key after.words piece
  here j h =
      let from = h.from in let below = h.below in let o : ℕ = j - first_cell_of before.table_key.layout piece in
      let e : first_cell_of before.table_key.layout piece + o ≡ j = omega (arith, from) in
      subst (λ (z : ℕ). cell_word (shape_of before.table_key) after.words z ≡ cell before.table_key z) e (f.prefix o (omega (arith, from, below, all)))
