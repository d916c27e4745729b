-- A closed table that is finished piece by piece.
use Rattle.std.proofs.Common.{◌≡◌, ◌≢◌, ℕ, ◌+◌, ◌<◌, ◌≤◌, Bool, true, false, ◌&&◌, not, nat_lt, List, [], None, length, refl, sym, ap, ◌∙◌, subst, inl, inr, arith, get_or-set_same, get_or-set_other, ne_eqb}
use Rattle.std.specs.Prelude.{◌==◌, slice_index, slice_set}
use Rattle.std.proofs.lemmas.Bool.{cases_eq, cases_order, eq-eqb, le-ltb, lt-ltb}
use Rattle.page_model.specs.declared.parts.PageParts.{PageParts}
use Rattle.page_model.specs.Bands.{pieces_of}
use Rattle.band_core.specs.Needs.{is_need}
use Rattle.band_core.proofs.NeedLemmas.{need_less}
use Rattle.band_core.specs.Layouts.{Layout}
use Rattle.band_core.proofs.Places.{owner}
use Rattle.band_core.specs.Places.{piece_of_cell}
use Rattle.band_core.specs.Boards.{is_done, state_done}
use Rattle.band_core.specs.Runs.{Sound}
use Rattle.band_core.specs.TableWords.{AreWords, board_of, state_of}
use Rattle.band_core.proofs.TableWords.{cell_is, state_is}
use Rattle.band_claims.specs.declared.table_key.TableKey.{TableKey}
use Rattle.band_claims.specs.Receipt.{Receipt}
use Rattle.band_claims.specs.Rule.{cell_word, piece_word}
use Rattle.band_claims.specs.TableKeys.{IsFit, cell, shape_of}
use Rattle.band_claims.specs.Views.{one_if, times}
use Rattle.band_claims.proofs.Steps.{fit_shape}
use Rattle.band_pieces.specs.Fills.{DoneHaveCells, FillsPiece, FinishesPiece, FinishesTo, HasCells, KeepsLists}
use Rattle.band_claims.specs.declared.view.View.{View}
use Rattle.band_claims.specs.Remembered.{Ends, Steps}
use Rattle.band_pieces.specs.Finished.{IsFinished, WasLeft}
use Rattle.band_pieces.proofs.Filling.{HasCellsOf}

same_lists : (r : Receipt) → KeepsLists r r
same_lists r = record { published = refl; seen = refl; looked = refl; reported = refl; left = refl; workspace = refl }

then_lists : (a b c : Receipt) → KeepsLists a b → KeepsLists b c → KeepsLists a c
then_lists a b c f s = record { published = s.published ∙ f.published; seen = s.seen ∙ f.seen; looked = s.looked ∙ f.looked; reported = s.reported ∙ f.reported; left = s.left ∙ f.left; workspace = s.workspace ∙ f.workspace }

-- the needs of a piece are done where all pieces before it are
pub needs_known : (closed : Receipt) (layout : Layout) (piece n : ℕ) → IsFit closed.table_key → layout ≡ closed.table_key.layout → piece < pieces_of closed.table_key.layout.bands → ((i : ℕ) → i < piece → piece_word closed.words i ≡ 2) → DoneHaveCells closed → is_need layout.bands piece n ≡ true → HasCells closed n
needs_known closed layout piece n fit same inside earlier cells need =
    let less = need_less closed.table_key.layout.bands piece n fit.made.bands (subst (λ (z : Layout). is_need z.bands piece n ≡ true) same need) in
    cells n (omega (arith, less, inside)) (earlier n less)

none_more : (b : Bool) (n : ℕ) → n ≡ n + one_if (b && not true)
none_more true n = omega arith
none_more false n = omega arith

-- a piece that is done stays as it is
pub finished_same : (closed : Receipt) (piece : ℕ) → piece_word closed.words piece ≡ 2 → DoneHaveCells closed → FinishesPiece closed closed piece
finished_same closed piece done cells = record {
  table_key = refl;
  lists = same_lists closed;
  done = done;
  others = λ i l ne. refl;
  cells = cells;
  alone = λ i. rw done (none_more (i == piece) (times i closed.alone));
}

-- what making a piece done changes
pub record SetsDone (before after : Receipt) (piece : ℕ) : Type 0 where
  pub table_key : after.table_key ≡ before.table_key
  pub lists : KeepsLists before after
  pub words : after.words ≡ slice_set before.words piece 2
  pub alone : (i : ℕ) → times i after.alone ≡ times i before.alone + one_if (i == piece)

and_true : (b : Bool) → b ≡ (b && true)
and_true true = refl
and_true false = refl

pub finished_now : (closed filled after : Receipt) (piece : ℕ) → IsFit closed.table_key → length closed.words ≡ (shape_of closed.table_key).pieces + (shape_of closed.table_key).cells → piece < pieces_of closed.table_key.layout.bands → piece_word closed.words piece ≢ 2 → DoneHaveCells closed → FillsPiece closed filled piece → SetsDone filled after piece → FinishesPiece closed after piece
finished_now closed filled after piece fit wide inside left cells f s = record {
  table_key = s.table_key ∙ f.table_key;
  lists = then_lists closed filled after f.lists s.lists;
  done = ap (λ (ws : List ℕ). slice_index ws piece) s.words ∙ get_or-set_same filled.words piece 2 0 (omega (arith, f.long, wide, inside));
  others = λ i l ne. other i ne ∙ f.states i l;
  cells = λ i l e. elim (cases_eq i piece) [
    | inl q ↦ subst (HasCells after) (sym q) (kept piece f.filled)
    | inr ne ↦ (let here : i < (shape_of closed.table_key).pieces = subst (λ (z : TableKey). i < (shape_of z).pieces) (s.table_key ∙ f.table_key) l in kept i (f.others i here (cells i here (sym (other i ne ∙ f.states i here) ∙ e))))
  ];
  alone = λ i. s.alone i ∙ (λ z. times i (f.alone z) + one_if (second i z));
} where
  other : (i : ℕ) → i ≢ piece → slice_index after.words i ≡ slice_index filled.words i
  other i ne = ap (λ (ws : List ℕ). slice_index ws i) s.words ∙ get_or-set_other filled.words piece i 2 0 ne

  second : (i : ℕ) → (i == piece) ≡ ((i == piece) && not (piece_word closed.words piece == 2))
  second i = rw (ne_eqb (piece_word closed.words piece) 2 left) (and_true (i == piece))

  kept : (i : ℕ) → HasCells filled i → HasCells after i
  kept i h = subst (λ (key : TableKey). HasCellsOf key after.words i) (sym s.table_key) (λ j hj. word j ∙ h j hj) where
    word : (j : ℕ) → cell_word (shape_of filled.table_key) after.words j ≡ cell_word (shape_of filled.table_key) filled.words j
    word j = other ((shape_of filled.table_key).pieces + j) (λ e. let t : piece < (shape_of filled.table_key).pieces = subst (λ (z : TableKey). piece < (shape_of z).pieces) (sym f.table_key) inside in omega (arith, e, t))

-- at the beginning: what the closed table's soundness says
pub sound_cells : (closed : Receipt) → IsFit closed.table_key → Sound (shape_of closed.table_key) (cell closed.table_key) (board_of (shape_of closed.table_key) closed.words) → DoneHaveCells closed
sound_cells closed fit sound i l done j h = elim (sound.cells j inside) [
  | inl empty ↦ absurd (sound.full i j h is empty)
  | inr there ↦ sym (cell_is (shape_of closed.table_key) closed.words j inside) ∙ there
] where
  inside : j < (shape_of closed.table_key).cells
  inside = let t = (fit_shape closed.table_key fit).inside i h.piece in let b = h.below in omega (arith, t, b)

  is : is_done (board_of (shape_of closed.table_key) closed.words) i ≡ true
  is = ap state_done (state_is (shape_of closed.table_key) closed.words i l ∙ ap state_of done)

none_before : (i : ℕ) (b : Bool) → one_if (nat_lt i 0 && b) ≡ 0
none_before i b = rw (le-ltb i 0 (omega arith)) refl

pub finished_none : (closed : Receipt) → IsFit closed.table_key → AreWords (shape_of closed.table_key) closed.words → Sound (shape_of closed.table_key) (cell closed.table_key) (board_of (shape_of closed.table_key) closed.words) → closed.alone ≡ [] → FinishesTo closed closed 0
finished_none closed fit words sound alone = record {
  table_key = refl;
  lists = same_lists closed;
  done = λ i l. absurd (omega (arith, l));
  others = λ i m l. refl;
  cells = sound_cells closed fit sound;
  alone = λ i. ap (times i) alone ∙ sym (none_before i (not (piece_word closed.words i == 2)));
}

count_more : (i n : ℕ) (b : Bool) → one_if (nat_lt i n && b) + one_if ((i == n) && b) ≡ one_if (nat_lt i (n + 1) && b)
count_more i n b = elim (cases_order i n) [
  | inl e ↦ rw (e, le-ltb n n (omega arith), eq-eqb n n refl, lt-ltb n (n + 1) (omega arith)) (plain b)
  | inr (inl less) ↦ rw (lt-ltb i n less, ne_eqb i n (λ e. omega (arith, e, less)), lt-ltb i (n + 1) (omega (arith, less))) (plain_less b)
  | inr (inr more) ↦ rw (le-ltb i n (omega (arith, more)), ne_eqb i n (λ e. omega (arith, e, more)), le-ltb i (n + 1) (omega (arith, more))) refl
] where
  plain : (b : Bool) → one_if (false && b) + one_if (true && b) ≡ one_if (true && b)
  plain true = refl
  plain false = refl

  plain_less : (b : Bool) → one_if (true && b) + one_if (false && b) ≡ one_if (true && b)
  plain_less true = refl
  plain_less false = refl

pub finished_more : (before now after : Receipt) (n : ℕ) → n < (shape_of before.table_key).pieces → FinishesTo before now n → FinishesPiece now after n → FinishesTo before after (n + 1)
finished_more before now after n inside f s = record {
  table_key = s.table_key ∙ f.table_key;
  lists = then_lists before now after f.lists s.lists;
  done = λ i l. elim (cases_eq i n) [
    | inl e ↦ rw e s.done
    | inr ne ↦ s.others i (here i (omega (arith, l, inside))) ne ∙ f.done i (omega (arith, l, ne))
  ];
  others = λ i m l. s.others i (here i l) (λ e. omega (arith, e, m)) ∙ f.others i (omega (arith, m)) l;
  cells = s.cells;
  alone = λ i. s.alone i ∙ (sum i ∙ count_more i n (not (piece_word before.words i == 2)));
} where
  here : (i : ℕ) → i < (shape_of before.table_key).pieces → i < (shape_of now.table_key).pieces
  here i l = subst (λ (z : TableKey). i < (shape_of z).pieces) (sym f.table_key) l

  at_n : (i : ℕ) → one_if ((i == n) && not (piece_word now.words n == 2)) ≡ one_if ((i == n) && not (piece_word before.words i == 2))
  at_n i = elim (cases_eq i n) [
    | inl e ↦ rw e (ap (λ (w : ℕ). one_if ((n == n) && not (w == 2))) (f.others n (omega arith) inside))
    | inr ne ↦ rw (ne_eqb i n ne) refl
  ]

  sum : (i : ℕ) → times i now.alone + one_if ((i == n) && not (piece_word now.words n == 2)) ≡ one_if (nat_lt i n && not (piece_word before.words i == 2)) + one_if ((i == n) && not (piece_word before.words i == 2))
  sum i = let a = f.alone i in let b = at_n i in λ z. a z + b z

-- at the end: every cell is the defined one
pub cells_all : (before after : Receipt) (n : ℕ) → IsFit before.table_key → (shape_of before.table_key).pieces ≤ n → FinishesTo before after n → (j : ℕ) → j < (shape_of after.table_key).cells → cell_word (shape_of after.table_key) after.words j ≡ cell after.table_key j
cells_all before after n fit all f j l =
    let own = owner after.table_key.layout j l in let i : ℕ = piece_of_cell after.table_key.layout j in
    let few : (shape_of after.table_key).pieces ≤ n = subst (λ (z : TableKey). (shape_of z).pieces ≤ n) (sym f.table_key) all in
    let a = own.0 in
    f.cells i own.0 (f.done i (omega (arith, a, few))) j (record { piece = own.0; from = own.1.from; below = own.1.below })

one_at_most : (b : Bool) → one_if b ≤ 1
one_at_most true = omega arith
one_at_most false = omega arith

none_left : (b : Bool) → one_if (b && not true) ≡ 0
none_left true = refl
none_left false = refl

-- and no piece was made twice
pub alone_once : (before after : Receipt) (n i : ℕ) → ((k : ℕ) → 1 ≤ times k before.published → piece_word before.words k ≡ 2) → ((k : ℕ) → times k before.published ≤ 1) → FinishesTo before after n → times i after.published + times i after.alone ≤ 1
alone_once before after n i done once f = elim (cases_eq (times i before.published) 0) [
  | inl e ↦ omega (arith, ap (times i) f.lists.published, e, f.alone i, one_at_most (nat_lt i n && not (piece_word before.words i == 2)))
  | inr some ↦ (let none : times i after.alone ≡ 0 = f.alone i ∙ rw (done i (omega (arith, some))) (none_left (nat_lt i n)) in omega (arith, ap (times i) f.lists.published, once i, none))
]

both_ways : (a b : Bool) → one_if (a && b) + one_if (a && not b) ≡ one_if a
both_ways true true = refl
both_ways true false = refl
both_ways false true = refl
both_ways false false = refl

-- where the last pass has published all that was done when the table was closed, each piece was made once
pub each_once : (before after : Receipt) (i : ℕ) → after.table_key ≡ before.table_key → after.published ≡ before.published → times i before.published ≡ one_if (nat_lt i (pieces_of before.table_key.layout.bands) && (piece_word before.words i == 2))
    → times i after.alone ≡ one_if (nat_lt i (pieces_of before.table_key.layout.bands) && not (piece_word before.words i == 2)) → times i after.published + times i after.alone ≡ one_if (nat_lt i (shape_of after.table_key).pieces)
each_once before after i same published one alone =
    let two = both_ways (nat_lt i (pieces_of before.table_key.layout.bands)) (piece_word before.words i == 2) in
    let list = ap (times i) published in
    let n : one_if (nat_lt i (pieces_of before.table_key.layout.bands)) ≡ one_if (nat_lt i (shape_of after.table_key).pieces) = ap (λ (z : TableKey). one_if (nat_lt i (shape_of z).pieces)) (sym same) in
    omega (arith, list, one, alone, two, n)

-- the cells of a finished table can be read
pub has_cells : (receipt : Receipt) → IsFit receipt.table_key → ((j : ℕ) → j < (shape_of receipt.table_key).cells → cell_word (shape_of receipt.table_key) receipt.words j ≡ cell receipt.table_key j) → (i : ℕ) → HasCells receipt i
has_cells receipt fit all i j h = let t = (fit_shape receipt.table_key fit).inside i h.piece in let b = h.below in all j (omega (arith, t, b))

pub finished_has_cells : (page : PageParts) (receipt : Receipt) → IsFinished page receipt → (i : ℕ) → HasCells receipt i
finished_has_cells page receipt f i = has_cells receipt f.fit f.cells i

-- what making the rest alone leaves of the run
abbrev pub was_left : (before after : Receipt) (v : View) → Ends before.table_key before.words v → before.left ≡ before.words → v.stored ≡ None → ((i : ℕ) → i < (shape_of before.table_key).pieces → piece_word before.words i ≢ 1)
    → after.table_key ≡ before.table_key → after.left ≡ before.left → after.published ≡ v.published → after.seen ≡ v.seen → after.looked ≡ v.looked → after.reported ≡ v.reported
    → ((i : ℕ) → times i after.alone ≡ one_if (nat_lt i (pieces_of before.table_key.layout.bands) && not (piece_word before.words i == 2))) → WasLeft after
was_left before after v e closed idle settled same left published seen looked reported alone = let words : after.left ≡ before.words = left ∙ closed in record {
  kinds = e.kinds;
  left = e.last;
  steps = subst (λ (z : TableKey). Steps z e.kinds e.last) (sym same) e.steps;
  words = e.same_words ∙ sym words;
  seat = e.seat;
  view = v;
  sees = e.sees;
  published = sym published;
  seen = sym seen;
  looked = sym looked;
  reported = sym reported;
  idle = idle;
  settled = λ i l one. settled i (subst (λ (z : TableKey). i < (shape_of z).pieces) same l) (ap (λ (ws : List ℕ). piece_word ws i) (sym words) ∙ one);
  alone = λ i. alone i ∙ (ap (λ (z : TableKey). one_if (nat_lt i (shape_of z).pieces && not (piece_word before.words i == 2))) (sym same) ∙ ap (λ (ws : List ℕ). one_if (nat_lt i (shape_of after.table_key).pieces && not (piece_word ws i == 2))) (sym words));
}
