-- No proof can be found of a step that tells of a look that was not.
use Rattle.std.proofs.Common.{Bool, true, false, nat_lt, subst, Some, ◌≡◌, ℕ, zero, suc, ◌+◌, ◌<◌, ◌≤◌, List, [], ◌∷◌, ◌++◌, set, get_or, refl, ap, ◌∙◌, arith, replicate, length}
use mathlib.Core.Option.{some}
use lib.ListN.{get_elem?}
use Rattle.atomic_table.specs.Table.{State, Me}
use Rattle.atomic_table.proofs.Lists.{set_else}
use Rattle.band_core.specs.TableShapes.{Shape}
use Rattle.band_core.proofs.TableWords.{zero_at}
use Rattle.band_core.proofs.NeedLemmas.{need_less}
use Rattle.band_claims.specs.declared.table_key.TableKey.{TableKey}
use Rattle.band_claims.specs.declared.view.View.{View}
use Rattle.band_claims.specs.Kinds.{Kind, looks, wins, puts, finishes, splits, Happens, MayClaim, MayPut, MayFinish, moved, first_state}
use Rattle.band_claims.specs.Remembered.{Remembered}
use Rattle.band_claims.specs.Rule.{piece_word}
use Rattle.band_claims.specs.TableKeys.{shape_of, cell, IsFit}
use Rattle.band_claims.specs.Views.{look, newcomer, looked_at, claimed, put, finished, parted, branched}
use Rattle.band_claims.specs.Refuted.{LooksAreHonest, MayForge, MayTell}
use Rattle.band_claims.proofs.Boards.{piece_here, piece_stays}
use Rattle.band_claims.proofs.Kept.{Kept}
use Rattle.band_claims.proofs.Readable.{kept}
use Rattle.band_claims.proofs.Steps.{each_keeps, fit_shape, one_more, opens}
use Rattle.band_claims.proofs.Past.{looks_are_past, looks_rise}
use Rattle.band_claims.proofs.Totals.{set_there}

module _ (key : TableKey) (fit : IsFit key) (works : Bool) where
  abbrev St : Type 0
  St = State (Unit {0}) View

  abbrev k : Shape
  k = shape_of key

  abbrev w : ℕ
  w = k.pieces + k.cells

  next : (s t : St) (kind : Kind) → Remembered key s → Happens k (cell key) s kind t → Remembered key t
  next s t kind r h = record { rule = each_keeps key fit s t kind r.rule h; kinds = r.kinds ++ kind ∷ []; steps = one_more k (cell key) (first_state k key) s t r.kinds kind r.steps h }

  there : (s : St) → Remembered key s → Kept k (cell key) key s
  there s r = kept k (fit_shape key fit) (cell key) key s r.rule

  some_pieces : 0 < k.pieces
  some_pieces = let few = fit.made.bands.some_bands in omega (arith, few)

  -- the first seat, which works, and the second one, which is to tell
  abbrev first : View
  first = parted works (newcomer key)

  abbrev teller : View
  teller = branched works (newcomer key)

  first_share : (b : Bool) → 1 ≤ length (parted b (newcomer key)).share
  first_share true = omega arith
  first_share false = omega arith

  share_of : (b : Bool) → nat_lt 0 (length (branched b (newcomer key)).share) ≡ b
  share_of true = refl
  share_of false = refl

  -- the table with the view of the first seat, and the word of the first piece
  record Stands (v : View) (n : ℕ) : Type 0 where
    pub state : St
    pub rule : Remembered key state
    pub first_at : get_elem? state.views 0 ≡ some v
    pub teller_at : get_elem? state.views 1 ≡ some teller
    pub word : piece_word state.words 0 ≡ n
    pub no_slots : length state.homes ≡ 0

  moved_on : (v u : View) (n m : ℕ) (s : Stands v n) (kind : Kind) (words : List ℕ) → Happens k (cell key) s.state kind (moved s.state 0 words u) → piece_word words 0 ≡ m → Stands u m
  moved_on v u n m s kind words h word = record {
    state = moved s.state 0 words u;
    rule = next s.state (moved s.state 0 words u) kind s.rule h;
    first_at = set_there s.state.views 0 v u s.first_at;
    teller_at = set_else s.state.views 0 1 u (λ e. omega (arith, e)) ∙ s.teller_at;
    word = word;
    no_slots = s.no_slots;
  }

  free : Stands first 0
  free =
      let nc : View = newcomer key in let s0 : St = first_state k key in
      let r0 : Remembered key s0 = opens key fit (replicate w 0) refl in
      let s1 : St = record { words = s0.words; homes = s0.homes; views = set s0.views 0 first ++ teller ∷ [] } in record {
        state = s1;
        rule = next s0 s1 (splits 0 works) r0 (nc, refl, refl, refl);
        first_at = refl;
        teller_at = refl;
        word = zero_at w 0;
        no_slots = refl;
      }

  taken : Stands (claimed 0 0 first) 1
  taken =
      let s = free in
      let may : MayClaim k s.state 0 0 first = record { sees = s.first_at; piece = some_pieces; idle = refl; shares = first_share works; known = λ n need. absurd (let l = need_less key.layout.bands 0 n fit.made.bands need in omega (arith, l)) } in
      moved_on first (claimed 0 0 first) 0 1 s (wins 0 0) (set s.state.words 0 1) (first, may, s.word, refl) (piece_here k (fit_shape key fit) s.state.words (there s.state s.rule).wide 0 1 some_pieces)

  -- the first seat holds the first piece, and has filled so many of its cells
  record Fills (n : ℕ) : Type 0 where
    pub view : View
    pub stands : Stands view 1
    pub stored : view.stored ≡ Some 0
    pub filled : view.filled ≡ n

  fill : (n : ℕ) → n ≤ k.size 0 → Fills n
  fill zero l = record { view = claimed 0 0 first; stands = taken; stored = refl; filled = refl }
  fill (suc n) l =
      let f = fill n (omega (arith, l)) in let v : View = f.view in let s = f.stands in let so_far = f.filled in
      let j : ℕ = k.start 0 + v.filled in let value : ℕ = cell key j in
      let may : MayPut k (cell key) s.state 0 j value v = record { sees = s.first_at; piece = 0; holding = f.stored; workspace = omega (arith, l, so_far); next = refl; right = refl } in record {
        view = put v;
        stands = moved_on v (put v) 1 1 s (puts 0 j value) (set s.state.words (k.pieces + j) value) (v, may, refl) (piece_stays k (fit_shape key fit) s.state.words (there s.state s.rule).wide 0 j value some_pieces ∙ s.word);
        stored = f.stored;
        filled = omega (arith, so_far);
      }

  done : (v : View) × Stands v 2
  done =
      let f = fill (k.size 0) (omega arith) in let v : View = f.view in let s = f.stands in
      let may : MayFinish k s.state 0 0 v = record { sees = s.first_at; holding = f.stored; full = f.filled } in
      (finished 0 v, moved_on v (finished 0 v) 1 2 s (finishes 0 0) (set s.state.words 0 2) (v, may, refl) (piece_here k (fit_shape key fit) s.state.words (there s.state s.rule).wide 0 2 some_pieces))

  -- the second seat finds the word, and then may tell of it
  tells_truly : (v : View) (n : ℕ) → Stands v n → n ≤ 2 → (tells : ℕ → ℕ) → MayTell key works tells → tells n ≡ n
  tells_truly v n s few tells may =
      let words : List ℕ = s.state.words in let found : ℕ = piece_word words 0 in
      let seen : View = looked_at 0 found teller in
      let looking : St = moved s.state 1 words seen in
      let r = next s.state looking (looks 1 0) s.rule (teller, s.teller_at, some_pieces, refl) in
      let at : get_elem? looking.views 1 ≡ some seen = set_there s.state.views 1 teller seen s.teller_at in
      let t = may 1 (seen, []) 0 some_pieces refl (share_of works) refl looking r s.no_slots at (let is = s.word in omega (arith, is, few)) in
      let next_at : get_elem? (set looking.views 1 t.0) 1 ≡ some t.0 = set_there looking.views 1 seen t.0 at in
      let still : get_or (set words 0 found) 0 0 ≡ found = piece_here k (fit_shape key fit) words (there s.state s.rule).wide 0 found some_pieces in
      let looked = ap (λ (m : Me (Unit {0}) View). m.0.looked) t.4 in
      let reported = ap (λ (m : Me (Unit {0}) View). m.0.reported) t.4 in
      let past = looks_are_past key fit t.3.kinds _ t.3.steps 1 t.0 next_at (look 0 found ∷ []) [] (look 0 (tells found)) looked in
      let rise = looks_rise key fit t.3.kinds _ t.3.steps 1 t.0 next_at [] [] [] (look 0 found) (look 0 (tells found)) reported refl in
      subst (λ (z : ℕ). tells z ≡ z) s.word (omega (arith, past, still, rise))

pub looks_are_honest : (key : TableKey) → IsFit key → LooksAreHonest key
looks_are_honest key fit works tells may zero few = tells_truly key fit works _ 0 (free key fit works) few tells may
looks_are_honest key fit works tells may (suc zero) few = tells_truly key fit works _ 1 (taken key fit works) few tells may
looks_are_honest key fit works tells may (suc (suc zero)) few = let t = done key fit works in tells_truly key fit works t.0 2 t.1 few tells may
looks_are_honest key fit works tells may (suc (suc (suc n))) few = absurd (omega (arith, few))

-- a free piece, told of as claimed
pub no_false_claims : (key : TableKey) → IsFit key → (works : Bool) → MayForge key works 1 → ⊥
no_false_claims key fit works forge = let e = looks_are_honest key fit works (λ n. 1) forge 0 (omega arith) in omega (arith, e)

-- a claimed piece, told of as free
pub no_false_looks : (key : TableKey) → IsFit key → (works : Bool) → MayForge key works 0 → ⊥
no_false_looks key fit works forge = let e = looks_are_honest key fit works (λ n. 0) forge 1 (omega arith) in omega (arith, e)
