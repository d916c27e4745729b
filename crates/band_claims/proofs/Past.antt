-- What looks found is not more than the words are later.
use Rattle.std.proofs.Common.{ap, refl, ◌≡◌, ◌≢◌, ℕ, zero, suc, ◌+◌, ◌<◌, ◌≤◌, List, [], ◌∷◌, ◌++◌, set, sym, subst, ⊎_elim, inl, inr, arith, ne_eqb, replicate, ◌∙◌, append_assoc, append-nil}
use Rattle.std.proofs.lemmas.Bool.{cases_eq}
use Rattle.std.proofs.lemmas.List.{length-replicate}
use mathlib.Core.Option.{some, some-injective, some-ne-none}
use lib.ListN.{get_elem?}
use Rattle.atomic_table.specs.Table.{State}
use Rattle.atomic_table.proofs.Lists.{at_set, at_snoc}
use Rattle.band_core.specs.TableShapes.{Shape, IsShape}
use Rattle.band_core.proofs.TableWords.{zero_at}
use Rattle.band_claims.specs.declared.table_key.TableKey.{TableKey}
use Rattle.band_claims.specs.declared.view.View.{View}
use Rattle.band_claims.specs.declared.view.Look.{Look}
use Rattle.band_claims.specs.Kinds.{Kind, looks, wins, loses, reads, puts, finishes, splits, joins, Happens, Leads, first_state}
use Rattle.band_claims.specs.Laws.{DoneStaysDone, LooksArePast, LooksAreReported, LooksRise}
use Rattle.band_claims.specs.Rule.{piece_word}
use Rattle.band_claims.specs.TableKeys.{shape_of, cell, IsFit}
use Rattle.band_claims.specs.Views.{look, newcomer, spent, looked_at, claimed, put, finished, parted, branched, joined}
use Rattle.band_claims.proofs.Boards.{piece_here, piece_else, piece_stays}
use Rattle.band_claims.proofs.Events.{keeps_rule}
use Rattle.band_claims.proofs.Keeps.{stored_by, opens}
use Rattle.band_claims.proofs.Kept.{Kept}
use Rattle.band_claims.proofs.Steps.{cell_some, fit_shape, steps_are_run}

abbrev NotLess : Look → List Look → Type 0
NotLess l [] = Unit {0}
NotLess l (x ∷ xs) = (x.piece ≡ l.piece → l.word ≤ x.word) × NotLess l xs

abbrev Past : Shape → List ℕ → List Look → Type 0
Past k words [] = Unit {0}
Past k words (l ∷ ls) = (l.piece < k.pieces) × (l.word ≤ piece_word words l.piece) × Past k words ls × NotLess l ls

-- no piece's word is less than it was
abbrev Grow : Shape → List ℕ → List ℕ → Type 0
Grow k words next = (i : ℕ) → i < k.pieces → piece_word words i ≤ piece_word next i

past_later : (k : Shape) (words next : List ℕ) (ls : List Look) → Grow k words next → Past k words ls → Past k next ls
past_later k words next [] grow h = tt
past_later k words next (l ∷ ls) grow h = (h.0, (let b = h.1 in let g = grow l.piece h.0 in omega (arith, b, g)), past_later k words next ls grow h.2, h.3)

not_less : (l x : Look) (ls : List Look) → (x.piece ≡ l.piece → l.word ≤ x.word) → NotLess l ls → NotLess l (ls ++ x ∷ [])
not_less l x [] less h = (less, tt)
not_less l x (y ∷ ys) less h = (h.0, not_less l x ys less h.1)

past_more : (k : Shape) (words : List ℕ) (ls : List Look) (l : Look) → Past k words ls → l.piece < k.pieces → l.word ≡ piece_word words l.piece → Past k words (ls ++ l ∷ [])
past_more k words [] l h piece now = (piece, omega (arith, now), tt, tt)
past_more k words (x ∷ xs) l h piece now = (
  h.0,
  h.1,
  past_more k words xs l h.2 piece now,
  not_less x l xs (λ e. let b = h.1 in let q = ap (piece_word words) e in omega (arith, b, now, q)) h.3,
)

no_less_at : (l x : Look) (mid after : List Look) → NotLess l (mid ++ x ∷ after) → x.piece ≡ l.piece → l.word ≤ x.word
no_less_at l x [] after h = h.0
no_less_at l x (y ∷ ys) after h = no_less_at l x ys after h.1

past_rise : (k : Shape) (words : List ℕ) (before mid after : List Look) (l x : Look) → Past k words (before ++ l ∷ (mid ++ x ∷ after)) → x.piece ≡ l.piece → l.word ≤ x.word
past_rise k words [] mid after l x h = no_less_at l x mid after h.3
past_rise k words (y ∷ ys) mid after l x h = past_rise k words ys mid after l x h.2

past_at : (k : Shape) (words : List ℕ) (before after : List Look) (l : Look) → Past k words (before ++ l ∷ after) → l.word ≤ piece_word words l.piece
past_at k words [] after l h = h.1
past_at k words (x ∷ xs) after l h = past_at k words xs after l h.2

-- what a view looked at lately ends what it was told
abbrev EndsReported : View → Type 0
EndsReported v = (earlier : List Look) × (v.reported ≡ earlier ++ v.looked)

reported_one : (v : View) (l : Look) → EndsReported v → (earlier : List Look) × ((v.reported ++ l ∷ []) ≡ earlier ++ (v.looked ++ l ∷ []))
reported_one v l t = (t.0, ap (λ (z : List Look). z ++ l ∷ []) t.1 ∙ append_assoc t.0 v.looked (l ∷ []))

reported_none : (reported : List Look) → (earlier : List Look) × (reported ≡ earlier ++ [])
reported_none reported = (reported, sym (append-nil reported))

module _ (k : Shape) (ok : IsShape k) (defined : ℕ → ℕ) (some_value : (j : ℕ) → j < k.cells → 1 ≤ defined j) (key : TableKey) where
  abbrev St : Type 0
  St = State (Unit {0}) View

  abbrev Of : List ℕ → View → Type 0
  Of words v = Past k words v.looked × Past k words v.reported × EndsReported v

  abbrev AllPast : List ℕ → List View → Type 0
  AllPast words views = (id : ℕ) (v : View) → get_elem? views id ≡ some v → Of words v

  abbrev P : St → Type 0
  P s = AllPast s.words s.views

  same : (words : List ℕ) → Grow k words words
  same words i l = omega arith

  later : (words next : List ℕ) (v : View) → Grow k words next → Of words v → Of next v
  later words next v grow h = (past_later k words next v.looked grow h.0, past_later k words next v.reported grow h.1, h.2)

  set_past : (words next : List ℕ) (views : List View) (id : ℕ) (w : View) → Grow k words next → Of next w → AllPast words views → AllPast next (set views id w)
  set_past words next views id w grow mine all j d e = ⊎_elim (λ (t : (j ≡ id) × (w ≡ d)). subst (Of next) t.1 mine)
      (λ (t : (j ≢ id) × (get_elem? views j ≡ some d)). later words next d grow (all j d t.1)) (at_set views id j w d e)

  grow_piece : (s : St) (r : Kept k defined key s) (i n : ℕ) → i < k.pieces → piece_word s.words i ≤ n → Grow k s.words (set s.words i n)
  grow_piece s r i n l less j m = elim (cases_eq j i) [
    | inl e ↦ rw e (let h = piece_here k ok s.words r.wide i n l in omega (arith, h, less))
    | inr ne ↦ (let h = piece_else k ok s.words r.wide i j n ne in omega (arith, h))
  ]

  step : (s t : St) (kind : Kind) → Kept k defined key s → P s → Happens k defined s kind t → P t
  step s t (looks id i) r all h = let v = h.0 in let n : ℕ = piece_word s.words i in let had = all id v h.1 in
      let mine : Of s.words (looked_at i n v) = (past_more k s.words v.looked (look i n) had.0 h.2 refl, past_more k s.words v.reported (look i n) had.1 h.2 refl, reported_one v (look i n) had.2) in
      subst P (sym h.3) (set_past s.words s.words s.views id (looked_at i n v) (same s.words) mine all)
  step s t (wins id i) r all h = let v = h.0 in let less = h.2 in let next : List ℕ = set s.words i 1 in
      let grow = grow_piece s r i 1 h.1.piece (omega (arith, less)) in
      let had = later s.words next v grow (all id v h.1.sees) in
      let mine : Of next (claimed i 0 v) = (tt, past_more k next v.reported (look i 1) had.1 h.1.piece (sym (piece_here k ok s.words r.wide i 1 h.1.piece)), reported_none (v.reported ++ look i 1 ∷ [])) in
      subst P (sym h.3) (set_past s.words next s.views id (claimed i 0 v) grow mine all)
  step s t (loses id i) r all h = let v = h.0 in let n : ℕ = piece_word s.words i in let had = all id v h.1.sees in
      let mine : Of s.words (claimed i n v) = rw (ne_eqb n 0 h.2) (past_more k s.words v.looked (look i n) had.0 h.1.piece refl, past_more k s.words v.reported (look i n) had.1 h.1.piece refl, reported_one v (look i n) had.2) in
      subst P (sym h.3) (set_past s.words s.words s.views id (claimed i n v) (same s.words) mine all)
  step s t (reads id j) r all h = subst P (sym h.2) (set_past s.words s.words s.views id h.0 (same s.words) (all id h.0 h.1.sees) all)
  step s t (puts id j value) r all h = let v = h.0 in let next : List ℕ = set s.words (k.pieces + j) value in
      let grow : Grow k s.words next = (λ i l. let e = piece_stays k ok s.words r.wide i j value l in omega (arith, e)) in
      subst P (sym h.2) (set_past s.words next s.views id (put v) grow (later s.words next v grow (all id v h.1.sees)) all)
  step s t (finishes id i) r all h = let v = h.0 in let stored = stored_by k ok defined some_value key s r id i v h.1.sees h.1.holding in let one = stored.is_claimed in
      let next : List ℕ = set s.words i 2 in let grow = grow_piece s r i 2 stored.piece (omega (arith, one)) in
      let had = later s.words next v grow (all id v h.1.sees) in
      let mine : Of next (finished i v) = (tt, past_more k next v.reported (look i 2) had.1 stored.piece (sym (piece_here k ok s.words r.wide i 2 stored.piece)), reported_none (v.reported ++ look i 2 ∷ [])) in
      subst P (sym h.2) (set_past s.words next s.views id (finished i v) grow mine all)
  step s t (splits id works) r all h = let v = h.0 in let u : View = parted works v in let w : View = branched works v in let had = all id v h.1 in
      let mine : Of s.words w = (tt, had.1, reported_none v.reported) in
      subst P (sym h.3) (λ j d e. ⊎_elim (set_past s.words s.words s.views id u (same s.words) had all j d) (λ (q : w ≡ d). subst (Of s.words) q mine) (at_snoc (set s.views id u) w d j e))
  step s t (joins id other) r all h = let v = h.0 in let w = h.1 in let both : View = joined v w in
      subst P (sym h.3) (set_past s.words s.words (set s.views id both) other spent (same s.words) (tt, tt, reported_none []) (set_past s.words s.words s.views id both (same s.words) (all id v h.2.sees) all))

  all_steps : (s t : St) (kinds : List Kind) → Kept k defined key s → P s → Leads k defined s kinds t → P t
  all_steps s t [] r all leads = subst P (sym leads) all
  all_steps s t (kind ∷ kinds) r all leads = all_steps leads.0 t kinds (keeps_rule k ok defined some_value key s leads.0 kind r leads.1) (step s leads.0 kind r all leads.1) leads.2

  first_past : (words : List ℕ) → AllPast words (newcomer key ∷ [])
  first_past words zero d e = subst (Of words) (some-injective (newcomer key) d e) (tt, tt, reported_none [])
  first_past words (suc j) d e = absurd (some-ne-none d (sym e))

pub looks_are_past : (key : TableKey) → IsFit key → LooksArePast key
looks_are_past key fit kinds t steps id v at before after shown stands =
    let k = shape_of key in let ok = fit_shape key fit in let words : List ℕ = replicate (k.pieces + k.cells) 0 in
    let first = opens k ok (cell key) (cell_some key fit) key words (length-replicate (k.pieces + k.cells) 0) (zero_at (k.pieces + k.cells)) in
    let all = all_steps k ok (cell key) (cell_some key fit) key (first_state k key) t kinds first (first_past k ok (cell key) (cell_some key fit) key words) steps in
    past_at k t.words before after shown (subst (Past k t.words) stands (all id v at).0)

pub looks_are_reported : (key : TableKey) → IsFit key → LooksAreReported key
looks_are_reported key fit kinds t steps id v at =
    let k = shape_of key in let ok = fit_shape key fit in let words : List ℕ = replicate (k.pieces + k.cells) 0 in
    let first = opens k ok (cell key) (cell_some key fit) key words (length-replicate (k.pieces + k.cells) 0) (zero_at (k.pieces + k.cells)) in
    (all_steps k ok (cell key) (cell_some key fit) key (first_state k key) t kinds first (first_past k ok (cell key) (cell_some key fit) key words) steps id v at).2

pub looks_rise : (key : TableKey) → IsFit key → LooksRise key
looks_rise key fit kinds t steps id v at before mid after shown later stands =
    let k = shape_of key in let ok = fit_shape key fit in let words : List ℕ = replicate (k.pieces + k.cells) 0 in
    let first = opens k ok (cell key) (cell_some key fit) key words (length-replicate (k.pieces + k.cells) 0) (zero_at (k.pieces + k.cells)) in
    let all = all_steps k ok (cell key) (cell_some key fit) key (first_state k key) t kinds first (first_past k ok (cell key) (cell_some key fit) key words) steps in
    past_rise k t.words before mid after shown later (subst (Past k t.words) stands (all id v at).1)

past_all : (key : TableKey) → IsFit key → (kinds : List Kind) (t : State (Unit {0}) View) → Leads (shape_of key) (cell key) (first_state (shape_of key) key) kinds t → (id : ℕ) (v : View) → get_elem? t.views id ≡ some v
    → Past (shape_of key) t.words v.reported × ((i : ℕ) → i < (shape_of key).pieces → piece_word t.words i ≤ 2)
past_all key fit kinds t steps id v at =
    let k = shape_of key in let ok = fit_shape key fit in let words : List ℕ = replicate (k.pieces + k.cells) 0 in
    let first = opens k ok (cell key) (cell_some key fit) key words (length-replicate (k.pieces + k.cells) 0) (zero_at (k.pieces + k.cells)) in
    let all = all_steps k ok (cell key) (cell_some key fit) key (first_state k key) t kinds first (first_past k ok (cell key) (cell_some key fit) key words) steps in
    ((all id v at).1, (steps_are_run key fit kinds t steps).0.words.states)

past_piece : (k : Shape) (words : List ℕ) (before after : List Look) (l : Look) → Past k words (before ++ l ∷ after) → (l.piece < k.pieces) × (l.word ≤ piece_word words l.piece)
past_piece k words [] after l h = (h.0, h.1)
past_piece k words (x ∷ xs) after l h = past_piece k words xs after l h.2

past_tail : (k : Shape) (words : List ℕ) (before after : List Look) → Past k words (before ++ after) → Past k words after
past_tail k words [] after h = h
past_tail k words (x ∷ xs) after h = past_tail k words xs after h.2

pub done_stays_done : (key : TableKey) → IsFit key → DoneStaysDone key
done_stays_done key fit words v e before mid after i n stands =
    let k = shape_of key in
    let p = past_all key fit e.kinds e.last e.steps e.seat v e.sees in
    let here : Past k e.last.words (before ++ look i 2 ∷ (mid ++ look i n ∷ after)) = subst (Past k e.last.words) stands p.0 in
    let rise = past_rise k e.last.words before mid after (look i 2) (look i n) here refl in
    let rest = past_tail k e.last.words before (look i 2 ∷ (mid ++ look i n ∷ after)) here in
    let last = past_piece k e.last.words mid after (look i n) rest.2 in
    let two = p.1 i last.0 in let most = last.1 in
    omega (arith, rise, two, most)
