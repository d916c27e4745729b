-- The eight kinds of step keep the rule of the table of a page.
use Rattle.std.proofs.Common.{◌&&◌, nat_lt, replicate, [], ◌∷◌, ◌++◌, set, Bool, inl, inr, ne_eqb, ◌≡◌, ◌≢◌, ℕ, ◌+◌, ◌-◌, ◌^◌, ◌<◌, ◌≤◌, ◌==◌, true, List, length, refl, sym, ap, ◌∙◌, subst, arith, Option, Some, None, get_or}
use Rattle.std.specs.Prelude.{MatchOption}
use prog.Atomic.{either}
use Rattle.std.proofs.lemmas.List.{set-get_or}
use Rattle.std.proofs.lemmas.Bool.{cases_eq, cases_Bool, lt-ltb, ltb-true, true≢false}
use mathlib.Core.Option.{some}
use lib.ListN.{get_elem?}
use Rattle.atomic_table.proofs.Lists.{set_else}
use Rattle.atomic_table.specs.Table.{State, Me, keeps, Allows, Splits, Joins, opening, Final, Seen}
use Rattle.page_model.specs.Bands.{pieces_of}
use Rattle.band_core.proofs.Places.{cells_fit}
use Rattle.band_core.specs.TableShapes.{Shape, IsShape, Has}
use Rattle.band_core.specs.TableWords.{board_of}
use Rattle.band_core.specs.Runs.{Sound, Halo, IsRun, played}
use Rattle.band_core.specs.Recipe.{recipe}
use Rattle.band_core.proofs.Halo.{halo}
use Rattle.band_core.proofs.Shapes.{is_shape}
use Rattle.band_core.specs.Boards.{Board}
use Rattle.band_core.proofs.TableWords.{opening_words}
use Rattle.band_claims.specs.Kinds.{Kind, looks as kind_looks, wins as kind_wins, loses as kind_loses, reads as kind_reads, puts as kind_puts, finishes as kind_finishes, splits as kind_splits, joins as kind_joins, Happens, Leads, MayClaim, MayRead, MayPut, MayFinish, moved, events_of, first_state}
use Rattle.band_claims.specs.Remembered.{Remembered, Ends}
use Rattle.band_claims.proofs.Totals.{set_there}
use Rattle.band_claims.specs.Laws.{EndsAreRuns, KeepsRule, StepsAreRun}
use Rattle.band_claims.proofs.Events.{keeps_rule, steps_run}
use Rattle.band_core.proofs.TableWords.{zero_at}
use Rattle.std.proofs.lemmas.List.{length-replicate}
use Rattle.band_core.proofs.Bridges.{cell_word}
use Rattle.band_claims.specs.declared.table_key.TableKey.{TableKey}
use Rattle.band_claims.specs.declared.view.View.{View}
use Rattle.band_claims.specs.TableKeys.{shape_of, cell, IsFit}
use Rattle.band_claims.specs.Rule.{RuleOf, piece_word}
use Rattle.band_claims.specs.Shares.{IsWhole}
use Rattle.band_claims.proofs.ShareLemmas.{one_alone, others_none}
use Rattle.band_claims.proofs.Boards.{same_one}
use Rattle.band_claims.specs.Views.{IsFair, Knows, holds, is_hand, one_if, publishes, times, newcomer, spent, looked_at, claimed, put, finished, parted, branched, joined}
use Rattle.band_claims.specs.Tells.{Cell, Fair}
use Rattle.band_claims.proofs.Kept.{Kept, Sits}
use Rattle.band_claims.proofs.Readable.{ruled, kept}
use Rattle.band_claims.proofs.Keeps.{fair, value_read, opens as keeps_opens}

pub cell_some : (key : TableKey) → IsFit key → (j : ℕ) → j < (shape_of key).cells → 1 ≤ cell key j
unfolding cell
cell_some key fit j l = (cell_word key.page.value key.layout j fit l).0

pub fit_shape : (key : TableKey) → IsFit key → IsShape (shape_of key)
fit_shape key fit = is_shape key.layout fit.made

-- the recipe gives the values that the key asks for
halo_of : (key : TableKey) (fit : IsFit key) → Halo (shape_of key) (cell key) (recipe key.page.value key.layout)
unfolding cell
halo_of key fit = halo key.page.value key.layout fit

-- the number of a cell's word is small
pub small_word : (key : TableKey) → IsFit key → (p j : ℕ) → Has (shape_of key) p j → (j < (shape_of key).cells) × (pieces_of key.layout.bands + j + 1 < 2 ^ 32)
small_word key fit p j here =
    let inside = (fit_shape key fit).inside p here.piece in
    let below : j < (shape_of key).cells = omega (arith, inside, here.below) in
    (below, omega (arith, below, cells_fit key.layout fit.made, fit.made.bands.few_bands))

reported : (key : TableKey) (table_key : Option TableKey) (word j n : ℕ) → table_key ≡ Some key → word ≡ pieces_of key.layout.bands + j → n ≡ cell key j → Cell table_key word n
reported key table_key word j n page is e = rw page (e ∙ ap (cell key) (omega (arith, is)))

as_fair : (key : TableKey) (w : View) → w.table_key ≡ Some key → IsFair (pieces_of key.layout.bands) w → Fair w
as_fair key w e h = subst (λ (o : Option TableKey). MatchOption o (Unit {0}) (λ k. IsFair (pieces_of k.layout.bands) w)) (sym e) h

-- one step of any kind
pub each_keeps : (key : TableKey) → IsFit key → KeepsRule key
each_keeps key fit s t kind rule happens =
    let k = shape_of key in let ok = fit_shape key fit in
    ruled k ok (cell key) key t (keeps_rule k ok (cell key) (cell_some key fit) key s t kind (kept k ok (cell key) key s rule) happens)

-- a step more at the end
pub one_more : (k : Shape) (defined : ℕ → ℕ) (s m t : State (Unit {0}) View) (kinds : List Kind) (kind : Kind) → Leads k defined s kinds m → Happens k defined m kind t → Leads k defined s (kinds ++ kind ∷ []) t
one_more k defined s m t [] kind same h = (t, subst (λ (z : State (Unit {0}) View). Happens k defined z kind t) same h, refl)
one_more k defined s m t (x ∷ xs) kind leads h = (leads.0, leads.1, one_more k defined leads.0 m t xs kind leads.2 h)

module _ (key : TableKey) (fit : IsFit key) where
  abbrev St : Type 0
  St = State (Unit {0}) View

  abbrev M : Type 0
  M = Me (Unit {0}) View

  abbrev k : Shape
  k = shape_of key

  ok : IsShape k
  ok = fit_shape key fit

  values : (j : ℕ) → j < k.cells → 1 ≤ cell key j
  values = cell_some key fit

  there : (s : St) → RuleOf key s → Kept k (cell key) key s
  there s r = kept k ok (cell key) key s r

  back : (s : St) → Kept k (cell key) key s → RuleOf key s
  back s r = ruled k ok (cell key) key s r

  -- a step more
  on : (s t : St) (kind : Kind) → Remembered key s → Happens k (cell key) s kind t → Remembered key t
  on s t kind r h = record { rule = each_keeps key fit s t kind r.rule h; kinds = r.kinds ++ kind ∷ []; steps = one_more k (cell key) (first_state k key) s t r.kinds kind r.steps h }

  -- a load leaves the words
  left : (s : St) (id i : ℕ) (w : View) → record { words = set s.words i (get_or s.words i 0); homes = s.homes; views = set s.views id w } ≡ moved s id s.words w
  left s id i w = ap (λ (ws : List ℕ). moved s id ws w) (set-get_or s.words i 0)

  pub looks : (slots id : ℕ) (me : M) (i : ℕ) → i < k.pieces → Allows (Remembered key) slots id me i (λ n. n) (λ n m. m ≡ (looked_at i n me.0, me.1))
  looks slots id me i l s r _ at _ =
      let n : ℕ = get_or s.words i 0 in let w : View = looked_at i n me.0 in
      (w, keeps, tt, on s (moved s id (set s.words i n) w) (kind_looks id i) r (me.0, at, l, left s id i w), refl)

  pub claims : (slots id : ℕ) (me : M) (i : ℕ) → i < k.pieces → me.0.stored ≡ None → 1 ≤ length me.0.share → ((n : ℕ) → k.needs i n ≡ true → Knows me.0 n)
      → Allows (Remembered key) slots id me i (λ n. either (n == 0) 1 n) (λ n m. m ≡ (claimed i n me.0, me.1))
  claims slots id me i l idle some_share needs s r _ at _ =
      let n : ℕ = get_or s.words i 0 in let v = me.0 in
      let may : MayClaim k s id i v = record { sees = at; piece = l; idle = idle; shares = some_share; known = needs } in
      let after : ℕ → St = λ x. moved s id (set s.words i (either (x == 0) 1 x)) (claimed i x v) in (
        claimed i n v,
        keeps,
        tt,
        elim (cases_eq n 0) [
          | inl free ↦ on s (after n) (kind_wins id i) r (v, may, free, ap after free)
          | inr ne ↦ on s (after n) (kind_loses id i) r (v, may, ne, ap (λ (b : Bool). moved s id (set s.words i (either b 1 n)) (claimed i n v)) (ne_eqb n 0 ne) ∙ left s id i (claimed i n v))
        ],
        refl,
      )

  pub puts : (slots id : ℕ) (me : M) (p x : ℕ) → me.0.stored ≡ Some p → me.0.filled < k.size p → x ≡ cell key (k.start p + me.0.filled)
      → Allows (Remembered key) slots id me (k.pieces + (k.start p + me.0.filled)) (λ _. x) (λ _ m. m ≡ (put me.0, me.1))
  puts slots id me p x is workspace value s r _ at _ =
      let v = me.0 in let j : ℕ = k.start p + v.filled in
      let may : MayPut k (cell key) s id j x v = record { sees = at; piece = p; holding = is; workspace = workspace; next = refl; right = value } in
      (put v, keeps, tt, on s (moved s id (set s.words (k.pieces + j) x) (put v)) (kind_puts id j x) r (v, may, refl), refl)

  pub reads_word : (slots id : ℕ) (me : M) (word j p : ℕ) → me.0.table_key ≡ Some key → word ≡ pieces_of key.layout.bands + j → Has k p j → Knows me.0 p
      → Allows (Remembered key) slots id me word (λ n. n) (λ n m. (m ≡ me) × Cell me.0.table_key word n)
  reads_word slots id me word j p page is here knows s r same_slots at small =
      let v = me.0 in
      let o : ℕ = j - k.start p in
      let spot : k.start p + o ≡ j = omega (arith, here.from) in
      let word_at : k.pieces + (k.start p + o) ≡ word = omega (arith, spot, is) in
      let workspace : o < k.size p = omega (arith, here.from, here.below) in
      let may : MayRead k s id j v = record { sees = at; piece = p; has = here; known = knows } in
      let found : Cell v.table_key word (get_or s.words word 0) =
      subst (λ (w : ℕ). Cell v.table_key w (get_or s.words w 0)) word_at (reported key v.table_key (k.pieces + (k.start p + o)) (k.start p + o) (get_or s.words (k.pieces + (k.start p + o)) 0) page refl
      (value_read k ok (cell key) values key p o here.piece workspace v s (there s r.rule) id at knows)) in
      (v, keeps, tt, on s (moved s id (set s.words word (get_or s.words word 0)) v) (kind_reads id j) r (v, may, left s id word v), (refl, found))

  pub finishes_word : (slots id : ℕ) (me : M) (p : ℕ) → me.0.table_key ≡ Some key → me.0.stored ≡ Some p → me.0.filled ≡ k.size p
      → Allows (Remembered key) slots id me p (λ _. 2) (λ _ m. (m ≡ (finished p me.0, me.1)) × Fair m.0)
  finishes_word slots id me p page is full s r _ at _ =
      let v = me.0 in let w : View = finished p v in let t : St = moved s id (set s.words p 2) w in
      let may : MayFinish k s id p v = record { sees = at; holding = is; full = full } in
      let next = on s t (kind_finishes id p) r (v, may, refl) in
      (w, keeps, tt, next, (refl, as_fair key w page (fair k ok (cell key) values key t (there t next.rule) id w (set_there s.views id v w at))))

  pub splits : (id : ℕ) (works : Bool) (v : View) → v.stored ≡ None → Splits (Remembered key) id v (parted works v) (branched works v)
  splits id works v idle s r at = on s _ (kind_splits id works) r (v, at, idle, refl)

  pub joins : (id other : ℕ) (v w : View) → v.stored ≡ None → w.stored ≡ None → Joins (Remembered key) id v other w (joined v w) spent
  joins id other v w idle other_idle s r at ne at' =
      on s _ (kind_joins id other) r (v, w, record { sees = at; other_sees = sym (set_else s.views id other (joined v w) ne) ∙ at'; two = ne; idle = idle; other_idle = other_idle }, refl)

  pub opens : (words : List ℕ) → words ≡ replicate (k.pieces + k.cells) 0 → Remembered key (opening words [] (newcomer key))
  opens words zeros = record {
    rule = back _ (keeps_opens k ok (cell key) values key words (ap length zeros ∙ length-replicate (k.pieces + k.cells) 0) (λ i. ap (λ (ws : List ℕ). get_or ws i 0) zeros ∙ zero_at (k.pieces + k.cells) i));
    kinds = [];
    steps = ap (λ (ws : List ℕ). opening ws [] (newcomer key)) zeros;
  }

  pub ends : (id : ℕ) (v : View) (ws : List ℕ) (xs : List (Unit {0})) → Final (Seen (Remembered key) id v) ws xs → Ends key ws v
  ends id v ws xs f = record { kinds = f.1.0.kinds; last = f.0; steps = f.1.0.steps; same_words = f.2; seat = id; sees = f.1.1 }

  -- who has all of the work has published all that is done
  alone_published : (s : St) → Kept k (cell key) key s → (id : ℕ) (v : View) → get_elem? s.views id ≡ some v → IsWhole v.share → (i : ℕ) → times i v.published ≡ one_if (nat_lt i k.pieces && (piece_word s.words i == 2))
  alone_published s r id v at whole i = elim (cases_Bool (nat_lt i k.pieces)) [
    | inl inside ↦ (let l : i < k.pieces = ltb-true i k.pieces inside in rw inside (sym (one_alone (publishes i) s.views id v at (λ j d ne e. ap (times i) ((r.seats j d e).unshared (others_none s.views id v at r.shares whole j d ne e)).1)) ∙ r.once i l))
    | inr outside ↦ elim (cases_eq (times i v.published) 0) [
      | inl none ↦ rw outside none
      | inr some_there ↦ (let l = ((r.seats id v at).known i (omega (arith, some_there))).0 in absurd (true≢false (sym (lt-ltb i k.pieces l) ∙ outside)))
    ]
  ]

  -- and where it holds nothing, no piece is claimed
  none_claimed : (s : St) → Kept k (cell key) key s → (id : ℕ) (v : View) → get_elem? s.views id ≡ some v → v.stored ≡ None → IsWhole v.share → (i : ℕ) → i < k.pieces → piece_word s.words i ≢ 1
  none_claimed s r id v at idle whole i l one =
      let alone = one_alone (holds i) s.views id v at (λ j d ne e. ap (is_hand i) ((r.seats j d e).unshared (others_none s.views id v at r.shares whole j d ne e)).0) in
      let mine : holds i v ≡ 0 = ap (is_hand i) idle in
      let claimed_one : one_if (piece_word s.words i == 1) ≡ 1 = same_one (piece_word s.words i) 1 one in
      omega (arith, r.one_holder i l, alone, mine, claimed_one)

  pub settles : (id : ℕ) (v : View) (ws : List ℕ) (xs : List (Unit {0})) → Final (Seen (Remembered key) id v) ws xs → v.stored ≡ None → IsWhole v.share → (i : ℕ) → i < k.pieces → piece_word ws i ≢ 1
  settles id v ws xs f idle whole i l =
      subst (λ (ws' : List ℕ). piece_word ws' i ≢ 1) f.2 (none_claimed f.0 (there f.0 f.1.0.rule) id v f.1.1 idle whole i l)

  pub closes : (id : ℕ) (v : View) (ws : List ℕ) (xs : List (Unit {0})) → Final (Seen (Remembered key) id v) ws xs
      → Sound k (cell key) (board_of k ws) × Sits k key ws v × ((i : ℕ) → times i v.published ≤ 1) × (length ws ≡ k.pieces + k.cells) × ((i : ℕ) → i < k.pieces → piece_word ws i ≤ 2)
      × (IsWhole v.share → (i : ℕ) → times i v.published ≡ one_if (nat_lt i k.pieces && (piece_word ws i == 2)))
  closes id v ws xs f =
      let s = f.0 in let r = there s f.1.0.rule in let at = f.1.1 in let e : s.words ≡ ws = f.2 in
      let t = r.seats id v at in
      let once = (fair k ok (cell key) values key s r id v at).once in (
        subst (λ (ws' : List ℕ). Sound k (cell key) (board_of k ws')) e r.sound,
        subst (λ (ws' : List ℕ). Sits k key ws' v) e t,
        once,
        (ap length (sym e) ∙ r.wide),
        subst (λ (ws' : List ℕ). (i : ℕ) → i < k.pieces → piece_word ws' i ≤ 2) e r.states,
        subst (λ (ws' : List ℕ). IsWhole v.share → (i : ℕ) → times i v.published ≡ one_if (nat_lt i k.pieces && (piece_word ws' i == 2))) e (alone_published s r id v at),
      )

-- whatever steps are made from the opening on
pub steps_are_run : (key : TableKey) → IsFit key → StepsAreRun key
steps_are_run key fit kinds t leads =
    let k = shape_of key in let ok = fit_shape key fit in let words : List ℕ = replicate (k.pieces + k.cells) 0 in
    let first = keeps_opens k ok (cell key) (cell_some key fit) key words (length-replicate (k.pieces + k.cells) 0) (zero_at (k.pieces + k.cells)) in
    let all = steps_run k ok (cell key) (cell_some key fit) key (recipe key.page.value key.layout) (halo_of key fit) (first_state k key) t kinds first leads in
    let board = opening_words k in (
      ruled k ok (cell key) key t all.0,
      subst (λ (b : Board). IsRun k (recipe key.page.value key.layout) b (events_of kinds)) board all.1.0,
      all.1.1 ∙ ap (λ (b : Board). played b (events_of kinds)) board,
    )

pub ends_are_runs : (key : TableKey) → IsFit key → EndsAreRuns key
ends_are_runs key fit words v e =
    let all = steps_are_run key fit e.kinds e.last e.steps in
    (events_of e.kinds, all.1, ap (board_of (shape_of key)) (sym e.same_words) ∙ all.2)
