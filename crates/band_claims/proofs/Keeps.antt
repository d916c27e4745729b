-- Each kind of step keeps the rule.
use Rattle.std.proofs.Common.{Bool, true, false, ◌≡◌, ◌≢◌, ℕ, zero, suc, ◌+◌, ◌<◌, ◌≤◌, ◌==◌, List, [], ◌∷◌, ◌++◌, length, get_or, set, sym, refl, ap, ◌∙◌, subst, ⊎_elim, inl, inr, arith, Some, None, length-set, eq-eqb, ne_eqb}
use Rattle.std.specs.Prelude.{if◌then◌else◌}
use Rattle.std.proofs.lemmas.Bool.{cases_eq}
use Rattle.std.proofs.lemmas.List.{length-append}
use mathlib.Core.Option.{some, some-injective, some-ne-none}
use lib.ListN.{get_elem?}
use Rattle.atomic_table.specs.Table.{State, Splits, Joins, opening}
use Rattle.atomic_table.proofs.Lists.{at_set, at_snoc, set_else}
use Rattle.band_claims.specs.declared.table_key.TableKey.{TableKey}
use Rattle.band_claims.specs.declared.view.View.{View}
use Rattle.band_core.specs.TableShapes.{Shape, IsShape}
use Rattle.band_core.specs.Boards.{state_free, state_done}
use Rattle.band_core.proofs.Boards.{clash}
use Rattle.band_core.proofs.TableWords.{is_board, cell_is}
use Rattle.band_claims.specs.Shares.{IsCutBy, halved}
use Rattle.band_claims.specs.Views.{IsFair, one_if, times, total, is_hand, holds, publishes, Knows, look, newcomer, spent, looked_at, claimed, put, finished, parted, branched, joined}
use Rattle.band_claims.specs.Rule.{piece_word, cell_word}
use Rattle.band_claims.proofs.Kept.{Holding, Sits, Kept}
use Rattle.band_claims.proofs.Totals.{total_set, total_snoc, one_of, two_of, times_append}
use Rattle.band_claims.proofs.ShareLemmas.{length-halved, whole_kept, whole_split, whole_joined}
use Rattle.band_claims.proofs.Boards.{same_one, other_zero, sound_claim, sound_finish, sound_put, free_cell, done_cell, some_cell, states_piece, states_cell, word_state, sits_piece, sits_cell, known_piece, piece_here, piece_else, piece_stays, cell_stays, cell_here, cell_else}

module _ (k : Shape) (ok : IsShape k) (defined : ℕ → ℕ) (some_value : (j : ℕ) → j < k.cells → 1 ≤ defined j) (key : TableKey) where
  abbrev St : Type 0
  St = State (Unit {0}) View

  abbrev Rule : St → Type 0
  Rule = Kept k defined key

  first_seat : (words : List ℕ) (j : ℕ) (d : View) → get_elem? (newcomer key ∷ []) j ≡ some d → Sits k key words (newcomer key) → Sits k key words d
  first_seat words zero d e new = subst (Sits k key words) (some-injective (newcomer key) d e) new
  first_seat words (suc j) d e new = absurd (some-ne-none d (sym e))

  seats_after : (words : List ℕ) (vs : List View) (id : ℕ) (w : View) → Sits k key words w → ((j : ℕ) (d : View) → j ≢ id → get_elem? vs j ≡ some d → Sits k key words d)
      → (j : ℕ) (d : View) → get_elem? (set vs id w) j ≡ some d → Sits k key words d
  seats_after words vs id w mine others j d e = ⊎_elim (λ (t : (j ≡ id) × (w ≡ d)). subst (Sits k key words) t.1 mine)
      (λ (t : (j ≢ id) × (get_elem? vs j ≡ some d)). others j d t.0 t.1) (at_set vs id j w d e)

  -- the words stay
  calm : (s : St) (r : Rule s) (id : ℕ) (v w : View) → get_elem? s.views id ≡ some v → Sits k key s.words w → ((j : ℕ) → holds j w ≡ holds j v) → ((j : ℕ) → publishes j w ≡ publishes j v) → w.share ≡ v.share
      → Rule record { words = s.words; homes = s.homes; views = set s.views id w }
  calm s r id v w at sits hand list share = record {
    wide = r.wide;
    states = r.states;
    sound = r.sound;
    seats = seats_after s.words s.views id w sits (λ j d other e. r.seats j d e);
    one_holder = λ j l. omega (arith, total_set (holds j) s.views id v w at, hand j, r.one_holder j l);
    once = λ j l. omega (arith, total_set (publishes j) s.views id v w at, list j, r.once j l);
    shares = whole_kept s.views id v w at share r.shares;
  }

  seen_more : (words : List ℕ) (i n : ℕ) (v : View) → i < k.pieces → piece_word words i ≡ n → Sits k key words v → (j : ℕ) → Knows (looked_at i n v) j → (j < k.pieces) × (piece_word words j ≡ 2)
  seen_more words i n v l is t j m = elim (cases_eq n 2) [
    | inl two ↦ (let m' : 1 ≤ times j v.published + times j (v.seen ++ i ∷ []) = rw (eq-eqb n 2 two) at m in elim (cases_eq j i) [
      | inl same ↦ (rw same l, rw same (is ∙ two))
      | inr ne ↦ t.known j (omega (arith, m', times_append j v.seen (i ∷ []), other_zero j i ne))
    ])
    | inr less ↦ (let m' : 1 ≤ times j v.published + times j v.seen = rw (ne_eqb n 2 less) at m in t.known j m')
  ]

  at_most_one : (b : Bool) → one_if b ≤ 1
  at_most_one true = omega arith
  at_most_one false = omega arith

  pub fair : (s : St) (r : Rule s) (id : ℕ) (v : View) → get_elem? s.views id ≡ some v → IsFair k.pieces v
  fair s r id v at = let t = r.seats id v at in record {
    once = λ i. elim (cases_eq (times i v.published) 0) [
      | inl z ↦ omega (arith, z)
      | inr some_there ↦ (let l = (t.known i (omega (arith, some_there))).0 in omega (arith, one_of (publishes i) s.views id v at, r.once i l, at_most_one (piece_word s.words i == 2)))
    ];
    in_range = λ i h. (t.known i h).0;
  }

  pub after_look : (s : St) (r : Rule s) (id i : ℕ) (v : View) → get_elem? s.views id ≡ some v → i < k.pieces
      → Rule record { words = s.words; homes = s.homes; views = set s.views id (looked_at i (piece_word s.words i) v) }
  after_look s r id i v at l = let t = r.seats id v at in
      calm s r id v (looked_at i (piece_word s.words i) v) at record { page = t.page; hand = t.hand; known = seen_more s.words i (piece_word s.words i) v l refl t; unshared = t.unshared } (λ j. refl) (λ j. refl) refl

  pub after_loss : (s : St) (r : Rule s) (id i n : ℕ) (v : View) → get_elem? s.views id ≡ some v → n ≢ 0
      → Rule record { words = s.words; homes = s.homes; views = set s.views id (claimed i n v) }
  after_loss s r id i n v at ne =
      let t = r.seats id v at in
      let won : View = record { table_key = v.table_key; stored = Some i; filled = 0; published = v.published; seen = v.seen; looked = []; reported = v.reported ++ look i 1 ∷ []; share = v.share } in
      let lost : View = record { table_key = v.table_key; stored = v.stored; filled = v.filled; published = v.published; seen = v.seen; looked = v.looked ++ look i n ∷ []; reported = v.reported ++ look i n ∷ []; share = v.share } in
      let Q : Bool → Type 0 = λ b. Rule record { words = s.words; homes = s.homes; views = set s.views id (if b then won else lost) } in
      subst Q (sym (ne_eqb n 0 ne)) (calm s r id v lost at record { page = t.page; hand = t.hand; known = t.known; unshared = t.unshared } (λ j. refl) (λ j. refl) refl)

  pub after_read : (s : St) (r : Rule s) (id : ℕ) (v : View) → get_elem? s.views id ≡ some v → Rule record { words = s.words; homes = s.homes; views = set s.views id v }
  after_read s r id v at = calm s r id v v at (r.seats id v at) (λ j. refl) (λ j. refl) refl

  empty_hand : (v : View) (j : ℕ) → v.stored ≡ None → holds j v ≡ 0
  empty_hand v j is = ap (is_hand j) is

  full_hand : (v : View) (i : ℕ) → v.stored ≡ Some i → holds i v ≡ 1
  full_hand v i is = ap (is_hand i) is ∙ same_one i i refl

  other_hand : (v : View) (i j : ℕ) → v.stored ≡ Some i → j ≢ i → holds j v ≡ 0
  other_hand v i j is ne = ap (is_hand j) is ∙ other_zero j i ne

  abbrev taking : View → ℕ → View
  taking v i = record { table_key = v.table_key; stored = Some i; filled = 0; published = v.published; seen = v.seen; looked = []; reported = v.reported ++ look i 1 ∷ []; share = v.share }

  -- the winning exchange
  pub wins : (s : St) (r : Rule s) (id i : ℕ) (v : View) → get_elem? s.views id ≡ some v → i < k.pieces → v.stored ≡ None → 1 ≤ length v.share → piece_word s.words i ≡ 0 → ((n : ℕ) → k.needs i n ≡ true → Knows v n)
      → Rule record { words = set s.words i 1; homes = s.homes; views = set s.views id (claimed i 0 v) }
  wins s r id i v at l idle some_share free needs =
      let w : View = claimed i 0 v in let t = r.seats id v at in
      let nobody : total (holds i) s.views ≡ 0 = r.one_holder i l ∙ other_zero (piece_word s.words i) 1 (λ e. omega (arith, free, e)) in
      let here = piece_here k ok s.words r.wide i 1 l in record {
        wide = length-set s.words i 1 ∙ r.wide;
        states = states_piece k ok s.words r.wide r.states i 1 l (omega arith);
        sound = sound_claim k ok s.words r.wide defined r.sound i l free (λ n m. (t.known n (needs n m)).1);
        seats = seats_after (set s.words i 1) s.views id w record {
          page = t.page;
          hand = record {
            piece = l;
            is_claimed = here;
            at_most = omega arith;
            prefix = λ o m. absurd (omega arith);
            back = λ o _ m. cell_stays k ok s.words r.wide i (k.start i + o) 1 l ∙ free_cell k ok s.words r.wide defined r.sound i o l m free;
          };
          known = known_piece k ok s.words r.wide key i 1 l (omega (arith, free)) v t;
          unshared = λ e. absurd (omega (arith, e, some_share));
        } (λ j d ne e. sits_piece k ok s.words r.wide key i 1 l (omega (arith, free)) d (omega (arith, nobody, one_of (holds i) s.views j d e)) (r.seats j d e));
        one_holder = λ j m. elim (cases_eq j i) [
          | inl same ↦ rw same (omega (arith, total_set (holds i) s.views id v w at, empty_hand v i idle, full_hand w i refl, nobody, same_one (piece_word (set s.words i 1) i) 1 here))
          | inr ne ↦ (let stays = piece_else k ok s.words r.wide i j 1 ne in
              omega (arith, total_set (holds j) s.views id v w at, empty_hand v j idle, other_hand w i j refl ne, r.one_holder j m, ap (λ (x : ℕ). one_if (x == 1)) stays))
        ];
        once = λ j m. elim (cases_eq j i) [
          | inl same ↦ rw same (omega (arith, total_set (publishes i) s.views id v w at, r.once i l, other_zero (piece_word s.words i) 2 (λ e. omega (arith, free, e)), other_zero (piece_word (set s.words i 1) i) 2 (λ e. omega (arith, here, e))))
          | inr ne ↦ (let stays = piece_else k ok s.words r.wide i j 1 ne in omega (arith, total_set (publishes j) s.views id v w at, r.once j m, ap (λ (x : ℕ). one_if (x == 2)) stays))
        ];
        shares = whole_kept s.views id v w at refl r.shares;
      }

  -- the word of a cell of a piece that a view knows
  pub value_read : (p o : ℕ) → p < k.pieces → o < k.size p → (v : View) (s : St) → Rule s → (id : ℕ) → get_elem? s.views id ≡ some v → Knows v p → get_or s.words (k.pieces + (k.start p + o)) 0 ≡ defined (k.start p + o)
  value_read p o l m v s r id at knows =
      let c : ℕ = k.start p + o in
      let some_there = done_cell k ok s.words r.wide defined r.sound p o l m ((r.seats id v at).known p knows).1 in
      elim (some_cell k ok s.words r.wide defined r.sound c (omega (arith, ok.inside p l, m))) [ inl e ↦ absurd (some_there e) | inr e ↦ e ]

  pub stored_by : (s : St) (r : Rule s) (id p : ℕ) (v : View) → get_elem? s.views id ≡ some v → v.stored ≡ Some p → Holding k s.words v.filled p
  stored_by s r id p v at is = let t = r.seats id v at in rw is at t.hand

  -- what another view holds is another piece
  others_hold : (s : St) (r : Rule s) (id p j : ℕ) (v d : View) → get_elem? s.views id ≡ some v → v.stored ≡ Some p → j ≢ id → get_elem? s.views j ≡ some d → holds p d ≡ 0
  others_hold s r id p j v d at is ne e =
      let h = stored_by s r id p v at is in
      omega (arith, two_of (holds p) s.views id j v d ne at e, full_hand v p is, r.one_holder p h.piece, same_one (piece_word s.words p) 1 h.is_claimed)

  pub stores : (s : St) (r : Rule s) (id p : ℕ) (v : View) → get_elem? s.views id ≡ some v → v.stored ≡ Some p → v.filled < k.size p
      → Rule record { words = set s.words (k.pieces + (k.start p + v.filled)) (defined (k.start p + v.filled)); homes = s.homes; views = set s.views id (put v) }
  stores s r id p v at is workspace =
      let h = stored_by s r id p v at is in let t = r.seats id v at in let c : ℕ = k.start p + v.filled in let x : ℕ = defined c in
      let inside : c < k.cells = omega (arith, ok.inside p h.piece, workspace) in
      let stays = λ (j : ℕ) (m : j < k.pieces). piece_stays k ok s.words r.wide j c x m in record {
        wide = length-set s.words (k.pieces + c) x ∙ r.wide;
        states = states_cell k ok s.words r.wide r.states c x;
        sound = sound_put k ok s.words r.wide defined r.sound p v.filled h.piece workspace h.is_claimed;
        seats = seats_after (set s.words (k.pieces + c) x) s.views id (put v) record {
          page = t.page;
          hand = rw is record {
            piece = h.piece;
            is_claimed = stays p h.piece ∙ h.is_claimed;
            at_most = omega (arith, workspace);
            prefix = λ o m e. elim (cases_eq o v.filled) [
              | inl same ↦ omega (arith, cell_here k ok s.words r.wide c x inside, some_value c inside, ap (λ (z : ℕ). cell_word k (set s.words (k.pieces + c) x) (k.start p + z)) same, e)
              | inr ne ↦ h.prefix o (omega (arith, m, ne)) (sym (cell_else k ok s.words r.wide c (k.start p + o) x (λ q. ne (omega (arith, q)))) ∙ e)
            ];
            back = λ o m q. cell_else k ok s.words r.wide c (k.start p + o) x (λ z. omega (arith, z, m)) ∙ h.back o (omega (arith, m)) q;
          };
          known = λ j m. let d = t.known j m in (d.0, stays j d.0 ∙ d.1);
          unshared = t.unshared;
        } (λ j d ne e. sits_cell k ok s.words r.wide key p v.filled x h.piece workspace d (others_hold s r id p j v d at is ne e) (r.seats j d e));
        one_holder = λ j m. omega (arith, total_set (holds j) s.views id v (put v) at, r.one_holder j m, ap (λ (z : ℕ). one_if (z == 1)) (stays j m));
        once = λ j m. omega (arith, total_set (publishes j) s.views id v (put v) at, r.once j m, ap (λ (z : ℕ). one_if (z == 2)) (stays j m));
        shares = whole_kept s.views id v (put v) at refl r.shares;
      }

  pub ends : (s : St) (r : Rule s) (id p : ℕ) (v : View) → get_elem? s.views id ≡ some v → v.stored ≡ Some p → v.filled ≡ k.size p
      → Rule record { words = set s.words p 2; homes = s.homes; views = set s.views id (finished p v) }
  ends s r id p v at is full =
      let h = stored_by s r id p v at is in let t = r.seats id v at in let w : View = finished p v in let l = h.piece in
      let here = piece_here k ok s.words r.wide p 2 l in
      let unfinished : piece_word s.words p ≤ 1 = omega (arith, h.is_claimed) in
      let nobody : total (publishes p) s.views ≡ 0 = omega (arith, r.once p l, other_zero (piece_word s.words p) 2 (λ e. omega (arith, h.is_claimed, e))) in record {
        wide = length-set s.words p 2 ∙ r.wide;
        states = states_piece k ok s.words r.wide r.states p 2 l (omega arith);
        sound = sound_finish k ok s.words r.wide defined r.sound p l h.is_claimed (λ o m. h.prefix o (omega (arith, m, full)));
        seats = seats_after (set s.words p 2) s.views id w record {
          page = t.page;
          hand = tt;
          known = λ j m. elim (cases_eq j p) [
            | inl same ↦ (rw same l, rw same here)
            | inr ne ↦ known_piece k ok s.words r.wide key p 2 l unfinished v t j (omega (arith, m, times_append j v.published (p ∷ []), other_zero j p ne))
          ];
          unshared = λ e. absurd (let none : is_hand p (Some p) ≡ is_hand p None = ap (is_hand p) (sym is ∙ (t.unshared e).0) in omega (arith, none, same_one p p refl));
        } (λ j d ne e. sits_piece k ok s.words r.wide key p 2 l unfinished d (others_hold s r id p j v d at is ne e) (r.seats j d e));
        one_holder = λ j m. elim (cases_eq j p) [
          | inl same ↦ rw same (omega (arith, total_set (holds p) s.views id v w at, full_hand v p is, r.one_holder p l, same_one (piece_word s.words p) 1 h.is_claimed, other_zero (piece_word (set s.words p 2) p) 1 (λ e. omega (arith, here, e))))
          | inr ne ↦ omega (arith, total_set (holds j) s.views id v w at, other_hand v p j is ne, r.one_holder j m, ap (λ (x : ℕ). one_if (x == 1)) (piece_else k ok s.words r.wide p j 2 ne))
        ];
        once = λ j m. elim (cases_eq j p) [
          | inl same ↦ rw same (omega (arith, total_set (publishes p) s.views id v w at, nobody, times_append p v.published (p ∷ []), same_one p p refl, same_one (piece_word (set s.words p 2) p) 2 here, one_of (publishes p) s.views id v at))
          | inr ne ↦ omega (arith, total_set (publishes j) s.views id v w at, times_append j v.published (p ∷ []), other_zero j p ne, r.once j m, ap (λ (x : ℕ). one_if (x == 2)) (piece_else k ok s.words r.wide p j 2 ne))
        ];
        shares = whole_kept s.views id v w at refl r.shares;
      }

  kept_share : (works : Bool) (ds : List ℕ) → length (if works then halved ds else ds) ≡ length ds
  kept_share true ds = length-halved ds
  kept_share false ds = refl

  pub splits : (id : ℕ) (works : Bool) (v : View) → Splits Rule id v (parted works v) (branched works v)
  splits id works v s r at =
      let u : View = parted works v in let w : View = branched works v in let vs : List View = set s.views id u in let t = r.seats id v at in
      let known : (j : ℕ) → Knows w j → (j < k.pieces) × (piece_word s.words j ≡ 2) = λ j m. t.known j (omega (arith, m, times_append j v.seen v.published)) in
      let mine : Sits k key s.words u = record { page = t.page; hand = t.hand; known = t.known; unshared = λ e. t.unshared (omega (arith, e, kept_share works v.share)) } in
      let new : Sits k key s.words w = record { page = t.page; hand = tt; known = known; unshared = λ e. (refl, refl) } in record {
        wide = r.wide;
        states = r.states;
        sound = r.sound;
        seats = λ j d e. ⊎_elim (seats_after s.words s.views id u mine (λ h f _ q. r.seats h f q) j d) (λ (same : w ≡ d). subst (Sits k key s.words) same new) (at_snoc vs w d j e);
        one_holder = λ j m. omega (arith, total_snoc (holds j) vs w, total_set (holds j) s.views id v u at, r.one_holder j m);
        once = λ j m. omega (arith, total_snoc (publishes j) vs w, total_set (publishes j) s.views id v u at, r.once j m);
        shares = whole_split s.views id works v at r.shares;
      }

  pub joins : (id other : ℕ) (v w : View) → w.stored ≡ None → Joins Rule id v other w (joined v w) spent
  joins id other v w idle s r at ne at' =
      let both : View = joined v w in let vs : List View = set s.views id both in let t = r.seats id v at in
      let u = r.seats other w (sym (set_else s.views id other both ne) ∙ at') in
      let mine : Sits k key s.words both = record {
        page = t.page;
        hand = t.hand;
        known = λ j m. elim (cases_eq (times j v.published + times j v.seen) 0) [
          | inl none_here ↦ u.known j (omega (arith, m, none_here, times_append j v.published w.published, times_append j v.seen w.seen))
          | inr here ↦ t.known j (omega (arith, here))
        ];
        unshared = λ e. let long = length-append v.share w.share in
            let one = t.unshared (omega (arith, e, long)) in let two = u.unshared (omega (arith, e, long)) in
            (one.0, rw (one.1, two.1) refl);
      } in
      let over : Sits k key s.words spent = record { page = tt; hand = tt; known = λ j m. absurd (omega (arith, m)); unshared = λ e. (refl, refl) } in record {
        wide = r.wide;
        states = r.states;
        sound = r.sound;
        seats = seats_after s.words vs other spent over (λ j d _ e. seats_after s.words s.views id both mine (λ h f _ q. r.seats h f q) j d e);
        one_holder = λ j m. omega (arith, total_set (holds j) s.views id v both at, total_set (holds j) vs other w spent at', empty_hand w j idle, r.one_holder j m);
        once = λ j m. omega (arith, total_set (publishes j) s.views id v both at, total_set (publishes j) vs other w spent at', times_append j v.published w.published, r.once j m);
        shares = whole_joined s.views id other v w at at' ne r.shares;
      }

  first_cut : (j : ℕ) (d : View) → get_elem? (newcomer key ∷ []) j ≡ some d → IsCutBy 0 d.share
  first_cut zero d e = subst (λ (z : View). IsCutBy 0 z.share) (some-injective (newcomer key) d e) (omega arith, tt)
  first_cut (suc j) d e = absurd (some-ne-none d (sym e))

  pub opens : (words : List ℕ) → length words ≡ k.pieces + k.cells → ((i : ℕ) → get_or words i 0 ≡ 0) → Rule (opening words [] (newcomer key))
  opens words wide zeros =
      let new : Sits k key words (newcomer key) = record { page = refl; hand = tt; known = λ j m. absurd (omega (arith, m)); unshared = λ e. (refl, refl) } in record {
        wide = wide;
        states = λ j m. omega (arith, zeros j);
        sound = record {
          whole = is_board k words;
          cells = λ j m. inl (cell_is k words j m ∙ zeros (k.pieces + j));
          full = λ i j h d. absurd (clash _ d (ap state_done (word_state k ok words wide i 0 h.piece (zeros i))));
          empty = λ i j h f. cell_is k words j (omega (arith, ok.inside i h.piece, h.below)) ∙ zeros (k.pieces + j);
          ready = λ i n l f need. absurd (clash _ (ap state_free (word_state k ok words wide i 0 l (zeros i))) f);
        };
        seats = λ j d e. first_seat words j d e new;
        one_holder = λ j m. sym (other_zero (piece_word words j) 1 (λ e. omega (arith, zeros j, e)));
        once = λ j m. sym (other_zero (piece_word words j) 2 (λ e. omega (arith, zeros j, e)));
        shares = record { halvings = 0; cut = first_cut; all = refl };
      }
