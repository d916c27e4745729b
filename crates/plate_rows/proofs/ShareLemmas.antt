-- Plates that are judged in two shares, side by side.
use Rattle.std.proofs.Common.{◌≡◌, ℕ, ◌+◌, ◌-◌, ◌<◌, ◌≤◌, List, [], ◌++◌, length, map, Result, Ok, Err, inl, inr, sym, ap, ◌∙◌, subst, arith}
use Rattle.std.proofs.Math.Seq.{get_or-append-add}
use Rattle.std.proofs.lemmas.Bool.{cases_eq, cases_lt}
use Rattle.std.proofs.lemmas.List.{get_or_append_left, length-append, length-map, map-append}
use Rattle.outside.specs.Tray.{TrayState}
use Rattle.pgm_plates.specs.declared.header.Header.{Header}
use Rattle.plate_rows.specs.declared.judging.PlateErrorAt.{PlateErrorAt}
use Rattle.plate_rows.specs.Judging.{Judges, JudgesPlate, JudgesShare, MayJudge, first_error}
use Rattle.plate_rows.specs.Trays.{header_at, name_at, no_header, no_tray, tray_at}

-- each of some plates was judged, or may have been
may_judge : (names : List (List ℕ)) (headers : List Header) (a b : List TrayState) (result : Result (Unit {0}) PlateErrorAt) → JudgesShare names headers a b result → (j : ℕ) → j < length names → MayJudge (name_at names j) (tray_at a j) (tray_at b j)
may_judge names headers a b (Ok x) judges j less = inr (Ok (header_at headers j), judges.each j less)
may_judge names headers a b (Err error) judges j less = elim (cases_lt j error.plate) [
  | inl before ↦ inr (Ok (header_at headers j), judges.0.each j before)
  | inr from ↦ elim (cases_eq j error.plate) [
    | inl same ↦ subst (λ (n : ℕ). MayJudge (name_at names n) (tray_at a n) (tray_at b n)) (sym same) (inr (Err error.plate_error, judges.0.here))
    | inr other ↦ judges.0.later j (omega arith) less
  ]
]

-- The first share has `n` plates.
module _ (names more : List (List ℕ)) (headers shown : List Header) (a b c d : List TrayState) (n : ℕ) (named : length names ≡ n) (headed : length headers ≡ n) (before : length a ≡ n) (after : length b ≡ n) where
  in_first : (Fact : List ℕ → Header → TrayState → TrayState → Type 0) (j : ℕ) → j < n → Fact (name_at names j) (header_at headers j) (tray_at a j) (tray_at b j) → Fact (name_at (names ++ more) j) (header_at (headers ++ shown) j) (tray_at (a ++ c) j) (tray_at (b ++ d) j)
  in_first Fact j less fact =
      let name = get_or_append_left names more [] j (omega (arith, named)) in
      let header = get_or_append_left headers shown no_header j (omega (arith, headed)) in
      let old = get_or_append_left a c no_tray j (omega (arith, before)) in
      let new = get_or_append_left b d no_tray j (omega (arith, after)) in
      subst (λ (x : List ℕ). Fact x (header_at (headers ++ shown) j) (tray_at (a ++ c) j) (tray_at (b ++ d) j)) (sym name)
      (subst (λ (h : Header). Fact (name_at names j) h (tray_at (a ++ c) j) (tray_at (b ++ d) j)) (sym header)
      (subst (λ (t : TrayState). Fact (name_at names j) (header_at headers j) t (tray_at (b ++ d) j)) (sym old)
      (subst (λ (t : TrayState). Fact (name_at names j) (header_at headers j) (tray_at a j) t) (sym new) fact)))

  in_second : (Fact : List ℕ → Header → TrayState → TrayState → Type 0) (i : ℕ) → Fact (name_at more i) (header_at shown i) (tray_at c i) (tray_at d i) → Fact (name_at (names ++ more) (n + i)) (header_at (headers ++ shown) (n + i)) (tray_at (a ++ c) (n + i)) (tray_at (b ++ d) (n + i))
  in_second Fact i fact =
      let name : name_at (names ++ more) (n + i) ≡ name_at more i = ap (λ (k : ℕ). name_at (names ++ more) (k + i)) (sym named) ∙ get_or-append-add names more i [] in
      let header : header_at (headers ++ shown) (n + i) ≡ header_at shown i = ap (λ (k : ℕ). header_at (headers ++ shown) (k + i)) (sym headed) ∙ get_or-append-add headers shown i no_header in
      let old : tray_at (a ++ c) (n + i) ≡ tray_at c i = ap (λ (k : ℕ). tray_at (a ++ c) (k + i)) (sym before) ∙ get_or-append-add a c i no_tray in
      let new : tray_at (b ++ d) (n + i) ≡ tray_at d i = ap (λ (k : ℕ). tray_at (b ++ d) (k + i)) (sym after) ∙ get_or-append-add b d i no_tray in
      subst (λ (x : List ℕ). Fact x (header_at (headers ++ shown) (n + i)) (tray_at (a ++ c) (n + i)) (tray_at (b ++ d) (n + i))) (sym name)
      (subst (λ (h : Header). Fact (name_at more i) h (tray_at (a ++ c) (n + i)) (tray_at (b ++ d) (n + i))) (sym header)
      (subst (λ (t : TrayState). Fact (name_at more i) (header_at shown i) t (tray_at (b ++ d) (n + i))) (sym old)
      (subst (λ (t : TrayState). Fact (name_at more i) (header_at shown i) (tray_at c i) t) (sym new) fact)))

  all : length (names ++ more) ≡ n + length more
  all = length-append names more ∙ ap (λ (k : ℕ). k + length more) named

  -- what is so of each place of both shares
  by_place : (Fact : ℕ → Type 0) (m : ℕ) → ((j : ℕ) → j < n → Fact j) → ((i : ℕ) → i < m → Fact (n + i)) → (k : ℕ) → k < n + m → Fact k
  by_place Fact m first second k less = elim (cases_lt k n) [
    | inl low ↦ first k low
    | inr high ↦ (let back : n + (k - n) ≡ k = omega arith in subst Fact back (second (k - n) (omega arith)))
  ]

  judged : List ℕ → Header → TrayState → TrayState → Type 0
  judged name header old new = JudgesPlate name old new (Ok header)

  -- the trays of no plate are as they were
  none_beyond : ((i : ℕ) → length more ≤ i → tray_at d i ≡ tray_at c i) → (j : ℕ) → length (names ++ more) ≤ j → tray_at (b ++ d) j ≡ tray_at (a ++ c) j
  none_beyond others j beyond =
      let back : n + (j - n) ≡ j = omega (arith, all) in
      subst (λ (k : ℕ). tray_at (b ++ d) k ≡ tray_at (a ++ c) k) back
      (in_second (λ name header old new. new ≡ old) (j - n) (others (j - n) (omega (arith, all))))

  pub shares_joined : (first second : Result (Unit {0}) PlateErrorAt) → JudgesShare names headers a b first → JudgesShare more shown c d second → JudgesShare (names ++ more) (headers ++ shown) (a ++ c) (b ++ d) (first_error n first second)
  unfolding judged
  shares_joined (Ok x) (Ok y) one two = record {
    each = λ k less. by_place (λ j. Judges (names ++ more) (headers ++ shown) j (tray_at (a ++ c) j) (tray_at (b ++ d) j)) (length more)
        (λ j low. in_first judged j low (one.each j (omega (arith, named))))
        (λ i low. in_second judged i (two.each i low)) k (omega (arith, all));
    others = none_beyond two.others;
  }
  shares_joined (Ok x) (Err error) one two = (
    record {
      known = (let known = two.0.known in omega (arith, all));
      each = by_place (λ j. Judges (names ++ more) (headers ++ shown) j (tray_at (a ++ c) j) (tray_at (b ++ d) j)) error.plate
          (λ j low. in_first judged j low (one.each j (omega (arith, named))))
          (λ i low. in_second judged i (two.0.each i low));
      here = in_second (λ name header old new. JudgesPlate name old new (Err error.plate_error)) error.plate two.0.here;
      later = λ j past less.
          (let back : n + (j - n) ≡ j = omega arith in
          subst (λ (k : ℕ). MayJudge (name_at (names ++ more) k) (tray_at (a ++ c) k) (tray_at (b ++ d) k)) back
          (in_second (λ name header old new. MayJudge name old new) (j - n) (two.0.later (j - n) (omega arith) (omega (arith, all)))));
      others = none_beyond two.0.others;
    },
    two.1,
  )
  shares_joined (Err error) second one two = (
    record {
      known = (let known = one.0.known in omega (arith, all, named));
      each = λ j less. (let known = one.0.known in in_first judged j (omega (arith, named)) (one.0.each j less));
      here = (let known = one.0.known in in_first (λ name header old new. JudgesPlate name old new (Err error.plate_error)) error.plate (omega (arith, named)) one.0.here);
      later = λ j past less. by_place (λ k. error.plate < k → MayJudge (name_at (names ++ more) k) (tray_at (a ++ c) k) (tray_at (b ++ d) k)) (length more)
          (λ k low after. in_first (λ name header old new. MayJudge name old new) k low (one.0.later k after (omega (arith, named))))
          (λ i low after. in_second (λ name header old new. MayJudge name old new) i (may_judge more shown c d second two i low)) j (omega (arith, all)) past;
      others = none_beyond (others second two);
    },
    one.1,
  ) where
    others : (second : Result (Unit {0}) PlateErrorAt) → JudgesShare more shown c d second → (i : ℕ) → length more ≤ i → tray_at d i ≡ tray_at c i
    others (Ok x) judges = judges.others
    others (Err error) judges = judges.0.others

-- the same, by the words and the trays that the lists stand in
module _ {S X : Type 0} (text : S → List ℕ) (state : X → TrayState) (inputs more : List S) (headers shown : List Header) (a b c d : List X) (first second : Result (Unit {0}) PlateErrorAt) where
  Joined : List (List ℕ) → List TrayState → ℕ → Type 0
  Joined names old n = JudgesShare names (headers ++ shown) old (map state (b ++ d)) (first_error n first second)

  share_of_both : length headers ≡ length inputs → length a ≡ length inputs → length b ≡ length inputs → JudgesShare (map text inputs) headers (map state a) (map state b) first → JudgesShare (map text more) shown (map state c) (map state d) second → Joined (map text inputs ++ map text more) (map state a ++ map state c) (length inputs)
  unfolding Joined
  share_of_both headed before after one two =
      subst (λ (new : List TrayState). JudgesShare (map text inputs ++ map text more) (headers ++ shown) (map state a ++ map state c) new (first_error (length inputs) first second)) (sym (map-append state b d))
      (shares_joined (map text inputs) (map text more) headers shown (map state a) (map state b) (map state c) (map state d) (length inputs) (length-map inputs text) headed (length-map a state ∙ before) (length-map b state ∙ after) first second one two)

  pub shares_of : (all : List S) (trays : List X) (n : ℕ) (result : Result (Unit {0}) PlateErrorAt) → all ≡ inputs ++ more → trays ≡ a ++ c → length inputs ≡ n → length headers ≡ n → length a ≡ n → length b ≡ n → result ≡ first_error n first second → JudgesShare (map text inputs) headers (map state a) (map state b) first → JudgesShare (map text more) shown (map state c) (map state d) second → JudgesShare (map text all) (headers ++ shown) (map state trays) (map state (b ++ d)) result
  unfolding Joined
  shares_of all trays n result words old count headed before after is one two =
      let names = ap (map text) words ∙ map-append text inputs more in
      let states = ap (map state) old ∙ map-append state a c in
      let both = share_of_both (headed ∙ sym count) (before ∙ sym count) (after ∙ sym count) one two in
      subst (λ (r : Result (Unit {0}) PlateErrorAt). JudgesShare (map text all) (headers ++ shown) (map state trays) (map state (b ++ d)) r) (sym is)
      (subst (λ (l : List (List ℕ)). Joined l (map state trays) n) (sym names)
      (subst (λ (l : List TrayState). Joined (map text inputs ++ map text more) l n) (sym states)
      (subst (λ (k : ℕ). Joined (map text inputs ++ map text more) (map state a ++ map state c) k) count both)))
