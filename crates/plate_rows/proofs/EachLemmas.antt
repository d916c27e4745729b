-- Lists of which one element after the other was used.
use Rattle.std.proofs.Common.{◌≡◌, ◌≢◌, ℕ, ◌+◌, ◌<◌, List, length, map, get_or, inl, inr, sym, ap, ◌∙◌, subst, arith}
use Rattle.std.specs.Prelude.{slice_set}
use Rattle.std.proofs.lemmas.Bool.{cases_eq}
use Rattle.std.proofs.lemmas.List.{get_or-map, length-set, map-set, get_or-set_same, get_or-set_other}
use Rattle.plate_rows.specs.Each.{EachDoes, StopsAt}

-- what one does can be said otherwise
pub each_as : {X : Type 0} (none : X) (count : ℕ) (Does Other : ℕ → X → X → Type 0) (a b : List X) → ((k : ℕ) (x y : X) → k < count → Does k x y → Other k x y) → EachDoes none count Does a b → EachDoes none count Other a b
each_as none count Does Other a b so done = record {
  each = λ k less. so k (get_or a k none) (get_or b k none) less (done.each k less);
  others = done.others;
}

module _ {Y : Type 0} (none : Y) (Does : ℕ → Y → Y → Type 0) where
  module _ (k : ℕ) (a b c : List Y) (others : (j : ℕ) → j ≢ k → get_or c j none ≡ get_or b j none) (so_far : EachDoes none k Does a b) where
    earlier : (j : ℕ) → j < k → Does j (get_or a j none) (get_or c j none)
    earlier j less =
        let other : j ≢ k = omega arith in
        subst (λ (y : Y). Does j (get_or a j none) y) (sym (others j other)) (so_far.each j less)

    from : (Now : Y → Y → Type 0) → Now (get_or b k none) (get_or c k none) → Now (get_or a k none) (get_or c k none)
    from Now here = subst (λ (y : Y). Now y (get_or c k none)) (so_far.others k (omega arith)) here

    up_to : Does k (get_or b k none) (get_or c k none) → (j : ℕ) → j < k + 1 → Does j (get_or a j none) (get_or c j none)
    up_to here j less = elim (cases_eq j k) [
      | inl same ↦ subst (λ (n : ℕ). Does n (get_or a n none) (get_or c n none)) (sym same) (from (Does k) here)
      | inr other ↦ earlier j (omega arith)
    ]

    pub one_more : Does k (get_or b k none) (get_or c k none) → EachDoes none (k + 1) Does a c
    one_more here = record {
      each = up_to here;
      others = λ j more. (let other : j ≢ k = omega arith in others j other ∙ so_far.others j (omega arith));
    }

    pub stops_here : (count : ℕ) (Errors : ℕ → Y → Y → Type 0) → k < count → Errors k (get_or b k none) (get_or c k none) → StopsAt none count k Does Errors a c
    stops_here count Errors known here = record {
      known = known;
      each = earlier;
      here = from (Errors k) here;
      others = λ j more. (let other : j ≢ k = omega arith in others j other ∙ so_far.others j (omega arith));
    }

-- one element of a list was changed, seen through a function
module _ {X Y : Type 0} (f : X → Y) (none : Y) (xs : List X) (k : ℕ) (d x : X) (within : k < length xs) where
  here_new : get_or (map f (slice_set xs k x)) k none ≡ f x
  here_new =
      let long : k < length (slice_set xs k x) = omega (arith, length-set xs k x) in
      get_or-map f (slice_set xs k x) k d none long ∙ ap f (get_or-set_same xs k x d within)

  here_old : get_or (map f xs) k none ≡ f (get_or xs k d)
  here_old = get_or-map f xs k d none within

  other_same : (j : ℕ) → j ≢ k → get_or (map f (slice_set xs k x)) j none ≡ get_or (map f xs) j none
  other_same j other = ap (λ (l : List Y). get_or l j none) (map-set f xs k x) ∙ get_or-set_other (map f xs) k j (f x) none other

  at_place : (Now : Y → Y → Type 0) → Now (f (get_or xs k d)) (f x) → Now (get_or (map f xs) k none) (get_or (map f (slice_set xs k x)) k none)
  at_place Now here = subst (λ (y : Y). Now (get_or (map f xs) k none) y) (sym here_new) (subst (λ (y : Y). Now y (f x)) (sym here_old) here)

  pub set_more : (Does : ℕ → Y → Y → Type 0) (a : List Y) → EachDoes none k Does a (map f xs) → Does k (f (get_or xs k d)) (f x) → EachDoes none (k + 1) Does a (map f (slice_set xs k x))
  set_more Does a so_far here = one_more none Does k a (map f xs) (map f (slice_set xs k x)) other_same so_far (at_place (Does k) here)

  pub set_stops : (Does Errors : ℕ → Y → Y → Type 0) (a : List Y) (count : ℕ) → k < count → EachDoes none k Does a (map f xs) → Errors k (f (get_or xs k d)) (f x) → StopsAt none count k Does Errors a (map f (slice_set xs k x))
  set_stops Does Errors a count known so_far here = stops_here none Does k a (map f xs) (map f (slice_set xs k x)) other_same so_far count Errors known (at_place (Errors k) here)

-- as many as there are
pub all_done : {Y : Type 0} (none : Y) (Does : ℕ → Y → Y → Type 0) (n m : ℕ) (a b : List Y) → n ≡ m → EachDoes none n Does a b → EachDoes none m Does a b
all_done none Does n m a b same done = subst (λ (k : ℕ). EachDoes none k Does a b) same done

-- where one stops can be said otherwise
pub stops_as : {X : Type 0} (none : X) (count k : ℕ) (Does Errors OtherDoes OtherStops : ℕ → X → X → Type 0) (a b : List X) → ((j : ℕ) (x y : X) → j < k → Does j x y → OtherDoes j x y) → ((x y : X) → Errors k x y → OtherStops k x y) → StopsAt none count k Does Errors a b → StopsAt none count k OtherDoes OtherStops a b
stops_as none count k Does Errors OtherDoes OtherStops a b so error done = record {
  known = done.known;
  each = λ j less. so j (get_or a j none) (get_or b j none) less (done.each j less);
  here = error (get_or a k none) (get_or b k none) done.here;
  others = done.others;
}
