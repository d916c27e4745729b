-- Each step keeps the rule of the queue.
use Rattle.std.proofs.Common.{◌≡◌, ◌≢◌, ℕ, zero, suc, ◌+◌, ◌-◌, ◌<◌, ◌≤◌, Bool, true, false, true≢false, List, [], ◌∷◌, ◌++◌, set, sym, refl, ap, ◌∙◌, subst, ⊎_elim, inl, inr, ◌⊎◌, eqb, eq-eqb, ne_eqb, arith}
use mathlib.Core.Option.{some, some-injective, some-ne-none}
use mathlib.Core.Logic.{dite}
use native.Mathlib.Decide.{ℕ_discrete}
use lib.ListN.{get_elem?}
use Rattle.crossbeam_queue.specs.Fifo.{Pushes, Pops, Forks, Merges, Learns}
use Rattle.crossbeam_queue.proofs.Lists.{at_set, at_snoc, set_else}
use Rattle.trap_pool.specs.declared.rule.PassView.{PassView}
use Rattle.trap_pool.specs.Rule.{whole, pass_view, one_if, times, total, IsAbove, Ascends, either_mark, IsOrderly, IsKept, Known}

-- ## Lists of lines

pub times_append : (y : ℕ) (xs ys : List ℕ) → times y (xs ++ ys) ≡ times y xs + times y ys
times_append y [] ys = omega arith
times_append y (x ∷ xs) ys = let h = times_append y xs ys in omega arith

pub here : (x : ℕ) (xs : List ℕ) → times x (x ∷ xs) ≡ suc (times x xs)
here x xs = let e : one_if (eqb x x) ≡ 1 = ap one_if (eq-eqb x x refl) in omega arith

pub there : (x y : ℕ) (xs : List ℕ) → x ≢ y → times y (x ∷ xs) ≡ times y xs
there x y xs ne = let e : one_if (eqb x y) ≡ 0 = ap one_if (ne_eqb x y ne) in omega arith

pub append_nil : (xs : List ℕ) → xs ++ [] ≡ xs
append_nil [] = refl
append_nil (x ∷ xs) = ap (λ l. x ∷ l) (append_nil xs)

-- a line of xs ++ x ∷ [] is one of xs, or x
of_snoc : (y x : ℕ) (xs : List ℕ) → 0 < times y (xs ++ x ∷ []) → (0 < times y xs) ⊎ (x ≡ y)
of_snoc y x xs h = dite (ℕ_discrete x y) (λ e. inr e) (λ ne. inl (let a = times_append y xs (x ∷ []) in let b = there x y [] ne in omega arith))

pub ascends_snoc : (xs : List ℕ) (x : ℕ) → Ascends xs → IsAbove x xs → Ascends (xs ++ x ∷ [])
ascends_snoc [] x a above = ((λ y h. absurd (omega arith)), tt)
ascends_snoc (z ∷ zs) x a above = (
  (λ y h. ⊎_elim (λ old. a.0 y old) (λ e. subst (λ k. z < k) e (above z (let p = here z zs in omega arith))) (of_snoc y x zs h)),
  ascends_snoc zs x a.1 (λ y h. above y (omega arith)),
)

-- ## Totals

module _ (f : PassView → ℕ) where
  total_set : (views : List PassView) (port : ℕ) (v w : PassView) → get_elem? views port ≡ some v → total f (set views port w) + f v ≡ total f views + f w
  total_set [] port v w e = absurd (some-ne-none v (sym e))
  total_set (x ∷ xs) zero v w e = let h : f x ≡ f v = ap f (some-injective x v e) in omega arith
  total_set (x ∷ xs) (suc port) v w e = let h = total_set xs port v w e in omega arith

  total_snoc : (views : List PassView) (w : PassView) → total f (views ++ w ∷ []) ≡ total f views + f w
  total_snoc [] w = omega arith
  total_snoc (x ∷ xs) w = let h = total_snoc xs w in omega arith

  total_at : (views : List PassView) (port : ℕ) (v : PassView) → get_elem? views port ≡ some v → f v ≤ total f views
  total_at [] port v e = absurd (some-ne-none v (sym e))
  total_at (x ∷ xs) zero v e = let h : f x ≡ f v = ap f (some-injective x v e) in omega arith
  total_at (x ∷ xs) (suc port) v e = let h = total_at xs port v e in omega arith

-- where g is all of it at one view, and f is 0 wherever g is, f is all of it there too
module _ (f g : PassView → ℕ) where
  abbrev Under : List PassView → Type 0
  Under views = (j : ℕ) (u : PassView) → get_elem? views j ≡ some u → g u ≡ 0 → f u ≡ 0

  none_else : (views : List PassView) → total g views ≡ 0 → Under views → total f views ≡ 0
  none_else [] e under = refl
  none_else (x ∷ xs) e under = let a = under 0 x refl (omega arith) in let b = none_else xs (omega arith) (λ j u. under (suc j) u) in omega arith

  only : (views : List PassView) (port : ℕ) (v : PassView) → get_elem? views port ≡ some v → total g views ≤ g v → Under views → total f views ≡ f v
  only [] port v e le under = absurd (some-ne-none v (sym e))
  only (x ∷ xs) zero v e le under = let h : f x ≡ f v = ap f (some-injective x v e) in let k : g x ≡ g v = ap g (some-injective x v e) in
      let b = none_else xs (omega arith) (λ j u. under (suc j) u) in omega arith
  only (x ∷ xs) (suc port) v e le under = let t = total_at g xs port v e in let a = under 0 x refl (omega arith) in
      let b = only xs port v e (omega arith) (λ j u. under (suc j) u) in omega arith

-- ## The views of all passes

abbrev All : List PassView → Type 0
All views = (port : ℕ) (v : PassView) → get_elem? views port ≡ some v → IsOrderly v

all_set : (views : List PassView) (port : ℕ) (w : PassView) → IsOrderly w → All views → All (set views port w)
all_set views port w mine others j u e = ⊎_elim (λ x. subst IsOrderly x.1 mine) (λ x. others j u x.1) (at_set views port j w u e)

all_snoc : (views : List PassView) (w : PassView) → IsOrderly w → All views → All (views ++ w ∷ [])
all_snoc views w mine others j u e = ⊎_elim (λ x. others j u x) (λ is. subst IsOrderly is mine) (at_snoc views w u j e)

no_mark : (b : Bool) → one_if b ≡ 0 → b ≡ false
no_mark true e = absurd (omega arith)
no_mark false e = refl

-- without the mark, no line was pushed
unmarked : (v : PassView) → IsOrderly v → (line : ℕ) → one_if v.mark ≡ 0 → times line v.pushed ≡ 0
unmarked v o line z = ap (times line) (o.0 (no_mark v.mark z))

-- the pass with the mark has pushed all that was pushed
reader : (items : List ℕ) (views : List PassView) → IsKept items views → (port : ℕ) (v : PassView) → get_elem? views port ≡ some v → v.mark ≡ true
    → (line : ℕ) → total (λ u. times line u.pushed) views ≡ times line v.pushed
reader items views h port v at marked line = only (λ u. times line u.pushed) (λ u. one_if u.mark) views port v at
    (let m : one_if v.mark ≡ 1 = ap one_if marked in let t = h.mark in omega arith) (λ j u e z. unmarked u (h.orderly j u e) line z)

zero_or : (n : ℕ) → (n ≡ 0) ⊎ (0 < n)
zero_or zero = inl refl
zero_or (suc n) = inr (omega arith)

once_each : (xs : List ℕ) → Ascends xs → (y : ℕ) → times y xs ≤ 1
once_each [] a y = omega arith
once_each (x ∷ xs) a y = dite (ℕ_discrete x y)
    (λ e. ⊎_elim (λ (z : times y xs ≡ 0). let p : one_if (eqb x y) ≡ 1 = ap one_if (eq-eqb x y e) in omega arith) (λ (some : 0 < times y xs). let q = a.0 y some in absurd (omega arith)) (zero_or (times y xs)))
    (λ ne. let p = there x y xs ne in let q = once_each xs a.1 y in omega arith)

-- ## The six steps

pub begins : IsKept [] (pass_view whole true [] [] ∷ [])
begins = record {
  ascends = tt;
  balance = λ line. refl;
  once = λ line. omega arith;
  mark = omega arith;
  orderly = λ port v at. ⊎_elim (λ x. absurd (some-ne-none v (sym x))) (λ is. subst IsOrderly is ((λ e. refl), tt, λ e. refl)) (at_snoc [] (pass_view whole true [] []) v port at);
  parts = refl;
}

pub pushes : (n port : ℕ) (v : PassView) (x : ℕ) → v.mark ≡ true → IsAbove x v.pushed → Pushes IsKept n port v x (λ w. w ≡ pass_view v.parts v.mark (v.pushed ++ x ∷ []) v.taken)
pushes n port v x marked above items views workspace h at =
    let w : PassView = pass_view v.parts v.mark (v.pushed ++ x ∷ []) v.taken in
    let o = h.orderly port v at in
    let longer : Ascends (v.pushed ++ x ∷ []) = ascends_snoc v.pushed x o.1 above in (
      w,
      record {
        ascends = ascends_snoc items x h.ascends (λ y in_queue. above y (let b = h.balance y in let r = reader items views h port v at marked y in omega arith));
        balance = λ line. let s = total_set (λ u. times line u.taken) views port v w at in let t = total_set (λ u. times line u.pushed) views port v w at in
            let b = h.balance line in let p = times_append line items (x ∷ []) in let q = times_append line v.pushed (x ∷ []) in omega arith;
        once = λ line. let t = total_set (λ u. times line u.pushed) views port v w at in let r = reader items views h port v at marked line in let q = once_each (v.pushed ++ x ∷ []) longer line in omega arith;
        mark = let s = total_set (λ u. one_if u.mark) views port v w at in let m = h.mark in omega arith;
        orderly = all_set views port w ((λ no. absurd (true≢false (sym marked ∙ no))), longer, o.2) h.orderly;
        parts = let s = total_set (λ u. u.parts) views port v w at in let m = h.parts in omega arith;
      },
      refl,
    )

pub pops : (port : ℕ) (v : PassView) → 0 < v.parts → Pops IsKept port v (λ x w. w ≡ pass_view v.parts v.mark v.pushed (v.taken ++ x ∷ []))
pops port v part x items views h at =
    let w : PassView = pass_view v.parts v.mark v.pushed (v.taken ++ x ∷ []) in
    let o = h.orderly port v at in (
      w,
      record {
        ascends = h.ascends.1;
        balance = λ line. let s = total_set (λ u. times line u.taken) views port v w at in let t = total_set (λ u. times line u.pushed) views port v w at in
            let b = h.balance line in let q = times_append line v.taken (x ∷ []) in omega arith;
        once = λ line. let t = total_set (λ u. times line u.pushed) views port v w at in let q = h.once line in omega arith;
        mark = let s = total_set (λ u. one_if u.mark) views port v w at in let m = h.mark in omega arith;
        orderly = all_set views port w (o.0, o.1, λ z. absurd (omega arith)) h.orderly;
        parts = let s = total_set (λ u. u.parts) views port v w at in let m = h.parts in omega arith;
      },
      refl,
    )

pub forks : (port : ℕ) (v : PassView) → 1 < v.parts → Forks IsKept port v (pass_view (v.parts - 1) v.mark v.pushed v.taken) (pass_view 1 false [] [])
forks port v some_parts items views h at =
    let left : PassView = pass_view (v.parts - 1) v.mark v.pushed v.taken in
    let right : PassView = pass_view 1 false [] [] in
    let vs = set views port left in
    let o = h.orderly port v at in
    record {
      ascends = h.ascends;
      balance = λ line. let s = total_set (λ u. times line u.taken) views port v left at in let t = total_set (λ u. times line u.pushed) views port v left at in
          let s' = total_snoc (λ u. times line u.taken) vs right in let t' = total_snoc (λ u. times line u.pushed) vs right in let b = h.balance line in omega arith;
      once = λ line. let t = total_set (λ u. times line u.pushed) views port v left at in let t' = total_snoc (λ u. times line u.pushed) vs right in let q = h.once line in omega arith;
      mark = let s = total_set (λ u. one_if u.mark) views port v left at in let s' = total_snoc (λ u. one_if u.mark) vs right in let m = h.mark in omega arith;
      orderly = all_snoc vs right ((λ e. refl), tt, λ z. refl) (all_set views port left (o.0, o.1, λ z. absurd (omega arith)) h.orderly);
      parts = let s = total_set (λ u. u.parts) views port v left at in let s' = total_snoc (λ u. u.parts) vs right in let m = h.parts in omega arith;
    }

-- two marks are not both borne
one_either : (a b : Bool) → one_if a + one_if b ≤ 1 → one_if (either_mark a b) ≡ one_if a + one_if b
one_either true true e = absurd (omega arith)
one_either true false e = refl
one_either false b e = omega arith

neither : (a b : Bool) → either_mark a b ≡ false → (a ≡ false) × (b ≡ false)
neither true b e = absurd (true≢false e)
neither false b e = (refl, e)

ascends_both : (a b : Bool) (xs ys : List ℕ) → one_if a + one_if b ≤ 1 → (a ≡ false → xs ≡ []) → (b ≡ false → ys ≡ []) → Ascends xs → Ascends ys → Ascends (xs ++ ys)
ascends_both true true xs ys e p q r s = absurd (omega arith)
ascends_both true false xs ys e p q r s = subst (λ l. Ascends (xs ++ l)) (sym (q refl)) (subst Ascends (sym (append_nil xs)) r)
ascends_both false b xs ys e p q r s = subst (λ l. Ascends (l ++ ys)) (sym (p refl)) s

pub merges : (port : ℕ) (v : PassView) (other : ℕ) (u : PassView)
    → Merges IsKept port v other u (pass_view (v.parts + u.parts) (either_mark v.mark u.mark) (v.pushed ++ u.pushed) (v.taken ++ u.taken)) (pass_view 0 false [] [])
merges port v other u items views h at two at' =
    let both : PassView = pass_view (v.parts + u.parts) (either_mark v.mark u.mark) (v.pushed ++ u.pushed) (v.taken ++ u.taken) in
    let spent : PassView = pass_view 0 false [] [] in
    let vs = set views port both in
    let was : get_elem? views other ≡ some u = sym (set_else views port other both two) ∙ at' in
    let gone : get_elem? (set views port spent) other ≡ some u = set_else views port other spent two ∙ was in
    let o = h.orderly port v at in
    let p = h.orderly other u was in
    let marks : one_if v.mark + one_if u.mark ≤ 1 = (let s = total_set (λ y. one_if y.mark) views port v spent at in let t = total_at (λ y. one_if y.mark) (set views port spent) other u gone in let m = h.mark in omega arith) in
    record {
      ascends = h.ascends;
      balance = λ line. let s = total_set (λ y. times line y.taken) views port v both at in let t = total_set (λ y. times line y.pushed) views port v both at in
          let s' = total_set (λ y. times line y.taken) vs other u spent at' in let t' = total_set (λ y. times line y.pushed) vs other u spent at' in
          let b = h.balance line in let a = times_append line v.taken u.taken in let a' = times_append line v.pushed u.pushed in omega arith;
      once = λ line. let t = total_set (λ y. times line y.pushed) views port v both at in let t' = total_set (λ y. times line y.pushed) vs other u spent at' in
          let a' = times_append line v.pushed u.pushed in let q = h.once line in omega arith;
      mark = let s = total_set (λ y. one_if y.mark) views port v both at in let s' = total_set (λ y. one_if y.mark) vs other u spent at' in
          let e = one_either v.mark u.mark marks in let m = h.mark in omega arith;
      orderly = all_set vs other spent ((λ e. refl), tt, λ z. refl) (all_set views port both (
        (λ no. let n = neither v.mark u.mark no in ap (λ l. l ++ u.pushed) (o.0 n.0) ∙ p.0 n.1),
        ascends_both v.mark u.mark v.pushed u.pushed marks o.0 p.0 o.1 p.1,
        λ z. ap (λ l. l ++ u.taken) (o.2 (omega arith)) ∙ p.2 (omega arith),
      ) h.orderly);
      parts = let s = total_set (λ y. y.parts) views port v both at in let s' = total_set (λ y. y.parts) vs other u spent at' in let m = h.parts in omega arith;
    }

pub learns : (port : ℕ) (v : PassView) → Learns IsKept port v (Known v)
learns port v items views h at = (
  h.ascends,
  (λ marked line. let b = h.balance line in let r = reader items views h port v at marked line in omega arith),
  λ marked all line. let b = h.balance line in let r = reader items views h port v at marked line in
      let t : total (λ u. times line u.taken) views ≡ times line v.taken = only (λ u. times line u.taken) (λ u. u.parts) views port v at (let m = h.parts in omega arith) (λ j u e z. ap (times line) ((h.orderly j u e).2 z)) in omega arith,
)
