-- Fronts of lists whose elements all pass a test.
use Rattle.std.proofs.Common.{◌≡◌, ℕ, suc, ◌+◌, ◌≤◌, Bool, true, false, List, [], ◌∷◌, ◌++◌, length, drop, refl, sym, ap, ◌∙◌, ⊎_elim, arith}
use Rattle.std.specs.List.{prefix_len, take_while, list_all}
use Rattle.std.proofs.lemmas.Bool.{cases_Bool, and_parts, and_from}
use Rattle.std.proofs.lemmas.List.{take_at, drop_at, take-append-drop}
use Rattle.ps_tokens.specs.Bytes.{first_passes}

-- a prefix that passes, before what begins with no element that passes
pub prefix_len-prefix : (p : ℕ → Bool) (xs ys : List ℕ) → list_all p xs ≡ true → first_passes p ys ≡ false → prefix_len p (xs ++ ys) ≡ length xs
prefix_len-prefix p [] [] all stops = refl
prefix_len-prefix p [] (y ∷ ys) all stops = rw stops refl
prefix_len-prefix p (x ∷ xs) ys all stops =
    let both = and_parts (p x) (list_all p xs) all in
    rw (both.0) (ap (λ n. 1 + n) (prefix_len-prefix p xs ys both.1 stops) ∙ omega arith)

pub take_while-prefix : (p : ℕ → Bool) (xs ys : List ℕ) → list_all p xs ≡ true → first_passes p ys ≡ false → take_while p (xs ++ ys) ≡ xs
take_while-prefix p xs ys all stops = take_at xs ys (prefix_len p (xs ++ ys)) (sym (prefix_len-prefix p xs ys all stops))

pub drop-prefix : (p : ℕ → Bool) (xs ys : List ℕ) → list_all p xs ≡ true → first_passes p ys ≡ false → drop (prefix_len p (xs ++ ys)) (xs ++ ys) ≡ ys
drop-prefix p xs ys all stops = drop_at xs ys (prefix_len p (xs ++ ys)) (sym (prefix_len-prefix p xs ys all stops))

-- a prefix that passes is no longer than the longest
pub length-le-prefix_len : (p : ℕ → Bool) (xs ys : List ℕ) → list_all p xs ≡ true → length xs ≤ prefix_len p (xs ++ ys)
length-le-prefix_len p [] ys all = omega arith
length-le-prefix_len p (x ∷ xs) ys all =
    let both = and_parts (p x) (list_all p xs) all in
    let more = length-le-prefix_len p xs ys both.1 in
    rw (both.0) (omega (arith, more))

-- the longest prefix passes
pub list_all-take_while : (p : ℕ → Bool) (xs : List ℕ) → list_all p (take_while p xs) ≡ true
list_all-take_while p [] = refl
list_all-take_while p (x ∷ xs) =
    ⊎_elim
    (λ (t : p x ≡ true).
    let e : 1 + prefix_len p xs ≡ suc (prefix_len p xs) = omega arith in
    rw (t, e) (and_from (p x) (list_all p (take_while p xs)) t (list_all-take_while p xs)))
    (λ (f : p x ≡ false). rw f refl)
    (cases_Bool (p x))

-- what stands after it begins with no element that passes
pub first_passes-drop : (p : ℕ → Bool) (xs : List ℕ) → first_passes p (drop (prefix_len p xs) xs) ≡ false
first_passes-drop p [] = refl
first_passes-drop p (x ∷ xs) =
    ⊎_elim
    (λ (t : p x ≡ true).
    let e : 1 + prefix_len p xs ≡ suc (prefix_len p xs) = omega arith in
    rw (t, e) (first_passes-drop p xs))
    (λ (f : p x ≡ false). rw f f)
    (cases_Bool (p x))

-- both are the whole list
pub prefix_and_rest : (p : ℕ → Bool) (xs : List ℕ) → xs ≡ take_while p xs ++ drop (prefix_len p xs) xs
prefix_and_rest p xs = sym (take-append-drop (prefix_len p xs) xs)
