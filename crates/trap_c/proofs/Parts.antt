-- Parts of a list, after one of them was put in.
use Rattle.std.proofs.Common.{◌≡◌, ℕ, ◌+◌, ◌-◌, ◌<◌, ◌≤◌, List, ◌++◌, length, take, drop, get_or, inl, inr, refl, sym, ap, ◌∙◌, arith}
use Rattle.std.specs.Prelude.{slice_range}
use Rattle.std.proofs.lemmas.Bool.{cases_lt}
use Rattle.std.proofs.lemmas.List.{take-append-le, take-append-drop, take-take, take_at, drop_at, length-take, get_or_append_left, get_or-append_right, get_or-drop, get_or-take}
use Rattle.std.proofs.lemmas.Slice.{between_is}

long_prefix : (xs : List ℕ) (a : ℕ) → a ≤ length xs → length (take a xs) ≡ a
long_prefix xs a inside = omega (arith, length-take a xs)

prefix_before : (xs ys : List ℕ) (a j : ℕ) → j ≤ a → a ≤ length xs → take j (take a xs ++ ys) ≡ take j xs
prefix_before xs ys a j l inside = take-append-le j (take a xs) ys (omega (arith, l, long_prefix xs a inside)) ∙ take-take j a xs l

-- what lies before it is as it was
pub part_before : (xs ys : List ℕ) (a i j : ℕ) → j ≤ a → a ≤ length xs → slice_range (take a xs ++ ys) i j ≡ slice_range xs i j
part_before xs ys a i j l inside = between_is (take a xs ++ ys) i j ∙ (ap (λ (zs : List ℕ). drop i zs) (prefix_before xs ys a j l inside) ∙ sym (between_is xs i j))

-- what was put in
pub part_here : (xs ys rest : List ℕ) (a e : ℕ) → a ≤ length xs → e ≡ a + length ys → slice_range (take a xs ++ (ys ++ rest)) a e ≡ ys
part_here xs ys rest a e inside end =
    let rest_after : drop a (take a xs ++ (ys ++ rest)) ≡ ys ++ rest = drop_at (take a xs) (ys ++ rest) a (long_prefix xs a inside) in
    let long : length ys ≡ e - a = omega (arith, end) in
    ap (λ (zs : List ℕ). take (e - a) zs) rest_after ∙ take_at ys rest (e - a) long

-- a prefix and what follows it
pub prefix_more : (xs : List ℕ) (a e : ℕ) → a ≤ e → take e xs ≡ take a xs ++ slice_range xs a e
prefix_more xs a e l = sym (take-append-drop a (take e xs)) ∙ (ap (λ (ys : List ℕ). ys ++ drop a (take e xs)) (take-take a e xs l) ∙ ap (λ (ys : List ℕ). take a xs ++ ys) (sym (between_is xs a e)))

-- what lies elsewhere is as it was
pub item_kept : (xs ys : List ℕ) (a e k : ℕ) → e ≡ a + length ys → e ≤ length xs → ((a ≤ k) → (k < e) → ⊥) → get_or (take a xs ++ (ys ++ drop e xs)) k 0 ≡ get_or xs k 0
item_kept xs ys a e k end inside out = elim (cases_lt k a) [
  | inl before ↦ get_or_append_left (take a xs) (ys ++ drop e xs) 0 k (omega (arith, before, long_prefix xs a (omega (arith, end, inside)))) ∙ get_or-take a xs k 0 before
  | inr from ↦ elim (cases_lt k e) [
    | inl here ↦ absurd (out from here)
    | inr later ↦ (let back : e + (k - a - length ys) ≡ k = omega (arith, end, later) in
        get_or-append_right (take a xs) (ys ++ drop e xs) a k 0 (long_prefix xs a (omega (arith, end, inside))) from
        ∙ (get_or-append_right ys (drop e xs) (length ys) (k - a) 0 refl (omega (arith, end, later))
        ∙ (get_or-drop e xs (k - a - length ys) 0 ∙ ap (λ (n : ℕ). get_or xs n 0) back)))
  ]
]
