-- Names that are handed out one after another.
use Rattle.std.proofs.Common.{◌≡◌, ℕ, List, [], ◌∷◌, ◌++◌, take, length, Option, Some, None, refl, sym, ap, ◌∙◌, arith, ◌+◌, add-one}
use Rattle.std.proofs.Math.Seq.{take-append_seam}
use Rattle.std.proofs.lemmas.Option.{same_Some}
use Rattle.std.proofs.lemmas.List.{append_assoc, append-nil, take_all}
use Rattle.outside.specs.ErrorCases.{Asks, AsksPrefix}

-- no name
pub asks_none : (a : Option (List (List ℕ))) → Asks a a []
asks_none None = tt
asks_none (Some all) = (all, refl, sym (append-nil all))

-- no name of some
pub asks_none_of : (a : Option (List (List ℕ))) (names : List (List ℕ)) → AsksPrefix a a names
asks_none_of None names = tt
asks_none_of (Some all) names = (all, 0, refl, sym (append-nil all))

-- some names, and then others
pub asks_then : (a m b : Option (List (List ℕ))) (xs ys : List (List ℕ)) → Asks a m xs → Asks m b ys → Asks a b (xs ++ ys)
asks_then a m None xs ys one two = tt
asks_then a None (Some all) xs ys one two = absurd (let e : None ≡ Some two.0 = two.1 in cc)
asks_then a (Some mid) (Some all) xs ys one two =
    let same : mid ≡ two.0 = same_Some mid two.0 two.1 in
    (one.0, one.1, two.2 ∙ ap (λ (l : List (List ℕ)). l ++ ys) (sym same ∙ one.2) ∙ append_assoc one.0 xs ys)

-- the first so many of some names
pub asks_prefix : (a b : Option (List (List ℕ))) (count : ℕ) (names : List (List ℕ)) → Asks a b (take count names) → AsksPrefix a b names
asks_prefix a None count names some = tt
asks_prefix a (Some all) count names some = (some.0, count, some.1, some.2)

-- names that others stand after
pub asks_before : (a b : Option (List (List ℕ))) (xs ys : List (List ℕ)) → Asks a b xs → AsksPrefix a b (xs ++ ys)
asks_before a None xs ys some = tt
asks_before a (Some all) xs ys some = (some.0, length xs, some.1, some.2 ∙ ap (λ (l : List (List ℕ)). some.0 ++ l) (sym (take-append_seam xs ys)))

-- all of them
pub asks_all : (a b : Option (List (List ℕ))) (names : List (List ℕ)) → Asks a b names → AsksPrefix a b names
asks_all a None names some = tt
asks_all a (Some all) names some = (some.0, length names, some.1, some.2 ∙ ap (λ (l : List (List ℕ)). some.0 ++ l) (sym (take_all (length names) names (omega arith))))

take_after : (x : List ℕ) (n : ℕ) (names : List (List ℕ)) → take (n + 1) (x ∷ names) ≡ x ∷ take n names
take_after x n names = rw add-one refl

-- one name, and then the first so many of others
pub asks_first : (a m b : Option (List (List ℕ))) (x : List ℕ) (names : List (List ℕ)) → Asks a m (x ∷ []) → AsksPrefix m b names → AsksPrefix a b (x ∷ names)
asks_first a m None x names one two = tt
asks_first a None (Some all) x names one two = absurd (let e : None ≡ Some two.0 = two.2 in cc)
asks_first a (Some mid) (Some all) x names one two =
    let same : mid ≡ two.0 = same_Some mid two.0 two.2 in
    (one.0, two.1 + 1, one.1, two.3 ∙ ap (λ (l : List (List ℕ)). l ++ take two.1 names) (sym same ∙ one.2) ∙ append_assoc one.0 (x ∷ []) (take two.1 names) ∙ ap (λ (l : List (List ℕ)). one.0 ++ l) (sym (take_after x two.1 names)))
