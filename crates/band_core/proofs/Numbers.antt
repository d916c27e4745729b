-- The numbers of values that are cut out of others or written among them.
use Rattle.std.proofs.Common.{◌≡◌, ℕ, ◌<◌, List, ◌++◌, map, length, take, drop, get_or, slice_index, slice_set, sym, ap, ◌∙◌}
use Rattle.std.proofs.lemmas.List.{length-map, map-append, map-set, take-map, drop-map, get_or-map}
use borrow.Rule.Slice.PartMut.{put_mid}

module _ {V : Type 0} {number : V → ℕ} {numbers : List V → List ℕ} (each : (xs : List V) → map number xs ≡ numbers xs) where
  pub as_many : (xs : List V) → length (numbers xs) ≡ length xs
  as_many xs = ap length (sym (each xs)) ∙ length-map xs number

  pub number_read : (xs : List V) (i : ℕ) (x : V) → i < length xs → x ≡ get_or xs i x → number x ≡ slice_index (numbers xs) i
  number_read xs i x l is = ap number is ∙ (sym (get_or-map number xs i x 0 l) ∙ ap (λ (ns : List ℕ). slice_index ns i) (each xs))

  pub one_set : (xs : List V) (i : ℕ) (x : V) → numbers (slice_set xs i x) ≡ slice_set (numbers xs) i (number x)
  one_set xs i x = sym (each (slice_set xs i x)) ∙ (map-set number xs i x ∙ ap (λ (ns : List ℕ). slice_set ns i (number x)) (each xs))

  pub cut_out : (xs : List V) (a n : ℕ) → numbers (take n (drop a xs)) ≡ take n (drop a (numbers xs))
  cut_out xs a n = sym (each (take n (drop a xs))) ∙ (sym (take-map number n (drop a xs)) ∙ ap (take n) (sym (drop-map number a xs) ∙ ap (drop a) (each xs)))

  pub part_written : (xs ys : List V) (a n : ℕ) → numbers (put_mid a n xs ys) ≡ put_mid a n (numbers xs) (numbers ys)
  part_written xs ys a n =
      let prefix : map number (take a xs) ≡ take a (numbers xs) = sym (take-map number a xs) ∙ ap (take a) (each xs) in
      let rest : map number (drop n (drop a xs)) ≡ drop n (drop a (numbers xs)) = sym (drop-map number n (drop a xs)) ∙ ap (drop n) (sym (drop-map number a xs) ∙ ap (drop a) (each xs)) in
      sym (each (put_mid a n xs ys)) ∙ (map-append number (take a xs) (ys ++ drop n (drop a xs)) ∙ ((λ i. prefix i ++ map number (ys ++ drop n (drop a xs))) ∙ ap (λ (ns : List ℕ). take a (numbers xs) ++ ns) (map-append number ys (drop n (drop a xs)) ∙ (λ i. each ys i ++ rest i))))
