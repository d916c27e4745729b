-- Names in a map, by their bytes.
use Rattle.std.proofs.Common.{◌≡◌, ℕ, List, [], ◌∷◌, refl, ap}
use Rattle.std.specs.Prelude.{map}
use Rattle.std.specs.Borrow.{Bor}
use Rattle.std.specs.Ordering.{nat_cmp, match_ordering}
use Rattle.std.specs.declared.cmp.Ordering.TheVariants.{Less, Equal, Greater}
use Rattle.std.specs.BTreeMap.{insert_entry}
use Rattle.std.specs.Cmp.Lexicographic.{slice_cmp}
use Rattle.ps_tokens.specs.Dictionaries.{by_bytes}

-- putting a name in by reference is putting its bytes in
pub by_bytes-insert : (es : List (Bor (List ℕ) × ℕ)) (k : Bor (List ℕ)) (v : ℕ)
    → map by_bytes (insert_entry (λ x y. slice_cmp nat_cmp x.now y.now) es k v) ≡ insert_entry (slice_cmp nat_cmp) (map by_bytes es) k.now v
by_bytes-insert [] k v = refl
by_bytes-insert (e ∷ es) k v =
    elim (slice_cmp nat_cmp k.now e.0.now) as (λ o. map by_bytes (match_ordering o ((k, v) ∷ e ∷ es) ((e.0, v) ∷ es) (e ∷ insert_entry (λ x y. slice_cmp nat_cmp x.now y.now) es k v)) ≡ match_ordering o ((k.now, v) ∷ by_bytes e ∷ map by_bytes es) (((by_bytes e).0, v) ∷ map by_bytes es) (by_bytes e ∷ insert_entry (slice_cmp nat_cmp) (map by_bytes es) k.now v)) [
      | Less ↦ refl
      | Equal ↦ refl
      | Greater ↦ ap (λ rest. by_bytes e ∷ rest) (by_bytes-insert es k v)
    ]

-- that law, for tactics
pub ruleset naming = by_bytes-insert

-- the places are the same, whichever way the names are seen
pub places-by_bytes : (es : List (Bor (List ℕ) × ℕ)) → map (λ e. e.1) es ≡ map (λ e. e.1) (map by_bytes es)
places-by_bytes [] = refl
places-by_bytes (e ∷ es) = ap (λ ps. e.1 ∷ ps) (places-by_bytes es)
