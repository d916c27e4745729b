-- Rows among samples, and what becomes of them where one is put in.
use Rattle.std.proofs.Common.{◌≡◌, ℕ, zero, suc, ◌+◌, ◌-◌, ◌*◌, ◌%◌, ◌<◌, ◌≤◌, List, ◌++◌, length, take, drop, refl, sym, ap, ◌∙◌, subst, arith, add-one}
use Rattle.std.specs.Prelude.{slice_range}
use Rattle.std.proofs.lemmas.List.{length-append}
use Rattle.std.proofs.lemmas.List.Edits.{length-between}
use Rattle.std.proofs.lemmas.Nat.{mod-mul-add}
use Rattle.trap_c.specs.declared.layout.Layout.{Layout}
use Rattle.trap_c.specs.Planes.{KeepsGaps, row_in, rows_in, size, tints_in}
use Rattle.trap_c.proofs.Parts.{prefix_more, item_kept, part_before, part_here}
use Rattle.trap_c.proofs.Sizes.{plane_before, row_inside, times_le}

-- some samples, with a row put in from one on
abbrev put : ℕ → List ℕ → List ℕ → List ℕ
put from row xs = take from xs ++ (row ++ drop (from + length row) xs)

pub long_rows : (layout : Layout) (xs : List ℕ) (first n : ℕ) → layout.width ≤ layout.step → (first + n) * layout.step ≤ length xs → length (rows_in layout xs first n) ≡ n * layout.width
long_rows layout xs first zero apart inside = omega arith
long_rows layout xs first (suc n) apart inside =
    let fits : (first + n) * layout.step + layout.width ≤ length xs = row_inside (first + n) (first + suc n) layout.step layout.width (length xs) (omega arith) apart inside in
    let before : length (rows_in layout xs first n) ≡ n * layout.width = long_rows layout xs first n apart (omega (arith, times_le (first + n) (first + suc n) layout.step (omega arith))) in
    omega (arith, length-append (rows_in layout xs first n) (row_in layout xs (first + n)), before, length-between xs ((first + n) * layout.step) ((first + n) * layout.step + layout.width) fits)

-- rows before it are as they were
rows_kept : (layout : Layout) (xs ys : List ℕ) (a first n : ℕ) → layout.width ≤ layout.step → (first + n) * layout.step ≤ a → a ≤ length xs → rows_in layout (take a xs ++ ys) first n ≡ rows_in layout xs first n
rows_kept layout xs ys a first zero apart before inside = refl
rows_kept layout xs ys a first (suc n) apart before inside =
    let earlier : (first + n) * layout.step ≤ a = omega (arith, times_le (first + n) (first + suc n) layout.step (omega arith), before) in
    let row : row_in layout (take a xs ++ ys) (first + n) ≡ row_in layout xs (first + n) = part_before xs ys a ((first + n) * layout.step) ((first + n) * layout.step + layout.width) (row_inside (first + n) (first + suc n) layout.step layout.width a (omega arith) apart before) inside in
    ap (λ (zs : List ℕ). zs ++ row_in layout (take a xs ++ ys) (first + n)) (rows_kept layout xs ys a first n apart earlier inside) ∙ ap (λ (zs : List ℕ). rows_in layout xs first n ++ zs) row

-- and so are the gaps
gaps_kept : (layout : Layout) (xs row : List ℕ) (r : ℕ) → layout.width ≤ layout.step → length row ≡ layout.width → r * layout.step + layout.width ≤ length xs → KeepsGaps layout xs (put (r * layout.step) row xs)
gaps_kept layout xs row r apart long inside = λ k far.
    item_kept xs row (r * layout.step) (r * layout.step + length row) k refl (omega (arith, long, inside)) (λ from before.
    let low : k - r * layout.step < layout.step = omega (arith, from, before, long, apart) in
    let back : r * layout.step + (k - r * layout.step) ≡ k = omega (arith, from) in
    let column : k % layout.step ≡ k - r * layout.step = ap (λ (n : ℕ). n % layout.step) (sym back) ∙ mod-mul-add r layout.step (k - r * layout.step) low in
    omega (arith, column, far, before, long))

-- The first rows of plane c have their tints, and all that is not of this plane is as it was.
pub record IsPut (layout : Layout) (tints before now : List ℕ) (c y : ℕ) : Type 0 where
  pub here : rows_in layout now (c * layout.height) y ≡ take (y * layout.width) tints
  pub earlier : (j : ℕ) → j < c → tints_in layout now j ≡ tints_in layout before j
  pub gaps : KeepsGaps layout before now

-- one more row
pub put_more : (layout : Layout) (tints before now after row : List ℕ) (c y : ℕ) → layout.width ≤ layout.step → y < layout.height → (c * layout.height + layout.height) * layout.step ≤ length now → length row ≡ layout.width → row ≡ slice_range tints (y * layout.width) (y * layout.width + layout.width) → after ≡ put ((c * layout.height + y) * layout.step) row now → IsPut layout tints before now c y → IsPut layout tints before after c (y + 1)
put_more layout tints before now after row c y apart ly inside long is put_in h =
    let r = c * layout.height + y in
    let fits : r * layout.step + layout.width ≤ length now = row_inside r (c * layout.height + layout.height) layout.step layout.width (length now) (omega (arith, ly)) apart inside in
    let from : r * layout.step ≤ length now = omega (arith, fits) in
    let new = put (r * layout.step) row now in
    let done : rows_in layout new (c * layout.height) y ≡ take (y * layout.width) tints = rows_kept layout now (row ++ drop (r * layout.step + length row) now) (r * layout.step) (c * layout.height) y apart (omega arith) from ∙ h.here in
    let next : row_in layout new r ≡ row = part_here now row (drop (r * layout.step + length row) now) (r * layout.step) (r * layout.step + layout.width) from (omega (arith, long)) in
    let both : rows_in layout new (c * layout.height) y ++ row_in layout new r ≡ take (y * layout.width + layout.width) tints = ap (λ (zs : List ℕ). zs ++ row_in layout new r) done ∙ (ap (λ (zs : List ℕ). take (y * layout.width) tints ++ zs) (next ∙ is) ∙ sym (prefix_more tints (y * layout.width) (y * layout.width + layout.width) (omega arith))) in
    let more : y * layout.width + layout.width ≡ (y + 1) * layout.width = omega arith in
    subst (λ (s : List ℕ). IsPut layout tints before s c (y + 1)) (sym put_in) (record {
      here = rw (add-one y) (both ∙ ap (λ (n : ℕ). take n tints) (omega arith));
      earlier = λ j lj. rows_kept layout now (row ++ drop (r * layout.step + length row) now) (r * layout.step) (j * layout.height) layout.height apart (omega (arith, times_le (j * layout.height + layout.height) (c * layout.height + y) layout.step (omega (arith, plane_before j c layout.height lj)))) from ∙ h.earlier j lj;
      gaps = λ k far. gaps_kept layout now row r apart long fits k far ∙ h.gaps k far;
    })

-- a row of tints
pub tint_row : (layout : Layout) (tints : List ℕ) (y : ℕ) → y < layout.height → length tints ≡ size layout → length (slice_range tints (y * layout.width) (y * layout.width + layout.width)) ≡ layout.width
tint_row layout tints y ly long =
    let fits : y * layout.width + layout.width ≤ length tints = row_inside y layout.height layout.width layout.width (length tints) ly (omega arith) (omega (arith, long)) in
    omega (arith, length-between tints (y * layout.width) (y * layout.width + layout.width) fits)
