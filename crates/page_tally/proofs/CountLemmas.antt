-- Counts over the first samples of a page, one more sample or one more row at a time.
use Rattle.std.proofs.Common.{◌≡◌, ℕ, zero, suc, ◌+◌, ◌*◌, ◌^◌, ◌<◌, ◌≤◌, Bool, true, false, ◌&&◌, ◌||◌, not, inl, inr, refl, sym, ◌∙◌, ap, subst, arith, List, length, slice_index, slice_set, if◌then◌else◌, add-one, add-suc, add-zero}
use Rattle.std.specs.Prelude.{◌==◌}
use Rattle.std.proofs.Math.Nat.{mul-le-mul_left}
use Rattle.std.proofs.lemmas.Bool.{cases_Bool, cases_eq, eq-eqb, eqb-true, false_from_ne_true}
use Rattle.std.proofs.lemmas.List.{get_or-set_same, get_or-set_other, length-set}
use Rattle.page_model.specs.declared.parts.At.{At}
use Rattle.page_model.specs.declared.parts.PageParts.{PageParts}
use Rattle.page_model.specs.Conditions.{IsPage}
use Rattle.page_model.specs.Counts.{plate_changes, plate_changed, sample_changes, zone_changed, zone_samples}
use Rattle.page_model.specs.Page.{height, plates, sample_at, samples, tint, width}
use Rattle.page_model.specs.Tints.{new}
use Rattle.page_model.specs.Zones.{zone_of}
use Rattle.page_model.proofs.PageLemmas.{plane_of}
use Rattle.page_model.proofs.ZoneLemmas.{zone_of-is}
use Rattle.lists.specs.Words.{any_below, count_below, list_below}
use Rattle.lists.proofs.ListBelow.{list_below-from}
use Rattle.page_tally.proofs.StandingLemmas.{next_row}
use Rattle.page_tally.proofs.StandingLemmas.{numbered}
use Rattle.page_tally.specs.Standing.{ArePlatesCounted, AreSamplesCounted, AreZonesCounted, IsPlateRow, IsTintRow, KeepsRow}

pub zone_known : (page : PageParts) (p : At) → IsPage page → zone_of page p < length page.zones
zone_known page p valid = (zone_of-is page p valid).known

pub count_below-le : (test : ℕ → Bool) (n : ℕ) → count_below test n ≤ n
count_below-le test zero = omega arith
count_below-le test (suc n) = elim (cases_Bool (test n)) [
  | inl t ↦ rw t (omega (arith, count_below-le test n))
  | inr f ↦ rw f (omega (arith, count_below-le test n))
]

pub count_below-ext : (f g : ℕ → Bool) (n : ℕ) → ((k : ℕ) → k < n → f k ≡ g k) → count_below f n ≡ count_below g n
count_below-ext f g zero h = refl
count_below-ext f g (suc n) h = ap (λ (c : ℕ). c + (if f n then 1 else 0)) (count_below-ext f g n (λ k l. h k (omega (arith, l)))) ∙ ap (λ (b : Bool). count_below g n + (if b then 1 else 0)) (h n (omega arith))

-- the first n, and then m more
pub count_below-add : (f : ℕ → Bool) (n m : ℕ) → count_below f (n + m) ≡ count_below f n + count_below (λ k. f (n + k)) m
count_below-add f n zero = rw add-zero (omega arith)
count_below-add f n (suc m) = rw add-suc (omega (arith, count_below-add f n m))

pub count_none : (f : ℕ → Bool) (m : ℕ) → ((k : ℕ) → k < m → f k ≡ false) → count_below f m ≡ 0
count_none f zero h = refl
count_none f (suc m) h = rw (h m (omega arith)) (omega (arith, count_none f m (λ k l. h k (omega (arith, l)))))

-- none of so many that are counted as none
pub none_counted : (f : ℕ → Bool) (m : ℕ) → count_below f m ≡ 0 → (k : ℕ) → k < m → f k ≡ false
none_counted f zero e k l = absurd (omega (arith, l))
none_counted f (suc m) e k l = elim (cases_Bool (f m)) [
  | inl t ↦ (let some : count_below f m + 1 ≡ 0 = rw t at e in absurd (omega (arith, some)))
  | inr n ↦ (let fewer : count_below f m + 0 ≡ 0 = rw n at e in
      elim (cases_eq k m) [
        | inl q ↦ rw q n
        | inr ne ↦ none_counted f m (omega (arith, fewer)) k (omega (arith, l, ne))
      ])
]

-- a row of which none is counted
row_none : (f : ℕ → Bool) (y w : ℕ) → ((x : ℕ) → x < w → f (y * w + x) ≡ false) → count_below f ((y + 1) * w) ≡ count_below f (y * w)
row_none f y w h = ap (count_below f) (sym (next_row y w)) ∙ count_below-add f (y * w) w ∙ omega (arith, count_none (λ x. f (y * w + x)) w h)

other : (a z : ℕ) → (z ≡ a → ⊥) → (a == z) ≡ false
other a z ne = false_from_ne_true (a == z) (λ p. ne (sym (eqb-true _ _ p)))

-- one more item is counted at its own number, beside those that were counted before
tallied : (of : ℕ → ℕ) (test : ℕ → Bool) (base : ℕ → ℕ) (counts : List ℕ) (n k a v : ℕ) → a ≡ of k → length counts ≡ n → a < n → test k ≡ true → v ≡ slice_index counts a + 1 → ((z : ℕ) → z < n → slice_index counts z + base z ≡ count_below (λ i. (of i == z) && test i) k) → (z : ℕ) → z < n → slice_index (slice_set counts a v) z + base z ≡ count_below (λ i. (of i == z) && test i) (k + 1)
tallied of test base counts n k a v ea long inside passes ev before z l = rw add-one (elim (cases_eq z a) [
  | inl e ↦ (let same : (of k == z) ≡ true = eq-eqb _ _ (sym ea ∙ sym e) in
      let old = before z l in
      let here : slice_index (slice_set counts a v) z ≡ v = ap (slice_index (slice_set counts a v)) e ∙ get_or-set_same counts a v 0 (omega (arith, inside, long)) in
      let value : v ≡ slice_index counts z + 1 = ev ∙ ap (λ (i : ℕ). slice_index counts i + 1) (sym e) in
      rw (same, passes) (omega (arith, here, value, old)))
  | inr ne ↦ rw (other (of k) z (λ q. ne (q ∙ sym ea))) (omega (arith, get_or-set_other counts a z v 0 ne, before z l))
])

-- an item that does not pass is not counted
passed_over : (of : ℕ → ℕ) (test : ℕ → Bool) (base : ℕ → ℕ) (counts : List ℕ) (n k : ℕ) → test k ≡ false → ((z : ℕ) → z < n → slice_index counts z + base z ≡ count_below (λ i. (of i == z) && test i) k) → (z : ℕ) → z < n → slice_index counts z + base z ≡ count_below (λ i. (of i == z) && test i) (k + 1)
passed_over of test base counts n k fails before z l = rw add-one (before z l ∙ skip ((of k == z)) (test k) fails) where
  skip : (a b : Bool) → b ≡ false → count_below (λ i. (of i == z) && test i) k ≡ count_below (λ i. (of i == z) && test i) k + (if a && b then 1 else 0)
  skip true b e = rw e (omega arith)
  skip false b e = omega arith

pub count_fits : (counts : List ℕ) (a k b : ℕ) (test : ℕ → Bool) → k ≤ 2 ^ 28 → slice_index counts a + b ≡ count_below test k → slice_index counts a + 1 < 2 ^ 64
count_fits counts a k b test few e = omega (arith, count_below-le test k, few, e)

also_true : (b : Bool) → (b && true) ≡ b
also_true true = refl
also_true false = refl

-- the samples of a page are few enough

pub few_samples : (page : PageParts) (y x : ℕ) → IsPage page → y < height page → x ≤ width page → y * width page + x ≤ 2 ^ 28
few_samples page y x valid ly lx =
    let plane = plane_of page 0 valid valid.parts.some_plates in
    let rows : (y + 1) * width page ≤ (y + 1) * 16384 = mul-le-mul_left (y + 1) plane.narrow in
    omega (arith, rows, lx, ly, plane.low)

-- what changes in a row

pub changes_here : (page : PageParts) (before after : List ℕ) (y c x : ℕ) → slice_index before x ≡ tint page c (record { x = x; y = y }) → slice_index after x ≡ new page (record { x = x; y = y }) c → not (slice_index after x == slice_index before x) ≡ plate_changes page c (record { x = x; y = y })
changes_here page before after y c x b a = ap (λ (n : ℕ). not (n == slice_index before x)) a ∙ ap (λ (n : ℕ). not (new page (record { x = x; y = y }) c == n)) b

pub row_differences : (page : PageParts) (before after : List ℕ) (y c n : ℕ) → n ≡ width page → ((x : ℕ) → x < width page → slice_index before x ≡ tint page c (record { x = x; y = y })) → ((x : ℕ) → x < width page → slice_index after x ≡ new page (record { x = x; y = y }) c) → count_below (λ k. not (slice_index after k == slice_index before k)) n ≡ count_below (λ x. plate_changes page c (record { x = x; y = y })) (width page)
row_differences page before after y c n en b a = ap (count_below (λ k. not (slice_index after k == slice_index before k))) en ∙ count_below-ext (λ k. not (slice_index after k == slice_index before k)) (λ x. plate_changes page c (record { x = x; y = y })) (width page) (λ x l. changes_here page before after y c x (b x l) (a x l))

-- and in one that is the same
pub row_alike : (page : PageParts) (before after : List ℕ) (y c : ℕ) → before ≡ after → IsTintRow page y c before → IsPlateRow page y c after → 0 ≡ count_below (λ x. plate_changes page c (record { x = x; y = y })) (width page)
row_alike page before after y c e b a = sym (count_none (λ x. plate_changes page c (record { x = x; y = y })) (width page) (λ x l. ap not (eq-eqb _ _ (sym (a.each x l) ∙ (ap (λ (xs : List ℕ). slice_index xs x) (sym e) ∙ b.each x l)))))

-- how many places of two rows differ, one block further
pub block_counted : (before after one other : List ℕ) (from size more n : ℕ) → length other ≡ size → ((k : ℕ) → k < size → slice_index one k ≡ slice_index before (from + k)) → ((k : ℕ) → k < size → slice_index other k ≡ slice_index after (from + k)) → more ≡ count_below (λ k. not (slice_index other k == slice_index one k)) (length other) → n ≡ count_below (λ k. not (slice_index after k == slice_index before k)) from → n + more ≡ count_below (λ k. not (slice_index after k == slice_index before k)) (from + size)
block_counted before after one other from size more n long b a em en =
    let f : ℕ → Bool = λ k. not (slice_index after k == slice_index before k) in
    let g : ℕ → Bool = λ k. not (slice_index other k == slice_index one k) in
    let same : count_below g size ≡ count_below (λ k. f (from + k)) size = count_below-ext g (λ k. f (from + k)) size (λ k l. ap (λ (x : ℕ). not (x == slice_index one k)) (a k l) ∙ ap (λ (x : ℕ). not (slice_index after (from + k) == x)) (b k l)) in
    omega (arith, em, ap (count_below g) long, same, count_below-add f from size, en)

-- where both rows are the same nothing changes
pub alike_here : (page : PageParts) (before after : List ℕ) (y c x : ℕ) → before ≡ after → slice_index before x ≡ tint page c (record { x = x; y = y }) → slice_index after x ≡ new page (record { x = x; y = y }) c → plate_changes page c (record { x = x; y = y }) ≡ false
alike_here page before after y c x e b a = ap not (eq-eqb _ _ (sym a ∙ (ap (λ (xs : List ℕ). slice_index xs x) (sym e) ∙ b)))

pub or_none : (b p : Bool) → p ≡ false → b ≡ (b || p)
or_none true p e = refl
or_none false p e = sym e

-- a plate's count, one row further
pub row_counted : (page : PageParts) (y c old more : ℕ) → old ≡ count_below (λ k. plate_changes page c (sample_at page k)) (y * width page) → more ≡ count_below (λ x. plate_changes page c (record { x = x; y = y })) (width page) → old + more ≡ count_below (λ k. plate_changes page c (sample_at page k)) ((y + 1) * width page)
row_counted page y c old more eo em =
    let f : ℕ → Bool = λ k. plate_changes page c (sample_at page k) in
    let same : count_below (λ x. plate_changes page c (record { x = x; y = y })) (width page) ≡ count_below (λ x. f (y * width page + x)) (width page) = count_below-ext (λ x. plate_changes page c (record { x = x; y = y })) (λ x. f (y * width page + x)) (width page) (λ x l. ap (plate_changes page c) (sym (numbered page y x l))) in
    let sum : count_below f ((y + 1) * width page) ≡ count_below f (y * width page) + count_below (λ x. f (y * width page + x)) (width page) = ap (count_below f) (sym (next_row y (width page))) ∙ count_below-add f (y * width page) (width page) in
    omega (arith, eo, em, same, sum)

-- the first c plates are counted one row further than the others
pub record AreCounting (page : PageParts) (y c : ℕ) (counts : List ℕ) : Type 0 where
  pub long : length counts ≡ plates page
  pub done : (j : ℕ) → j < c → j < plates page → slice_index counts j ≡ count_below (λ k. plate_changes page j (sample_at page k)) ((y + 1) * width page)
  pub rest : (j : ℕ) → c ≤ j → j < plates page → slice_index counts j ≡ count_below (λ k. plate_changes page j (sample_at page k)) (y * width page)

pub counting_next : (page : PageParts) (y c v more : ℕ) (counts : List ℕ) → c < plates page → v ≡ slice_index counts c + more → more ≡ count_below (λ x. plate_changes page c (record { x = x; y = y })) (width page) → AreCounting page y c counts → AreCounting page y (c + 1) (slice_set counts c v)
counting_next page y c v more counts lc ev em h = record {
  long = length-set counts c v ∙ h.long;
  done = λ j l lj. elim (cases_eq j c) [
    | inl e ↦ rw e (get_or-set_same counts c v 0 (omega (arith, h.long, lc)) ∙ ev ∙ row_counted page y c (slice_index counts c) more (h.rest c (omega arith) lc) em)
    | inr ne ↦ get_or-set_other counts c j v 0 ne ∙ h.done j (omega (arith, l, ne)) lj
  ];
  rest = λ j a lj. get_or-set_other counts c j v 0 (λ e. omega (arith, e, a)) ∙ h.rest j (omega (arith, a)) lj;
}

pub counting_fits : (page : PageParts) (y c more : ℕ) (counts : List ℕ) → IsPage page → y < height page → c < plates page → more ≤ width page → AreCounting page y c counts → slice_index counts c + more < 2 ^ 64
counting_fits page y c more counts valid ly lc few h =
    let plane = plane_of page 0 valid valid.parts.some_plates in
    omega (arith, h.rest c (omega arith) lc, count_below-le (λ k. plate_changes page c (sample_at page k)) (y * width page), few_samples page y 0 valid ly (omega arith), few, plane.narrow)

-- one more sample of a row

-- what the rows before `first` have
abbrev changed_before : PageParts → ℕ → ℕ → ℕ
changed_before page first z = count_below (λ i. (zone_of page (sample_at page i) == z) && sample_changes page (sample_at page i)) (first * width page)

abbrev samples_before : PageParts → ℕ → ℕ → ℕ
samples_before page first z = count_below (λ i. zone_of page (sample_at page i) == z) (first * width page)

pub zone_passed : (page : PageParts) (first y x : ℕ) (counts : List ℕ) → x < width page → sample_changes page (record { x = x; y = y }) ≡ false → AreZonesCounted page first (y * width page + x) counts → AreZonesCounted page first (y * width page + x + 1) counts
zone_passed page first y x counts lx fails h = record {
  long = h.long;
  each = passed_over (λ i. zone_of page (sample_at page i)) (λ i. sample_changes page (sample_at page i)) (changed_before page first) counts (length page.zones) (y * width page + x) (ap (sample_changes page) (numbered page y x lx) ∙ fails) h.each;
}

pub zone_tallied : (page : PageParts) (first y x a v : ℕ) (counts : List ℕ) → IsPage page → x < width page → a ≡ zone_of page (record { x = x; y = y }) → sample_changes page (record { x = x; y = y }) ≡ true → v ≡ slice_index counts a + 1 → AreZonesCounted page first (y * width page + x) counts → AreZonesCounted page first (y * width page + x + 1) (slice_set counts a v)
zone_tallied page first y x a v counts valid lx ea passes ev h = record {
  long = length-set counts a v ∙ h.long;
  each = tallied (λ i. zone_of page (sample_at page i)) (λ i. sample_changes page (sample_at page i)) (changed_before page first) counts (length page.zones) (y * width page + x) a v (ea ∙ ap (zone_of page) (sym (numbered page y x lx))) h.long (rw ea (zone_known page (record { x = x; y = y }) valid)) (ap (sample_changes page) (numbered page y x lx) ∙ passes) ev h.each;
}

pub zone_fits : (page : PageParts) (first y x a : ℕ) (counts : List ℕ) → IsPage page → y < height page → x < width page → a < length page.zones → AreZonesCounted page first (y * width page + x) counts → slice_index counts a + 1 < 2 ^ 64
zone_fits page first y x a counts valid ly lx la h = count_fits counts a (y * width page + x) _ _ (few_samples page y x valid ly (omega (arith, lx))) (h.each a la)

-- and of its zone

with_true : (page : PageParts) (z n : ℕ) → count_below (λ i. (zone_of page (sample_at page i) == z) && true) n ≡ count_below (λ i. zone_of page (sample_at page i) == z) n
with_true page z n = count_below-ext (λ i. (zone_of page (sample_at page i) == z) && true) (λ i. zone_of page (sample_at page i) == z) n (λ k _. also_true (zone_of page (sample_at page k) == z))

pub sample_tallied : (page : PageParts) (first y x a v : ℕ) (counts : List ℕ) → IsPage page → x < width page → a ≡ zone_of page (record { x = x; y = y }) → v ≡ slice_index counts a + 1 → AreSamplesCounted page first (y * width page + x) counts → AreSamplesCounted page first (y * width page + x + 1) (slice_set counts a v)
sample_tallied page first y x a v counts valid lx ea ev h = record {
  long = length-set counts a v ∙ h.long;
  each = λ z l. tallied (λ i. zone_of page (sample_at page i)) (λ i. true) (samples_before page first) counts (length page.zones) (y * width page + x) a v (ea ∙ ap (zone_of page) (sym (numbered page y x lx))) h.long (rw ea (zone_known page (record { x = x; y = y }) valid)) refl ev (λ b lb. h.each b lb ∙ sym (with_true page b (y * width page + x))) z l ∙ with_true page z (y * width page + x + 1);
}

pub sample_fits : (page : PageParts) (first y x a : ℕ) (counts : List ℕ) → IsPage page → y < height page → x < width page → a < length page.zones → AreSamplesCounted page first (y * width page + x) counts → slice_index counts a + 1 < 2 ^ 64
sample_fits page first y x a counts valid ly lx la h = count_fits counts a (y * width page + x) _ _ (few_samples page y x valid ly (omega (arith, lx))) (h.each a la)

-- a run of samples that lie in one zone

count_all : (f : ℕ → Bool) (m : ℕ) → ((k : ℕ) → k < m → f k ≡ true) → count_below f m ≡ m
count_all f zero h = refl
count_all f (suc m) h = rw (h m (omega arith)) (omega (arith, count_all f m (λ k l. h k (omega (arith, l)))))

in_zone : (page : PageParts) (y x k z : ℕ) → x + k < width page → zone_of page (sample_at page (y * width page + x + k)) ≡ zone_of page (record { x = x + k; y = y })
in_zone page y x k z l = ap (zone_of page) (ap (sample_at page) (let e : y * width page + x + k ≡ y * width page + (x + k) = omega arith in e) ∙ numbered page y (x + k) l)

pub run_tallied : (page : PageParts) (first y x n a v : ℕ) (counts : List ℕ) → IsPage page → 0 < n → x + n ≤ width page → a ≡ zone_of page (record { x = x; y = y }) → ((k : ℕ) → k < n → zone_of page (record { x = x + k; y = y }) ≡ zone_of page (record { x = x; y = y })) → v ≡ slice_index counts a + n → AreSamplesCounted page first (y * width page + x) counts → AreSamplesCounted page first (y * width page + (x + n)) (slice_set counts a v)
run_tallied page first y x n a v counts valid some inside ea alike ev h = record {
  long = length-set counts a v ∙ h.long;
  each = λ z l. elim (cases_eq z a) [
    | inl e ↦ (let here : slice_index (slice_set counts a v) z ≡ v = ap (slice_index (slice_set counts a v)) e ∙ get_or-set_same counts a v 0 (rw ea (rw h.long (zone_known page (record { x = x; y = y }) valid))) in
        let value : v ≡ slice_index counts z + n = ev ∙ ap (λ (i : ℕ). slice_index counts i + n) (sym e) in
        let all = count_all (λ k. zone_of page (sample_at page (y * width page + x + k)) == z) n (λ k m. eq-eqb _ _ (in_zone page y x k z (omega (arith, m, inside)) ∙ (alike k m ∙ (sym ea ∙ sym e)))) in
        omega (arith, here, value, h.each z l, all, more z))
    | inr ne ↦ (let none = count_none (λ k. zone_of page (sample_at page (y * width page + x + k)) == z) n (λ k m. other _ z (λ q. ne (q ∙ (in_zone page y x k z (omega (arith, m, inside)) ∙ (alike k m ∙ sym ea))))) in
        omega (arith, get_or-set_other counts a z v 0 ne, h.each z l, none, more z))
  ];
} where
  more : (z : ℕ) → count_below (λ i. zone_of page (sample_at page i) == z) (y * width page + (x + n)) ≡ count_below (λ i. zone_of page (sample_at page i) == z) (y * width page + x) + count_below (λ k. zone_of page (sample_at page (y * width page + x + k)) == z) n
  more z = ap (count_below (λ i. zone_of page (sample_at page i) == z)) (let e : y * width page + (x + n) ≡ y * width page + x + n = omega arith in e) ∙ count_below-add (λ i. zone_of page (sample_at page i) == z) (y * width page + x) n

pub run_fits : (page : PageParts) (first y x n a : ℕ) (counts : List ℕ) → IsPage page → y < height page → x + n ≤ width page → a < length page.zones → AreSamplesCounted page first (y * width page + x) counts → slice_index counts a + n < 2 ^ 64
run_fits page first y x n a counts valid ly inside la h =
    let plane = plane_of page 0 valid valid.parts.some_plates in
    omega (arith, h.each a la, count_below-le (λ i. zone_of page (sample_at page i) == a) (y * width page + x), few_samples page y x valid ly (omega (arith, inside)), inside, plane.narrow)

-- a run of samples that do not change
pub run_passed : (page : PageParts) (first y x n : ℕ) (counts : List ℕ) → x + n ≤ width page → ((k : ℕ) → k < n → sample_changes page (record { x = x + k; y = y }) ≡ false) → AreZonesCounted page first (y * width page + x) counts → AreZonesCounted page first (y * width page + (x + n)) counts
run_passed page first y x zero counts inside quiet h = subst (λ (i : ℕ). AreZonesCounted page first (y * width page + i) counts) (let e : x ≡ x + 0 = omega arith in e) h
run_passed page first y x (suc n) counts inside quiet h =
    subst (λ (i : ℕ). AreZonesCounted page first i counts) (let e : y * width page + (x + n) + 1 ≡ y * width page + (x + suc n) = omega arith in e)
    (zone_passed page first y (x + n) counts (omega (arith, inside)) (quiet n (omega arith)) (run_passed page first y x n counts (omega (arith, inside)) (λ k l. quiet k (omega (arith, l))) h))

-- a quiet row

unchanged : (page : PageParts) (p : At) (c : ℕ) → new page p c ≡ tint page c p → plate_changes page c p ≡ false
unchanged page p c keep = ap not (eq-eqb _ _ keep)

none_below : (test : ℕ → Bool) (n : ℕ) → ((c : ℕ) → c < n → test c ≡ false) → any_below test n ≡ false
none_below test zero h = refl
none_below test (suc n) h = rw (none_below test n (λ c l. h c (omega (arith, l))), h n (omega arith)) refl

both_false : (a b : Bool) → b ≡ false → (a && b) ≡ false
both_false true b e = e
both_false false b e = refl

pub plates_quiet : (page : PageParts) (y : ℕ) (counts : List ℕ) → KeepsRow page y → ArePlatesCounted page (y * width page) counts → ArePlatesCounted page ((y + 1) * width page) counts
plates_quiet page y counts keep h = record {
  long = h.long;
  each = λ c l. h.each c l ∙ sym (row_none (λ k. plate_changes page c (sample_at page k)) y (width page) (λ x lx. ap (plate_changes page c) (numbered page y x lx) ∙ unchanged page (record { x = x; y = y }) c (keep c x l lx)));
}

pub zones_quiet : (page : PageParts) (first y : ℕ) (counts : List ℕ) → KeepsRow page y → AreZonesCounted page first (y * width page) counts → AreZonesCounted page first ((y + 1) * width page) counts
zones_quiet page first y counts keep h = record {
  long = h.long;
  each = λ z l. h.each z l ∙ sym (row_none (λ i. (zone_of page (sample_at page i) == z) && sample_changes page (sample_at page i)) y (width page) (λ x lx. both_false (zone_of page (sample_at page (y * width page + x)) == z) (sample_changes page (sample_at page (y * width page + x))) (ap (sample_changes page) (numbered page y x lx) ∙ none_below (λ c. plate_changes page c (record { x = x; y = y })) (plates page) (λ c lc. unchanged page (record { x = x; y = y }) c (keep c x lc lx)))));
}

-- the counts of the whole page

-- before row 0 nothing is counted
none_before : (f : ℕ → Bool) (w a b : ℕ) → a + count_below f (0 * w) ≡ b → a ≡ b
none_before f w a b e = (let none : 0 * w ≡ 0 = omega arith in omega (arith, e, ap (count_below f) none))

pub plates_whole : (page : PageParts) (counts : List ℕ) → ArePlatesCounted page (height page * width page) counts → counts ≡ list_below (plate_changed page) (plates page)
plates_whole page counts h = list_below-from (plate_changed page) (plates page) counts h.long (λ c l. h.each c l ∙ ap (count_below (λ k. plate_changes page c (sample_at page k))) (let all : height page * width page ≡ samples page = omega arith in all))

pub zones_whole : (page : PageParts) (counts : List ℕ) → AreZonesCounted page 0 (height page * width page) counts → counts ≡ list_below (zone_changed page) (length page.zones)
zones_whole page counts h = list_below-from (zone_changed page) (length page.zones) counts h.long (λ z l. none_before _ (width page) _ _ (h.each z l) ∙ ap (count_below (λ k. (zone_of page (sample_at page k) == z) && sample_changes page (sample_at page k))) (let all : height page * width page ≡ samples page = omega arith in all))

pub samples_whole : (page : PageParts) (counts : List ℕ) → AreSamplesCounted page 0 (height page * width page) counts → counts ≡ list_below (zone_samples page) (length page.zones)
samples_whole page counts h = list_below-from (zone_samples page) (length page.zones) counts h.long (λ z l. none_before _ (width page) _ _ (h.each z l) ∙ ap (count_below (λ k. zone_of page (sample_at page k) == z)) (let all : height page * width page ≡ samples page = omega arith in all))

-- a row is counted to its end
pub counted_row : (page : PageParts) (first y x : ℕ) (counts : List ℕ) → x ≡ width page → AreZonesCounted page first (y * width page + x) counts → AreZonesCounted page first ((y + 1) * width page) counts
counted_row page first y x counts e h = subst (λ (n : ℕ). AreZonesCounted page first n counts) (let all : y * width page + x ≡ (y + 1) * width page = omega (arith, e) in all) h

pub samples_row : (page : PageParts) (first y x : ℕ) (counts : List ℕ) → x ≡ width page → AreSamplesCounted page first (y * width page + x) counts → AreSamplesCounted page first ((y + 1) * width page) counts
samples_row page first y x counts e h = subst (λ (n : ℕ). AreSamplesCounted page first n counts) (let all : y * width page + x ≡ (y + 1) * width page = omega (arith, e) in all) h
