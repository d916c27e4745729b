-- Runs put on planes, one after another.
use Rattle.std.proofs.Common.{◌≡◌, ℕ, zero, suc, ◌+◌, ◌-◌, ◌*◌, ◌/◌, ◌%◌, ◌<◌, ◌≤◌, Bool, true, false, nat_eq, nat_le, nat_lt, List, [], ◌∷◌, ◌++◌, length, slice_index, find, set, slice_get, Option, Some, None, refl, sym, ap, ◌∙◌, inl, inr, arith, subst}
use Rattle.std.specs.List.{All}
use Rattle.std.specs.Option.{MatchOption}
use Rattle.std.proofs.lemmas.Bool.{cases_Bool, cases_lt, cases_eq, and_parts, and_from, leb-true, le-leb, ltb-true, lt-ltb, eqb-true, eq-eqb, both_ways}
use Rattle.std.proofs.lemmas.List.{length-set, get_or-set_same, get_or-set_other}
use Rattle.std.proofs.lemmas.Nat.{div-add-mod', div-mul-add, mod-mul-add}
use Rattle.std.proofs.Math.Nat.{mul-le-mul}
use Rattle.lists.specs.Words.{list_below, or_else}
use Rattle.lists.proofs.ListBelow.{length-list_below, list_below-at, list_below-of, list_below-from, all_below}
use Rattle.page_model.specs.declared.parts.Plane.{Plane}
use Rattle.page_model.specs.Planes.{plane_at, no_plane, tints_of}
use Rattle.trap_set.specs.Applied.{covering, tint_by, applied_plane, applied}
use Rattle.trap_set.specs.Applying.{Fits, IsSized, IsFull, KeepsPlane, KeepsPlanes, IsBelow}
use Rattle.trap_set.specs.Runs.{Run, covers}
use Rattle.trap_set.specs.SetText.{SetHead, IsHead, IsRun, Follows}
use Rattle.trap_set.proofs.RunLemmas.{same_plane, find_both, applied_count, applied_at}

-- no run changes nothing
plane_kept : (c : ℕ) (plane : Plane) → applied_plane [] c plane ≡ plane
plane_kept c plane = sym (same_plane plane (applied_plane [] c plane) refl refl refl (list_below-from (slice_index plane.tints) (length plane.tints) plane.tints refl (λ k l. refl)))

pub applied_none : (planes : List Plane) → applied [] planes ≡ planes
applied_none planes = sym (list_below-of no_plane (λ c. applied_plane [] c (plane_at planes c)) (length planes) planes refl (λ c l. sym (plane_kept c (plane_at planes c))))

-- a run that follows another covers none of its samples
apart : (earlier later : Run) (x y : ℕ) → Follows earlier later → covers earlier x y ≡ true → covers later x y ≡ true → ⊥
apart earlier later x y f one two =
    let a = and_parts (nat_eq earlier.y y) _ one in
    let b = and_parts (nat_eq later.y y) _ two in
    let rows = eqb-true earlier.y y a.0 in
    let rows2 = eqb-true later.y y b.0 in
    let p = and_parts (nat_le earlier.x x) (nat_lt x (earlier.x + earlier.count)) a.1 in
    let q = and_parts (nat_le later.x x) (nat_lt x (later.x + later.count)) b.1 in
    let high = ltb-true x (earlier.x + earlier.count) p.1 in
    let low = leb-true later.x x q.0 in
    by f rows rows2 high low where
      by : Follows earlier later → earlier.y ≡ y → later.y ≡ y → x < earlier.x + earlier.count → later.x ≤ x → ⊥
      by (inl less) rows rows2 high low = omega (arith, less, rows, rows2)
      by (inr (same, after)) rows rows2 high low = omega (arith, after, high, low)

-- what is found in a list has what all of it have
found_has : (P : Run → Type 0) (test : Run → Bool) (runs : List Run) → All P runs → MatchOption (find test runs) (Unit {0}) (λ run. P run × (test run ≡ true))
found_has P test [] h = tt
found_has P test (run ∷ runs) h = elim (cases_Bool (test run)) [
  | inl t ↦ rw t (h 0 run (omega arith), t)
  | inr f ↦ rw f (found_has P test runs (λ k d l. h (suc k) d (omega arith)))
]

-- one run more
tint_more : (runs : List Run) (run : Run) (x y c tint : ℕ) → All (λ earlier. Follows earlier run) runs → tint_by (covering (runs ++ run ∷ []) x y) c tint ≡ tint_by (covering (run ∷ []) x y) c (tint_by (covering runs x y) c tint)
tint_more runs run x y c tint h =
    ap (λ (o : Option Run). tint_by o c tint) (find_both (λ r. covers r x y) runs (run ∷ []))
    ∙ by (covering runs x y) (found_has (λ earlier. Follows earlier run) (λ r. covers r x y) runs h) where
      by : (o : Option Run) → MatchOption o (Unit {0}) (λ earlier. Follows earlier run × (covers earlier x y ≡ true)) → tint_by (or_else o (covering (run ∷ []) x y)) c tint ≡ tint_by (covering (run ∷ []) x y) c (tint_by o c tint)
      by None none = refl
      by (Some earlier) (f, cover) = elim (cases_Bool (covers run x y)) [
        | inl t ↦ absurd (apart earlier run x y f cover t)
        | inr n ↦ rw n refl
      ]

plane_more : (runs : List Run) (run : Run) (c : ℕ) (plane : Plane) → All (λ earlier. Follows earlier run) runs → applied_plane (run ∷ []) c (applied_plane runs c plane) ≡ applied_plane (runs ++ run ∷ []) c plane
plane_more runs run c plane h =
    let w = plane.width in
    let n = length plane.tints in
    let tint = λ (k : ℕ). tint_by (covering runs (k % w) (k / w)) c (slice_index plane.tints k) in
    let long : length (list_below tint n) ≡ n = length-list_below tint n in
    let more = λ (k : ℕ). tint_by (covering (run ∷ []) (k % w) (k / w)) c (slice_index (list_below tint n) k) in
    let all = λ (k : ℕ). tint_by (covering (runs ++ run ∷ []) (k % w) (k / w)) c (slice_index plane.tints k) in
    let same : list_below more (length (list_below tint n)) ≡ list_below all n =
    list_below-from all n (list_below more (length (list_below tint n))) (length-list_below more (length (list_below tint n)) ∙ long)
    (λ k l.
    list_below-at more (length (list_below tint n)) k 0 (omega (arith, l, long))
    ∙ ap (tint_by (covering (run ∷ []) (k % w) (k / w)) c) (list_below-at tint n k 0 l)
    ∙ sym (tint_more runs run (k % w) (k / w) c (slice_index plane.tints k) h)) in
    same_plane (applied_plane (run ∷ []) c (applied_plane runs c plane)) (applied_plane (runs ++ run ∷ []) c plane) refl refl refl same

pub applied_more : (runs : List Run) (run : Run) (planes : List Plane) → All (λ earlier. Follows earlier run) runs → applied (run ∷ []) (applied runs planes) ≡ applied (runs ++ run ∷ []) planes
applied_more runs run planes h =
    list_below-of no_plane (λ c. applied_plane (runs ++ run ∷ []) c (plane_at planes c)) (length planes) (applied (run ∷ []) (applied runs planes))
    (applied_count (run ∷ []) (applied runs planes) ∙ applied_count runs planes)
    (λ c l.
    applied_at (run ∷ []) (applied runs planes) c (omega (arith, l, applied_count runs planes))
    ∙ ap (applied_plane (run ∷ []) c) (applied_at runs planes c l) ∙ plane_more runs run c (plane_at planes c) h)

-- planes with runs applied are what they were but for their tints
pub applied_keeps : (head : SetHead) (runs : List Run) (planes : List Plane) → All (IsRun head) runs → Fits head planes → KeepsPlanes planes (applied runs planes)
applied_keeps head runs planes within fits = record {
  as_many = applied_count runs planes;
  each = λ c l. subst (KeepsPlane (plane_at planes c)) (sym (applied_at runs planes c l)) (record { as_wide = refl; as_tall = refl; as_deep = refl; as_many = length-list_below _ (length (tints_of planes c)) });
  below = λ h. all_below IsBelow (λ c. applied_plane runs c (plane_at planes c)) (length planes) (λ c l. plane_below c l (h c no_plane l));
} where
  plane_below : (c : ℕ) → c < length planes → IsBelow (plane_at planes c) → IsBelow (applied_plane runs c (plane_at planes c))
  plane_below c l h =
      let plane = plane_at planes c in
      all_below (λ tint. tint ≤ plane.maxval) (λ k. tint_by (covering runs (k % plane.width) (k / plane.width)) c (slice_index plane.tints k)) (length plane.tints)
      (λ k m. by c l (covering runs (k % plane.width) (k / plane.width)) (slice_index plane.tints k) (h k 0 m) (λ r. covers r (k % plane.width) (k / plane.width)) (found_has (IsRun head) (λ r. covers r (k % plane.width) (k / plane.width)) runs within)) where
        by : (d : ℕ) → d < length planes → (o : Option Run) (tint : ℕ) → tint ≤ (plane_at planes d).maxval → (t : Run → Bool) → MatchOption o (Unit {0}) (λ run. IsRun head run × (t run ≡ true)) → tint_by o d tint ≤ (plane_at planes d).maxval
        by d m None tint low t none = low
        by d m (Some run) tint low t (is, test) = omega (arith, is.below d 0 (omega (arith, is.one_each, fits.as_many, m)), (fits.sized d no_plane m).as_deep)

pub keeps_itself : (planes : List Plane) → KeepsPlanes planes planes
keeps_itself planes = record { as_many = refl; each = λ c l. record { as_wide = refl; as_tall = refl; as_deep = refl; as_many = refl }; below = λ h. h }

-- planes that fit go on to fit, with a tint for each sample
pub applied_fits : (head : SetHead) (runs : List Run) (planes : List Plane) → Fits head planes → Fits head (applied runs planes)
applied_fits head runs planes fits = record {
  as_many = applied_count runs planes ∙ fits.as_many;
  sized = all_below (IsSized head) (λ c. applied_plane runs c (plane_at planes c)) (length planes) (λ c l. let s = fits.sized c no_plane l in record { as_wide = s.as_wide; as_tall = s.as_tall; as_deep = s.as_deep });
}

pub applied_full : (runs : List Run) (planes : List Plane) → All IsFull planes → All IsFull (applied runs planes)
applied_full runs planes full = all_below IsFull (λ c. applied_plane runs c (plane_at planes c)) (length planes) (λ c l. length-list_below _ (length (tints_of planes c)) ∙ full c no_plane l)

-- the samples that a run covers, by their places in a plane's list
cover_place : (run : Run) (w k : ℕ) → 0 < w → run.x + run.count ≤ w → run.y * w + run.x ≤ k → k < run.y * w + run.x + run.count → covers run (k % w) (k / w) ≡ true
cover_place run w k some within low high =
    let x = k - run.y * w in
    let in_row : x < w = omega (arith, low, high, within) in
    let place : run.y * w + x ≡ k = omega (arith, low) in
    let across : k % w ≡ x = ap (λ (i : ℕ). i % w) (sym place) ∙ mod-mul-add run.y w x in_row in
    let down : k / w ≡ run.y = ap (λ (i : ℕ). i / w) (sym place) ∙ div-mul-add run.y w x in_row in
    rw (across, down) (and_from (nat_eq run.y run.y) _ (eq-eqb run.y run.y refl) (and_from (nat_le run.x x) _ (le-leb run.x x (omega (arith, low))) (lt-ltb x (run.x + run.count) (omega (arith, low, high)))))

place_covered : (run : Run) (w k : ℕ) → covers run (k % w) (k / w) ≡ true → (run.y * w + run.x ≤ k) × (k < run.y * w + run.x + run.count)
place_covered run w k cover =
    let a = and_parts (nat_eq run.y (k / w)) _ cover in
    let p = and_parts (nat_le run.x (k % w)) (nat_lt (k % w) (run.x + run.count)) a.1 in
    let row = eqb-true run.y (k / w) a.0 in
    let low = leb-true run.x (k % w) p.0 in
    let high = ltb-true (k % w) (run.x + run.count) p.1 in
    let whole : k / w * w + k % w ≡ k = div-add-mod' k w in
    let rows : run.y * w ≡ k / w * w = ap (λ (r : ℕ). r * w) row in
    (omega (arith, low, whole, rows), omega (arith, high, whole, rows))

-- a plane whose tints have been put in those places
pub put_plane : (run : Run) (c : ℕ) (plane : Plane) (tints : List ℕ) → 0 < plane.width → run.x + run.count ≤ plane.width → length tints ≡ length plane.tints
    → ((k : ℕ) → k < run.y * plane.width + run.x → slice_index tints k ≡ slice_index plane.tints k)
    → ((k : ℕ) → run.y * plane.width + run.x ≤ k → k < run.y * plane.width + run.x + run.count → slice_index tints k ≡ slice_index run.tints c)
    → ((k : ℕ) → run.y * plane.width + run.x + run.count ≤ k → slice_index tints k ≡ slice_index plane.tints k)
    → tints ≡ (applied_plane (run ∷ []) c plane).tints
put_plane run c plane tints some within many before here suffix =
    list_below-from (λ k. tint_by (covering (run ∷ []) (k % plane.width) (k / plane.width)) c (slice_index plane.tints k)) (length plane.tints) tints many each where
      outside : (k : ℕ) → covers run (k % plane.width) (k / plane.width) ≡ false → slice_index tints k ≡ slice_index plane.tints k
      outside k f = elim (cases_lt k (run.y * plane.width + run.x)) [
        | inl l ↦ before k l
        | inr past ↦ elim (cases_lt k (run.y * plane.width + run.x + run.count)) [
          | inl l ↦ absurd (both_ways _ f (cover_place run plane.width k some within past l))
          | inr beyond ↦ suffix k beyond
        ]
      ]

      each : (k : ℕ) → k < length plane.tints → slice_index tints k ≡ tint_by (covering (run ∷ []) (k % plane.width) (k / plane.width)) c (slice_index plane.tints k)
      each k l = elim (cases_Bool (covers run (k % plane.width) (k / plane.width))) [
        | inl t ↦ (let range = place_covered run plane.width k t in rw t (here k range.0 range.1))
        | inr f ↦ rw f (outside k f)
      ]

-- planes, one of which is put
pub item_is : (planes : List Plane) (c : ℕ) (plane : Plane) → slice_get planes c ≡ Some plane → plane ≡ plane_at planes c
item_is [] c plane e = absurd (let f : ◌≡◌ {A = Option Plane} None (Some plane) = e in cc)
item_is (first ∷ planes) zero plane e = let f : ◌≡◌ {A = Option Plane} (Some first) (Some plane) = e in cc
item_is (first ∷ planes) (suc c) plane e = item_is planes c plane e

pub few_samples : (head : SetHead) (planes : List Plane) (c : ℕ) → IsHead head → Fits head planes → c < length planes → (plane_at planes c).width * (plane_at planes c).height < 4294967296
few_samples head planes c h fits l =
    let sized = fits.sized c no_plane l in
    let wide : (plane_at planes c).width ≤ 16384 = omega (arith, sized.as_wide, h.narrow) in
    let tall : (plane_at planes c).height ≤ 16384 = omega (arith, sized.as_tall, h.low) in
    omega (arith, mul-le-mul wide tall)

-- what stands after one plane more has its run
pub record PutSoFar (runs : List Run) (c : ℕ) (old planes : List Plane) : Type 0 where
  pub many : length planes ≡ length old
  pub done : (k : ℕ) → k < c → plane_at planes k ≡ applied_plane runs k (plane_at old k)
  pub left : (k : ℕ) → c ≤ k → plane_at planes k ≡ plane_at old k

pub put_more : (runs : List Run) (c : ℕ) (old planes : List Plane) (plane : Plane) → PutSoFar runs c old planes → c < length planes → plane ≡ applied_plane runs c (plane_at planes c) → PutSoFar runs (c + 1) old (set planes c plane)
put_more runs c old planes plane so l is = record {
  many = length-set planes c plane ∙ so.many;
  done = λ k m. elim (cases_eq k c) [
    | inl e ↦ subst (λ (i : ℕ). plane_at (set planes c plane) i ≡ applied_plane runs i (plane_at old i)) (sym e) (get_or-set_same planes c plane no_plane l ∙ is ∙ ap (applied_plane runs c) (so.left c (omega arith)))
    | inr ne ↦ get_or-set_other planes c k plane no_plane ne ∙ so.done k (omega (arith, m, ne))
  ];
  left = λ k m. get_or-set_other planes c k plane no_plane (λ e. omega (arith, m, e)) ∙ so.left k (omega (arith, m));
}

pub put_all : (runs : List Run) (c : ℕ) (old planes : List Plane) → PutSoFar runs c old planes → length old ≤ c → planes ≡ applied runs old
put_all runs c old planes so l = list_below-of no_plane (λ k. applied_plane runs k (plane_at old k)) (length old) planes so.many (λ k m. so.done k (omega (arith, l, m)))
