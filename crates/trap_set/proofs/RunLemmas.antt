-- The runs of what changed cover the samples that changed, each with its new tints, and no others.
use Rattle.std.proofs.Common.{◌≡◌, ℕ, zero, suc, ◌+◌, ◌-◌, ◌*◌, ◌/◌, ◌%◌, ◌<◌, ◌≤◌, Bool, true, false, ◌&&◌, ◌||◌, not, nat_eq, nat_le, nat_lt, List, [], ◌∷◌, ◌++◌, length, slice_index, find, Option, Some, None, refl, sym, ap, ◌∙◌, inl, inr, arith, subst, if◌then◌else◌}
use Rattle.std.specs.Option.{MatchOption}
use Rattle.std.proofs.Math.Nat.{div-lt_iff_lt-mul, mod-lt}
use Rattle.std.proofs.lemmas.Nat.{div-add-mod', div-mul-add, mod-mul-add, mul-add-lt}
use Rattle.std.proofs.lemmas.Bool.{cases_Bool, cases_eq, and_parts, and_from, leb-true, le-leb, ltb-true, lt-ltb, eqb-true, eq-eqb, not-true, not-false, both_ways, false≢true}
use Rattle.page_model.specs.declared.parts.Plane.{Plane}
use Rattle.page_model.specs.Planes.{plane_at, no_plane, tints_of}
use Rattle.lists.specs.Words.{any_below, list_below, or_else}
use Rattle.lists.proofs.ListBelow.{length-list_below, list_below-at, list_below-of, list_below-from}
use Rattle.page_model.specs.Shapes.{wide, tall}
use Rattle.page_model.proofs.ShapeLemmas.{plane_of, like_of, tints_count}
use Rattle.trap_set.specs.Applied.{covering, tint_by, applied_plane, applied}
use Rattle.trap_set.specs.Runs.{Run, covers, tint_at, changes, same_tints, goes_on, begins, run_on, run_at, runs_below, trap_runs, ArePair}

-- tests over plates
none_below : (test : ℕ → Bool) (n : ℕ) → any_below test n ≡ false → (c : ℕ) → c < n → test c ≡ false
none_below test zero h c l = let e : ⊥ = omega arith in absurd e
none_below test (suc n) h c l = elim (cases_eq c n) [
  | inl e ↦ subst (λ (k : ℕ). test k ≡ false) (sym e) (or_right_false (any_below test n) (test n) h)
  | inr ne ↦ none_below test n (or_left_false (any_below test n) (test n) h) c (omega (arith, ne))
] where
  or_left_false : (a b : Bool) → (a || b) ≡ false → a ≡ false
  or_left_false true b e = e
  or_left_false false b e = refl

  or_right_false : (a b : Bool) → (a || b) ≡ false → b ≡ false
  or_right_false true b e = absurd (false≢true (sym e))
  or_right_false false b e = e

-- no plate has another tint, so all have the same
equal_by : (a b : ℕ) → not (nat_eq a b) ≡ false → a ≡ b
equal_by a b h = eqb-true a b (not-false (nat_eq a b) h)

kept_tint : (old new : List Plane) (x y c : ℕ) → changes old new x y ≡ false → c < length old → tint_at old c x y ≡ tint_at new c x y
kept_tint old new x y c h l = equal_by _ _ (none_below (λ k. not (nat_eq (tint_at old k x y) (tint_at new k x y))) (length old) h c l)

same_tint : (new : List Plane) (i j y c : ℕ) → same_tints new i j y ≡ true → c < length new → tint_at new c i y ≡ tint_at new c j y
same_tint new i j y c h l = equal_by _ _ (none_below (λ k. not (nat_eq (tint_at new k i y) (tint_at new k j y))) (length new) (not-true _ h) c l)

-- what a sample that goes on has of its left neighbour
record GoesOn (old new : List Plane) (x y : ℕ) : Type 0 where
  left : changes old new x y ≡ true
  here : changes old new (suc x) y ≡ true
  same : same_tints new x (suc x) y ≡ true

going : (old new : List Plane) (x y : ℕ) → goes_on old new (suc x) y ≡ true → GoesOn old new x y
going old new x y h =
    let parts = and_parts (changes old new x y) (changes old new (suc x) y && same_tints new x (suc x) y) h in
    let more = and_parts (changes old new (suc x) y) (same_tints new x (suc x) y) parts.1 in
    record { left = parts.0; here = more.0; same = more.1 }

-- each sample after the first of a run goes on, and the one after the last does not
pub each_goes_on : (old new : List Plane) (y x n i : ℕ) → i < run_on old new y x n → goes_on old new (x + i) y ≡ true
each_goes_on old new y x zero i l = let e : ⊥ = omega arith in absurd e
each_goes_on old new y x (suc n) i l = elim (cases_Bool (goes_on old new x y)) [
  | inr f ↦ (let short : i < 0 = rw f at l in let e : ⊥ = omega arith in absurd e)
  | inl t ↦ step i (rw t at l) t (λ j m. each_goes_on old new y (suc x) n j m)
] where
  step : (j : ℕ) → j < suc (run_on old new y (suc x) n) → goes_on old new x y ≡ true → ((i : ℕ) → i < run_on old new y (suc x) n → goes_on old new (suc x + i) y ≡ true) → goes_on old new (x + j) y ≡ true
  step zero m t later = (let e : x ≡ x + 0 = omega arith in subst (λ (k : ℕ). goes_on old new k y ≡ true) e t)
  step (suc j) m t later = (let e : suc x + j ≡ x + suc j = omega arith in subst (λ (k : ℕ). goes_on old new k y ≡ true) e (later j (omega arith)))

stops : (old new : List Plane) (y x n : ℕ) → run_on old new y x n < n → goes_on old new (x + run_on old new y x n) y ≡ false
stops old new y x zero l = let e : ⊥ = omega arith in absurd e
stops old new y x (suc n) l = elim (cases_Bool (goes_on old new x y)) [
  | inl t ↦ rw t (
      let l2 : suc (run_on old new y (suc x) n) < suc n = rw t at l in
      let e : suc x + run_on old new y (suc x) n ≡ x + suc (run_on old new y (suc x) n) = omega arith in
      subst (λ (k : ℕ). goes_on old new k y ≡ false) e (stops old new y (suc x) n (omega arith)))
  | inr f ↦ rw f (let e : x ≡ x + 0 = omega arith in subst (λ (k : ℕ). goes_on old new k y ≡ false) e f)
]

-- what a sample of a run has of its first
pub record IsRunSample (old new : List Plane) (first x y : ℕ) : Type 0 where
  pub changed : changes old new x y ≡ true
  pub tints : (c : ℕ) → c < length new → tint_at new c first y ≡ tint_at new c x y

along : (old new : List Plane) (y first n i : ℕ) → changes old new first y ≡ true → i ≤ run_on old new y (suc first) n → IsRunSample old new first (first + i) y
along old new y first n zero h l = (let e : first ≡ first + 0 = omega arith in subst (λ (k : ℕ). IsRunSample old new first k y) e (record { changed = h; tints = λ c m. refl }))
along old new y first n (suc i) h l =
    let before = along old new y first n i h (omega arith) in
    let on : goes_on old new (suc first + i) y ≡ true = each_goes_on old new y (suc first) n i (omega arith) in
    let e : suc first + i ≡ suc (first + i) = omega arith in
    let next = going old new (first + i) y (subst (λ (k : ℕ). goes_on old new k y ≡ true) e on) in
    let f : suc (first + i) ≡ first + suc i = omega arith in
    subst (λ (k : ℕ). IsRunSample old new first k y) f (record {
      changed = next.here;
      tints = λ c m. before.tints c m ∙ same_tint new (first + i) (suc (first + i)) y c next.same m;
    })

begun : (old new : List Plane) (x y : ℕ) → begins old new x y ≡ true → changes old new x y ≡ true
begun old new x y h = (and_parts (changes old new x y) (not (goes_on old new x y)) h).0

-- a run covers samples that change, and that have its tints
pub covered : (old new : List Plane) (first row x y : ℕ) → begins old new first row ≡ true → covers (run_at old new first row) x y ≡ true → IsRunSample old new first x row
covered old new first row x y h cover =
    let parts = and_parts (nat_eq row y) (nat_le first x && nat_lt x (first + suc (run_on old new row (suc first) (wide old - suc first)))) cover in
    let sides = and_parts (nat_le first x) (nat_lt x (first + suc (run_on old new row (suc first) (wide old - suc first)))) parts.1 in
    let low = leb-true _ _ sides.0 in
    let high = ltb-true _ _ sides.1 in
    let e : first + (x - first) ≡ x = omega (arith, low) in
    subst (λ (k : ℕ). IsRunSample old new first k row) e (along old new row first (wide old - suc first) (x - first) (begun old new first row h) (omega (arith, low, high)))

pub row_of : (old new : List Plane) (first row x y : ℕ) → covers (run_at old new first row) x y ≡ true → row ≡ y
row_of old new first row x y cover = eqb-true _ _ (and_parts (nat_eq row y) _ cover).0

-- each sample that changes is covered by the run of some first sample
record IsFirst (old new : List Plane) (x y first : ℕ) : Type 0 where
  before : first ≤ x
  begins_here : begins old new first y ≡ true
  reaches : x < first + suc (run_on old new y (suc first) (wide old - suc first))

first_of : (old new : List Plane) (y x : ℕ) → x < wide old → changes old new x y ≡ true → (first : ℕ) × IsFirst old new x y first
first_of old new y zero l h = (0, record { before = omega arith; begins_here = and_from (changes old new 0 y) true h refl; reaches = omega arith })
first_of old new y (suc x) l h = elim (cases_Bool (goes_on old new (suc x) y)) [
  | inr f ↦ (suc x, record { before = omega arith; begins_here = and_from (changes old new (suc x) y) (not (goes_on old new (suc x) y)) h (ap not f); reaches = omega arith })
  | inl t ↦ further (first_of old new y x (omega arith) (going old new x y t).left) t
] where
  further : (first : ℕ) × IsFirst old new x y first → goes_on old new (suc x) y ≡ true → (first : ℕ) × IsFirst old new (suc x) y first
  further (first, is) t =
      let len = run_on old new y (suc first) (wide old - suc first) in
      elim (cases_eq (suc first + len) (suc x)) [
        | inr ne ↦ (first, record { before = omega (arith, is.before); begins_here = is.begins_here; reaches = omega (arith, is.reaches, ne) })
        | inl e ↦ absurd (both_ways (goes_on old new (suc x) y) (subst (λ (k : ℕ). goes_on old new k y ≡ false) e (stops old new y (suc first) (wide old - suc first) (omega (arith, e)))) t)
      ]

cover_from : (old new : List Plane) (x y first : ℕ) → IsFirst old new x y first → covers (run_at old new first y) x y ≡ true
cover_from old new x y first is = and_from (nat_eq y y) _ (eq-eqb y y refl) (and_from (nat_le first x) _ (le-leb _ _ is.before) (lt-ltb _ _ is.reaches))

-- what the first covering run of those that begin below place n is
abbrev FoundBelow : List Plane → List Plane → ℕ → ℕ → ℕ → Option Run → Type 0
FoundBelow old new x y n found = MatchOption found
    ((k : ℕ) → k < n → begins old new (k % wide old) (k / wide old) ≡ true → covers (run_at old new (k % wide old) (k / wide old)) x y ≡ false)
    (λ run. (k : ℕ) × (begins old new (k % wide old) (k / wide old) ≡ true) × (covers (run_at old new (k % wide old) (k / wide old)) x y ≡ true) × (run ≡ run_at old new (k % wide old) (k / wide old)))

pub find_both : (test : Run → Bool) (xs ys : List Run) → find test (xs ++ ys) ≡ or_else (find test xs) (find test ys)
find_both test [] ys = refl
find_both test (x ∷ xs) ys = elim (cases_Bool (test x)) [ inl t ↦ rw t refl | inr f ↦ rw f (find_both test xs ys) ]

found_below : (old new : List Plane) (x y n : ℕ) → FoundBelow old new x y n (covering (runs_below old new n) x y)
found_below old new x y zero = λ k l. absurd (omega arith)
found_below old new x y (suc n) =
    subst (FoundBelow old new x y (suc n)) (sym (find_both (λ run. covers run x y) (runs_below old new n) _))
    (both (covering (runs_below old new n) x y) (found_below old new x y n) (begins old new (n % wide old) (n / wide old)) refl (covers (run_at old new (n % wide old) (n / wide old)) x y) refl) where
      both : (o : Option Run) → FoundBelow old new x y n o → (b : Bool) → begins old new (n % wide old) (n / wide old) ≡ b → (v : Bool) → covers (run_at old new (n % wide old) (n / wide old)) x y ≡ v
          → FoundBelow old new x y (suc n) (or_else o (covering (if b then run_at old new (n % wide old) (n / wide old) ∷ [] else []) x y))
      both (Some run) h b eb v ev = h
      both None h false eb v ev = λ k l beg. elim (cases_eq k n) [
        | inl e ↦ absurd (both_ways (begins old new (n % wide old) (n / wide old)) eb (subst (λ (i : ℕ). begins old new (i % wide old) (i / wide old) ≡ true) e beg))
        | inr ne ↦ h k (omega (arith, ne)) beg
      ]
      both None h true eb true ev = rw ev (n, eb, ev, refl)
      both None h true eb false ev = rw ev (λ k l beg. elim (cases_eq k n) [
        | inl e ↦ subst (λ (i : ℕ). covers (run_at old new (i % wide old) (i / wide old)) x y ≡ false) (sym e) ev
        | inr ne ↦ h k (omega (arith, ne)) beg
      ])

-- a sample that changes gets its new tint, and another keeps its own
tint_after : (old new : List Plane) (x y c : ℕ) → x < wide old → y < tall old → c < length new → length new ≡ length old
    → tint_by (covering (trap_runs old new) x y) c (tint_at old c x y) ≡ tint_at new c x y
tint_after old new x y c in_row in_page plate as_many = by (covering (trap_runs old new) x y) (found_below old new x y (wide old * tall old)) where
  by : (o : Option Run) → FoundBelow old new x y (wide old * tall old) o → tint_by o c (tint_at old c x y) ≡ tint_at new c x y
  by (Some run) (k, beg, cover, is) =
      let first = k % wide old in
      let row = k / wide old in
      let same = row_of old new first row x y cover in
      let sample = covered old new first row x y beg cover in
      ap (λ (r : Run). slice_index r.tints c) is ∙ list_below-at (λ d. tint_at new d first row) (length new) c 0 plate ∙ sample.tints c plate ∙ ap (tint_at new c x) same
  by None none = elim (cases_Bool (changes old new x y)) [
    | inr f ↦ kept_tint old new x y c f (omega (arith, as_many))
    | inl t ↦ (
        let found = first_of old new y x in_row t in
        let place = y * wide old + found.0 in
        let low : found.0 < wide old = omega (arith, found.1.before) in
        let across : place % wide old ≡ found.0 = mod-mul-add y (wide old) found.0 low in
        let down : place / wide old ≡ y = div-mul-add y (wide old) found.0 low in
        let beg : begins old new (place % wide old) (place / wide old) ≡ true = rw (across, down) found.1.begins_here in
        let cover : covers (run_at old new (place % wide old) (place / wide old)) x y ≡ true = rw (across, down) (cover_from old new x y found.0 found.1) in
        absurd (both_ways _ (none place (mul-add-lt y (wide old) found.0 (tall old) in_page low) beg) cover))
  ]

pub same_plane : (p q : Plane) → p.width ≡ q.width → p.height ≡ q.height → p.maxval ≡ q.maxval → p.tints ≡ q.tints → p ≡ q
same_plane p q a b c d = ap (λ (w : ℕ). record p { width = w }) a ∙ ap (λ (h : ℕ). record { width = q.width; height = h; maxval = p.maxval; tints = p.tints }) b
    ∙ ap (λ (m : ℕ). record { width = q.width; height = q.height; maxval = m; tints = p.tints }) c ∙ ap (λ (ts : List ℕ). record { width = q.width; height = q.height; maxval = q.maxval; tints = ts }) d

pub round : (old new : List Plane) → ArePair old new → applied (trap_runs old new) old ≡ new
round old new pair = sym (list_below-of no_plane (λ c. applied_plane (trap_runs old new) c (plane_at old c)) (length old) new pair.as_many each) where
  place_of : (c k : ℕ) → c < length new → k < wide old * tall old → slice_index (tints_of new c) k ≡ tint_by (covering (trap_runs old new) (k % wide old) (k / wide old)) c (slice_index (tints_of old c) k)
  place_of c k l m =
      let some = (plane_of old 0 pair.before (omega (arith, pair.before.some))).some_width in
      let whole : k / wide old * wide old + k % wide old ≡ k = div-add-mod' k (wide old) in
      let down : k / wide old < tall old = (div-lt_iff_lt-mul some).1 (omega (arith, m)) in
      let after = tint_after old new (k % wide old) (k / wide old) c (mod-lt k some) down l pair.as_many in
      sym (ap (λ (i : ℕ). tint_by (covering (trap_runs old new) (k % wide old) (k / wide old)) c (slice_index (tints_of old c) i)) (sym whole) ∙ after
      ∙ ap (λ (w : ℕ). slice_index (tints_of new c) (k / wide old * w + k % wide old)) pair.as_wide ∙ ap (slice_index (tints_of new c)) whole)

  each : (c : ℕ) → c < length old → plane_at new c ≡ applied_plane (trap_runs old new) c (plane_at old c)
  each c l =
      let m : c < length new = omega (arith, pair.as_many) in
      let mine = like_of new c pair.after m in
      let theirs = like_of old c pair.before l in
      let before : length (tints_of old c) ≡ wide old * tall old = tints_count old c pair.before l in
      let long : length (tints_of new c) ≡ wide old * tall old = tints_count new c pair.after m ∙ ap (λ (w : ℕ). w * tall new) pair.as_wide ∙ ap (λ (h : ℕ). wide old * h) pair.as_tall in
      same_plane (plane_at new c) (applied_plane (trap_runs old new) c (plane_at old c))
      (mine.as_wide ∙ pair.as_wide ∙ sym theirs.as_wide) (mine.as_tall ∙ pair.as_tall ∙ sym theirs.as_tall) (mine.as_deep ∙ pair.as_deep ∙ sym theirs.as_deep)
      (list_below-from _ (length (tints_of old c)) (tints_of new c) (long ∙ sym before)
      (λ k n. place_of c k m (subst (λ (a : ℕ). k < a) before n) ∙ ap (λ (w : ℕ). tint_by (covering (trap_runs old new) (k % w) (k / w)) c (slice_index (tints_of old c) k)) (sym theirs.as_wide)))

-- planes that are the same change nowhere
none_changes : (planes : List Plane) (x y n : ℕ) → any_below (λ c. not (nat_eq (tint_at planes c x y) (tint_at planes c x y))) n ≡ false
none_changes planes x y zero = refl
none_changes planes x y (suc n) = rw (none_changes planes x y n, eq-eqb (tint_at planes n x y) (tint_at planes n x y) refl) refl

no_runs : (planes : List Plane) (n : ℕ) → runs_below planes planes n ≡ []
no_runs planes zero = refl
no_runs planes (suc n) = rw (no_runs planes n, none_changes planes (n % wide planes) (n / wide planes) (length planes)) refl

pub unchanged : (planes : List Plane) → trap_runs planes planes ≡ []
unchanged planes = no_runs planes (wide planes * tall planes)

-- a run's tint on a tint that the run gave already
tint_twice : (o : Option Run) (c tint : ℕ) → tint_by o c (tint_by o c tint) ≡ tint_by o c tint
tint_twice None c tint = refl
tint_twice (Some run) c tint = refl

pub applied_count : (runs : List Run) (planes : List Plane) → length (applied runs planes) ≡ length planes
applied_count runs planes = length-list_below (λ c. applied_plane runs c (plane_at planes c)) (length planes)

pub applied_at : (runs : List Run) (planes : List Plane) (c : ℕ) → c < length planes → plane_at (applied runs planes) c ≡ applied_plane runs c (plane_at planes c)
applied_at runs planes c l = list_below-at (λ k. applied_plane runs k (plane_at planes k)) (length planes) c no_plane l

plane_twice : (runs : List Run) (c : ℕ) (plane : Plane) → applied_plane runs c (applied_plane runs c plane) ≡ applied_plane runs c plane
plane_twice runs c plane =
    let w = plane.width in
    let tint = λ (k : ℕ). tint_by (covering runs (k % w) (k / w)) c (slice_index plane.tints k) in
    let n = length plane.tints in
    let same : list_below tint n ≡ (applied_plane runs c (applied_plane runs c plane)).tints =
    list_below-from _ (length (list_below tint n)) (list_below tint n) refl
    (λ k l.
    (let m : k < n = omega (arith, l, length-list_below tint n) in
    let read : slice_index (list_below tint n) k ≡ tint k = list_below-at tint n k 0 m in
    read ∙ sym (ap (tint_by (covering runs (k % w) (k / w)) c) read ∙ tint_twice (covering runs (k % w) (k / w)) c (slice_index plane.tints k)))) in
    sym (same_plane (applied_plane runs c plane) (applied_plane runs c (applied_plane runs c plane)) refl refl refl same)

pub twice : (runs : List Run) (planes : List Plane) → applied runs (applied runs planes) ≡ applied runs planes
twice runs planes = sym (list_below-of no_plane (λ c. applied_plane runs c (plane_at (applied runs planes) c)) (length (applied runs planes)) (applied runs planes) refl each) where
  each : (c : ℕ) → c < length (applied runs planes) → plane_at (applied runs planes) c ≡ applied_plane runs c (plane_at (applied runs planes) c)
  each c l =
      let m : c < length planes = omega (arith, l, applied_count runs planes) in
      let here = applied_at runs planes c m in
      here ∙ sym (ap (applied_plane runs c) here ∙ plane_twice runs c (plane_at planes c))
