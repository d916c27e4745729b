-- The runs of what changed are a set: each within its row, and in their order.
use Rattle.std.proofs.Common.{◌≡◌, ℕ, zero, suc, ◌+◌, ◌-◌, ◌*◌, ◌/◌, ◌%◌, ◌<◌, ◌≤◌, true, not, List, [], length, refl, sym, ap, ◌∙◌, inl, inr, arith, subst}
use Rattle.std.specs.List.{All, AllPairs}
use Rattle.std.proofs.Math.Nat.{div-lt_iff_lt-mul, mod-lt, mul-le-mul}
use Rattle.std.proofs.lemmas.Nat.{div-add-mod', mul-add-lt}
use Rattle.std.proofs.lemmas.List.{append-nil}
use Rattle.std.proofs.lemmas.List.Quantifiers.{all_pairs_push}
use Rattle.std.proofs.lemmas.Bool.{cases_Bool, cases_lt, cases_order, and_parts, both_ways, not-true}
use Rattle.std.proofs.lemmas.List.Elements.{All-append, All-push}
use Rattle.page_model.specs.declared.parts.Plane.{Plane}
use Rattle.lists.proofs.ListBelow.{length-list_below, all_below}
use Rattle.page_model.specs.Shapes.{wide, tall, deep}
use Rattle.page_model.proofs.ShapeLemmas.{plane_of, like_of, tints_count}
use Rattle.trap_set.specs.Runs.{Run, covers, tint_at, changes, goes_on, begins, run_on, run_at, runs_below, trap_runs, ArePair}
use Rattle.trap_set.specs.SetText.{IsRun, IsSet, Follows, head_of}
use Rattle.trap_set.proofs.RunLemmas.{covered, row_of, each_goes_on}

-- what a run stands for: a sample below place n that begins one
pub record IsBegun (old new : List Plane) (n : ℕ) (run : Run) : Type 0 where
  pub place : ℕ
  pub before : place < n
  pub begun : begins old new (place % wide old) (place / wide old) ≡ true
  pub is : run ≡ run_at old new (place % wide old) (place / wide old)

later : (old new : List Plane) (n : ℕ) (run : Run) → IsBegun old new n run → IsBegun old new (suc n) run
later old new n run h = record { place = h.place; before = omega (arith, h.before); begun = h.begun; is = h.is }

all_later : (old new : List Plane) (n : ℕ) (runs : List Run) → All (IsBegun old new n) runs → All (IsBegun old new (suc n)) runs
all_later old new n runs h = λ k d l. later old new n _ (h k d l)

begun_below : (old new : List Plane) (n : ℕ) → All (IsBegun old new n) (runs_below old new n)
begun_below old new zero = λ k d l. absurd (omega (arith, l))
begun_below old new (suc n) = elim (cases_Bool (begins old new (n % wide old) (n / wide old))) [
  | inl t ↦ rw t (All-push (IsBegun old new (suc n)) (runs_below old new n) _ (all_later old new n _ (begun_below old new n)) (record { place = n; before = omega arith; begun = t; is = refl }))
  | inr f ↦ rw f (All-append (IsBegun old new (suc n)) (runs_below old new n) [] (all_later old new n _ (begun_below old new n)) (λ k d l. absurd (omega (arith, l))))
]

-- a run covers samples that change, and no others
pub covers_changes : (old new : List Plane) → All (λ run. (x y : ℕ) → covers run x y ≡ true → changes old new x y ≡ true) (trap_runs old new)
covers_changes old new = λ k d l. each _ (begun_below old new (wide old * tall old) k d l) where
  each : (run : Run) → IsBegun old new (wide old * tall old) run → (x y : ℕ) → covers run x y ≡ true → changes old new x y ≡ true
  each run h x y cover =
      let c : covers (run_at old new (h.place % wide old) (h.place / wide old)) x y ≡ true = sym (ap (λ (r : Run). covers r x y) h.is) ∙ cover in
      sym (ap (changes old new x) (row_of old new (h.place % wide old) (h.place / wide old) x y c)) ∙ (covered old new (h.place % wide old) (h.place / wide old) x y h.begun c).changed

run_on_short : (old new : List Plane) (y x n : ℕ) → run_on old new y x n ≤ n
run_on_short old new y x zero = omega arith
run_on_short old new y x (suc n) = elim (cases_Bool (goes_on old new x y)) [
  | inl t ↦ rw t (omega (arith, run_on_short old new y (suc x) n))
  | inr f ↦ rw f (omega arith)
]

is_run : (old new : List Plane) → ArePair old new → (run : Run) → IsBegun old new (wide old * tall old) run → IsRun (head_of old) run
is_run old new pair run h = subst (IsRun (head_of old)) (sym h.is) (record {
  in_rows = row_in;
  some = omega arith;
  in_row = omega (arith, run_on_short old new row (suc column) (wide old - suc column), column_in);
  one_each = length-list_below (λ c. tint_at new c column row) (length new) ∙ pair.as_many;
  below = all_below (λ (t : ℕ). t ≤ deep old) (λ c. tint_at new c column row) (length new) tint_below;
}) where
  column : ℕ
  column = h.place % wide old

  row : ℕ
  row = h.place / wide old

  some_width : 1 ≤ wide old
  some_width = (plane_of old 0 pair.before (omega (arith, pair.before.some))).some_width

  column_in : h.place % wide old < wide old
  column_in = mod-lt h.place some_width

  row_in : h.place / wide old < tall old
  row_in = (div-lt_iff_lt-mul some_width).1 (omega (arith, h.before))

  tint_below : (c : ℕ) → c < length new → tint_at new c (h.place % wide old) (h.place / wide old) ≤ deep old
  tint_below c l =
      let plane = plane_of new c pair.after l in
      let like = like_of new c pair.after l in
      let low : h.place / wide old < tall new = omega (arith, row_in, pair.as_tall) in
      let narrow : h.place % wide old < wide new = omega (arith, column_in, pair.as_wide) in
      let place_in = mul-add-lt (h.place / wide old) (wide new) (h.place % wide old) (tall new) low narrow in
      let most = plane.below (h.place / wide old * wide new + h.place % wide old) 0 (omega (arith, place_in, tints_count new c pair.after l)) in
      omega (arith, most, like.as_deep, pair.as_deep)

-- of two samples that begin a run, the run of the earlier ends before the later
ends_before : (old new : List Plane) (x1 y1 x2 y2 : ℕ) → x2 < wide old → y1 * wide old + x1 < y2 * wide old + x2 → begins old new x2 y2 ≡ true → Follows (run_at old new x1 y1) (run_at old new x2 y2)
ends_before old new x1 y1 x2 y2 in_row earlier beg = elim (cases_order y1 y2) [
  | inr (inl less) ↦ inl less
  | inr (inr more) ↦ (
      let up : y2 + 1 ≤ y1 = omega (arith, more) in
      let as_wide : wide old ≤ wide old = omega arith in
      let rows : (y2 + 1) * wide old ≤ y1 * wide old = mul-le-mul up as_wide in
      absurd (omega (arith, rows, earlier, in_row)))
  | inl same ↦ inr (
    same,
    (elim (cases_lt x2 (x1 + suc (run_on old new y1 (suc x1) (wide old - suc x1)))) [
      | inr past ↦ past
      | inl within ↦ (
          let after : x1 < x2 = omega (arith, earlier, ap (λ (r : ℕ). r * wide old) same) in
          let on = each_goes_on old new y1 (suc x1) (wide old - suc x1) (x2 - suc x1) (omega (arith, within, after)) in
          let place : suc x1 + (x2 - suc x1) ≡ x2 = omega (arith, after) in
          let there : goes_on old new x2 y1 ≡ true = subst (λ (k : ℕ). goes_on old new k y1 ≡ true) place on in
          let here : goes_on old new x2 y2 ≡ true = subst (λ (r : ℕ). goes_on old new x2 r ≡ true) same there in
          absurd (both_ways (goes_on old new x2 y2) (not-true _ (and_parts (changes old new x2 y2) (not (goes_on old new x2 y2)) beg).1) here))
    ]),
  )
]

follows : (old new : List Plane) (n : ℕ) (run : Run) → 0 < wide old → begins old new (n % wide old) (n / wide old) ≡ true → IsBegun old new n run → Follows run (run_at old new (n % wide old) (n / wide old))
follows old new n run some beg h = subst (λ (r : Run). Follows r (run_at old new (n % wide old) (n / wide old))) (sym h.is)
    (ends_before old new (h.place % wide old) (h.place / wide old) (n % wide old) (n / wide old) (mod-lt n some)
    (omega (arith, div-add-mod' h.place (wide old), div-add-mod' n (wide old), h.before)) beg)

ascend_below : (old new : List Plane) (n : ℕ) → 0 < wide old → AllPairs Follows (runs_below old new n)
ascend_below old new zero some = λ i j d l m. absurd (omega (arith, m))
ascend_below old new (suc n) some = elim (cases_Bool (begins old new (n % wide old) (n / wide old))) [
  | inl t ↦ rw t (all_pairs_push Follows (runs_below old new n) _ (ascend_below old new n some) (λ k d l. follows old new n _ some t (begun_below old new n k d l)))
  | inr f ↦ rw (f, append-nil) (ascend_below old new n some)
]

-- the runs of planes of one shape are a set
pub is_set : (old new : List Plane) → ArePair old new → IsSet (head_of old) (trap_runs old new)
is_set old new pair =
    let first = plane_of old 0 pair.before (omega (arith, pair.before.some)) in
    record {
      in_range = record {
        some_width = first.some_width;
        narrow = first.narrow;
        some_height = first.some_height;
        low = first.low;
        some_maxval = first.some_maxval;
        maxval_fits = first.maxval_fits;
        some_plates = pair.before.some;
        few_plates = pair.before.few;
        few_samples = pair.before.few_samples;
      };
      within = λ k d l. is_run old new pair _ (begun_below old new (wide old * tall old) k d l);
      ascend = ascend_below old new (wide old * tall old) first.some_width;
    }
