-- The rows of a core, put among the samples.
use Rattle.std.proofs.Common.{◌≡◌, ℕ, ◌+◌, ◌-◌, ◌*◌, ◌<◌, ◌≤◌, List, ◌++◌, length, take, drop, get_or, inl, inr, refl, sym, ap, ◌∙◌, subst, arith}
use Rattle.std.specs.Prelude.{slice_index_or}
use Rattle.std.specs.List.{All}
use Rattle.std.proofs.lemmas.Bool.{cases_eq, cases_lt}
use Rattle.std.proofs.lemmas.Grind.{get_or_default_zero}
use Rattle.std.proofs.lemmas.List.{get_or_append_left, get_or-append_right, get_or_default, get_or_past, length-take}
use Rattle.page_model.specs.declared.parts.Plane.{Plane}
use Rattle.page_model.specs.Planes.{no_plane, plane_at}
use Rattle.sheet_geometry.specs.declared.cuts.Cut.{Cut}
use Rattle.trap_c.specs.declared.layout.Layout.{Layout}
use Rattle.trap_c.specs.Cores.{HasCoreTo, HaveCores, IsBeside, IsIn, IsRun, core_run, tint_run}
use Rattle.trap_c.proofs.Parts.{item_kept}
use Rattle.trap_c.proofs.Sizes.{plane_before, times_le}

-- some samples, with a row put in from one on
abbrev pub put : ℕ → List ℕ → List ℕ → List ℕ
put from row xs = take from xs ++ (row ++ drop (from + length row) xs)

run_here : (xs row : List ℕ) (a x : ℕ) → a + length row ≤ length xs → x < length row → get_or (put a row xs) (a + x) 0 ≡ get_or row x 0
run_here xs row a x inside l =
    let prefix : length (take a xs) ≡ a = omega (arith, length-take a xs) in
    let back : a + x - a ≡ x = omega arith in
    get_or-append_right (take a xs) (row ++ drop (a + length row) xs) a (a + x) 0 prefix (omega arith)
    ∙ (ap (λ (n : ℕ). get_or (row ++ drop (a + length row) xs) n 0) back
    ∙ get_or_append_left row (drop (a + length row) xs) 0 x l)

run_beside : (xs row : List ℕ) (a k : ℕ) → a + length row ≤ length xs → IsBeside k a (length row) → get_or (put a row xs) k 0 ≡ get_or xs k 0
run_beside xs row a k inside (inl before) = item_kept xs row a (a + length row) k refl inside (λ from to. absurd (omega (arith, before, from)))
run_beside xs row a k inside (inr suffix) = item_kept xs row a (a + length row) k refl inside (λ from to. absurd (omega (arith, suffix, to)))

-- a run of an earlier row ends before one of a later row
run_before : (r s step left wide width x : ℕ) → r < s → left + wide ≤ width → width ≤ step → x < wide → r * step + left + x < s * step + left
run_before r s step left wide width x l inside apart lx =
    let rows = times_le (r + 1) s step (omega (arith, l)) in
    omega (arith, rows, inside, apart, lx)

-- what lies in a row of plane c lies among all samples
run_inside : (layout : Layout) (core : Cut) (c y count : ℕ) → layout.width ≤ layout.step → IsIn layout core → y < core.height → (c * layout.height + layout.height) * layout.step ≤ count → core_run layout core c y + core.width ≤ count
run_inside layout core c y count apart lies ly inside =
    let rows = times_le (c * layout.height + (core.top + y) + 1) (c * layout.height + layout.height) layout.step (omega (arith, lies.down, ly)) in
    omega (arith, rows, lies.across, apart, inside)

-- one more row of the core is put in
pub row_put : (layout : Layout) (core : Cut) (tints before now after row : List ℕ) (c y : ℕ) → layout.width ≤ layout.step → IsIn layout core → y < core.height → (c * layout.height + layout.height) * layout.step ≤ length now → IsRun tints (tint_run layout core y) core.width row → after ≡ put (core_run layout core c y) row now → HasCoreTo layout core tints before now c y → HasCoreTo layout core tints before after c (y + 1)
row_put layout core tints before now after row c y apart lies ly inside run put_in h =
    let fits : core_run layout core c y + length row ≤ length now = omega (arith, run_inside layout core c y (length now) apart lies ly inside, run.long) in
    subst (λ (s : List ℕ). HasCoreTo layout core tints before s c (y + 1)) (sym put_in) (record {
      inside = λ z x lz lx. elim (cases_eq z y) [
        | inl same ↦ rw same (run_here now row (core_run layout core c y) x fits (omega (arith, lx, run.long)) ∙ run.each x lx)
        | inr other ↦ run_beside now row (core_run layout core c y) (core_run layout core c z + x) fits (inl (run_before (c * layout.height + (core.top + z)) (c * layout.height + (core.top + y)) layout.step core.left core.width layout.width x (omega (arith, lz, other)) lies.across apart lx)) ∙ h.inside z x (omega (arith, lz, other)) lx
      ];
      rest = λ k beside. run_beside now row (core_run layout core c y) k fits (subst (λ (n : ℕ). IsBeside k (core_run layout core c y) n) (sym run.long) (beside y (omega arith))) ∙ h.rest k (λ z lz. beside z (omega (arith, lz)));
    })

pub none_put : (layout : Layout) (core : Cut) (tints before : List ℕ) (c : ℕ) → HasCoreTo layout core tints before before c 0
none_put layout core tints before c = record {
  inside = λ y x ly lx. absurd (omega (arith, ly));
  rest = λ k beside. refl;
}

-- one more plane's core is put in
pub core_put : (layout : Layout) (core : Cut) (planes : List Plane) (tints before now after : List ℕ) (c : ℕ) → layout.width ≤ layout.step → IsIn layout core → tints ≡ (plane_at planes c).tints → HasCoreTo layout core tints now after c core.height → HaveCores layout core planes before now c → HaveCores layout core planes before after (c + 1)
core_put layout core planes tints before now after c apart lies is here h = record {
  inside = λ d y x ld ly lx. elim (cases_eq d c) [
    | inl same ↦ rw same (here.inside y x ly lx ∙ ap (λ (ts : List ℕ). get_or ts (tint_run layout core y + x) 0) is)
    | inr other ↦ here.rest (core_run layout core d y + x) (λ z lz. inl (run_before (d * layout.height + (core.top + y)) (c * layout.height + (core.top + z)) layout.step core.left core.width layout.width x (omega (arith, plane_before d c layout.height (omega (arith, ld, other)), lies.down, ly)) lies.across apart lx)) ∙ h.inside d y x (omega (arith, ld, other)) ly lx
  ];
  rest = λ k beside. here.rest k (λ y ly. beside c y (omega arith) ly) ∙ h.rest k (λ d y ld ly. beside d y (omega (arith, ld)) ly);
}

pub no_core_put : (layout : Layout) (core : Cut) (planes : List Plane) (before : List ℕ) → HaveCores layout core planes before before 0
no_core_put layout core planes before = record {
  inside = λ c y x lc ly lx. absurd (omega (arith, lc));
  rest = λ k beside. refl;
}

pub run_fits : (layout : Layout) (core : Cut) (c y count long : ℕ) → layout.width ≤ layout.step → IsIn layout core → y < core.height → (c * layout.height + layout.height) * layout.step ≤ count → long ≡ core.width → (c * layout.height + core.top + y) * layout.step + core.left + long ≤ count
run_fits layout core c y count long apart lies ly inside e = omega (arith, run_inside layout core c y count apart lies ly inside, e)

low_item : (most : ℕ) (xs : List ℕ) (k : ℕ) → All (λ t. t ≤ most) xs → get_or xs k 0 ≤ most
low_item most xs k all = elim (cases_lt k (length xs)) [
  | inl l ↦ all k 0 l
  | inr more ↦ (let e : get_or xs k 0 ≡ 0 = get_or_past xs k 0 more in omega (arith, e))
]

-- a run of low numbers has low numbers
pub low_run : (most : ℕ) (xs run : List ℕ) (from count : ℕ) → IsRun xs from count run → All (λ t. t ≤ most) xs → All (λ t. t ≤ most) run
low_run most xs run from count is all = λ k d l. (let e : get_or run k d ≡ get_or run k 0 = get_or_default_zero run k d l in
    omega (arith, e, is.each k (omega (arith, l, is.long)), low_item most xs (from + k) all))

pub plane_is : (planes all : List Plane) (plane : Plane) (c : ℕ) → all ≡ planes → c < length all → slice_index_or all c plane ≡ plane_at planes c
plane_is planes all plane c e l = get_or_default all c plane no_plane l ∙ ap (λ (ps : List Plane). plane_at ps c) e
