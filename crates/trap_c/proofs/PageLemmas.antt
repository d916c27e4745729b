-- The page of a call: its planes and plates are in range, and it has the layout of the call.
use Rattle.std.proofs.Common.{◌≡◌, ℕ, Bool, true, false, cond, ltb, get_or, MatchResult, IfOk, ◌⊎◌, ◌+◌, ◌*◌, ◌<◌, ◌≤◌, List, length, All, Option, Some, None, Result, Ok, Err, refl, sym, ap, ◌∙◌, subst, arith, add-one, IsTrue}
use Rattle.std.specs.List.{position, position_or_len}
use Rattle.std.proofs.lemmas.Bool.Decides.{nat_tests}
use Rattle.std.proofs.lemmas.List.{get_or_default}
use Rattle.std.proofs.lemmas.List.Sums.{fails_before_first}
use Rattle.lists.specs.Words.{first_some, or_else}
use Rattle.lists.proofs.FirstSome.{all_none, each_none}
use Rattle.lists.proofs.ListBelow.{length-list_below, list_below-at}
use Rattle.job_reader.specs.declared.job.Job.{Job}
use Rattle.page_files.specs.Assembly.{CanAssemblePlanes, parts_of_planes, assembly_of_planes, detailed, faulted, without_details}
use Rattle.page_model.specs.declared.page.PageFault.{PageFault}
use Rattle.page_model.specs.declared.parts.PageParts.{PageParts}
use Rattle.page_model.specs.declared.parts.Plane.{Plane}
use Rattle.page_model.specs.Conditions.{IsPlane}
use Rattle.page_model.specs.Faults.{page_fault}
use Rattle.page_model.specs.Planes.{no_plane, plane_at}
use Rattle.common_errors.specs.declared.common.CommonError.{CommonError}
use Rattle.common_errors.specs.declared.common.CommonError.TheVariants.{Memory}
use Rattle.trap_c.specs.declared.layout.Layout.{Layout}
use Rattle.trap_c.specs.declared.planes.Copies.{Copies}
use Rattle.trap_c.specs.Copies.{AreCopies}
use Rattle.trap_c.specs.Fit.{AreFit, ArePlanesFit, IsCall, IsFull, IsLayout, above_at, above_in, first_above}
use Rattle.trap_c.specs.Pages.{Fills}
use Rattle.trap_c.specs.Planes.{plane_in, planes_in, tints_in}
use Rattle.trap_c.proofs.Above.{none_above}
use Rattle.trap_c.proofs.Rows.{long_rows}
use Rattle.trap_c.proofs.Sizes.{plane_inside}

-- each plane of the samples is full

pub plane_full : (layout : Layout) (samples : List ℕ) (c : ℕ) → IsLayout layout → (c * layout.height + layout.height) * layout.step ≤ length samples → IsFull layout (plane_in layout samples c)
plane_full layout samples c is inside = record {
  wide = refl;
  tall = refl;
  deep = refl;
  full = (let long = long_rows layout samples (c * layout.height) layout.height is.apart inside in omega (arith, long));
}

pub planes_full : (names : List (List ℕ)) (layout : Layout) (samples : List ℕ) (planes : List Plane) → IsCall names layout (length samples) → planes ≡ planes_in layout samples (length names) → (c : ℕ) → c < length planes → IsFull layout (plane_at planes c)
planes_full names layout samples planes is e c l =
    let here : c < length names = omega (arith, l, ap (λ (ps : List Plane). length ps) e, length-list_below (plane_in layout samples) (length names)) in
    subst (λ (p : Plane). IsFull layout p) (sym (ap (λ (ps : List Plane). plane_at ps c) e ∙ list_below-at (plane_in layout samples) (length names) c no_plane here)) (plane_full layout samples c is.laid_out (plane_inside c (length names) layout.height layout.step (length samples) here is.all))

pub as_many : (names : List (List ℕ)) (layout : Layout) (samples : List ℕ) (planes : List Plane) → planes ≡ planes_in layout samples (length names) → length planes ≡ length names
as_many names layout samples planes e = ap (λ (ps : List Plane). length ps) e ∙ length-list_below (plane_in layout samples) (length names)

-- what is known of the tints of each plane is known of its copy
pub copies_made : (layout : Layout) (samples : List ℕ) (count : ℕ) (copies : Copies) → copies.planes ≡ planes_in layout samples count → (IsTrue copies.are_fit → (j : ℕ) → j < count → AreFit layout.maxval (tints_in layout samples j)) → AreCopies layout samples count copies
copies_made layout samples count copies made fit = record {
  planes = made;
  fit = λ yes j l.
      let here : j < count = omega (arith, l, ap (λ (ps : List Plane). length ps) made, length-list_below (plane_in layout samples) count) in
      subst (λ (p : Plane). AreFit p.maxval p.tints) (sym (ap (λ (ps : List Plane). plane_at ps j) made ∙ list_below-at (plane_in layout samples) count j no_plane here)) (fit yes j here);
}

-- where no tint is found above the maxval, none is

abbrev above : ℕ → ℕ → Bool
above most t = ltb most t

none_found : (most : ℕ) (xs : List ℕ) (b : Bool) → ltb (position_or_len (above most) xs) (length xs) ≡ b → cond b (Some (position_or_len (above most) xs)) None ≡ None → All (λ t. t ≤ most) xs
none_found most xs true test e = absurd (cc)
none_found most xs false test e = λ k d within.
    let all : length xs ≤ position_or_len (above most) xs = grind (arith, nat_tests) in
    let low : ltb most (get_or xs k d) ≡ false = fails_before_first (above most) xs k d (omega (arith, all, within)) in
    grind (arith, nat_tests)

none_at : (c : ℕ) (o : Option ℕ) → above_at c o ≡ None → o ≡ None
none_at c None e = refl
none_at c (Some at) e = absurd (cc)

is_fit : (planes : List Plane) (c : ℕ) → first_above planes ≡ None → c < length planes → All (λ t. t ≤ (plane_at planes c).maxval) (plane_at planes c).tints
is_fit planes c e l =
    let plane = plane_at planes c in
    none_found plane.maxval plane.tints (ltb (position_or_len (above plane.maxval) plane.tints) (length plane.tints)) refl (none_at c (position (above plane.maxval) plane.tints) (each_none (above_in planes) (length planes) e c l))

-- one more plane is looked at
pub found_more : (planes all : List Plane) (plane : Plane) (found later : Option CommonError) (c : ℕ) → all ≡ planes → c < length all → plane ≡ get_or all c plane → later ≡ above_at c (position (λ t. ltb plane.maxval t) plane.tints) → found ≡ first_some (above_in planes) c → or_else found later ≡ first_some (above_in planes) (c + 1)
found_more planes all plane found later c e l read is h =
    let same : plane ≡ plane_at planes c = read ∙ get_or_default all c plane no_plane l ∙ ap (λ (ps : List Plane). plane_at ps c) e in
    rw (add-one c) (ap (λ (o : Option CommonError). or_else o later) h ∙ ap (λ (o : Option CommonError). or_else (first_some (above_in planes) c) o) (is ∙ ap (λ (p : Plane). above_at c (position (λ t. ltb p.maxval t) p.tints)) same))

-- none is found where all are known to be fit
no_place : (c : ℕ) (o : Option ℕ) → o ≡ None → above_at c o ≡ None
no_place c None e = refl
no_place c (Some at) e = absurd (cc)

pub none_where_fit : (planes : List Plane) → ArePlanesFit planes → first_above planes ≡ None
none_where_fit planes fit = all_none (above_in planes) (length planes) (λ c l. no_place c _ (none_above (plane_at planes c).maxval (plane_at planes c).tints (fit c l)))

-- so that each plane is in range

plane_ok : (layout : Layout) (plane : Plane) → IsLayout layout → IsFull layout plane → All (λ t. t ≤ plane.maxval) plane.tints → IsPlane plane
plane_ok layout plane is full fit = record {
  some_width = omega (arith, is.sides.some_width, full.wide);
  narrow = omega (arith, is.sides.narrow, full.wide);
  some_height = omega (arith, is.sides.some_height, full.tall);
  low = omega (arith, is.sides.low, full.tall);
  some_maxval = omega (arith, is.some_maxval, full.deep);
  maxval_fits = omega (arith, is.maxval_fits, full.deep);
  full = full.full ∙ sym (ap (λ (w : ℕ). w * plane.height) full.wide ∙ ap (λ (h : ℕ). layout.width * h) full.tall);
  below = fit;
}

-- from a fact of each plane one of all
all_planes : (Fact : Plane → Type 0) (planes : List Plane) → ((c : ℕ) → c < length planes → Fact (plane_at planes c)) → All Fact planes
all_planes Fact planes each = λ k d within. subst Fact (get_or_default planes k no_plane d within) (each k within)

pub planes_ok : (layout : Layout) (planes : List Plane) → IsLayout layout → ((c : ℕ) → c < length planes → IsFull layout (plane_at planes c)) → first_above planes ≡ None → All IsPlane planes
planes_ok layout planes is full e = all_planes IsPlane planes (λ c l. plane_ok layout (plane_at planes c) is (full c l) (is_fit planes c e l))

pub can_assemble : (layout : Layout) (planes : List Plane) (names : List (List ℕ)) → IsLayout layout → 1 ≤ length names → length names ≤ 16 → length planes ≡ length names → ((c : ℕ) → c < length planes → IsFull layout (plane_at planes c)) → first_above planes ≡ None → CanAssemblePlanes planes names
can_assemble layout planes names is some few count full e = record {
  some = omega (arith, count, some);
  few = omega (arith, count, few);
  named = sym count;
  in_range = planes_ok layout planes is full e;
}

-- the page that is made is that of the parts

by_fault : (parts page : PageParts) (o : Option PageFault) → faulted parts o ≡ Ok page → page ≡ parts
by_fault parts page None e = cc
by_fault parts page (Some fault) e = absurd (cc)

by_details : (parts page : PageParts) (o : Option ℕ) → detailed o parts ≡ Ok page → page ≡ parts
by_details parts page None e = by_fault parts page (page_fault parts) e
by_details parts page (Some plate) e = absurd (cc)

pub parts_made : (job : Job) (planes : List Plane) (names : List (List ℕ)) (page : PageParts) → assembly_of_planes job planes names ≡ Ok page → page ≡ parts_of_planes job planes names
parts_made job planes names page e = by_details (parts_of_planes job planes names) page (without_details job names) e

-- it has the layout of the call
pub fills_if : (job : Job) (layout : Layout) (planes : List Plane) (names : List (List ℕ)) (result : Result PageParts CommonError) → 1 ≤ length names → length planes ≡ length names → ((c : ℕ) → c < length planes → IsFull layout (plane_at planes c)) → MatchResult result (λ page. assembly_of_planes job planes names ≡ Ok page) (λ common_error. (common_error ≡ Memory) ⊎ (assembly_of_planes job planes names ≡ Err common_error)) → IfOk result (Fills layout (length names))
fills_if job layout planes names (Ok page) some count full made = subst (λ (p : PageParts). Fills layout (length names) p) (sym (parts_made job planes names page made)) (record {
  wide = first.wide;
  tall = first.tall;
  deep = first.deep;
  all = count;
}) where
  first : IsFull layout (plane_at planes 0)
  first = full 0 (omega (arith, some, count))
fills_if job layout planes names (Err common_error) some count full made = tt
