-- Plates and parts of rows that are taken out of a table.
use Rattle.std.proofs.Common.{◌≡◌, ℕ, Bool, ◌+◌, ◌-◌, ◌*◌, ◌/◌, ◌%◌, ◌^◌, ◌<◌, ◌≤◌, refl, sym, ◌∙◌, ap, subst, arith, List, [], ◌∷◌, ◌++◌, inl, inr, length, replicate, slice_index}
use Rattle.std.specs.Prelude.{slice_index_or, slice_set, vec_capacity}
use Rattle.std.proofs.Math.Seq.{get_or-append-add}
use Rattle.std.proofs.lemmas.Bool.{cases_eq, cases_lt}
use Rattle.std.proofs.lemmas.List.{get_or_append_left, get_or_push, get_or-set_other, get_or-set_same, length-append, length-set}
use Rattle.page_model.specs.declared.parts.PageParts.{PageParts}
use Rattle.page_model.specs.declared.parts.Plane.{Plane}
use Rattle.page_model.specs.Conditions.{IsPage}
use Rattle.page_model.specs.Counts.{plate_changes}
use Rattle.page_model.specs.Page.{height, maxval, plates, sample_at, width}
use Rattle.page_model.specs.Planes.{plane_at}
use Rattle.page_model.specs.Tints.{new}
use Rattle.page_model.proofs.PageLemmas.{plane_of}
use Rattle.lists.specs.Words.{count_below, sum_below}
use Rattle.page_tally.proofs.CountLemmas.{count_below-le, few_samples}
use Rattle.page_tally.proofs.EdgeCount.{edges_next, few_next}
use Rattle.page_tally.specs.declared.outcome.Outcome.{Outcome}
use Rattle.page_tally.proofs.OutcomeLemmas.{none_taken}
use Rattle.page_tally.proofs.StandingLemmas.{copied, next_row, numbered}
use Rattle.page_tally.specs.Standing.{AreMarks, AreTrappedTo, HasRows, IsPlateRow, IsTrappedTo, edges_of}
use Rattle.page_tally.specs.Tallies.{HasTallies}
use Rattle.trap_engine.specs.declared.plates.PlateWork.{PlateWork}
use Rattle.trap_engine.specs.Memory.{KeepsWorks}
use Rattle.trap_engine.specs.Taking.{HasTaken, IsTakenPlate}

-- no row yet

pub no_rows : (w : ℕ) → 0 ≡ 0 * w
no_rows w = omega arith

pub none_stored : (page : PageParts) (c : ℕ) (tints : List ℕ) → tints ≡ [] → HasTaken page c (0 * width page) tints
none_stored page c tints e = record { long = ap length e ∙ no_rows (width page); each = λ k l. absurd (omega (arith, l, no_rows (width page))) }

pub none_changed : (f : ℕ → Bool) (w : ℕ) → 0 ≡ count_below f (0 * w)
none_changed f w = ap (count_below f) (no_rows w)

-- the count of a plate fits
pub changed_fits : (page : PageParts) (y c old more : ℕ) → IsPage page → y < height page → more ≤ width page → old ≡ count_below (λ k. plate_changes page c (sample_at page k)) (y * width page) → old + more < 2 ^ 64
changed_fits page y c old more valid ly few e =
    let plane = plane_of page 0 valid valid.parts.some_plates in
    omega (arith, e, count_below-le (λ k. plate_changes page c (sample_at page k)) (y * width page), few_samples page y 0 valid ly (omega arith), few, plane.narrow)

-- one row more
pub row_taken : (page : PageParts) (c y : ℕ) (tints row : List ℕ) → IsPlateRow page y c row → HasTaken page c (y * width page) tints → HasTaken page c ((y + 1) * width page) (tints ++ row)
row_taken page c y tints row is h = record {
  long = length-append tints row ∙ (ap (λ (n : ℕ). n + length row) h.long ∙ (ap (λ (n : ℕ). y * width page + n) is.long ∙ next_row y (width page)));
  each = λ k l. elim (cases_lt k (y * width page)) [
    | inl before ↦ get_or_append_left tints row 0 k (omega (arith, h.long, before)) ∙ h.each k before
    | inr from ↦ (let x = k - y * width page in
        let back : y * width page + x ≡ k = omega (arith, from) in
        let low : x < width page = omega (arith, l, next_row y (width page), from) in
        let here : slice_index (tints ++ row) k ≡ slice_index row x = ap (slice_index (tints ++ row)) (sym back) ∙ (ap (λ (n : ℕ). slice_index (tints ++ row) (n + x)) (sym h.long) ∙ get_or-append-add tints row x 0) in
        here ∙ (is.each x low ∙ ap (λ p. new page p c) (sym (numbered page y x low) ∙ ap (sample_at page) back)))
  ];
}

-- all rows of a plate
pub plate_all : (page : PageParts) (c y : ℕ) (tints : List ℕ) (changed : ℕ) → y ≡ height page → HasTaken page c (y * width page) tints → changed ≡ count_below (λ k. plate_changes page c (sample_at page k)) (y * width page) → IsTakenPlate page c tints changed
plate_all page c y tints changed e t n = record {
  taken = subst (λ (h : ℕ). HasTaken page c (h * width page) tints) e t;
  counted = n ∙ ap (λ (h : ℕ). count_below (λ k. plate_changes page c (sample_at page k)) (h * width page)) e;
}

-- its plane has them
pub plane_taken : (page : PageParts) (c : ℕ) (plane : Plane) (tints : List ℕ) → plane.width ≡ width page → plane.height ≡ height page → plane.maxval ≡ maxval page → plane.tints ≡ tints → HasTaken page c (height page * width page) tints → IsTrappedTo page c (height page * width page) plane
plane_taken page c plane tints wide tall deep e h = record {
  wide = wide;
  tall = tall;
  deep = deep;
  long = ap length e ∙ (h.long ∙ omega arith);
  done = λ k l. ap (λ (xs : List ℕ). slice_index xs k) e ∙ h.each k l;
  rest = λ k a l. absurd (omega (arith, a, l));
}

-- what a part has beside the rows before it, one row further
pub part_edges : (page : PageParts) (first y old more : ℕ) (marks : List ℕ) → AreMarks page y marks → old + sum_below (edges_of page) (first * width page) ≡ sum_below (edges_of page) (y * width page) → more ≡ sum_below (λ x. slice_index marks x % 2 + slice_index marks x / 2) (length marks) → old + more + sum_below (edges_of page) (first * width page) ≡ sum_below (edges_of page) ((y + 1) * width page)
part_edges page first y old more marks h eo em = omega (arith, eo, edges_next page y (sum_below (edges_of page) (y * width page)) more marks h refl em)

pub part_few : (page : PageParts) (first y old more n : ℕ) → n ≡ width page → old + 128 * (first * width page) ≤ 128 * (y * width page) → more ≤ 128 * n → old + more + 128 * (first * width page) ≤ 128 * ((y + 1) * width page)
part_few page first y old more n en few here = omega (arith, few_next y (width page) (old + 128 * (first * width page)) more n en few here)

-- the page's own planes, of which nothing is trapped
own_planes : (page : PageParts) → IsPage page → AreTrappedTo page page.planes 0
own_planes page valid = record {
  count = refl;
  each = λ c l. (let same = valid.agree c l in
      let own = copied page c (plane_at page.planes c).tints valid l refl in
      record { wide = same.wide; tall = same.tall; deep = same.deep; long = own.long; done = own.done; rest = own.rest });
}

-- an outcome with no row, whose planes are to be put in
pub tallies_begun : (page : PageParts) (o : Outcome) {zones count : ℕ} → IsPage page → zones ≡ length page.zones → count ≡ plates page → length o.planes ≡ plates page → o.zone_samples.items ≡ replicate zones 0 → o.zone_changed.items ≡ replicate zones 0 → o.plate_changed.items ≡ replicate count 0 → o.edges ≡ 0 → length o.changes.items ≡ width page → HasTallies page 0 o
tallies_begun page o valid ez ec planes es ex ep ee changes =
    let none : HasRows page 0 (record o { planes = page.planes }) = none_taken page (record o { planes = page.planes }) ez ec (own_planes page valid) es ex ep ee changes in
    record {
      planes = planes;
      plate_changed = none.plate_changed.long;
      zone_samples = none.zone_samples;
      zone_changed = none.zone_changed;
      edges = none.edges;
      few_edges = none.few_edges;
      changes = none.changes;
    }

-- the works without the last one, and that one

pub fewer_taken : (page : PageParts) (works : List PlateWork) (work : PlateWork) (n : ℕ) → n ≡ length works → ((j : ℕ) (d : PlateWork) → j < n + 1 → IsTakenPlate page j (slice_index_or (works ++ work ∷ []) j d).tints.items (slice_index_or (works ++ work ∷ []) j d).changed) → (j : ℕ) (d : PlateWork) → j < n → IsTakenPlate page j (slice_index_or works j d).tints.items (slice_index_or works j d).changed
fewer_taken page works work n e h j d l = subst (λ (w : PlateWork). IsTakenPlate page j w.tints.items w.changed) (get_or_append_left works (work ∷ []) d j (omega (arith, l, e))) (h j d (omega (arith, l)))

pub last_taken : (page : PageParts) (works : List PlateWork) (work : PlateWork) (n : ℕ) → n ≡ length works → ((j : ℕ) (d : PlateWork) → j < n + 1 → IsTakenPlate page j (slice_index_or (works ++ work ∷ []) j d).tints.items (slice_index_or (works ++ work ∷ []) j d).changed) → IsTakenPlate page n work.tints.items work.changed
last_taken page works work n e h = subst (λ (w : PlateWork). IsTakenPlate page n w.tints.items w.changed) (get_or_push works work work n (sym e)) (h n work (omega arith))

-- the room of the rows that plates are taken with

pub work_kept : (before after : List PlateWork) (k : ℕ) (one : PlateWork) → k < length after → ((d : PlateWork) → vec_capacity one.row ≡ vec_capacity (slice_index_or after k d).row) → KeepsWorks before after → KeepsWorks before (slice_set after k one)
work_kept before after k one within here h = record {
  count = length-set after k one ∙ h.count;
  each = λ i d l. elim (cases_eq i k) [
    | inl e ↦ rw (e, get_or-set_same after k one d within) (here d ∙ h.each k d (omega (arith, l, e)))
    | inr ne ↦ rw (get_or-set_other after k i one d ne) (h.each i d l)
  ];
}
