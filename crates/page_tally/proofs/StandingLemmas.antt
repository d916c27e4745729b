-- Planes that are trapped row by row.
use Rattle.std.proofs.Common.{◌≡◌, ℕ, ◌+◌, ◌-◌, ◌*◌, ◌<◌, ◌≤◌, inl, inr, refl, sym, ◌∙◌, ap, subst, arith, List, [], ◌∷◌, ◌++◌, length, slice_index, slice_set}
use Rattle.std.proofs.lemmas.Bool.{cases_eq, cases_lt}
use Rattle.std.proofs.lemmas.List.{get_or-set_same, get_or-set_other, get_or_push, get_or_append_left, length-set}
use Rattle.std.proofs.lemmas.Nat.{div-add-mod', div-mul-add, mod-mul-add, mul-add-lt}
use Rattle.page_model.specs.declared.parts.At.{At}
use Rattle.page_model.specs.declared.parts.PageParts.{PageParts}
use Rattle.page_model.specs.declared.parts.Plane.{Plane}
use Rattle.page_model.specs.Conditions.{IsPage}
use Rattle.page_model.specs.Page.{place, plates, sample_at, samples, tint, width, height, maxval}
use Rattle.page_model.specs.Planes.{no_plane, plane_at}
use Rattle.page_model.specs.Tints.{new, new_tints, trapped_plane, trapped_planes}
use Rattle.page_model.proofs.PageLemmas.{plane_of}
use Rattle.lists.proofs.ListBelow.{list_below-of}
use Rattle.page_tally.specs.Standing.{AreTrappedTo, AreTrapping, IsPlateRow, IsTintRow, IsTrappedTo, KeepsRow}

pub numbered : (page : PageParts) (y x : ℕ) → x < width page → sample_at page (y * width page + x) ≡ record { x = x; y = y }
numbered page y x l = rw (div-mul-add y (width page) x l, mod-mul-add y (width page) x l) refl

-- samples that keep their tints

plate_kept : (page : PageParts) (c n w : ℕ) (plane : Plane) → n + w ≤ samples page → ((x : ℕ) → x < w → new page (sample_at page (n + x)) c ≡ tint page c (sample_at page (n + x))) → IsTrappedTo page c n plane → IsTrappedTo page c (n + w) plane
plate_kept page c n w plane inside keep h = record {
  wide = h.wide;
  tall = h.tall;
  deep = h.deep;
  long = h.long;
  done = λ k l. elim (cases_lt k n) [
    | inl before ↦ h.done k before
    | inr from ↦ (let back : n + (k - n) ≡ k = omega (arith, from) in
        let kept : new page (sample_at page k) c ≡ tint page c (sample_at page k) = subst (λ (i : ℕ). new page (sample_at page i) c ≡ tint page c (sample_at page i)) back (keep (k - n) (omega (arith, from, l))) in
        h.rest k from (omega (arith, l, inside)) ∙ sym kept)
  ];
  rest = λ k a l. h.rest k (omega (arith, a)) l;
}

pub row_inside : (page : PageParts) (y : ℕ) → y < height page → y * width page + width page ≤ samples page
row_inside page y l = (let d = height page - (y + 1) in let e : height page ≡ y + 1 + d = omega (arith, l) in plain d e) where
  plain : (d : ℕ) → height page ≡ y + 1 + d → y * width page + width page ≤ samples page
  plain d e = (let whole : samples page ≡ width page * (y + 1 + d) = ap (λ (h : ℕ). width page * h) e in omega (arith, whole))

pub next_row : (y w : ℕ) → y * w + w ≡ (y + 1) * w
next_row y w = omega arith

-- a quiet row
pub planes_quiet : (page : PageParts) (planes : List Plane) (y : ℕ) → y < height page → KeepsRow page y → AreTrappedTo page planes (y * width page) → AreTrappedTo page planes ((y + 1) * width page)
planes_quiet page planes y ly keep h = subst (λ (n : ℕ). AreTrappedTo page planes n) (next_row y (width page)) (record {
  count = h.count;
  each = λ c l. plate_kept page c (y * width page) (width page) (plane_at planes c) (row_inside page y ly) (λ x lx. subst (λ (p : At). new page p c ≡ tint page c p) (sym (numbered page y x lx)) (keep c x l lx)) (h.each c l);
})

-- samples of a row that stay as they are
pub row_kept : (page : PageParts) (y c x count : ℕ) (plane : Plane) → y < height page → x + count ≤ width page → ((k : ℕ) → k < count → new page (record { x = x + k; y = y }) c ≡ tint page c (record { x = x + k; y = y })) → IsTrappedTo page c (y * width page + x) plane → IsTrappedTo page c (y * width page + (x + count)) plane
row_kept page y c x count plane ly inside keep h = subst (λ (n : ℕ). IsTrappedTo page c n plane) (let e : y * width page + x + count ≡ y * width page + (x + count) = omega arith in e) (plate_kept page c (y * width page + x) count plane (omega (arith, row_inside page y ly, inside)) (λ k l. subst (λ (p : At). new page p c ≡ tint page c p) (sym (ap (sample_at page) (let e : y * width page + x + k ≡ y * width page + (x + k) = omega arith in e) ∙ numbered page y (x + k) (omega (arith, l, inside)))) (keep k l)) h)

-- a row goes on to its end
pub row_all : (page : PageParts) (y c x : ℕ) (plane : Plane) → x ≡ width page → IsTrappedTo page c (y * width page + x) plane → IsTrappedTo page c ((y + 1) * width page) plane
row_all page y c x plane e h = subst (λ (n : ℕ). IsTrappedTo page c n plane) (let all : y * width page + x ≡ (y + 1) * width page = omega (arith, e) in all) h

-- and begins
pub row_none : (page : PageParts) (y c : ℕ) (plane : Plane) → IsTrappedTo page c (y * width page) plane → IsTrappedTo page c (y * width page + 0) plane
row_none page y c plane h = subst (λ (n : ℕ). IsTrappedTo page c n plane) (let e : y * width page ≡ y * width page + 0 = omega arith in e) h

-- a plate's row that is the same
pub row_same : (page : PageParts) (y c : ℕ) (plane : Plane) (before after : List ℕ) → y < height page → before ≡ after → IsTintRow page y c before → IsPlateRow page y c after → IsTrappedTo page c (y * width page) plane → IsTrappedTo page c ((y + 1) * width page) plane
row_same page y c plane before after ly e b a h = row_all page y c (0 + width page) plane (omega arith) (row_kept page y c 0 (width page) plane ly (omega arith) (λ k l. (let zero_more : 0 + k ≡ k = omega arith in rw zero_more (sym (a.each k l) ∙ (ap (λ (xs : List ℕ). slice_index xs k) (sym e) ∙ b.each k l)))) (row_none page y c plane h))

pub plate_same : (page : PageParts) (planes : List Plane) (y c : ℕ) (before after : List ℕ) → y < height page → before ≡ after → IsTintRow page y c before → IsPlateRow page y c after → AreTrapping page planes (y * width page) (width page) c → AreTrapping page planes (y * width page) (width page) (c + 1)
plate_same page planes y c before after ly e b a h = record {
  count = h.count;
  done = λ j l lj. elim (cases_eq j c) [
    | inl q ↦ rw q (subst (λ (n : ℕ). IsTrappedTo page c n (plane_at planes c)) (sym (next_row y (width page))) (row_same page y c (plane_at planes c) before after ly e b a (h.rest c (omega arith) (omega (arith, q, lj)))))
    | inr ne ↦ h.done j (omega (arith, l, ne)) lj
  ];
  rest = λ j a lj. h.rest j (omega (arith, a)) lj;
}

-- one more sample of a plate

plate_put : (page : PageParts) (c n t : ℕ) (plane : Plane) → n < samples page → t ≡ new page (sample_at page n) c → IsTrappedTo page c n plane → IsTrappedTo page c (n + 1) (record plane { tints = slice_set plane.tints n t })
plate_put page c n t plane inside et h = record {
  wide = h.wide;
  tall = h.tall;
  deep = h.deep;
  long = length-set plane.tints n t ∙ h.long;
  done = λ k l. elim (cases_eq k n) [
    | inl e ↦ rw e (get_or-set_same plane.tints n t 0 (omega (arith, h.long, inside)) ∙ et)
    | inr ne ↦ get_or-set_other plane.tints n k t 0 ne ∙ h.done k (omega (arith, l, ne))
  ];
  rest = λ k a l. get_or-set_other plane.tints n k t 0 (λ e. omega (arith, e, a)) ∙ h.rest k (omega (arith, a)) l;
}

pub row_put : (page : PageParts) (y c x t w : ℕ) (plane : Plane) → w ≡ width page → y < height page → x < width page → t ≡ new page (record { x = x; y = y }) c → IsTrappedTo page c (y * width page + x) plane → IsTrappedTo page c (y * width page + (x + 1)) (record plane { tints = slice_set plane.tints (y * w + x) t })
row_put page y c x t w plane ew ly lx et h =
    subst (λ (n : ℕ). IsTrappedTo page c (y * width page + (x + 1)) (record plane { tints = slice_set plane.tints (y * n + x) t })) (sym ew)
    (subst (λ (k : ℕ). IsTrappedTo page c k (record plane { tints = slice_set plane.tints (y * width page + x) t })) (let e : y * width page + x + 1 ≡ y * width page + (x + 1) = omega arith in e)
    (plate_put page c (y * width page + x) t plane (omega (arith, mul-add-lt y (width page) x (height page) ly lx)) (et ∙ ap (λ (p : At). new page p c) (sym (numbered page y x lx))) h))

pub row_long : (page : PageParts) (y c x w : ℕ) (plane : Plane) → w ≡ width page → y < height page → x < width page → IsTrappedTo page c (y * width page + x) plane → y * w + x < length plane.tints
row_long page y c x w plane ew ly lx h = rw ew (omega (arith, h.long, mul-add-lt y (width page) x (height page) ly lx))

-- one more plate
pub trapping_put : (page : PageParts) (planes : List Plane) (y c : ℕ) (placed : Plane) → c < plates page → IsTrappedTo page c ((y + 1) * width page) placed → AreTrapping page planes (y * width page) (width page) c → AreTrapping page (slice_set planes c placed) (y * width page) (width page) (c + 1)
trapping_put page planes y c placed lc put h = record {
  count = length-set planes c placed ∙ h.count;
  done = λ j l lj. elim (cases_eq j c) [
    | inl q ↦ rw (q, get_or-set_same planes c placed no_plane (omega (arith, h.count, lc))) (subst (λ (n : ℕ). IsTrappedTo page c n placed) (sym (next_row y (width page))) put)
    | inr ne ↦ rw (get_or-set_other planes c j placed no_plane ne) (h.done j (omega (arith, l, ne)) lj)
  ];
  rest = λ j a lj. rw (get_or-set_other planes c j placed no_plane (λ e. omega (arith, e, a))) (h.rest j (omega (arith, a)) lj);
}

pub trapping_all : (page : PageParts) (planes : List Plane) (y c : ℕ) → c ≡ plates page → AreTrapping page planes (y * width page) (width page) c → AreTrappedTo page planes ((y + 1) * width page)
trapping_all page planes y c e h = subst (λ (n : ℕ). AreTrappedTo page planes n) (next_row y (width page)) (record { count = h.count; each = λ j l. h.done j (omega (arith, e, l)) l })

-- the planes before and after

pub place_sample_at : (page : PageParts) (k : ℕ) → place page (sample_at page k) ≡ k
place_sample_at page k = div-add-mod' k (width page)

pub copied : (page : PageParts) (c : ℕ) (tints : List ℕ) → IsPage page → c < plates page → tints ≡ (plane_at page.planes c).tints → IsTrappedTo page c 0 (record { width = width page; height = height page; maxval = maxval page; tints = tints })
copied page c tints valid l e = record {
  wide = refl;
  tall = refl;
  deep = refl;
  long = ap length e ∙ (plane_of page c valid l).full ∙ ap (λ (w : ℕ). w * (plane_at page.planes c).height) (valid.agree c l).wide ∙ ap (λ (h : ℕ). width page * h) (valid.agree c l).tall;
  done = λ k a. absurd (omega (arith, a));
  rest = λ k _ _. ap (λ (xs : List ℕ). slice_index xs k) e ∙ ap (slice_index (plane_at page.planes c).tints) (sym (place_sample_at page k));
}

pub copied_next : (page : PageParts) (planes : List Plane) (plane : Plane) (c : ℕ) → length planes ≡ c → IsTrappedTo page c 0 plane → ((j : ℕ) → j < c → IsTrappedTo page j 0 (plane_at planes j)) → (j : ℕ) → j < c + 1 → IsTrappedTo page j 0 (plane_at (planes ++ plane ∷ []) j)
copied_next page planes plane c long h before j l = elim (cases_eq j c) [
  | inl e ↦ (let here : plane_at (planes ++ plane ∷ []) j ≡ plane = get_or_push planes plane no_plane j (long ∙ sym e) in rw here (rw e h))
  | inr ne ↦ (let here : plane_at (planes ++ plane ∷ []) j ≡ plane_at planes j = get_or_append_left planes (plane ∷ []) no_plane j (omega (arith, long, l, ne)) in rw here (before j (omega (arith, l, ne))))
]

abbrev made : ℕ → ℕ → ℕ → List ℕ → Plane
made w h m t = record { width = w; height = h; maxval = m; tints = t }

plane_made : (p : Plane) (w h m : ℕ) (t : List ℕ) → p.width ≡ w → p.height ≡ h → p.maxval ≡ m → p.tints ≡ t → p ≡ record { width = w; height = h; maxval = m; tints = t }
plane_made p w h m t ew eh em et = ap (λ (n : ℕ). made n p.height p.maxval p.tints) ew ∙ ap (λ (n : ℕ). made w n p.maxval p.tints) eh ∙ ap (λ (n : ℕ). made w h n p.tints) em ∙ ap (made w h m) et

plane_whole : (page : PageParts) (c : ℕ) (plane : Plane) → IsTrappedTo page c (samples page) plane → plane ≡ trapped_plane page c
unfolding new_tints
plane_whole page c plane h = plane_made plane _ _ _ _ h.wide h.tall h.deep (list_below-of 0 (λ k. new page (sample_at page k) c) (samples page) plane.tints h.long (λ k l. h.done k l))

-- trapped to the last sample
pub trapped_whole : (page : PageParts) (planes : List Plane) → AreTrappedTo page planes (height page * width page) → planes ≡ trapped_planes page
unfolding trapped_planes
trapped_whole page planes h =
    let all : height page * width page ≡ samples page = omega arith in
    list_below-of no_plane (trapped_plane page) (plates page) planes h.count (λ c l. plane_whole page c (plane_at planes c) (rw all at (h.each c l)))

-- a row of a plane that has all its new tints
pub taken_row : (page : PageParts) (y c w : ℕ) (plane : Plane) (items after : List ℕ) → w ≡ width page → items ≡ plane.tints → IsTrappedTo page c (height page * width page) plane → y < height page → ((x : ℕ) → x < w → slice_index after x ≡ slice_index items (y * w + x)) → (x : ℕ) → x < width page → slice_index after x ≡ new page (record { x = x; y = y }) c
taken_row page y c w plane items after ew ei h ly each x l =
    each x (omega (arith, l, ew))
    ∙ (ap (λ (xs : List ℕ). slice_index xs (y * w + x)) ei
    ∙ (ap (λ (n : ℕ). slice_index plane.tints (y * n + x)) ew
    ∙ (h.done (y * width page + x) (omega (arith, mul-add-lt y (width page) x (height page) ly l)) ∙ ap (λ (p : At). new page p c) (numbered page y x l))))
