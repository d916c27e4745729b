-- What is written differs from what was read only near edges.
use Rattle.std.proofs.Common.{◌≡◌, ◌≢◌, ℕ, ◌-◌, ◌*◌, ◌<◌, ◌≤◌, true, if◌then◌else◌, List, map, length, get_or, Option, Some, None, inl, inr, refl, sym, ap, ◌∙◌, arith}
use Rattle.std.proofs.lemmas.Bool.{cases_Bool, cases_eq, leb-true}
use Rattle.std.proofs.lemmas.List.{get_or-map, length-map}
use Rattle.std.proofs.Math.Nat.{mod-add-div, mul-le-mul, le_trans}
use Rattle.page_model.specs.declared.parts.At.{At}
use Rattle.page_model.specs.declared.parts.EdgeAt.{EdgeAt}
use Rattle.page_model.specs.declared.parts.PageParts.{PageParts}
use Rattle.page_model.specs.declared.parts.Plane.{Plane}
use Rattle.page_model.specs.Decider.{decider}
use Rattle.page_model.specs.Edges.{d2}
use Rattle.page_model.specs.Limits.{half_sample, scale}
use Rattle.page_model.specs.Conditions.{Agrees}
use Rattle.page_model.specs.Page.{plates, width, height, maxval, place, samples, sample_at, tint, params_at}
use Rattle.page_model.specs.Planes.{plane_at, no_plane}
use Rattle.page_model.specs.Tints.{new, new_tints}
use Rattle.page_model.specs.Within.{within, within_in, black, edge_slid}
use Rattle.lists.specs.Words.{square}
use Rattle.page_model.specs.Zones.{zone_of}
use Rattle.page_model.proofs.ReachLaws.{keeps_unless_within}
use Rattle.page_files.specs.Inputs.{plate_at, no_plate}
use Rattle.pgm_plates.specs.declared.bounds.Bounds.{Bounds}
use Rattle.pgm_plates.specs.declared.plate.Plate.{Plate as PlateRead}
use Rattle.pgm_plates.specs.Planes.{plane_of}
use Rattle.pgm_plates.specs.Plates.{IsPlateWithin}
use Rattle.lists.proofs.ListBelow.{length-list_below, list_below-at}
use Rattle.page_files.specs.Locality.{IsNear, ChangesNearEdges, sample_in, plate_after}

-- how far an edge is that is within
up_to : (d tw factor res parts : ℕ) → 1 ≤ parts → d * square (half_sample * parts) ≤ square (tw * factor * res) → d * square half_sample ≤ square (tw * factor * res)
up_to d tw factor res parts some near =
    let once : half_sample ≤ half_sample * parts = omega arith in
    let more : square half_sample ≤ square (half_sample * parts) = mul-le-mul once once in
    let same : d ≤ d = omega arith in
    let grown : d * square half_sample ≤ d * square (half_sample * parts) = mul-le-mul same more in
    le_trans grown near

near_in : (page : PageParts) (z : ℕ) (p : At) (e : EdgeAt) (factor : ℕ) → (if black page (params_at page z) e then (params_at page z).black_width else scale) ≡ factor → within_in page z p e ≡ true → d2 p e * square half_sample ≤ square ((params_at page z).trap_width * factor * page.resolution)
unfolding within_in
near_in page z p e factor is near = elim (cases_Bool (edge_slid page (params_at page z) e)) [
  | inl slid ↦ up_to (d2 p e) (params_at page z).trap_width factor page.resolution 2 (omega arith) (leb-true _ _ (rw (slid, is) at near))
  | inr full ↦ up_to (d2 p e) (params_at page z).trap_width factor page.resolution 1 (omega arith) (leb-true _ _ (rw (full, is) at near))
]

near : (page : PageParts) (p : At) (e : EdgeAt) → decider page p ≡ Some e → within page p e ≡ true → IsNear page p e
near page p e decides is = record {
  decides = decides;
  is_within = is;
  plain = λ other. near_in page (zone_of page p) p e scale (rw other refl) is;
  at_black = λ dark. near_in page (zone_of page p) p e (params_at page (zone_of page p)).black_width (rw dark refl) is;
}

-- a sample that gets another tint in some plate is near its edge
changed_near : (page : PageParts) (p : At) (c : ℕ) → new page p c ≢ tint page c p → (e : EdgeAt) × IsNear page p e
changed_near page p c differs = go (decider page p) refl where
  go : (o : Option EdgeAt) → decider page p ≡ o → (e : EdgeAt) × IsNear page p e
  go None none = absurd (differs ((keeps_unless_within page p).none none c))
  go (Some e) some = elim (cases_Bool (within page p e)) [
    | inl is ↦ (e, near page p e some is)
    | inr off ↦ absurd (differs ((keeps_unless_within page p).far e some off c))
  ]

module _ (bounds : Bounds) (page : PageParts) (read : List PlateRead) (c k : ℕ) (planes : page.planes ≡ map plane_of read) (agree : Agrees page c) (plate : IsPlateWithin bounds (plate_at read c)) (known : c < length read) (inside : k < samples page) where
  -- the plate and its plane
  plane_is : plane_at page.planes c ≡ plane_of (plate_at read c)
  plane_is = ap (λ (ps : List Plane). plane_at ps c) planes ∙ get_or-map plane_of read c no_plate no_plane known

  deep : (plate_at read c).maxval ≡ maxval page
  deep = ap (λ (q : Plane). q.maxval) (sym plane_is) ∙ agree.deep

  stored : k < length (plate_at read c).samples
  stored =
      let wide : (plate_at read c).width ≡ width page = ap (λ (q : Plane). q.width) (sym plane_is) ∙ agree.wide in
      let tall : (plate_at read c).height ≡ height page = ap (λ (q : Plane). q.height) (sym plane_is) ∙ agree.tall in
      let all : length (plate_at read c).samples ≡ samples page = plate.count ∙ ap (λ (n : ℕ). n * (plate_at read c).height) wide ∙ ap (λ (n : ℕ). width page * n) tall in
      omega (arith, all)

  -- sample k stands in place k
  place_is : place page (sample_at page k) ≡ k
  place_is = omega (arith, mod-add-div k (width page))

  tint_is : tint page c (sample_at page k) ≡ maxval page - sample_in (plate_at read c) k
  tint_is =
      ap (λ (n : ℕ). get_or (plane_at page.planes c).tints n 0) place_is
      ∙ ap (λ (q : Plane). get_or q.tints k 0) plane_is
      ∙ get_or-map (λ (s : ℕ). (plate_at read c).maxval - s) (plate_at read c).samples k 0 0 stored
      ∙ ap (λ (m : ℕ). m - sample_in (plate_at read c) k) deep

  written_is : sample_in (plate_after page c) k ≡ maxval page - new page (sample_at page k) c
  unfolding new_tints
  written_is =
      let long : k < length (new_tints page c) = omega (arith, length-list_below (λ (j : ℕ). new page (sample_at page j) c) (samples page)) in
      get_or-map (λ (t : ℕ). maxval page - t) (new_tints page c) k 0 0 long
      ∙ ap (λ (t : ℕ). maxval page - t) (list_below-at (λ (j : ℕ). new page (sample_at page j) c) (samples page) k 0 inside)

  -- a sample whose tint is kept keeps its value
  kept_value : new page (sample_at page k) c ≡ tint page c (sample_at page k) → sample_in (plate_after page c) k ≡ sample_in (plate_at read c) k
  kept_value same =
      let low : sample_in (plate_at read c) k ≤ maxval page = omega (arith, plate.samples k 0 stored, deep) in
      written_is ∙ ap (λ (t : ℕ). maxval page - t) (same ∙ tint_is) ∙ omega (arith, low)

  changed : sample_in (plate_after page c) k ≢ sample_in (plate_at read c) k → (e : EdgeAt) × IsNear page (sample_at page k) e
  changed differs = changed_near page (sample_at page k) c (λ same. differs (kept_value same))

  kept : ((e : EdgeAt) → IsNear page (sample_at page k) e → ⊥) → sample_in (plate_after page c) k ≡ sample_in (plate_at read c) k
  kept none = elim (cases_eq (sample_in (plate_after page c) k) (sample_in (plate_at read c) k)) [
    | inl same ↦ same
    | inr other ↦ (let found = changed other in absurd (none found.0 found.1))
  ]

-- Where a page or a sheet is made of these plates, without a fault, they change near its edges alone.
pub changes_near : (bounds : Bounds) (page : PageParts) (read : List PlateRead) → page.planes ≡ map plane_of read → ((c : ℕ) → c < plates page → Agrees page c) → ((c : ℕ) → c < length read → IsPlateWithin bounds (plate_at read c)) → ChangesNearEdges page read
changes_near bounds page read planes agree plate =
    let count : plates page ≡ length read = ap (λ (ps : List Plane). length ps) planes ∙ length-map read plane_of in
    record {
      changed = λ c k below inside differs.
          let known : c < length read = omega (arith, count) in
          changed bounds page read c k planes (agree c below) (plate c known) known inside differs;
      kept = λ c k below inside none.
          let known : c < length read = omega (arith, count) in
          kept bounds page read c k planes (agree c below) (plate c known) known inside none;
    }
