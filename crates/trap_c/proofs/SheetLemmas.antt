-- What a window's call says of the sheets that show its samples.
use Rattle.std.proofs.Common.{◌≡◌, ℕ, Bool, true, false, ◌+◌, ◌-◌, ◌*◌, ◌/◌, ◌%◌, ◌<◌, ◌≤◌, List, [], ◌∷◌, length, get_or, Option, Some, None, Result, Ok, Err, refl, sym, ap, ◌∙◌, subst, arith, if◌then◌else◌}
use Rattle.std.specs.Prelude.{◌==◌, ◌||◌, map, nat_le, slice_index_or}
use Rattle.std.proofs.Math.ListN.{get_or-map as mapped_at}
use Rattle.std.proofs.lemmas.Bool.{and_parts, eqb-true}
use Rattle.std.proofs.lemmas.Bool.Decides.{nat_tests}
use Rattle.std.proofs.lemmas.List.{length-map}
use Rattle.std.proofs.lemmas.Nat.{div-add-mod', div-mul-add, mod-mul-add, mul-add-lt}
use Rattle.job_reader.specs.declared.job.Job.{Job}
use Rattle.job_reader.specs.Jobs.{job_of}
use Rattle.lists.specs.Words.{greatest_below}
use Rattle.lists.proofs.ListBelow.{list_below-at}
use Rattle.page_files.specs.Assembly.{ink_of, parts_of_planes, zone_for}
use Rattle.page_model.specs.declared.parts.Ink.{Ink}
use Rattle.page_model.specs.declared.parts.PageParts.{PageParts}
use Rattle.page_model.specs.declared.parts.Plane.{Plane}
use Rattle.page_model.specs.declared.parts.Zone.{Zone}
use Rattle.page_model.specs.declared.parts.TrapParams.{TrapParams}
use Rattle.page_model.specs.Columns.{halo}
use Rattle.page_model.specs.Page.{height, no_zone, plates, sample_at, samples, width}
use Rattle.page_model.specs.Planes.{plane_at}
use Rattle.page_model.specs.Reach.{page_reach, params_reach}
use Rattle.page_model.specs.Tints.{new, new_tints, trapped_planes}
use Rattle.ps_tokens.specs.declared.faults.JobFault.{JobFault}
use Rattle.common_errors.specs.declared.common.CommonError.{CommonError}
use Rattle.sheet_geometry.specs.declared.cuts.Cut.{Cut}
use Rattle.sheet_geometry.specs.Areas.{changes_in, changes_plate, edges_at, lies_in, traps}
use Rattle.sheet_geometry.specs.Tiles.{IsCore, IsTile, Tile, TileLaw}
use Rattle.sheet_geometry.specs.WindowLaw.{IsInside, WindowLaw}
use Rattle.sheet_geometry.specs.Windows.{IsCut, IsExact, moved_zone, points_of, window}
use Rattle.trap_c.specs.declared.layout.Layout.{Layout}
use Rattle.trap_c.specs.declared.place.Along.{Along}
use Rattle.trap_c.specs.declared.place.Place.{Place}
use Rattle.trap_c.specs.declared.error.CallFault.{CallFault}
use Rattle.trap_c.specs.declared.error.CallError.{CallError}
use Rattle.trap_c.specs.Cores.{HaveCores, core_run, sum_over, tint_run}
use Rattle.trap_c.specs.Fit.{AreSides, call_fault}
use Rattle.trap_c.specs.Names.{names_in}
use Rattle.trap_c.specs.Pages.{Fills, page_unless, error_or, page_with}
use Rattle.trap_c.specs.Places.{IsPlaced, across_of, core_of, cut_of, down_of, is_at_step, is_exact, is_place, is_wide, is_wide_along, job_halo, job_reach, rows_after, suits, tile_of}
use Rattle.trap_c.specs.Planes.{planes_in}
use Rattle.trap_c.specs.Requests.{Asked}
use Rattle.trap_c.specs.WindowCalls.{IsOnSheet, IsSheetOf}
use Rattle.trap_c.specs.Windows.{call_window, first_far, made_unless, moved_job, placed, unless_far, window_by, window_with}
use Rattle.sheet_geometry.proofs.Parts.{plates-same}
use Rattle.trap_c.proofs.PageLemmas.{parts_made}
use Rattle.trap_c.proofs.WorkLemmas.{as_many_planes, one_plane}

-- the page that was made is the window of a job that was read, at a place that suits it

by_call : (o : Option CallFault) (made : Result PageParts CallError) (page : PageParts) → made_unless o made ≡ Ok page → made ≡ Ok page
by_call None made page e = e
by_call (Some fault) made page e = absurd (cc)

by_place : (b : Bool) (made : Result PageParts CallError) (page : PageParts) → placed b made ≡ Ok page → (b ≡ true) × (made ≡ Ok page)
by_place true made page e = (refl, e)
by_place false made page e = absurd (cc)

by_far : (o : Option ℕ) (made : Result PageParts CallError) (page : PageParts) → unless_far o made ≡ Ok page → made ≡ Ok page
by_far None made page e = e
by_far (Some zone) made page e = absurd (cc)

by_error : (r : Result PageParts CommonError) (page : PageParts) → error_or r ≡ Ok page → r ≡ Ok page
by_error (Ok made) page e = (let same : made ≡ page = cc in ap (λ (p : PageParts). Ok p) same)
by_error (Err common_error) page e = absurd (cc)

by_above : (o : Option CommonError) (made : Result PageParts CommonError) (page : PageParts) → page_unless o made ≡ Ok page → made ≡ Ok page
by_above None made page e = e
by_above (Some common_error) made page e = absurd (cc)

by_job : (layout : Layout) (place : Place) (r : Result Job JobFault) (names : List (List ℕ)) (planes : List Plane) (page : PageParts) → window_by layout place r names planes ≡ Ok page → (job : Job) × (r ≡ Ok job) × (window_with layout place job names planes ≡ Ok page)
by_job layout place (Ok job) names planes page e = (job, refl, e)
by_job layout place (Err fault) names planes page e = absurd (cc)

-- a page that is the window of a job at a place
pub record IsMade (asked : Asked) (place : Place) (before : List ℕ) (page : PageParts) (job : Job) : Type 0 where
  pub suited : suits job asked.layout place ≡ true
  pub page_is : page ≡ parts_of_planes (moved_job asked.layout place job) (planes_in asked.layout before (length (names_in asked.names))) (names_in asked.names)

pub made_window : (most : ℕ) (asked : Asked) (place : Place) (before : List ℕ) (page : PageParts) (job : Job) → call_window most asked place before ≡ Ok page → job_of asked.job ≡ Ok job → IsMade asked place before page job
made_window most asked place before page job e read =
    let names = names_in asked.names in
    let layout = asked.layout in
    let planes = planes_in layout before (length names) in
    let made = by_call (call_fault most names layout (length before)) _ page e in
    let right = by_place (is_place layout place) _ page made in
    let found = by_job layout place (job_of asked.job) names planes page right.1 in
    let same : found.0 ≡ job = cc (found.1, read) in
    let given : window_with layout place job names planes ≡ Ok page = subst (λ (j : Job). window_with layout place j names planes ≡ Ok page) same found.2 in
    let suited = by_place (suits job layout place) _ page given in
    let moved = moved_job layout place job in
    let near = by_far (first_far moved.zones) _ page suited.1 in
    let all = by_above _ _ page (by_error (page_with moved names planes) page near) in
    record { suited = suited.0; page_is = parts_made moved planes names page all }

-- the sheet's window there is that page

abbrev parts_by : ℕ → List Plane → List Ink → List Zone → PageParts
parts_by r planes inks zones = record { resolution = r; planes = planes; inks = inks; zones = zones }

zones_swapped : (right up : ℕ) (names : List (List ℕ)) (zones : List Zone) → map (moved_zone right up) (map (zone_for names) zones) ≡ map (zone_for names) (map (moved_zone right up) zones)
zones_swapped right up names [] = refl
zones_swapped right up names (z ∷ zs) = ap (λ (rest : List Zone). moved_zone right up (zone_for names z) ∷ rest) (zones_swapped right up names zs)

-- the window's zones, by the resolution, the rows of the sheet and its zones
abbrev zones_by : Cut → ℕ → ℕ → List Zone → List Zone
zones_by cut r rows zones = map (moved_zone (points_of r cut.left) (points_of r (rows - (cut.top + cut.height)))) zones

same_window : (asked : Asked) (place : Place) (before : List ℕ) (page sheet : PageParts) (job : Job) → IsMade asked place before page job → IsSheetOf job asked place before sheet → window sheet (cut_of asked.layout place) ≡ page
same_window asked place before page sheet job is of =
    let cut = cut_of asked.layout place in
    let names = names_in asked.names in
    let r : sheet.resolution ≡ job.resolution = ap (λ (s : PageParts). s.resolution) of.made in
    let inks : sheet.inks ≡ map (ink_of job.details) names = ap (λ (s : PageParts). s.inks) of.made in
    let zones : sheet.zones ≡ map (zone_for names) job.zones = ap (λ (s : PageParts). s.zones) of.made in
    let moved : zones_by cut sheet.resolution (height sheet) sheet.zones ≡ zones_by cut job.resolution place.sheet_height (map (zone_for names) job.zones) = λ i. zones_by cut (r i) (of.tall i) (zones i) in
    let swapped = zones_swapped (points_of job.resolution place.left) (points_of job.resolution (rows_after asked.layout place)) names job.zones in
    let all : zones_by cut sheet.resolution (height sheet) sheet.zones ≡ map (zone_for names) (moved_job asked.layout place job).zones = moved ∙ swapped in
    let whole : window sheet cut ≡ parts_of_planes (moved_job asked.layout place job) (planes_in asked.layout before (length names)) names = λ i. parts_by (r i) (of.shown i) (inks i) (all i) in
    whole ∙ sym is.page_is

-- the reach of the sheet is the job's

abbrev reach_by : ℕ → TrapParams → ℕ
reach_by r params = if params.enabled then params_reach r params else 0

reach_alike : (sheet : PageParts) (job : Job) (names : List (List ℕ)) → sheet ≡ parts_of_planes job sheet.planes names → page_reach sheet ≡ job_reach job
unfolding page_reach
reach_alike sheet job names made =
    let r : sheet.resolution ≡ job.resolution = ap (λ (s : PageParts). s.resolution) made in
    let zones : sheet.zones ≡ map (zone_for names) job.zones = ap (λ (s : PageParts). s.zones) made in
    let many : length sheet.zones ≡ length job.zones = ap (λ (zs : List Zone). length zs) zones ∙ length-map job.zones (zone_for names) in
    let params : (z : ℕ) → (slice_index_or sheet.zones z no_zone).params ≡ (slice_index_or job.zones z no_zone).params = λ z. ap (λ (zs : List Zone). (slice_index_or zs z no_zone).params) zones ∙ ap (λ (zone : Zone). zone.params) (mapped_at (zone_for names) job.zones z no_zone) in
    λ i. greatest_below (λ z. reach_by (r i) (params z i)) (many i)

-- the place of the window and of its core

exact_from : (resolution samples : ℕ) → is_exact resolution samples ≡ true → IsExact resolution samples
exact_from resolution samples e =
    let none : (720000 * samples) % resolution ≡ 0 = eqb-true _ _ e in
    let parts = div-add-mod' (720000 * samples) resolution in
    omega (arith, none, parts)

wide_before : (more : ℕ) (along : Along) → is_wide_along more along ≡ true → 0 < along.from → more ≤ along.core_from
wide_before more along e some = (let t = (and_parts ((along.from == 0) || nat_le more along.core_from) ((along.from + along.wide == along.side) || nat_le (along.core_from + along.core + more) along.wide) e).0 in grind (arith, nat_tests))

wide_after : (more : ℕ) (along : Along) → is_wide_along more along ≡ true → along.from + along.wide < along.side → along.core_from + along.core + more ≤ along.wide
wide_after more along e some = (let t = (and_parts ((along.from == 0) || nat_le more along.core_from) ((along.from + along.wide == along.side) || nat_le (along.core_from + along.core + more) along.wide) e).1 in grind (arith, nat_tests))

-- the first of a test, where the other does not hold
other_holds : (few right : Bool) → (few || right) ≡ true → few ≡ false → right ≡ true
other_holds false right e none = e
other_holds true right e none = absurd (cc)

-- on both sides of a core, along the columns or the rows
record IsWideAlong (more : ℕ) (along : Along) : Type 0 where
  before : 0 < along.from → more ≤ along.core_from
  suffix : along.from + along.wide < along.side → along.core_from + along.core + more ≤ along.wide

record Suits (job : Job) (layout : Layout) (place : Place) : Type 0 where
  across : IsWideAlong (job_halo job) (across_of layout place)
  down : IsWideAlong (job_halo job) (down_of layout place)
  right : 1 < length job.zones → IsExact job.resolution place.left
  up : 1 < length job.zones → IsExact job.resolution (rows_after layout place)

suits_from : (job : Job) (layout : Layout) (place : Place) → suits job layout place ≡ true → Suits job layout place
suits_from job layout place e =
    let both = and_parts (is_wide (job_halo job) layout place) (nat_le (length job.zones) 1 || is_at_step job.resolution layout place) e in
    let wide = and_parts (is_wide_along (job_halo job) (across_of layout place)) (is_wide_along (job_halo job) (down_of layout place)) both.0 in
    let step : 1 < length job.zones → (is_exact job.resolution place.left ≡ true) × (is_exact job.resolution (rows_after layout place) ≡ true) = λ many. and_parts _ _ (other_holds (nat_le (length job.zones) 1) (is_at_step job.resolution layout place) both.1 (grind (arith, nat_tests))) in
    record {
      across = record { before = wide_before (job_halo job) (across_of layout place) wide.0; suffix = wide_after (job_halo job) (across_of layout place) wide.0 };
      down = record { before = wide_before (job_halo job) (down_of layout place) wide.1; suffix = wide_after (job_halo job) (down_of layout place) wide.1 };
      right = λ many. exact_from job.resolution place.left (step many).0;
      up = λ many. exact_from job.resolution (rows_after layout place) (step many).1;
    }

-- what is known of a sheet that shows the samples of a call that was done
module _ (asked : Asked) (place : Place) (before : List ℕ) (page sheet : PageParts) (job : Job) (sides : AreSides asked.layout) (placed_is : IsPlaced asked.layout place) (is : IsMade asked place before page job) (of : IsSheetOf job asked place before sheet) where
  suited : Suits job asked.layout place
  suited = suits_from job asked.layout place is.suited

  many_zones : length sheet.zones ≡ length job.zones
  many_zones = ap (λ (s : PageParts). length s.zones) of.made ∙ length-map job.zones (zone_for (names_in asked.names))

  finely : sheet.resolution ≡ job.resolution
  finely = ap (λ (s : PageParts). s.resolution) of.made

  is_cut : IsCut sheet (cut_of asked.layout place)
  is_cut = record {
    some_plates = of.ranges.parts.some_plates;
    some_zones = of.ranges.parts.some_zones;
    some_width = sides.some_width;
    some_height = sides.some_height;
    across = (let w = of.wide in omega (arith, placed_is.across, w));
    down = (let h = of.tall in omega (arith, placed_is.down, h));
    exact_right = λ many. subst (λ (r : ℕ). IsExact r place.left) (sym finely) (suited.right (let m = many_zones in omega (arith, many, m)));
    exact_up = λ many. subst (λ (r : ℕ). IsExact r (height sheet - (place.top + asked.layout.height))) (sym finely) (subst (λ (h : ℕ). IsExact job.resolution (h - (place.top + asked.layout.height))) (sym of.tall) (suited.up (let m = many_zones in omega (arith, many, m))));
  }

  reach_is : page_reach sheet ≡ job_reach job
  reach_is = reach_alike sheet job (names_in asked.names) of.made

  wide_enough : halo (page_reach sheet) ≤ job_halo job
  wide_enough = (let e : halo (page_reach sheet) ≡ halo (job_reach job) = ap halo reach_is in omega (arith, e))

  is_core : IsCore (halo (page_reach sheet)) sheet (cut_of asked.layout place) (core_of place)
  is_core = record {
    across = placed_is.core_across;
    down = placed_is.core_down;
    left = λ some. (let a = suited.across.before some in omega (arith, a, wide_enough));
    top = λ some. (let a = suited.down.before some in omega (arith, a, wide_enough));
    right = λ less. (let w = of.wide in let a = suited.across.suffix (omega (arith, less, w)) in omega (arith, a, wide_enough));
    bottom = λ less. (let h = of.tall in let a = suited.down.suffix (omega (arith, less, h)) in omega (arith, a, wide_enough));
  }

  is_tile : IsTile (halo (page_reach sheet)) sheet (tile_of asked.layout place) (place.left + place.core_left) (place.top + place.core_top) place.core_height
  is_tile = record { cut = is_cut; core = is_core; left = refl; top = refl; tall = refl }

  is_inside : (y x : ℕ) → y < place.core_height → x < place.core_width → IsInside sheet (cut_of asked.layout place) (page_reach sheet) (record { x = place.core_left + x; y = place.core_top + y })
  is_inside y x ly lx = record {
    x = (let a = is_core.across in omega (arith, a, lx));
    y = (let a = is_core.down in omega (arith, a, ly));
    left = λ some. (let a = is_core.left some in omega (arith, a));
    right = λ less. (let a = is_core.right less in omega (arith, a, lx));
    top = λ some. (let a = is_core.top some in omega (arith, a));
    bottom = λ less. (let a = is_core.bottom less in omega (arith, a, ly));
  }

  window_is : window sheet (cut_of asked.layout place) ≡ page
  window_is = same_window asked place before page sheet job is of

  many_plates : plates page ≡ plates sheet
  many_plates = ap plates (sym window_is) ∙ plates-same sheet (cut_of asked.layout place)

  pub on_sheet_is : (after : List ℕ)
      → ((c y x : ℕ) → c < plates page → y < place.core_height → x < place.core_width → get_or after (core_run asked.layout (core_of place) c y + x) 0 ≡ new page (record { x = place.core_left + x; y = place.core_top + y }) c)
      → ((s : PageParts) (k : Cut) → IsCut s k → WindowLaw s k)
      → ((s : PageParts) (t : Tile) (x y rows : ℕ) → IsTile (halo (page_reach s)) s t x y rows → TileLaw traps s t x y rows)
      → IsOnSheet asked.layout place page sheet after
  on_sheet_is after core windows tiles =
      let law = tiles sheet (tile_of asked.layout place) (place.left + place.core_left) (place.top + place.core_top) place.core_height is_tile in
      let window = windows sheet (cut_of asked.layout place) is_cut in
      let back = sym window_is in
      record {
        window_is = window_is;
        tile = is_tile;
        tints = λ c y x lc ly lx. core c y x (let m = many_plates in omega (arith, lc, m)) ly lx
            ∙ (ap (λ (p : PageParts). new p (record { x = place.core_left + x; y = place.core_top + y }) c) back
            ∙ (window.traps (record { x = place.core_left + x; y = place.core_top + y }) (is_inside y x ly lx)).tints c);
        zone_samples = λ z. ap (λ (p : PageParts). sum_over (core_of place) (lies_in z p)) back ∙ law.zone_samples z;
        zone_changed = λ z. ap (λ (p : PageParts). sum_over (core_of place) (changes_in traps z p)) back ∙ law.zone_changed z;
        plate_changed = λ c. ap (λ (p : PageParts). sum_over (core_of place) (changes_plate traps c p)) back ∙ law.plate_changed c;
        edges = ap (λ (p : PageParts). sum_over (core_of place) (edges_at p)) back ∙ law.marks;
      }

-- the core that was put in has the new tints of the page

new_at : (page : PageParts) (c x y w : ℕ) → width page ≡ w → x < w → y < height page → get_or (new_tints page c) (y * w + x) 0 ≡ new page (record { x = x; y = y }) c
unfolding new_tints
new_at page c x y w wide lx ly =
    let within : y * w + x < samples page = (let m = mul-add-lt y w x (height page) ly lx in let e : samples page ≡ w * height page = ap (λ (n : ℕ). n * height page) wide in omega (arith, m, e)) in
    let column : (y * w + x) % width page ≡ x = ap (λ (n : ℕ). (y * w + x) % n) wide ∙ mod-mul-add y w x lx in
    let row : (y * w + x) / width page ≡ y = ap (λ (n : ℕ). (y * w + x) / n) wide ∙ div-mul-add y w x lx in
    list_below-at (λ k. new page (sample_at page k) c) (samples page) (y * w + x) 0 within
    ∙ (λ i. new page (record { x = column i; y = row i }) c)

pub core_is_new : (page : PageParts) (layout : Layout) (count : ℕ) (place : Place) (planes : List Plane) (before after : List ℕ) → Fills layout count page → IsPlaced layout place → planes ≡ trapped_planes page → HaveCores layout (core_of place) planes before after (length planes) → (c y x : ℕ) → c < plates page → y < place.core_height → x < place.core_width → get_or after (core_run layout (core_of place) c y + x) 0 ≡ new page (record { x = place.core_left + x; y = place.core_top + y }) c
core_is_new page layout count place planes before after fills is e cores c y x lc ly lx =
    let many : length planes ≡ plates page = ap (λ (ps : List Plane). length ps) e ∙ as_many_planes page in
    let at : (plane_at planes c).tints ≡ new_tints page c = ap (λ (ps : List Plane). (plane_at ps c).tints) e ∙ ap (λ (p : Plane). p.tints) (one_plane page c lc) in
    cores.inside c y x (omega (arith, lc, many)) ly lx
    ∙ (ap (λ (ts : List ℕ). get_or ts (tint_run layout (core_of place) y + x) 0) at
    ∙ (ap (λ (n : ℕ). get_or (new_tints page c) n 0) (omega arith)
    ∙ new_at page c (place.core_left + x) (place.core_top + y) layout.width fills.wide (omega (arith, is.core_across, lx)) (omega (arith, is.core_down, ly, fills.tall))))
