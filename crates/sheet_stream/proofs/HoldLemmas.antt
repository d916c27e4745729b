-- The rows that are held from one strip to the next.
use Rattle.std.proofs.Common.{◌≡◌, ℕ, zero, suc, ◌+◌, ◌-◌, ◌*◌, ◌<◌, ◌≤◌, List, [], ◌∷◌, ◌++◌, length, map, get_or, drop, take, refl, sym, ap, ◌∙◌, subst, arith, length-append, length-drop}
use Rattle.std.proofs.Math.Nat.{mul-le-mul}
use Rattle.std.proofs.lemmas.List.{drop-append-le, get_or-map, get_or_default, length-map, length-replicate, take-append-drop, take_all, take_at}
use Rattle.sheet_geometry.specs.StripRows.{rows_of}
use Rattle.sheet_geometry.proofs.OutlineLemmas.{height_is, maxval_is, plates_is, width_is}
use Rattle.sheet_geometry.proofs.CoreStripLemmas.{planes_are}
use Rattle.page_model.specs.declared.parts.PageParts.{PageParts}
use Rattle.page_model.specs.declared.parts.Plane.{Plane}
use Rattle.page_model.specs.Page.{height, maxval, plates, width}
use Rattle.page_model.specs.Planes.{no_plane, plane_at, tints_of}
use Rattle.sheet_stream.specs.StoredStrips.{StripIsMade, blank_plane}
use Rattle.sheet_geometry.specs.Strips.{strip_parts}
use Rattle.sheet_geometry.specs.Windows.{moved_zone, points_of}
use Rattle.sheet_geometry.specs.Outline.{IsOutlineSheet}
use Rattle.sheet_stream.specs.Holding.{AreCopied, AreKept, HaveWorkspaceFor, HoldRowsFrom, HoldsStrip, NoneAreStored, behind}

drop_more : {X : Type 0} (m n : ℕ) (xs : List X) → drop (m + n) xs ≡ drop n (drop m xs)
drop_more zero n xs = ap (λ (k : ℕ). drop k xs) (let e : 0 + n ≡ n = omega arith in e)
drop_more (suc m) n [] = drop_nothing (suc m + n) ∙ sym (ap (drop n) (drop_nothing (suc m)) ∙ drop_nothing n) where
  drop_nothing : {X : Type 0} (k : ℕ) → ◌≡◌ {A = List X} (drop k []) []
  drop_nothing zero = refl
  drop_nothing (suc k) = refl
drop_more (suc m) n (x ∷ xs) = ap (λ (k : ℕ). drop k (x ∷ xs)) (let e : suc m + n ≡ suc (m + n) = omega arith in e) ∙ drop_more m n xs

-- The tints of one plane are copied and filled: the ones that are known then end later.
module _ (known tints copied filled : List ℕ) (first by kept : ℕ) (are : tints ≡ drop first known) (common : take kept copied ≡ take kept (drop by tints)) (stay : take kept filled ≡ take kept copied) (fits : by + kept ≡ length tints) (within : first ≤ length known) where
  pub stored_on : filled ≡ drop (first + by) (known ++ drop kept filled)
  stored_on =
      let all : take kept (drop by tints) ≡ drop by tints = take_all kept (drop by tints) (let d = length-drop by tints in omega (arith, d, fits)) in
      let front : take kept filled ≡ drop (first + by) known =
      stay ∙ common ∙ all ∙ ap (drop by) are ∙ sym (drop_more first by known) in
      let workspace : first + by ≤ length known = (let l = length-drop first known in let e = ap length are in some_workspace first by kept (length known) (length tints) (e ∙ l) fits within) in
      sym (take-append-drop kept filled)
      ∙ ap (λ (t : List ℕ). t ++ drop kept filled) front
      ∙ sym (drop-append-le (first + by) known (drop kept filled) workspace) where
        some_workspace : (first by kept all left : ℕ) → left ≡ all - first → by + kept ≡ left → first ≤ all → first + by ≤ all
        some_workspace first by kept all left a b c = omega (arith, a, b, c)

pub none_stored : NoneAreStored
none_stored outline rows old new workspace kept = record {
  count = kept.count ∙ workspace.count;
  read = λ c l. (let e = (kept.form c (here c l)).full in let t = workspace.workspace c l in let d = length-drop 0 (tints_of new c) in omega (arith, e, t, d));
  wide = λ c l. (kept.form c (here c l)).width ∙ workspace.wide c l;
  tall = λ c l. (kept.form c (here c l)).height ∙ workspace.tall c l;
  deep = λ c l. (kept.form c (here c l)).maxval ∙ workspace.deep c l;
  stored = λ c l. (let e : 0 * width outline ≡ 0 = omega arith in sym (ap (λ (k : ℕ). drop k (drop 0 (tints_of new c))) e));
} where
  here : (c : ℕ) → c < plates outline → c < length old
  here c l = (let e = workspace.count in omega (arith, l, e))

module _ (outline : PageParts) (from next rows : ℕ) (tints : ℕ → List ℕ) (old copied new : List Plane) (holds : HoldRowsFrom outline from rows tints old) (low : from ≤ next) (high : next ≤ from + rows) (common : AreCopied ((next - from) * width outline) ((from + rows - next) * width outline) old copied) (kept : AreKept ((from + rows - next) * width outline) copied new) where
  in_old : (c : ℕ) → c < plates outline → c < length old
  in_old c l = (let e = holds.count in omega (arith, l, e))

  in_copied : (c : ℕ) → c < plates outline → c < length copied
  in_copied c l = (let e = holds.count in let f = common.count in omega (arith, l, e, f))

  -- how many tints each plane has
  long : (c : ℕ) → c < plates outline → length (tints_of old c) ≡ rows * width outline
  long c l = (let e = ap length (holds.stored c l) in let d = length-drop (from * width outline) (tints c) in let r = holds.read c l in omega (arith, e, d, r))

  long_new : (c : ℕ) → c < plates outline → length (tints_of new c) ≡ rows * width outline
  long_new c l = (kept.form c (in_copied c l)).full ∙ (common.each c (in_old c l)).form.full ∙ long c l

  parts : (next - from) * width outline + (from + rows - next) * width outline ≡ rows * width outline
  parts = (let e : (next - from) + (from + rows - next) ≡ rows = omega (arith, low, high) in sum_times (next - from) (from + rows - next) rows (width outline) e) where
    sum_times : (a b c w : ℕ) → a + b ≡ c → a * w + b * w ≡ c * w
    sum_times a b c w e = (let m : (a + b) * w ≡ c * w = ap (λ (n : ℕ). n * w) e in omega (arith, m))

  later : from * width outline + (next - from) * width outline ≡ next * width outline
  later = (let e : from + (next - from) ≡ next = omega (arith, low) in let m : (from + (next - from)) * width outline ≡ next * width outline = ap (λ (n : ℕ). n * width outline) e in omega (arith, m))

  within : (c : ℕ) → c < plates outline → from * width outline ≤ length (tints c)
  within c l = (let m : from * width outline ≤ (from + rows) * width outline = mul-le-mul (omega arith) (omega arith) in let r = holds.read c l in omega (arith, m, r))

  pub next_stored : HoldRowsFrom outline next rows (λ c. tints c ++ behind ((from + rows - next) * width outline) new c) new
  next_stored = record {
    count = kept.count ∙ common.count ∙ holds.count;
    read = λ c l. (let a = length-append (tints c) (behind ((from + rows - next) * width outline) new c) in
        let d = length-drop ((from + rows - next) * width outline) (tints_of new c) in
        let r = holds.read c l in let n = long_new c l in let p = parts in let q = later in omega (arith, a, d, r, n, p, q));
    wide = λ c l. (kept.form c (in_copied c l)).width ∙ (common.each c (in_old c l)).form.width ∙ holds.wide c l;
    tall = λ c l. (kept.form c (in_copied c l)).height ∙ (common.each c (in_old c l)).form.height ∙ holds.tall c l;
    deep = λ c l. (kept.form c (in_copied c l)).maxval ∙ (common.each c (in_old c l)).form.maxval ∙ holds.deep c l;
    stored = λ c l.
        stored_on (tints c) (tints_of old c) (tints_of copied c) (tints_of new c) (from * width outline) ((next - from) * width outline) ((from + rows - next) * width outline) (holds.stored c l) (common.each c (in_old c l)).first (kept.first c (in_copied c l)) (parts ∙ sym (long c l)) (within c l)
        ∙ ap (λ (k : ℕ). drop k (tints c ++ behind ((from + rows - next) * width outline) new c)) later;
  }

pub holds_strip : HoldsStrip
holds_strip outline sheet row tints planes holds begins inside =
    planes_are sheet row begins.valid inside planes (record {
      count = holds.count ∙ sym plates_same;
      each = λ c l. (let below : c < plates outline = omega (arith, l, plates_same) in λ i. record {
        width = (holds.wide c below ∙ sym width_same) i;
        height = holds.tall c below i;
        maxval = (holds.deep c below ∙ sym maxval_same) i;
        tints = rows_same c below i;
      });
    }) where
      plates_same : plates sheet ≡ plates outline
      plates_same = sym (plates_is sheet) ∙ ap plates begins.same

      width_same : width sheet ≡ width outline
      width_same = sym (width_is sheet) ∙ ap width begins.same

      maxval_same : maxval sheet ≡ maxval outline
      maxval_same = sym (maxval_is sheet) ∙ ap maxval begins.same

      rows_same : (c : ℕ) → c < plates outline → tints_of planes c ≡ rows_of (width sheet) (tints_of sheet.planes c) row.from row.wide
      rows_same c l =
          let rest = begins.each c l in
          let count : length (tints c) ≡ (row.from + row.wide) * width outline = holds.read c l in
          let workspace : row.from * width outline ≤ length (tints c) = (let m : row.from * width outline ≤ (row.from + row.wide) * width outline = mul-le-mul (omega arith) (omega arith) in omega (arith, m, count)) in
          let left : length (drop (row.from * width outline) (tints c)) ≡ row.wide * width outline = (let d = length-drop (row.from * width outline) (tints c) in omega (arith, d, count)) in
          holds.stored c l
          ∙ sym (take_at (drop (row.from * width outline) (tints c)) rest.0 (row.wide * width outline) left)
          ∙ ap (take (row.wide * width outline)) (sym (drop-append-le (row.from * width outline) (tints c) rest.0 workspace))
          ∙ ap (λ (ts : List ℕ). take (row.wide * width outline) (drop (row.from * width outline) ts)) (sym rest.1)
          ∙ ap (λ (w : ℕ). rows_of w (tints_of sheet.planes c) row.from row.wide) (sym width_same)

pub strip_made : StripIsMade
strip_made outline sheet row tints parts strip holds begins inside =
    let planes = holds_strip outline sheet row tints parts.planes holds begins inside in
    let resolution : parts.resolution ≡ sheet.resolution = strip.resolution ∙ sym (ap (λ (s : PageParts). s.resolution) begins.same) in
    let inks : parts.inks ≡ sheet.inks = strip.inks ∙ sym (ap (λ (s : PageParts). s.inks) begins.same) in
    let tall : height outline ≡ height sheet = sym (sym (height_is sheet) ∙ ap height begins.same) in
    let zones : parts.zones ≡ (strip_parts sheet row).zones =
    strip.zones ∙ (λ i. map (moved_zone (points_of (sym begins.same i).resolution 0) (points_of (sym begins.same i).resolution (tall i - (row.from + row.wide)))) (sym begins.same i).zones) in
    λ i. record { resolution = resolution i; planes = planes i; inks = inks i; zones = zones i }

-- planes of no ink have room for so many rows
pub blank_workspace : (outline : PageParts) (rows : ℕ) (planes : List Plane) → IsOutlineSheet outline → planes ≡ map (blank_plane rows) outline.planes → HaveWorkspaceFor outline rows planes
blank_workspace outline rows planes is made = subst (HaveWorkspaceFor outline rows) (sym made) (record {
  count = length-map outline.planes (blank_plane rows);
  wide = λ c l. ap (λ (p : Plane). p.width) (at c l) ∙ (is.agree c l).wide;
  tall = λ c l. ap (λ (p : Plane). p.height) (at c l);
  deep = λ c l. ap (λ (p : Plane). p.maxval) (at c l) ∙ (is.agree c l).deep;
  workspace = λ c l. (let e = ap (λ (p : Plane). length p.tints) (at c l) in
      let r = length-replicate {A = ℕ} ((plane_at outline.planes c).width * rows) 0 in
      e ∙ r ∙ ap (λ (n : ℕ). n * rows) (is.agree c l).wide ∙ (let t : width outline * rows ≡ rows * width outline = omega arith in t));
}) where
  at : (c : ℕ) → c < plates outline → plane_at (map (blank_plane rows) outline.planes) c ≡ blank_plane rows (plane_at outline.planes c)
  at c l = get_or-map (blank_plane rows) outline.planes c no_plane no_plane l

-- plate 0 of a sheet
pub first_plane : (outline : PageParts) (planes : List Plane) (plane : Plane) → 1 ≤ plates outline → planes ≡ outline.planes → plane ≡ get_or planes 0 plane → plane ≡ plane_at outline.planes 0
first_plane outline planes plane some same is = is ∙ ap (λ (ps : List Plane). get_or ps 0 plane) same ∙ get_or_default outline.planes 0 plane no_plane (omega (arith, some))
