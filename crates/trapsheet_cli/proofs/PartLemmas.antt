-- Plates that were written by rows, as the files of a sheet: whole, in part, or broken off.
use Rattle.std.proofs.Common.{◌≡◌, ◌≢◌, ◌⊎◌, ℕ, zero, suc, ◌<◌, IsTrue, List, [], ◌∷◌, length, take, Option, Some, None, Ok, Err, inl, inr, refl, sym, ap, ◌∙◌, subst, arith}
use Rattle.std.proofs.lemmas.Bool.{cases_eq, cases_lt}
use Rattle.sheet_geometry.specs.Outline.{outline_sheet}
use Rattle.sheet_geometry.proofs.OutlineLemmas.{height_is, maxval_is, plates_is, width_is}
use Rattle.lists.proofs.ListBelow.{list_below-at}
use Rattle.outside.specs.Rack.{RackState, put}
use Rattle.outside.specs.Tray.{TrayState}
use Rattle.outside.specs.Writing.{WritesFile}
use Rattle.outside.specs.declared.tray.DeviceError.{DeviceError}
use Rattle.outside.proofs.Names.{asks_before}
use Rattle.page_files.specs.Inputs.{name_at}
use Rattle.page_model.specs.declared.parts.PageParts.{PageParts}
use Rattle.page_model.specs.declared.parts.Plane.{Plane}
use Rattle.page_model.specs.Page.{plates}
use Rattle.page_model.specs.Planes.{no_plane, plane_at}
use Rattle.page_model.specs.Tints.{new_tints, trapped_plane, trapped_planes}
use Rattle.page_files.specs.Format.{encoded}
use Rattle.page_files.specs.Writing.{BreaksAt, WritesAll}
use Rattle.page_files.proofs.Steps.{breaks_next, wrote_none}
use Rattle.pgm_plates.specs.declared.header.Header.{Header}
use Rattle.plate_rows.specs.Images.{AreWritten}
use Rattle.sheet_stream.specs.Courses.{Course}
use Rattle.sheet_stream.specs.Second.{MayStand, PartsStand, PlateBreaks, course_of, plate_bytes, sheet_header}
use Rattle.sheet_stream.specs.Writing.{StandsInPart}
use Rattle.page_files.specs.Verdicts.{Targets}
use Rattle.sheet_files.specs.Reporting.{sheet_report}
use Rattle.plate_rows.specs.Racks.{rack_at}
use Rattle.sheet_files.specs.Racks.{BreaksSheet, HoldParts, HoldsPart, KeepsRacks, WritesFirst, plate_file, rack_files, rack_names, targets}
use Rattle.sheet_files.proofs.RackLemmas.{RackKept, keeps_same, kept_file, kept_is, wrote_one}

header_is : (outline sheet : PageParts) → outline_sheet sheet ≡ outline → sheet_header outline ≡ sheet_header sheet
header_is outline sheet same =
    let sides : sheet_header (outline_sheet sheet) ≡ sheet_header sheet = λ i. record { width = width_is sheet i; height = height_is sheet i; maxval = maxval_is sheet i } in
    ap sheet_header (sym same) ∙ sides

-- the bytes of a plate are those of the trapped plane
bytes_are : (header : Header) (sheet : PageParts) (k : ℕ) → header ≡ sheet_header sheet → k < plates sheet → plate_bytes header sheet k ≡ encoded (plane_at (trapped_planes sheet) k)
unfolding trapped_planes
bytes_are header sheet k same less =
    ap (λ (h : Header). plate_bytes h sheet k) same
    ∙ ap encoded (sym (list_below-at (trapped_plane sheet) (plates sheet) k no_plane less))

-- a rack by which a plate stands in part
kept_part : (name bytes : List ℕ) (rest : List (List ℕ)) (a b : RackState) → StandsInPart name bytes a b → RackKept (name ∷ rest) a b
kept_part name bytes rest a b stands = record {
  keeps = stands.keeps;
  reported = stands.reported;
  asked = asks_before a.asked b.asked (name ∷ []) rest stands.asked;
}

module _ (inputs outputs : List (List ℕ)) (report : List ℕ) (trays : List TrayState) (a : List RackState) (outline sheet : PageParts) (header : Header) (deep : header ≡ sheet_header outline) (same : outline_sheet sheet ≡ outline) (many : length outputs ≡ plates outline) where
  abbrev course : Course
  course = course_of inputs outputs trays a

  abbrev target : Targets
  target = targets outputs report

  abbrev planes : List Plane
  planes = trapped_planes sheet

  bytes_at : (k : ℕ) → k < length outputs → plate_bytes header sheet k ≡ encoded (plane_at planes k)
  bytes_at k less =
      let count : plates sheet ≡ length outputs = sym (plates_is sheet) ∙ ap plates same ∙ sym many in
      bytes_are header sheet k (deep ∙ header_is outline sheet same) (omega (arith, less, count))

  -- all plates are written whole
  pub writes_first : (b : List RackState) → AreWritten outputs header (plates outline) (new_tints sheet) a b → WritesFirst outputs planes (length outputs) a b
  writes_first b are = record {
    each = λ k less. subst (λ (bytes : List ℕ). WritesFile {T = Unit {0}} {E = DeviceError} (name_at outputs k) bytes (rack_at a k) (rack_at b k) (Ok tt)) (bytes_at k less) (are.each k (omega (arith, less, many)));
    others = λ k more. are.others k (omega (arith, more, many));
  }

  module _ (b : List RackState) where
    part_at : (k : ℕ) → k < length outputs → StandsInPart (name_at outputs k) (plate_bytes header sheet k) (rack_at a k) (rack_at b k) → HoldsPart (plate_file target planes k) (rack_at a k) (rack_at b k)
    part_at k less stands = record {
      asked = stands.asked;
      finished = stands.finished;
      is_open = stands.is_open;
      part = subst (λ (bytes : List ℕ). IsTrue (rack_at a k).tells → (count : ℕ) × ((rack_at b k).file ≡ put (name_at outputs k) (take count bytes) (rack_at a k).file)) (bytes_at k less) stands.part;
      well = stands.well;
    }

    may_hold : (k : ℕ) → k < length outputs → MayStand course header sheet k b → (rack_at b k ≡ rack_at a k) ⊎ HoldsPart (plate_file target planes k) (rack_at a k) (rack_at b k)
    may_hold k less (inl is) = inl is
    may_hold k less (inr stands) = inr (part_at k less stands)

    kept_may : (k : ℕ) → MayStand course header sheet k b → RackKept (rack_names target k) (rack_at a k) (rack_at b k)
    kept_may k (inl is) = kept_is (rack_names target k) (rack_at a k) (rack_at b k) is
    kept_may zero (inr stands) = kept_part (name_at outputs 0) (plate_bytes header sheet 0) (report ∷ []) (rack_at a 0) (rack_at b 0) stands
    kept_may (suc k) (inr stands) = kept_part (name_at outputs (suc k)) (plate_bytes header sheet (suc k)) [] (rack_at a (suc k)) (rack_at b (suc k)) stands

    -- Of each plate a prefix stands at most.
    module _ (stand : PartsStand course outline header b sheet) where
      pub hold_parts : HoldParts target planes a b
      hold_parts k less = may_hold k less (stand.each k (omega (arith, less, many)))

      kept_at : (k : ℕ) → RackKept (rack_names target k) (rack_at a k) (rack_at b k)
      kept_at k = elim (cases_lt k (plates outline)) [
        | inl less ↦ kept_may k (stand.each k less)
        | inr more ↦ kept_is (rack_names target k) (rack_at a k) (rack_at b k) (stand.others k (omega arith))
      ]

      pub parts_keep : KeepsRacks target a b
      parts_keep = record {
        keeps = λ k. (kept_at k).keeps;
        reported = λ k. (kept_at k).reported;
        asked = λ k. (kept_at k).asked;
        beyond = λ k more. stand.others k (omega (arith, more, many));
      }

    -- A plate could not be written whole.
    module _ (k : ℕ) (breaks : PlateBreaks course outline header k b sheet) where
      abbrev Here : ℕ → Type 0
      Here j = WritesFile {T = Unit {0}} (name_at outputs j) (encoded (plane_at planes j)) (rack_at a j) (rack_at b j) (Err breaks.failed)

      within : k < length outputs
      within = (let l = breaks.known in omega (arith, l, many))

      here : Here k
      here = subst (λ (bytes : List ℕ). WritesFile {T = Unit {0}} (name_at outputs k) bytes (rack_at a k) (rack_at b k) (Err breaks.failed)) (bytes_at k within) breaks.here

      breaks_at : (j : ℕ) → Here j → BreaksAt (rack_files target planes (sheet_report sheet) j) 0 (rack_at a j) (rack_at b j)
      breaks_at zero at = breaks_next [] (plate_file target planes 0) (record { name = report; bytes = sheet_report sheet } ∷ []) (rack_at a 0) (rack_at a 0) (rack_at b 0) breaks.failed (keeps_same (rack_at a 0)) (wrote_none [] (rack_at a 0) refl) at
      breaks_at (suc j) at = breaks_next [] (plate_file target planes (suc j)) [] (rack_at a (suc j)) (rack_at a (suc j)) (rack_at b (suc j)) breaks.failed (keeps_same (rack_at a (suc j))) (wrote_none [] (rack_at a (suc j)) refl) at

      abbrev Wrote : ℕ → Type 0
      Wrote j = WritesFile {T = Unit {0}} {E = DeviceError} (name_at outputs j) (plate_bytes header sheet j) (rack_at a j) (rack_at b j) (Ok tt)

      whole : (j : ℕ) → j < length outputs → Wrote j → WritesAll (plate_file target planes j ∷ []) (rack_at a j) (rack_at b j)
      whole j less wrote = wrote_one (plate_file target planes j) (rack_at a j) (rack_at b j) tt
          (subst (λ (bytes : List ℕ). WritesFile {T = Unit {0}} {E = DeviceError} (name_at outputs j) bytes (rack_at a j) (rack_at b j) (Ok tt)) (bytes_at j less) wrote)

      abbrev Other : ℕ → Type 0
      Other j = (rack_at b j ≡ rack_at a j) ⊎ HoldsPart (plate_file target planes j) (rack_at a j) (rack_at b j) ⊎ WritesAll (plate_file target planes j ∷ []) (rack_at a j) (rack_at b j)

      stored : (j : ℕ) → (rack_at b j ≡ rack_at a j) ⊎ HoldsPart (plate_file target planes j) (rack_at a j) (rack_at b j) → Other j
      stored j (inl is) = inl is
      stored j (inr part) = inr (inl part)

      other_at : (j : ℕ) → j < length outputs → MayStand course header sheet j b ⊎ Wrote j → Other j
      other_at j less (inl may) = stored j (may_hold j less may)
      other_at j less (inr wrote) = inr (inr (whole j less wrote))

      others : (j : ℕ) → j ≢ k → Other j
      others j other = elim (cases_lt j (plates outline)) [
        | inl less ↦ other_at j (omega (arith, less, many)) (breaks.each j less other)
        | inr more ↦ inl (breaks.others j (omega arith))
      ]

      broken_kept : (j : ℕ) → Here j → RackKept (rack_names target j) (rack_at a j) (rack_at b j)
      broken_kept zero at = kept_file (name_at outputs 0) (encoded (plane_at planes 0)) (report ∷ []) (rack_at a 0) (rack_at b 0) (Err breaks.failed) at
      broken_kept (suc j) at = kept_file (name_at outputs (suc j)) (encoded (plane_at planes (suc j))) [] (rack_at a (suc j)) (rack_at b (suc j)) (Err breaks.failed) at

      wrote_kept : (j : ℕ) → Wrote j → RackKept (rack_names target j) (rack_at a j) (rack_at b j)
      wrote_kept zero wrote = kept_file (name_at outputs 0) (plate_bytes header sheet 0) (report ∷ []) (rack_at a 0) (rack_at b 0) (Ok tt) wrote
      wrote_kept (suc j) wrote = kept_file (name_at outputs (suc j)) (plate_bytes header sheet (suc j)) [] (rack_at a (suc j)) (rack_at b (suc j)) (Ok tt) wrote

      kept_else : (j : ℕ) → MayStand course header sheet j b ⊎ Wrote j → RackKept (rack_names target j) (rack_at a j) (rack_at b j)
      kept_else j (inl may) = kept_may j may
      kept_else j (inr wrote) = wrote_kept j wrote

      kept_other : (j : ℕ) → j ≢ k → RackKept (rack_names target j) (rack_at a j) (rack_at b j)
      kept_other j other = elim (cases_lt j (plates outline)) [
        | inl less ↦ kept_else j (breaks.each j less other)
        | inr more ↦ kept_is (rack_names target j) (rack_at a j) (rack_at b j) (breaks.others j (omega arith))
      ]

      kept_each : (j : ℕ) → RackKept (rack_names target j) (rack_at a j) (rack_at b j)
      kept_each j = elim (cases_eq j k) [
        | inl is ↦ subst (λ (n : ℕ). RackKept (rack_names target n) (rack_at a n) (rack_at b n)) (sym is) (broken_kept k here)
        | inr other ↦ kept_other j other
      ]

      pub breaks_keep : KeepsRacks target a b
      breaks_keep = record {
        keeps = λ j. (kept_each j).keeps;
        reported = λ j. (kept_each j).reported;
        asked = λ j. (kept_each j).asked;
        beyond = λ j more. breaks.others j (omega (arith, more, many));
      }

      pub plate_breaks : BreaksSheet target planes (sheet_report sheet) (Some k) a b
      plate_breaks = record { known = within; breaks = breaks_at k here; once = here.once; others = others; whole = λ is. absurd (let e : ◌≡◌ {A = Option ℕ} (Some k) None = is in cc) }
