-- A sheet begins with what was read of its plates a second time.
use Rattle.std.proofs.Common.{◌≡◌, ◌⊎◌, ℕ, zero, suc, ◌-◌, ◌*◌, ◌<◌, ◌≤◌, List, ◌++◌, length, map, take, drop, Option, Some, None, Ok, IsTrue, inl, inr, sym, ap, ◌∙◌, subst, arith}
use Rattle.std.specs.List.{All}
use Rattle.std.proofs.lemmas.Bool.{cases_Bool, cases_eq, false≢true}
use Rattle.std.proofs.lemmas.List.{get_or-map, length-map, map-append, take-append-drop}
use Rattle.std.proofs.lemmas.List.Elements.{All-map}
use Rattle.job_reader.specs.declared.job.Job.{Job}
use Rattle.outside.specs.Tray.{TrayState}
use Rattle.page_files.specs.Assembly.{assembled, without_details}
use Rattle.page_files.specs.Inputs.{Sources, name_at, no_plate, plate_at}
use Rattle.page_model.specs.declared.parts.PageParts.{PageParts}
use Rattle.page_model.specs.declared.parts.Plane.{Plane}
use Rattle.page_model.specs.Page.{height, maxval, plates, width}
use Rattle.page_model.specs.Planes.{no_plane, plane_at}
use Rattle.pgm_plates.specs.declared.bounds.Bounds.TheVariants.{Sheet}
use Rattle.pgm_plates.specs.declared.header.Header.{Header}
use Rattle.pgm_plates.specs.declared.plate.Plate.{Plate as PlateRead}
use Rattle.pgm_plates.specs.declared.rows.OpenPlate.{OpenPlate}
use Rattle.pgm_plates.specs.Laws.{IsTopOf, TopOfFileWithin}
use Rattle.pgm_plates.specs.Planes.{plane_of}
use Rattle.plate_rows.specs.Trays.{open_at}
use Rattle.sheet_geometry.specs.declared.budget.Budget.{Budget}
use Rattle.sheet_geometry.specs.declared.sheet_errors.SheetError.{SheetError}
use Rattle.sheet_geometry.specs.CommonErrors.{sheet_error}
use Rattle.sheet_geometry.specs.Begun.{BeginsWith, MayBegin}
use Rattle.sheet_geometry.proofs.OutlineLemmas.{law_of, plates_is}
use Rattle.sheet_geometry.proofs.BegunLemmas.{some_sheet}
use Rattle.sheet_files.specs.declared.planning.PlannedSheet.{PlannedSheet}
use Rattle.sheet_files.specs.Gathering.{IsMadeSheet, TakesTrays}
use Rattle.sheet_files.specs.Inputs.{Spells, detailed, judged as judged_of, plates_by, sheet_of}
use Rattle.sheet_files.specs.Judging.{IsJudged}
use Rattle.sheet_files.specs.Rereading.{IsReread, tints_read}
use Rattle.sheet_files.specs.SheetFiles.{IsSheetFile}
use Rattle.plate_rows.specs.Trays.{tray_at}
use Rattle.sheet_files.specs.Trays.{AllTell}

-- all of the first trays tell, or one does not
all_or_one : (n : ℕ) (trays : List TrayState) → AllTell n trays ⊎ ((k : ℕ) × (k < n) × (IsTrue (tray_at trays k).tells → ⊥))
all_or_one zero trays = inl (λ k less. absurd (omega arith))
all_or_one (suc n) trays = elim (all_or_one n trays) [
  | inr one ↦ inr (one.0, omega (arith, one.1), one.2)
  | inl all ↦ elim (cases_Bool (tray_at trays n).tells) [
    | inl tells ↦ inl (λ k less. elim (cases_eq k n) [
      | inl same ↦ subst (λ (j : ℕ). IsTrue (tray_at trays j).tells) (sym same) tells
      | inr other ↦ all k (omega arith)
    ])
    | inr silent ↦ inr (n, omega arith, λ tells. false≢true (sym silent ∙ tells))
  ]
]

-- a sheet that is made of plates is the one that they are put together to
judged_same : (o : Option SheetError) (parts sheet : PageParts) → judged_of o parts ≡ Ok sheet → sheet ≡ parts
judged_same None parts sheet is = cc
judged_same (Some common_error) parts sheet is = absurd (cc)

detailed_same : (o : Option ℕ) (parts sheet : PageParts) → detailed o parts ≡ Ok sheet → sheet ≡ parts
detailed_same None parts sheet is = judged_same (sheet_error parts) parts sheet is
detailed_same (Some plate) parts sheet is = absurd (cc)

made_same : (job : Job) (read : List PlateRead) (names : List (List ℕ)) (sheet : PageParts) → sheet_of job read names ≡ Ok sheet → sheet ≡ assembled job read names
made_same job read names sheet is = detailed_same (without_details job names) (assembled job read names) sheet is

module _ (top : TopOfFileWithin Sheet) (source : Sources) (budget : Budget) (judged : PlannedSheet) (begun : List OpenPlate) (samples : ℕ → List ℕ) (a b c : List TrayState) (takes : TakesTrays source a b) (is : IsJudged source budget a judged) (reread : IsReread source judged.outline begun samples b c) where
  abbrev outline : PageParts
  outline = judged.outline

  count : plates outline ≡ length source.inputs
  count = sym (ap plates is.same) ∙ plates_is is.sheet ∙ is.made.count

  tints_few : (k : ℕ) → k < plates outline → length (tints_read outline samples k) ≤ width outline * height outline
  tints_few k l =
      let here : k < length source.inputs = omega (arith, l, count) in
      let few = (reread.read.each k here).few in
      let header = reread.headers k here in
      let m = length-map (samples k) (λ (v : ℕ). maxval outline - v) in
      let wide = ap (λ (h : Header). h.width * h.height) header in
      omega (arith, few, m, wide)

  tints_below : (k : ℕ) → k < plates outline → All (λ tint. tint ≤ maxval outline) (tints_read outline samples k)
  tints_below k l = All-map (λ (tint : ℕ). tint ≤ maxval outline) (λ (v : ℕ). maxval outline - v) (samples k) (λ j d within. omega arith)

  may : MayBegin outline (tints_read outline samples)
  may = record { few = tints_few; below = tints_below }

  -- where a tray does not tell, some sheet begins so
  untold : (k : ℕ) → k < length source.inputs → (IsTrue (tray_at a k).tells → ⊥) → (sheet : PageParts) × IsMadeSheet source a sheet × BeginsWith outline (tints_read outline samples) sheet
  untold k less silent =
      let some = some_sheet outline (tints_read outline samples) is.valid is.blank may in
      let begins = some.1 in (
        some.0,
        record {
          valid = begins.valid;
          accepted = sym (law_of some.0).same_error ∙ ap sheet_error begins.same ∙ is.accepted;
          count = sym (plates_is some.0) ∙ ap plates begins.same ∙ count;
          made = λ tells. absurd (silent (tells k less));
        },
        begins,
      )

  -- what was read again of a plate whose file is told is its top
  plate_top : (k : ℕ) (read : PlateRead) → k < length source.inputs → IsTrue (tray_at a k).tells → Spells (plates_by a source.inputs k) (λ bytes. IsSheetFile bytes read) → IsTopOf read (open_at begun k).header (samples k)
  plate_top k read less tells stored =
      top (name_at source.inputs k) (tray_at b k) (tray_at c k) (open_at begun k) (samples k) stored.0 read (reread.read.each k less) ((takes.keeps k).tells ∙ tells)
      (ap (λ (files : List ℕ → Option (List ℕ)). files (name_at source.inputs k)) (takes.keeps k).file ∙ stored.1) stored.2

  -- the tints of a plate begin with those of its top
  tints_top : (read : PlateRead) (k : ℕ) → IsTopOf read (open_at begun k).header (samples k) → read.maxval ≡ maxval outline → (plane_of read).tints ≡ tints_read outline samples k ++ map (λ (v : ℕ). maxval outline - v) (drop (length (samples k)) read.samples)
  tints_top read k is_top deep =
      ap (λ (m : ℕ). map (λ (v : ℕ). m - v) read.samples) deep
      ∙ ap (map (λ (v : ℕ). maxval outline - v)) (sym (take-append-drop (length (samples k)) read.samples))
      ∙ map-append (λ (v : ℕ). maxval outline - v) (take (length (samples k)) read.samples) (drop (length (samples k)) read.samples)
      ∙ ap (λ (ss : List ℕ). map (λ (v : ℕ). maxval outline - v) ss ++ map (λ (v : ℕ). maxval outline - v) (drop (length (samples k)) read.samples)) (sym is_top.first)

  reported : AllTell (length source.inputs) a → BeginsWith outline (tints_read outline samples) is.sheet
  reported tells =
      let makes = is.made.made tells in
      let job = makes.0 in
      let read = makes.1 in
      let inputs = makes.2 in
      let same = made_same job read source.names is.sheet makes.3 in
      record {
        valid = is.made.valid;
        same = is.same;
        each = λ k l. (let here : k < length source.inputs = omega (arith, l, count) in
            let of_read : k < length read = (let n = ap plates same in let m = length-map read plane_of in let p = is.made.count in omega (arith, here, n, m, p)) in
            let stored = inputs.plates_read.each k (let all = inputs.plates_read.all in omega (arith, of_read, all)) in
            let is_top = plate_top k (plate_at read k) here (tells k here) stored in
            let deep : (plate_at read k).maxval ≡ maxval outline = sym is_top.maxval ∙ ap (λ (h : Header). h.maxval) (reread.headers k here) in
            let plane : plane_at is.sheet.planes k ≡ plane_of (plate_at read k) = ap (λ (s : PageParts). plane_at s.planes k) same ∙ get_or-map plane_of read k no_plate no_plane of_read in
            (map (λ (v : ℕ). maxval outline - v) (drop (length (samples k)) (plate_at read k).samples), ap (λ (p : Plane). p.tints) plane ∙ tints_top (plate_at read k) k is_top deep));
      }

  pub reread_of : (sheet : PageParts) × IsMadeSheet source a sheet × BeginsWith outline (tints_read outline samples) sheet
  reread_of = elim (all_or_one (length source.inputs) a) [
    | inl tells ↦ (is.sheet, is.made, reported tells)
    | inr one ↦ untold one.0 one.1 one.2
  ]
