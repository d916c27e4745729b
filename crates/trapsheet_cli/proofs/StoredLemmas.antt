-- A sheet that is held with all its rows.
use Rattle.std.proofs.Common.{◌≡◌, ℕ, ◌*◌, ◌<◌, ◌≤◌, List, length, Ok, Err, refl, sym, ap, ◌∙◌, subst, arith}
use Rattle.sheet_geometry.specs.Outline.{IsOutlineSheet, outline_sheet}
use Rattle.sheet_geometry.proofs.OutlineLemmas.{law_of}
use Rattle.sheet_geometry.proofs.BegunLemmas.{some_sheet}
use Rattle.outside.specs.Rack.{RackState}
use Rattle.outside.specs.Tray.{TrayState}
use Rattle.page_model.specs.declared.parts.PageParts.{PageParts}
use Rattle.page_model.specs.Page.{height, plates, width}
use Rattle.pgm_plates.specs.declared.header.Header.{Header}
use Rattle.common_errors.specs.declared.common.CommonError.TheVariants.{Memory}
use Rattle.sheet_files.specs.declared.error.TrapsheetError.{TrapsheetError}
use Rattle.sheet_files.specs.declared.error.TrapsheetError.TheVariants.{Common}
use Rattle.sheet_stream.specs.Whole.{IsStored}
use Rattle.sheet_stream.proofs.OnSheets.{may_begin}
use Rattle.sheet_stream.specs.RowReading.{tints_for}
use Rattle.sheet_geometry.specs.Sheets.{IsSheet}
use Rattle.page_files.specs.Verdicts.{Targets}
use Rattle.sheet_files.specs.Holding.{HoldsAll}
use Rattle.trapsheet_cli.specs.Planned.{PutsWhole}
use Rattle.sheet_files.specs.Errors.{error_of}

pub stored_in : (inputs : List (List ℕ)) (outline parts : PageParts) (b c : List TrayState) → HoldsAll inputs outline b c (Ok parts) → IsStored inputs outline parts b c
stored_in inputs outline parts b c (HoldsAll.stored sheet is stored) =
    let same : parts ≡ sheet = cc in
    subst (λ (p : PageParts). IsStored inputs outline p b c) (sym same) stored
stored_in inputs outline parts b c (HoldsAll.stopped error is stops) = absurd (cc)
stored_in inputs outline parts b c (HoldsAll.no_memory is same) = absurd (cc)

-- What is known of it.
pub record StoredSheet (outline parts : PageParts) : Type 0 where
  pub valid : IsSheet parts
  pub same : outline_sheet parts ≡ outline

pub stored_sheet : (inputs : List (List ℕ)) (outline parts : PageParts) (b c : List TrayState) → IsOutlineSheet outline → outline_sheet outline ≡ outline → IsStored inputs outline parts b c → StoredSheet outline parts
stored_sheet inputs outline parts b c valid blank stored =
    let few : (k : ℕ) → k < plates outline → length (stored.samples k) ≤ width outline * height outline = λ k l.
    (let e = stored.headers.count in
    let here : k < length stored.begun = omega (arith, l, e) in
    let a = (stored.read.each k here).few in
    let h = ap (λ (h : Header). h.width * h.height) (stored.headers.each k here) in
    omega (arith, a, h)) in
    let some = some_sheet outline (tints_for outline stored.samples) valid blank (may_begin outline stored.samples few) in
    let same = stored.same some.0 some.1 in
    record { valid = subst IsSheet (sym same) some.1.valid; same = ap outline_sheet same ∙ some.1.same }

pub stored_plates : (outline parts : PageParts) → StoredSheet outline parts → plates parts ≡ plates outline
stored_plates outline parts stored = sym (law_of parts).plates ∙ ap plates stored.same

-- The reading stopped, or there was no memory.
pub not_stored : (target : Targets) (inputs : List (List ℕ)) (outline : PageParts) (b c : List TrayState) (r : List RackState) (error : TrapsheetError) → HoldsAll inputs outline b c (Err error) → PutsWhole target inputs outline b c r r (Err error)
not_stored target inputs outline b c r error (HoldsAll.stored sheet is stored) = absurd (cc)
not_stored target inputs outline b c r error (HoldsAll.stopped at is stops) = (let same : error ≡ error_of at = cc in PutsWhole.stopped at (ap (λ (s : TrapsheetError). Err s) same) stops refl)
not_stored target inputs outline b c r error (HoldsAll.no_memory is stay) = (let same : error ≡ Common Memory = cc in PutsWhole.no_memory (ap (λ (s : TrapsheetError). Err s) same) stay refl)
