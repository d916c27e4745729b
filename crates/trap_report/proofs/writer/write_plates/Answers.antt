-- What `write_plates` has to show.
use Rattle.std.proofs.lemmas.Result.{err_from_is_err_and}
use Rattle.std.proofs.Common.{◌≡◌, ◌≤◌, ℕ, suc, List, Err, ap, arith, slice_index, subst}
use Rattle.page_model.specs.Page.{ink_at, plates}
use Rattle.trap_report.specs.Report.{plate_line, plate_lines}
use Rattle.trap_report.proofs.AllLines.{plates_from}
use Rattle.trap_report.proofs.writer.write_plates.Goals as goal

pub returns-in_err-write_plate-clause-added : goal.returns-in_err-write_plate-clause-added
returns-in_err-write_plate-clause-added g c =
    let p = err_from_is_err_and c.from_residual.result c.from_residual.ensures.1 in
    rw p.1 (
    let plate = c.loop-plate.plate in
    let page = g.P.Reported.parts c.args.page.now in
    let counts = c.args.counts.now in
    let failed = c.in_err-write_plate.field-0.0 in
    let name = (ink_at page plate).name in
    let changed = slice_index counts.plate_changed plate in
    let ns = c.ink_name.ensures in
    let cs = ap (λ (xs : List ℕ). slice_index xs plate) c.as_slice-changed.ensures in
    let said : ◌≡◌ {A = List ℕ} (plate_line c.ink_name.result.now (slice_index c.as_slice-changed.result.now plate)) (plate_line name changed) = λ i. plate_line (ns i) (cs i) in
    let here = subst (λ (text : List ℕ). g.S.Sink.adds text c.loop-plate.sink c.write_plate.new.sink (Err failed)) said c.in_err-write_plate.ensures.added in
    let last : suc plate ≤ plates page = omega arith in
    let from = plates_from page counts (suc plate) (plates page) last in
    subst (λ (text : List ℕ). g.S.Sink.adds text c.args.sink.now c.write_plate.new.sink (Err failed)) from.1
    (g.met.S.Sink.stopped (plate_lines page counts (suc plate)) from.0 c.args.sink.now c.write_plate.new.sink failed
    (g.met.S.Sink.then (plate_lines page counts plate) (plate_line name changed) c.args.sink.now c.loop-plate.sink c.write_plate.new.sink (Err failed) c.loop-plate.invariant.added here))
    )
