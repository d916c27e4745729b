-- What `write_zones` has to show.
use Rattle.std.proofs.lemmas.Result.{err_from_is_err_and}
use Rattle.std.proofs.Common.{◌≡◌, ℕ, suc, List, Err, ap, arith, slice_index, subst}
use Rattle.trap_report.specs.Report.{zone_line, zone_lines}
use Rattle.trap_report.proofs.AllLines.{zones_from}
use Rattle.trap_report.proofs.writer.write_zones.Goals as goal

pub returns-in_err-write_zone-clause-added : goal.returns-in_err-write_zone-clause-added
returns-in_err-write_zone-clause-added g c =
    let p = err_from_is_err_and c.from_residual.result c.from_residual.ensures.1 in
    rw p.1 (
    let zone = c.loop-zone.zone in
    let counts = c.args.counts.now in
    let failed = c.in_err-write_zone.field-0.0 in
    let samples = slice_index counts.zone_samples zone in
    let changed = slice_index counts.zone_changed zone in
    let ss = ap (λ (xs : List ℕ). slice_index xs zone) c.as_slice-samples.ensures in
    let cs = ap (λ (xs : List ℕ). slice_index xs zone) c.as_slice-changed.ensures in
    let said : ◌≡◌ {A = List ℕ} (zone_line zone (slice_index c.as_slice-samples.result.now zone) (slice_index c.as_slice-changed.result.now zone)) (zone_line zone samples changed) = λ i. zone_line zone (ss i) (cs i) in
    let here = subst (λ (text : List ℕ). g.S.Sink.adds text c.loop-zone.sink c.write_zone.new.sink (Err failed)) said c.in_err-write_zone.ensures.added in
    let from = zones_from counts (suc zone) c.args.zones (omega arith) in
    subst (λ (text : List ℕ). g.S.Sink.adds text c.args.sink.now c.write_zone.new.sink (Err failed)) from.1
    (g.met.S.Sink.stopped (zone_lines counts (suc zone)) from.0 c.args.sink.now c.write_zone.new.sink failed
    (g.met.S.Sink.then (zone_lines counts zone) (zone_line zone samples changed) c.args.sink.now c.loop-zone.sink c.write_zone.new.sink (Err failed) c.loop-zone.invariant.added here))
    )
