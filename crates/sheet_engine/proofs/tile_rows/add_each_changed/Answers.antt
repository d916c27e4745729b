-- What `add_each_changed` has to show.
use Rattle.std.proofs.Common.{◌≡◌, ℕ, ◌<◌, ◌+◌, ◌&&◌, ◌∙◌, ap, length, slice_index, arith}
use Rattle.std.specs.Prelude.{◌==◌, slice_index_or, false}
use Rattle.page_model.specs.declared.parts.At.{At}
use Rattle.page_model.specs.Counts.{sample_changes}
use Rattle.page_model.specs.Zones.{zone_of}
use Rattle.page_tally.proofs.CountLemmas.{zone_known}
use Rattle.sheet_geometry.specs.Areas.{changes_in, traps}
use Rattle.sheet_engine.proofs.RowSums.{fits, grows_if, grows_none, one_few}
use Rattle.sheet_engine.proofs.tile_rows.add_each_changed.Goals as goal

pub loop-k-init : goal.loop-k-init
loop-k-init c = grows_none (length c.args.page.now.zones) c.args.y c.args.left (λ z. changes_in traps z c.args.page.now) c.args.counts.now

pub bounds-counts-zone : goal.bounds-counts-zone
bounds-counts-zone c =
    let p : At = record { x = c.args.left + c.loop-k.k; y = c.args.y } in
    let at = c.requires.zones.each (c.args.left + c.loop-k.k) (omega (arith, c.requires.inside)) in
    let known = zone_known c.args.page.now p c.plates-valid.ensures.valid in
    let zone : c.from-zone.result ≡ zone_of c.args.page.now p = c.from-zone.ensures ∙ at in
    let long = c.loop-k.auto.counts in
    let workspace = c.requires.workspace.long in
    omega (arith, zone, known, long, workspace)

pub bounds-counts-zone-in-loop-k : goal.bounds-counts-zone-in-loop-k
bounds-counts-zone-in-loop-k c =
    let p : At = record { x = c.args.left + c.loop-k.k; y = c.args.y } in
    let at = c.requires.zones.each (c.args.left + c.loop-k.k) (omega (arith, c.requires.inside)) in
    let known = zone_known c.args.page.now p c.plates-valid.ensures.valid in
    let zone : c.from-zone.result ≡ zone_of c.args.page.now p = c.from-zone.ensures ∙ at in
    let long = c.loop-k.auto.counts in
    let workspace = c.requires.workspace.long in
    omega (arith, zone, known, long, workspace)

pub overflow_add-counts : goal.overflow_add-counts
overflow_add-counts c =
    let p : At = record { x = c.args.left + c.loop-k.k; y = c.args.y } in
    let at = c.requires.zones.each (c.args.left + c.loop-k.k) (omega (arith, c.requires.inside)) in
    let known = zone_known c.args.page.now p c.plates-valid.ensures.valid in
    let zone : c.from-zone.result ≡ zone_of c.args.page.now p = c.from-zone.ensures ∙ at in
    let inside : c.from-zone.result < length c.args.page.now.zones = omega (arith, zone, known) in
    let t = fits (length c.args.page.now.zones) c.args.y c.args.left c.loop-k.k c.args.wide c.from-zone.result (λ z q. (zone_of c.args.page.now q == z) && sample_changes c.args.page.now q) c.args.counts.now c.loop-k.counts c.requires.workspace inside c.loop-k-test.true c.loop-k.invariant in
    let few = t.1 in
    let one = c.one_if.ensures in
    let most = one_few (slice_index_or c.args.changes.now (c.args.left + c.loop-k.k) false) in
    omega (arith, few, one, most)

pub loop-k-preserved : goal.loop-k-preserved
loop-k-preserved c =
    let p : At = record { x = c.args.left + c.loop-k.k; y = c.args.y } in
    let at = c.requires.zones.each (c.args.left + c.loop-k.k) (omega (arith, c.requires.inside)) in
    let known = zone_known c.args.page.now p c.plates-valid.ensures.valid in
    let zone : c.from-zone.result ≡ zone_of c.args.page.now p = c.from-zone.ensures ∙ at in
    let inside : c.from-zone.result < length c.args.page.now.zones = omega (arith, zone, known) in
    let changes = c.requires.each (c.args.left + c.loop-k.k) (omega (arith, c.requires.inside)) in
    grows_if (length c.args.page.now.zones) c.args.y c.args.left c.loop-k.k c.from-zone.result _ (slice_index_or c.args.changes.now (c.args.left + c.loop-k.k) false) (zone_of c.args.page.now) (sample_changes c.args.page.now) c.args.counts.now c.loop-k.counts c.requires.workspace.long zone inside changes (ap (λ (n : ℕ). slice_index c.loop-k.counts c.from-zone.result + n) c.one_if.ensures) c.loop-k.invariant
