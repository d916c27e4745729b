-- count_sample: counts sample x of row y in its zone, where it changes.
use Rattle.std.proofs.Common.{◌≡◌, ◌<◌, arith, true, false, length, refl}
use Rattle.page_model.specs.Counts.{sample_changes}
use Rattle.page_model.specs.Zones.{zone_of}
use Rattle.page_tally.proofs.CountLemmas.{zone_fits, zone_known, zone_passed, zone_tallied}
use Rattle.page_tally.proofs.changes.count_sample.Goals as goal

pub returns-then-not-changes-x : goal.returns-then-not-changes-x
returns-then-not-changes-x c =
    let each = c.requires.each c.args.x c.requires.column in
    let fails : sample_changes c.args.page.now (record { x = c.args.x; y = c.args.y }) ≡ false = grind (arith, each) in
    zone_passed c.args.page.now c.args.first c.args.y c.args.x c.args.counts.now c.requires.column fails c.requires.counts

pub overflow_add-counts : goal.overflow_add-counts
overflow_add-counts c =
    let at = c.requires.zones.each c.args.x c.requires.column in
    let known = zone_known c.args.page.now (record { x = c.args.x; y = c.args.y }) c.plates-valid.ensures.valid in
    let inside : c.from-zone.result < length c.args.page.now.zones = grind (arith, at, known) in
    omega (arith, zone_fits c.args.page.now c.args.first c.args.y c.args.x c.from-zone.result c.args.counts.now c.plates-valid.ensures.valid c.requires.line c.requires.column inside c.requires.counts)

pub returns : goal.returns
returns c =
    let each = c.requires.each c.args.x c.requires.column in
    let at = c.requires.zones.each c.args.x c.requires.column in
    let passes : sample_changes c.args.page.now (record { x = c.args.x; y = c.args.y }) ≡ true = grind (arith, each) in
    let zone : c.from-zone.result ≡ zone_of c.args.page.now (record { x = c.args.x; y = c.args.y }) = grind (arith, at) in
    zone_tallied c.args.page.now c.args.first c.args.y c.args.x c.from-zone.result _ c.args.counts.now c.plates-valid.ensures.valid c.requires.column zone passes refl c.requires.counts
