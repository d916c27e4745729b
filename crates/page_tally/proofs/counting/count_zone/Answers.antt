-- count_zone: counts sample x of row y in its zone.
use Rattle.std.proofs.Common.{◌≡◌, ◌<◌, arith, length, refl}
use Rattle.page_model.specs.Zones.{zone_of}
use Rattle.page_tally.proofs.CountLemmas.{sample_fits, sample_tallied, zone_known}
use Rattle.page_tally.proofs.counting.count_zone.Goals as goal

pub overflow_add-counts : goal.overflow_add-counts
overflow_add-counts c =
    let at = c.requires.zones.each c.args.x c.requires.column in
    let known = zone_known c.args.page.now (record { x = c.args.x; y = c.args.y }) c.plates-valid.ensures.valid in
    let inside : c.from-zone.result < length c.args.page.now.zones = grind (arith, at, known) in
    omega (arith, sample_fits c.args.page.now c.args.first c.args.y c.args.x c.from-zone.result c.args.counts.now c.plates-valid.ensures.valid c.requires.line c.requires.column inside c.requires.counts)

pub returns : goal.returns
returns c =
    let at = c.requires.zones.each c.args.x c.requires.column in
    let zone : c.from-zone.result ≡ zone_of c.args.page.now (record { x = c.args.x; y = c.args.y }) = grind (arith, at) in
    sample_tallied c.args.page.now c.args.first c.args.y c.args.x c.from-zone.result _ c.args.counts.now c.plates-valid.ensures.valid c.requires.column zone refl c.requires.counts
