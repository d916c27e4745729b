-- count_run: counts so many samples of row y, from sample x on, in the zone that they all lie in.
use Rattle.std.proofs.Common.{◌≡◌, ◌<◌, ◌∙◌, arith, sym, length, refl}
use Rattle.page_model.specs.Zones.{zone_of}
use Rattle.page_tally.proofs.CountLemmas.{run_fits, run_tallied, zone_known}
use Rattle.page_tally.proofs.counting.count_run.Goals as goal

pub overflow_add-counts : goal.overflow_add-counts
overflow_add-counts c =
    let at = c.requires.zones.each c.args.x (omega (arith, c.requires.some, c.requires.inside)) in
    let known = zone_known c.args.page.now (record { x = c.args.x; y = c.args.y }) c.plates-valid.ensures.valid in
    let inside : c.from-zone.result < length c.args.page.now.zones = grind (arith, at, known) in
    omega (arith, run_fits c.args.page.now c.args.first c.args.y c.args.x c.args.count c.from-zone.result c.args.counts.now c.plates-valid.ensures.valid c.requires.line c.requires.inside inside c.requires.counts)

pub returns : goal.returns
returns c =
    let at = c.requires.zones.each c.args.x (omega (arith, c.requires.some, c.requires.inside)) in
    let zone : c.from-zone.result ≡ zone_of c.args.page.now (record { x = c.args.x; y = c.args.y }) = grind (arith, at) in
    run_tallied c.args.page.now c.args.first c.args.y c.args.x c.args.count c.from-zone.result _ c.args.counts.now c.plates-valid.ensures.valid (omega (arith, c.requires.some)) c.requires.inside zone
    (λ k l. sym (c.requires.zones.each _ (omega (arith, l, c.requires.inside))) ∙ (c.requires.alike k l ∙ at)) refl c.requires.counts
