-- add_changed: adds to each zone's count how many of these samples of row y lie in it and change.
use Rattle.std.proofs.Common.{◌≡◌, ◌+◌, ◌<◌, ◌∙◌, refl, sym, length, arith}
use Rattle.std.proofs.lemmas.Grind.{common_steps}
use Rattle.page_model.specs.declared.parts.At.{At}
use Rattle.page_model.specs.Counts.{sample_changes}
use Rattle.page_model.specs.Zones.{zone_of}
use Rattle.page_tally.proofs.CountLemmas.{zone_known}
use Rattle.sheet_engine.proofs.RowSums.{grows_all}
use Rattle.sheet_engine.proofs.tile_rows.add_changed.Goals as goal

pub bounds-counts-from : goal.bounds-counts-from
bounds-counts-from c =
    let p : At = record { x = c.args.left + 0; y = c.args.y } in
    let some = c.in-Some.ensures.some in
    let at = c.requires.zones.each (c.args.left + 0) (omega (arith, c.requires.inside, some)) in
    let is : zone_of c.args.page.now p ≡ c.from.result = sym at ∙ c.in-Some.ensures.all 0 (omega (arith, some)) ∙ sym c.from.ensures in
    let known = zone_known c.args.page.now p c.plates-valid.ensures.valid in
    let long = c.requires.workspace.long in
    omega (arith, is, known, long)

pub bounds-counts-from-in-Some : goal.bounds-counts-from-in-Some
bounds-counts-from-in-Some c =
    let p : At = record { x = c.args.left + 0; y = c.args.y } in
    let some = c.in-Some.ensures.some in
    let at = c.requires.zones.each (c.args.left + 0) (omega (arith, c.requires.inside, some)) in
    let is : zone_of c.args.page.now p ≡ c.from.result = sym at ∙ c.in-Some.ensures.all 0 (omega (arith, some)) ∙ sym c.from.ensures in
    let known = zone_known c.args.page.now p c.plates-valid.ensures.valid in
    let long = c.requires.workspace.long in
    omega (arith, is, known, long)

pub returns-in-Some : goal.returns-in-Some
returns-in-Some c =
    let p : At = record { x = c.args.left + 0; y = c.args.y } in
    let some = c.in-Some.ensures.some in
    let at = c.requires.zones.each (c.args.left + 0) (omega (arith, c.requires.inside, some)) in
    let is : zone_of c.args.page.now p ≡ c.from.result = sym at ∙ c.in-Some.ensures.all 0 (omega (arith, some)) ∙ sym c.from.ensures in
    let known = zone_known c.args.page.now p c.plates-valid.ensures.valid in
    let inside : c.from.result < length c.args.page.now.zones = omega (arith, is, known) in
    grows_all (length c.args.page.now.zones) c.args.y c.args.left c.args.wide c.from.result _ c.count_changes.result (zone_of c.args.page.now) (sample_changes c.args.page.now) c.args.counts.now c.requires.workspace.long inside
    (λ k less. sym (c.requires.zones.each (c.args.left + k) (omega (arith, less, c.requires.inside))) ∙ c.in-Some.ensures.all k less ∙ sym c.from.ensures) c.count_changes.ensures.count refl

pub returns-in-None : goal.returns-in-None
returns-in-None c = c.add_each_changed.ensures

pub overflow_add-counts : goal.overflow_add-counts
overflow_add-counts c = grind (arith, common_steps)
