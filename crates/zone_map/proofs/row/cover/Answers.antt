-- cover: writes zone z for each sample of row y that its path covers.
use Rattle.std.proofs.Common.{◌≡◌, ◌∙◌, sym, refl, ◌+◌, arith, pos}
use Rattle.std.specs.Prelude.{slice_index, sum}
use Rattle.page_model.specs.declared.parts.At.{At}
use Rattle.page_model.specs.Page.{path_at}
use Rattle.page_model.specs.Zones.{centre, winding}
use Rattle.std.proofs.lemmas.Grind.{common_steps}
use Rattle.zone_map.specs.Tallies.{left}
use Rattle.zone_map.proofs.CoverLemmas.{covered, uncovered}
use Rattle.zone_map.proofs.TallyLemmas.{left-none}
use Rattle.zone_map.proofs.Widths.{near_64}
use Rattle.zone_map.proofs.row.cover.Goals as goal

pub returns-then-tally_path-gt0-clause-each : goal.returns-then-tally_path-gt0-clause-each
returns-then-tally_path-gt0-clause-each c = λ x l.
    let page = c.args.page.now in
    let p : At = record { x = x; y = c.args.y } in
    let height = near_64 c.middle_of_row-height.result c.middle_of_row-height.ensures.near ∙ c.middle_of_row-height.ensures.value in
    let turns : left c.tally_path.new.ups c.tally_path.new.downs x ≡ winding page.resolution (centre page p) (path_at page c.args.z) =
    c.tally_path.ensures.turns x (rw c.width.ensures.value l) ∙ rw (height, c.resolution.ensures.value, c.as_slice-path.ensures, c.path.ensures.value) refl
    in c.write_spans.ensures.each x (rw c.requires.out l) ∙ covered page p c.args.z (slice_index c.args.out.now x) _ turns

pub returns-else-tally_path-gt0-clause-each : goal.returns-else-tally_path-gt0-clause-each
returns-else-tally_path-gt0-clause-each c = λ x l.
    let page = c.args.page.now in
    let p : At = record { x = x; y = c.args.y } in
    let height = near_64 c.middle_of_row-height.result c.middle_of_row-height.ensures.near ∙ c.middle_of_row-height.ensures.value in
    let turns : left c.tally_path.new.ups c.tally_path.new.downs x ≡ winding page.resolution (centre page p) (path_at page c.args.z) =
    c.tally_path.ensures.turns x (rw c.width.ensures.value l) ∙ rw (height, c.resolution.ensures.value, c.as_slice-path.ensures, c.path.ensures.value) refl
    in
    let no_ups : sum c.tally_path.new.ups ≡ 0 = omega (arith, c.tally_path.ensures.count, c.if-tally_path-gt0.false) in
    let no_downs : sum c.tally_path.new.downs ≡ 0 = omega (arith, c.tally_path.ensures.count, c.if-tally_path-gt0.false) in
    let none : winding page.resolution (centre page p) (path_at page c.args.z) ≡ pos 0 = sym turns ∙ left-none c.tally_path.new.ups c.tally_path.new.downs (x + 1) no_ups no_downs
    in rw (uncovered page p c.args.z none) refl

pub returns-then-tally_path-gt0-clause-no_ups : goal.returns-then-tally_path-gt0-clause-no_ups
returns-then-tally_path-gt0-clause-no_ups c = grind (arith, common_steps)

pub returns-then-tally_path-gt0-clause-no_downs : goal.returns-then-tally_path-gt0-clause-no_downs
returns-then-tally_path-gt0-clause-no_downs c = grind (arith, common_steps)

pub tally_path-requires-clause-path : goal.tally_path-requires-clause-path
tally_path-requires-clause-path c = grind (arith, common_steps)
