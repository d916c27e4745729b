-- All strips from the first one on, the last of which is put.
use Rattle.std.proofs.lemmas.Result.{err_from_is_err_and}
use Rattle.std.proofs.lemmas.Grind.{common_steps}
use Rattle.std.proofs.Common.{length, map, arith}
use Rattle.sheet_stream.proofs.StepLemmas.{are_open, counted_on, deep_is, line_long, plates_are, trappable, unwritten, written_on}
use Rattle.sheet_stream.proofs.StreamLemmas.{ends}
use Rattle.sheet_stream.proofs.strips.stream_on.Goals as goal

pub put_last-requires-clause-trap : goal.put_last-requires-clause-trap
put_last-requires-clause-trap g c κs within =
    let way = c.requires.way in
    let did = c.in_ok-row.ensures in
    let stands = did.reaches way.course way.none way.stands in
    trappable c.args.sheet.now.outline.now c.args.sheet.now.plan.now c.args.sheet.now.plates.now c.in_ok-row.row c.requires.can did.last.hand c.reach_last.new.workspace
    (map g.T.Tray.state c.reach_last.new.trays) way.course way.none stands.at
    way.empty c.reach_last.new.workspace.core.windows did.workspace.other

pub put_last-requires-clause-racks : goal.put_last-requires-clause-racks
put_last-requires-clause-racks g c κs within =
    let way = c.requires.way in
    let did = c.in_ok-row.ensures in
    let stands = did.reaches way.course way.none way.stands in
    let are = plates_are c.args.sheet.now.outline.now c.args.sheet.now.plan.now c.args.sheet.now.plates.now c.in_ok-row.row c.requires.can did.last.hand c.reach_last.new.workspace
    (map g.T.Tray.state c.reach_last.new.trays) way.course way.none stands.at in
    let count = c.requires.headers.count in
    let enough = c.requires.racks in
    let same = c.reach_last.auto.racks in
    omega (arith, are, count, enough, same)

pub put_last-requires-clause-open : goal.put_last-requires-clause-open
put_last-requires-clause-open g c κs within =
    let way = c.requires.way in
    let did = c.in_ok-row.ensures in
    let stands = did.reaches way.course way.none way.stands in
    are_open c.args.sheet.now.outline.now c.args.sheet.now.plan.now c.args.sheet.now.plates.now c.in_ok-row.row c.requires.can did.last.hand c.reach_last.new.workspace
    (map g.T.Tray.state c.reach_last.new.trays) way.course way.none stands.at
    (map g.R.Rack.state c.reach_last.new.racks) stands.written

pub put_last-requires-clause-line : goal.put_last-requires-clause-line
put_last-requires-clause-line g c κs within =
    let way = c.requires.way in
    let did = c.in_ok-row.ensures in
    let stands = did.reaches way.course way.none way.stands in
    line_long c.args.sheet.now.outline.now c.args.sheet.now.plan.now c.args.sheet.now.plates.now c.in_ok-row.row c.requires.can did.last.hand c.reach_last.new.workspace
    (map g.T.Tray.state c.reach_last.new.trays) way.course way.none stands.at
    (length c.reach_last.new.workspace.core.line.items) did.workspace.line

pub put_last-requires-clause-maxval : goal.put_last-requires-clause-maxval
put_last-requires-clause-maxval g c κs within =
    let way = c.requires.way in
    let did = c.in_ok-row.ensures in
    let stands = did.reaches way.course way.none way.stands in
    deep_is c.args.sheet.now.outline.now c.args.sheet.now.plan.now c.args.sheet.now.plates.now c.in_ok-row.row c.requires.can did.last.hand c.reach_last.new.workspace
    (map g.T.Tray.state c.reach_last.new.trays) way.course way.none stands.at

pub returns-in-Ok : goal.returns-in-Ok
returns-in-Ok g c course none stands =
    let outline = c.args.sheet.now.outline.now in
    let plan = c.args.sheet.now.plan.now in
    let begun = c.args.sheet.now.plates.now in
    let row = c.in_ok-row.row in
    let workspace = c.reach_last.new.workspace in
    let trays = map g.T.Tray.state c.reach_last.new.trays in
    let racks = map g.R.Rack.state c.reach_last.new.racks in
    let ask = c.requires in
    let did = c.in_ok-row.ensures in
    let hand = did.last.hand in
    let now = did.reaches course none stands in
    let racks' = map g.R.Rack.state c.put_last.new.racks in
    ends course outline plan begun none c.put_last.new.workspace.counts row trays racks racks' workspace ask.can ask.headers hand did.last.last now
    (written_on outline plan begun row ask.can hand workspace trays course none now.at racks now.written racks' c.in-Ok.ensures.written)
    (counted_on outline plan begun row ask.can hand workspace trays course none now.at workspace.core.windows c.put_last.new.workspace.core.windows c.put_last.new.workspace.counts c.put_last.ensures.trapped)

pub returns-in-Err : goal.returns-in-Err
returns-in-Err g c course none stands =
    let outline = c.args.sheet.now.outline.now in
    let plan = c.args.sheet.now.plan.now in
    let begun = c.args.sheet.now.plates.now in
    let row = c.in_ok-row.row in
    let workspace = c.reach_last.new.workspace in
    let trays = map g.T.Tray.state c.reach_last.new.trays in
    let racks = map g.R.Rack.state c.reach_last.new.racks in
    let ask = c.requires in
    let did = c.in_ok-row.ensures in
    let hand = did.last.hand in
    let now = did.reaches course none stands in
    let racks' = map g.R.Rack.state c.put_last.new.racks in
    unwritten outline plan begun row ask.can hand workspace trays course none now.at racks now.written racks' trays now.at.holds.samples now.at.holds.read (λ one begins. begins) c.in-Err.common_error c.in-Err.ensures.written

pub returns-in_err-row : goal.returns-in_err-row
returns-in_err-row g c =
    let p = err_from_is_err_and c.from_residual.result c.from_residual.ensures.1 in
    rw (p.1, p.2) (λ course none stands. c.in_err-row.ensures.reaches course none stands)

pub reach_last-requires-clause-first : goal.reach_last-requires-clause-first
reach_last-requires-clause-first g c = grind (arith, common_steps)
