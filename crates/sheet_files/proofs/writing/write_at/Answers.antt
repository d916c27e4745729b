-- write_at: writes a plane by the rack of that number.
use Rattle.std.proofs.Common.{map, sym, subst}
use Rattle.outside.specs.Rack.{RackState}
use Rattle.outside.specs.Writing.{WritesFile}
use Rattle.page_files.specs.Format.{encoded}
use Rattle.plate_rows.specs.Racks.{no_rack, rack_at}
use Rattle.sheet_files.proofs.RackLemmas.{state_before, state_here, state_other}
use Rattle.sheet_files.proofs.writing.write_at.Goals as goal

pub returns-clause-here : goal.returns-clause-here
returns-clause-here g c =
    let racks = c.args.racks.now in
    let k = c.args.plate in
    let old = c.index-racks-plate.result in
    let new = c.write_encoded.new.rack in
    let before = state_before g.R.Rack.state no_rack racks k old new c.requires.known in
    let after = state_here g.R.Rack.state no_rack racks k old new c.requires.known in
    subst (λ (r : RackState). WritesFile c.args.name.now (encoded c.args.plane.now) (rack_at (map g.R.Rack.state racks) k) r c.write_encoded.result) (sym after)
    (subst (λ (r : RackState). WritesFile c.args.name.now (encoded c.args.plane.now) r (g.R.Rack.state new) c.write_encoded.result) (sym before) c.write_encoded.ensures)

pub returns-clause-others : goal.returns-clause-others
returns-clause-others g c k other = state_other g.R.Rack.state no_rack c.args.racks.now c.args.plate c.index-racks-plate.result c.write_encoded.new.rack c.requires.known k other
