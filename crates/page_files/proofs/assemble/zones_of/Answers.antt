-- What `zones_of` has to show.
use Rattle.std.proofs.Common.{◌<◌, length, arith}
use Rattle.std.proofs.lemmas.List.Edits.{map_over_more}
use Rattle.page_files.specs.Assembly.{zone_for}
use Rattle.page_files.proofs.assemble.zones_of.Goals as goal

pub loop-at-preserved : goal.loop-at-preserved
loop-at-preserved c =
    let within : c.loop-at.at < length c.into_vec-zones.result.items = omega arith in
    rw c.keep.ensures (map_over_more (zone_for c.args.names.now) c.into_vec-zones.result.items c.loop-at.zones.items c.loop-at.at c.index_mut-zone.result.now within c.loop-at.invariant c.index_mut-zone.ensures.value)
