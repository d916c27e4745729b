-- A table may be shared by threads, and a pass may go to another.
use denote.Param.Send.{IsSend, IsSync, sendable}
use Rattle.std.proofs.Crossing.{crosses, frees}
use Rattle.atomic_table.proofs.owned.Table.TheSendSync as table
use Rattle.atomic_table.proofs.shared.Seat.TheSendSync as seat
use Rattle.band_core.proofs.layout.Layout.TheSendSync as layout
use Rattle.band_claims.specs.contracts.shared.Shared as shared
use Rattle.band_claims.specs.contracts.pass.Pass as pass

pub shared_sync : IsSync shared.the_row
shared_sync = search (sendable, crosses, frees, table.the_field_sync, layout.the_sync) depth 14

pub pass_send : IsSend pass.the_row
pass_send = search (sendable, seat.the_send) depth 14
