-- take_by_readers: takes all plates by their own readers, in so many threads.
use Rattle.std.proofs.lemmas.Grind.{common_steps}
use Rattle.std.proofs.Common.{arith}
use denote.Param.Send.{sendable}
use Rattle.band_claims.proofs.Crosses.{pass_send, shared_sync}
use Rattle.page_model.proofs.page.Page.TheSendSync as page
use Rattle.trap_engine.proofs.plates.take_by_readers.Goals as goal

pub for_each_mut-requires-sync-F : goal.for_each_mut-requires-sync-F
for_each_mut-requires-sync-F g c = search (sendable, shared_sync, pass_send, page.the_sync) depth 14

pub returns-clause-workspace : goal.returns-clause-workspace
returns-clause-workspace g c = grind (arith, common_steps)
