-- count_by_readers: counts in all parts by their own readers, in a thread for each.
use Rattle.std.proofs.lemmas.Grind.{common_steps}
use Rattle.std.proofs.Common.{arith}
use denote.Param.Send.{sendable}
use Rattle.band_claims.proofs.Crosses.{shared_sync}
use Rattle.page_model.proofs.page.Page.TheSendSync as page
use Rattle.page_model.proofs.parts.Plane.TheSendSync as plane
use Rattle.trap_engine.proofs.parts.count_by_readers.Goals as goal

pub for_each_mut-requires-sync-F : goal.for_each_mut-requires-sync-F
for_each_mut-requires-sync-F g c = search (sendable, shared_sync, page.the_sync, plane.the_sync) depth 14

pub returns-clause-parts : goal.returns-clause-parts
returns-clause-parts g c = grind (arith, common_steps)
