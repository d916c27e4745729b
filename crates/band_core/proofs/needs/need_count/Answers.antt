-- need_count: how many pieces a piece needs.
use Rattle.std.proofs.Common.{sym, ◌∙◌}
use Rattle.band_core.proofs.NeedLemmas.{needs-counted}
use Rattle.band_core.proofs.needs.need_count.Goals as goal

pub returns : goal.returns
returns c = record { value = c.count_of_needs.ensures ∙ sym (needs-counted c.args.bands.now c.args.piece c.requires.bands c.requires.piece) }
