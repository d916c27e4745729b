-- need_at: the need of a piece before which `k` of its needs stand.
use Rattle.std.proofs.Common.{ℕ, ◌<◌, subst, ap, ◌∙◌}
use Rattle.lists.specs.Words.{count_below}
use Rattle.page_model.specs.declared.bands.Bands.{Bands}
use Rattle.page_model.specs.Bands.{AreBands, pieces_of}
use Rattle.band_core.specs.Listing.{need_number, need_total}
use Rattle.band_core.specs.Needs.{is_need}
use Rattle.band_core.proofs.NeedLemmas.{listed_is_need, need_less, needs-counted, needs-before}
use Rattle.band_core.proofs.needs.need_at.Goals as goal

listed_below : (bands : Bands) (i k : ℕ) → AreBands bands → i < pieces_of bands → k < count_below (is_need bands i) (pieces_of bands) → k < need_total bands i
listed_below bands i k is l m = subst (λ (n : ℕ). k < n) (needs-counted bands i is l) m

pub number_of_need-requires-clause-k : goal.number_of_need-requires-clause-k
number_of_need-requires-clause-k c = listed_below c.args.bands.now c.args.piece c.args.k c.requires.bands c.requires.piece c.requires.k

pub returns-clause-need : goal.returns-clause-need
returns-clause-need c =
    let k = listed_below c.args.bands.now c.args.piece c.args.k c.requires.bands c.requires.piece c.requires.k in
    rw c.number_of_need.ensures (listed_is_need c.args.bands.now c.args.piece c.args.k c.requires.bands c.requires.piece k)

pub returns-clause-order : goal.returns-clause-order
returns-clause-order c =
    let k = listed_below c.args.bands.now c.args.piece c.args.k c.requires.bands c.requires.piece c.requires.k in
    ap (count_below (is_need c.args.bands.now c.args.piece)) c.number_of_need.ensures ∙ needs-before c.args.bands.now c.args.piece c.requires.bands c.requires.piece c.args.k k

pub returns-clause-lesser : goal.returns-clause-lesser
returns-clause-lesser c =
    let k = listed_below c.args.bands.now c.args.piece c.args.k c.requires.bands c.requires.piece c.requires.k in
    rw c.number_of_need.ensures (need_less c.args.bands.now c.args.piece (need_number c.args.bands.now c.args.piece c.args.k) c.requires.bands (listed_is_need c.args.bands.now c.args.piece c.args.k c.requires.bands c.requires.piece k))
