-- is_within: whether the edge is near enough to trap p.
use Rattle.std.proofs.Common.{◌∙◌, ap, sym, Bool, if◌then◌else◌}
use Rattle.trap_color.proofs.SideLemmas.{same_either, within_either, zone_params}
use Rattle.trap_color.proofs.trapped.is_within.Goals as goal

pub returns-then-plain-wide : goal.returns-then-plain-wide
returns-then-plain-wide c = same_either _ _ _ c.if-plain-wide.true ∙ sym (within_either c.args.page.now c.args.zone c.args.p c.args.e _ _ c.args.slid _ _ _ c.params-params.ensures.value c.squared_distance-d2.ensures c.resolution-resolution.ensures.value c.requires.slid c.is_near-plain.ensures c.is_near-wide.ensures)

pub returns-then-is_edge_black : goal.returns-then-is_edge_black
returns-then-is_edge_black c = (let h = rw c.params-params.ensures.value at (sym c.is_edge_black.ensures ∙ c.if-is_edge_black.true) in sym (within_either c.args.page.now c.args.zone c.args.p c.args.e _ _ c.args.slid _ _ _ c.params-params.ensures.value c.squared_distance-d2.ensures c.resolution-resolution.ensures.value c.requires.slid c.is_near-plain.ensures c.is_near-wide.ensures ∙ ap (λ (b : Bool). if b then c.is_near-wide.result else c.is_near-plain.result) h))

pub returns-else-is_edge_black : goal.returns-else-is_edge_black
returns-else-is_edge_black c = (let h = rw c.params-params.ensures.value at (sym c.is_edge_black.ensures ∙ c.if-is_edge_black.false) in sym (within_either c.args.page.now c.args.zone c.args.p c.args.e _ _ c.args.slid _ _ _ c.params-params.ensures.value c.squared_distance-d2.ensures c.resolution-resolution.ensures.value c.requires.slid c.is_near-plain.ensures c.is_near-wide.ensures ∙ ap (λ (b : Bool). if b then c.is_near-wide.result else c.is_near-plain.result) h))

pub is_near-plain-requires-clause-width : goal.is_near-plain-requires-clause-width
is_near-plain-requires-clause-width c = rw c.params-params.ensures.value (zone_params _ _ c.plates-valid.ensures.valid c.requires.zone).width

pub is_near-plain-requires-clause-resolution : goal.is_near-plain-requires-clause-resolution
is_near-plain-requires-clause-resolution c = rw c.resolution-resolution.ensures.value c.plates-valid.ensures.valid.parts.fine

pub is_near-wide-requires-clause-width : goal.is_near-wide-requires-clause-width
is_near-wide-requires-clause-width c = rw c.params-params.ensures.value (zone_params _ _ c.plates-valid.ensures.valid c.requires.zone).width

pub is_near-wide-requires-clause-factor : goal.is_near-wide-requires-clause-factor
is_near-wide-requires-clause-factor c = rw c.params-params.ensures.value (zone_params _ _ c.plates-valid.ensures.valid c.requires.zone).factor

pub is_near-wide-requires-clause-resolution : goal.is_near-wide-requires-clause-resolution
is_near-wide-requires-clause-resolution c = rw c.resolution-resolution.ensures.value c.plates-valid.ensures.valid.parts.fine
