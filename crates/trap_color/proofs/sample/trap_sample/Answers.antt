-- trap_sample: writes the new tints of p, one for each plate, with the given edge as its decider,
-- and tells whether p is trapped.
use Rattle.std.proofs.Common.{◌∙◌, ap}
use Rattle.page_model.specs.Tints.{new_in}
use Rattle.trap_color.proofs.sample.trap_sample.Goals as goal

pub trap_by-requires-clause-edge : goal.trap_by-requires-clause-edge
trap_by-requires-clause-edge c = c.requires.edge _ c.in-Some.is

pub returns-in-Some-clause-tints : goal.returns-in-Some-clause-tints
returns-in-Some-clause-tints c = λ k l. c.trap_by.ensures.tints k l ∙ rw (c.in-Some.is) (ap (λ z. new_in c.args.page.now z c.args.p c.in-Some.e k) c.requires.zone)
