-- trap_by: writes the new tints of p with e as its decider, and tells whether p is trapped.
use Rattle.std.proofs.Common.{◌≡◌, false, arith, sym, ◌∙◌}
use Rattle.page_model.specs.Trapped.{trapped_in}
use Rattle.trap_color.proofs.TintLemmas.{kept_in}
use Rattle.trap_color.proofs.sample.trap_by.Goals as goal

pub returns-then-not-trapped-clause-tints : goal.returns-then-not-trapped-clause-tints
returns-then-not-trapped-clause-tints c = λ k l.
    let reported = c.is_trapped-trapped.ensures in
    let not_here : trapped_in c.args.page.now c.args.zone c.args.p c.args.e ≡ false = grind (arith, reported) in
    c.keep_tints.ensures.tints k l ∙ sym (kept_in c.args.page.now c.args.zone c.args.p c.args.e k not_here)
