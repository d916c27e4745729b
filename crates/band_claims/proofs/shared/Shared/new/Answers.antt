-- Shared::new: a table with all words 0 for a page, and its first pass, which knows nothing.
use Rattle.std.proofs.lemmas.Grind.{common_steps}
use Rattle.std.proofs.Common.{arith, sym, subst}
use Rattle.page_model.specs.declared.parts.PageParts.{PageParts}
use Rattle.band_core.specs.Values.{IsFor}
use Rattle.band_claims.proofs.shared.Shared.new.Goals as goal

pub open_table-requires : goal.open_table-requires
open_table-requires c = record { fit = subst (λ (p : PageParts). IsFor p c.args.layout.now) (sym c.of.ensures) c.requires.layout }

pub returns-clause-new : goal.returns-clause-new
returns-clause-new c = grind (arith, common_steps)

pub invariant_of-shared : goal.invariant_of-shared
invariant_of-shared c = grind (arith, common_steps)

pub invariant_of-pass : goal.invariant_of-pass
invariant_of-pass c = grind (arith, common_steps)
