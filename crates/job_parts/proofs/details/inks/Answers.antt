-- inks: the inks that the value of TrappingDetails at a place names, in ascending byte order of
-- their names (PLRM3's trapping section, in this project's profile).
use Rattle.std.proofs.lemmas.Grind.{common_steps}
use Rattle.std.proofs.Common.{arith, ◌≡◌, List, sym, ap, ◌∙◌}
use Rattle.page_model.specs.declared.parts.Ink.{Ink}
use Rattle.job_parts.specs.Colorants.{AscendByName, colorants_at}
use Rattle.job_parts.proofs.AscendingDetails.{inks-ascend, none-ascend}
use Rattle.job_parts.proofs.Reaching.{details_from-inks, colorants_at-inks}
use Rattle.job_parts.proofs.details.inks.Goals as goal

pub returns-in-Ok-details_from-clause-ascending : goal.returns-in-Ok-details_from-clause-ascending
returns-in-Ok-details_from-clause-ascending c =
    let P : List Ink → Type 0 = λ inks. AscendByName inks in
    let objects = c.args.objects.now in
    details_from-inks P _ _ _ c.in-Ok-details_from.inks
    (λ l is. colorants_at-inks P objects _ l none-ascend (inks-ascend objects) (sym c.in-Ok.ensures ∙ is)) (sym c.in-Ok-details_from.ensures)

pub returns-in-Ok-details_from-clause-given : goal.returns-in-Ok-details_from-clause-given
returns-in-Ok-details_from-clause-given c = grind (arith, common_steps)

pub returns-in-Err-details_from-clause-given : goal.returns-in-Err-details_from-clause-given
returns-in-Err-details_from-clause-given c = grind (arith, common_steps)
