-- put_page: draws the inks of a page back, and writes its plates and its report.
use Rattle.std.proofs.Common.{refl}
use Rattle.keep_words.specs.Stored.{keep_in}
use Rattle.common_errors.specs.declared.common.CommonError.TheVariants.{Memory}
use Rattle.trapkeep_cli.specs.declared.reason.TrapkeepError.TheVariants.{Page, TooWide}
use Rattle.trapkeep_cli.proofs.CarryLemmas.{not_put}
use Rattle.trapkeep_cli.proofs.page.put_page.Goals as goal

pub returns-then-is_wide : goal.returns-then-is_wide
returns-then-is_wide g c = not_put (keep_in c.args.command.now) c.args.page.now (g.R.Rack.state c.args.rack.now) TooWide c.plates-valid.ensures.valid (c.if-is_wide.ensures.0 refl, refl)

pub returns-in_default : goal.returns-in_default
returns-in_default g c = not_put (keep_in c.args.command.now) c.args.page.now (g.R.Rack.state c.args.rack.now) (Page Memory) c.plates-valid.ensures.valid refl
