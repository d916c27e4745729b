-- What `run` has to show.
use Rattle.std.proofs.Common.{Some, refl, sym, ap, ◌∙◌}
use Rattle.std.specs.Option.{option_map}
use Rattle.trap_cli.specs.Stored.{command_in, page_in, sample_in}
use Rattle.trap_cli.specs.declared.command.Command.{Command}
use Rattle.trap_cli.specs.Endings.Ends.{page, sample}
use Rattle.trap_cli.proofs.top.run.Goals as goal

pub returns-in-Ok-Some-Page : goal.returns-in-Ok-Some-Page
returns-in-Ok-Some-Page g c =
    let found = c.in-Ok-Some-Page in
    page (page_in found.page) (sym found.ensures.meaning ∙ ap (option_map command_in) found.field-0-is ∙ ap (λ (x : Command). Some (command_in x)) found.field-0-0-is) c.run_page.ensures

pub returns-in-Ok-Some-Sample : goal.returns-in-Ok-Some-Sample
returns-in-Ok-Some-Sample g c =
    let found = c.in-Ok-Some-Sample in
    sample (sample_in found.sample) (sym found.ensures.meaning ∙ ap (option_map command_in) found.field-0-is ∙ ap (λ (x : Command). Some (command_in x)) found.field-0-0-is) refl c.run_sample.ensures
