-- What `tell_usage` has to show.
use Rattle.std.proofs.Common.{ℕ, List, subst}
use Rattle.common_errors.specs.Telling.{TellsText}
use Rattle.trapsheet_cli.proofs.top.tell_usage.Goals as goal

pub returns : goal.returns
returns g c = record {
  files = c.tell_line.ensures.files;
  line = subst (λ (t : List ℕ). TellsText t (g.R.Rack.state c.args.rack.now) (g.R.Rack.state c.tell_line.new.rack)) c.of_text.ensures.value c.tell_line.ensures.text;
}
