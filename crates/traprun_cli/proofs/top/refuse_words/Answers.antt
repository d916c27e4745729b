-- refuse_words: words that are no run are refused by this program's own usage line.
use Rattle.std.proofs.Common.{ℕ, List, refl, subst}
use Rattle.common_errors.specs.Telling.{TellsText}
use Rattle.traprun_cli.proofs.top.refuse_words.Goals as goal

pub returns : goal.returns
returns g c =
    let a = g.R.Rack.state c.args.rack.now in
    let b = g.R.Rack.state c.tell_line.new.rack in
    record { files = c.tell_line.ensures.files; line = subst (λ (l : List ℕ). TellsText l a b) c.of_text.ensures.value c.tell_line.ensures.text; status_is = refl }
