-- What `page_of_matches` has to show.
use Rattle.std.proofs.Common.{◌∙◌}
use Rattle.std.proofs.lemmas.Result.{IfOk-weaker}
use Rattle.clap.specs.Words.{found_of}
use Rattle.trap_cli.proofs.PageLemmas.{page_found}
use Rattle.trap_cli.proofs.page_words.page_of_matches.Goals as goal

pub returns-clause-meaning : goal.returns-clause-meaning
returns-clause-meaning c =
    IfOk-weaker c.page_of.result _ _ (λ r h. h ∙ page_found (found_of c.args.matches.now) _ _ _ _ _ c.get_str.ensures c.get_str-2.ensures c.get_str-3.ensures c.get_str-4.ensures c.get_raw.ensures) c.page_of.ensures.meaning
