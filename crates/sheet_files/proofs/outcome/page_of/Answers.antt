-- page_of: the page that a sheet is.
use Rattle.std.proofs.Common.{sym, ◌∙◌}
use Rattle.page_model.proofs.FaultLemmas.{faultless}
use Rattle.lists.proofs.FirstSome.{some_is_none}
use Rattle.sheet_files.proofs.outcome.page_of.Goals as goal

pub new-requires : goal.new-requires
new-requires c = c.requires.parts

pub unreachable-requires : goal.unreachable-requires
unreachable-requires c = some_is_none c.in-Err.field-0.0 (sym c.in-Err.ensures.fault ∙ faultless _ c.requires)
