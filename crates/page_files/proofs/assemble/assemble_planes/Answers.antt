-- Goals of assemble_planes that want a lemma by name.
use Rattle.std.proofs.lemmas.Grind.{common_steps}
use Rattle.std.proofs.Common.{arith, sym, subst}
use Rattle.page_model.specs.Conditions.{IsParts}
use Rattle.page_files.proofs.AssemblyLemmas.{is_parts}
use Rattle.page_files.proofs.assemble.assemble_planes.Goals as goal

pub new-requires : goal.new-requires
new-requires c = subst IsParts (sym c.in-Ok.ensures) (is_parts c.args.job c.args.planes c.args.names.now c.requires.job c.requires.planes)

pub returns-in-Ok-new : goal.returns-in-Ok-new
returns-in-Ok-new c = grind (arith, common_steps)

pub returns-in-Err-new : goal.returns-in-Err-new
returns-in-Err-new c = grind (arith, common_steps)
