-- figures_of: an open job is in range, and its figures are told.
use Rattle.std.proofs.Common.{◌≡◌, rules, subst, arith}
use Rattle.std.proofs.lemmas.Grind.{common_steps}
use Rattle.job_handles.specs.declared.open_job.OpenJob.{OpenJob}
use Rattle.job_handles.specs.Opened.{opened}
use Rattle.job_reader.proofs.JobRanges.{job_of-in_range}
use Rattle.trap_c.specs.Infos.{IsInfoOf, info_size}
use Rattle.trap_c.proofs.OpenLemmas.{info_given}
use Rattle.trap_c.proofs.opened.figures_of.Goals as goal

pub info_of-requires : goal.info_of-requires
info_of-requires c = job_of-in_range c.deref.result.now.bytes.items c.deref.result.now.job c.deref.result.now.read

pub returns-in-Some-clause-info : goal.returns-in-Some-clause-info
returns-in-Some-clause-info c =
    let sized : c.args.info.now.size ≡ info_size = first_of (cc, grind (arith, common_steps)) in
    let same : c.deref.result.now ≡ c.in-Some.stored.value = first_of (cc, first_of (search rules, grind (arith, common_steps))) in
    info_given (opened c.args.handle.now) c.in-Some.stored.value c.args.info.now c.info_of.result c.in-Some.ensures.taken sized (subst (λ (o : OpenJob). IsInfoOf o.job c.info_of.result) same c.info_of.ensures)
