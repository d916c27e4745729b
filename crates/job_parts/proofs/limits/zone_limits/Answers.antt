-- zone_limits: the step limits after the dictionary at a place.
use Rattle.std.proofs.lemmas.Grind.{common_steps}
use Rattle.std.proofs.Common.{arith, List}
use Rattle.page_model.specs.declared.parts.Limit.{Limit}
use Rattle.ps_tokens.specs.Dictionaries.{last_keys_of}
use Rattle.ps_tokens.specs.EntryErrors.{unless}
use Rattle.ps_tokens.proofs.Giving.{IfOk-given}
use Rattle.job_parts.specs.Limits.{AscendByName, first_error, limits_of}
use Rattle.job_parts.proofs.Ascending.{limits-ascend, unless-ascend}
use Rattle.job_parts.proofs.limits.zone_limits.Goals as goal

pub returns-then-is_dict-clause-ascending : goal.returns-then-is_dict-clause-ascending
returns-then-is_dict-clause-ascending c =
    let objects = c.args.objects.now in
    let keys = last_keys_of objects c.in-Some.place in
    λ now. IfOk-given (λ (limits : List Limit). AscendByName limits) (unless (first_error objects keys) (limits_of objects keys)) c.limits_in.result c.limits_in.ensures
    (λ limits is. unless-ascend (first_error objects keys) (limits_of objects keys) limits (limits-ascend objects c.in-Some.place) is)

pub returns-then-is_dict-clause-given : goal.returns-then-is_dict-clause-given
returns-then-is_dict-clause-given c = grind (arith, common_steps)
