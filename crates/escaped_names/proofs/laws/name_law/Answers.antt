-- name_law: an escaped name is a name of a job.
use Rattle.std.proofs.Common.{arith}
use Rattle.escaped_names.proofs.EscapeLemmas.{is_job_name}
use Rattle.escaped_names.proofs.laws.name_law.Goals as goal

pub returns : goal.returns
returns c = is_job_name c.args.bytes.now (λ k l. omega (arith, c.type_inv.bytes k))
