-- faultless_is_completable: tokens without a fault so far can be completed.
use Rattle.ps_tokens.proofs.Completing.{completed}
use Rattle.ps_tokens.proofs.laws.faultless_is_completable.Goals as goal

pub returns : goal.returns
returns c = completed
