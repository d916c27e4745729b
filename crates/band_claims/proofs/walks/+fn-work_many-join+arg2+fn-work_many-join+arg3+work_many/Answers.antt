-- work_many: runs `work` once for each maker, on threads of their own, and joins their passes.
use Rattle.std.proofs.lemmas.Grind.{common_steps}
use denote.Param.Send.{sendable}
use Rattle.band_claims.proofs.Crosses.{shared_sync, pass_send}
use Rattle.page_model.proofs.page.Page.TheSendSync as page
use Rattle.band_claims.proofs.Accounting.{accounted_joined, publishes_joined}
use Rattle.std.proofs.Common.{arith, subst, List, ℕ}
use Rattle.band_claims.specs.Shares.{SameShare, halved}
use Rattle.band_claims.proofs.ShareLemmas.{halves_joined, same_share}
use Rattle.band_claims.specs.declared.view.View.{View}
use Rattle.band_claims.specs.Accounts.{Publishes, Recalls}
use Rattle.band_claims.proofs.walks.+fn-work_many-join+arg2+fn-work_many-join+arg3+work_many.Goals as goal

pub join-one-requires-send-F : goal.join-one-requires-send-F
join-one-requires-send-F g t c κs within = search (sendable, shared_sync, pass_send, page.the_sync) depth 14

pub returns-clause-accounted : goal.returns-clause-accounted
returns-clause-accounted g t c i l =
    rw c.join.ensures.joined (accounted_joined c.args.shared.now.table_key.layout.bands c.join-one.result.0.view c.join-one.result.1.view i (c.join-one.ensures.first.1.1.1.1.1 i l))

pub returns-clause-published : goal.returns-clause-published
returns-clause-published g t c =
    rw c.join.ensures.joined (publishes_joined c.args.pass.view c.join-one.result.0.view c.join-one.result.1.view (subst (λ (v : View). Publishes v c.join-one.result.0.view) c.split-one.ensures.kept c.join-one.ensures.first.1.1.0))

pub returns-clause-reported : goal.returns-clause-reported
returns-clause-reported g t c =
    rw c.join.ensures.joined (subst (λ (v : View). Recalls v c.join-one.result.0.view) c.split-one.ensures.kept c.join-one.ensures.first.1.1.1.0)

pub returns-clause-share : goal.returns-clause-share
returns-clause-share g t c =
    let one = c.join-one.result.0.view in let two = c.join-one.result.1.view in let s : List ℕ = c.args.pass.view.share in
    let a : SameShare (halved s) one.share = subst (λ (v : View). SameShare v.share one.share) c.split-one.ensures.kept c.join-one.ensures.first.1.1.1.1.0 in
    let b : SameShare (halved s) two.share = subst (λ (v : View). SameShare v.share two.share) c.split-one.ensures.new c.join-one.ensures.second.1.1.0 in
    rw c.join.ensures.joined (halves_joined s one.share two.share a b)

pub returns-then-count-eq1-clause-share : goal.returns-then-count-eq1-clause-share
returns-then-count-eq1-clause-share g t c = same_share c.args.pass.view.share c.work.result.view.share c.work.ensures.share

pub fn::work_many::join+arg3+FnOnce::call_once-join+arg3-requires : goal.fn::work_many::join+arg3+FnOnce::call_once-join+arg3-requires
fn::work_many::join+arg3+FnOnce::call_once-join+arg3-requires c = grind (arith, common_steps)

pub fn::work_many::join+arg2+FnOnce::call_once-join+arg2-requires : goal.fn::work_many::join+arg2+FnOnce::call_once-join+arg2-requires
fn::work_many::join+arg2+FnOnce::call_once-join+arg2-requires c = grind (arith, common_steps)

pub join+arg2-returns : goal.join+arg2-returns
join+arg2-returns c = grind (arith, common_steps)

pub join+arg3-work_many-requires : goal.join+arg3-work_many-requires
join+arg3-work_many-requires c = grind (arith, common_steps)

pub join+arg2-work_many-requires : goal.join+arg2-work_many-requires
join+arg2-work_many-requires c = grind (arith, common_steps)

pub fn::work_many::join+arg2+FnOnce::call_once-returns : goal.fn::work_many::join+arg2+FnOnce::call_once-returns
fn::work_many::join+arg2+FnOnce::call_once-returns c = grind (arith, common_steps)
