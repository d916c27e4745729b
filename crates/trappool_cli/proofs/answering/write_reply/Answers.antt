-- write_reply: writes the files of a line whose page is done, and says what became of it.
use Rattle.std.proofs.Common.{◌≡◌, ◌∙◌, List, Option, Some, ℕ, length, sym, ap, subst}
use Rattle.page_model.specs.declared.parts.Plane.{Plane}
use Rattle.trap_report.proofs.ReportLemmas.{as_many_planes}
use Rattle.trap_pool.specs.declared.outcome.Outcome.{Outcome}
use Rattle.trap_pool.specs.declared.outcome.Outcome.TheVariants.{Done}
use Rattle.trap_pool.specs.Replies.{IsReady, IsReply, ReplyParts, reply_parts}
use Rattle.trappool_cli.specs.Answers.{WritesReply}
use Rattle.trappool_cli.specs.declared.answering.LineStatus.TheVariants as said
use Rattle.trappool_cli.proofs.Writing.{large_kept, ready_page, refused_kept}
use Rattle.trappool_cli.proofs.answering.write_reply.Goals as goal

pub write_done-requires-clause-outs : goal.write_done-requires-clause-outs
write_done-requires-clause-outs g c =
    let parts = c.into_parts-outcome.result in
    let page = parts.page.value in
    let trapped = c.in-Done.trapped in
    let kind : IsReply page (Done trapped) = subst (IsReply page) c.in-Done.is c.into_parts-outcome.ensures.kind in
    let ready : IsReady page (Done trapped) (Some c.in-Some.text) =
    subst (λ (r : Option (List ℕ)). IsReady page (Done trapped) r) c.in-Some.is (subst (λ (o : Outcome). IsReady page o parts.report) c.in-Done.is c.into_parts-outcome.ensures.ready) in
    let at = ready_page page trapped c.in-Some.text kind ready in
    ap (λ (ps : List Plane). length ps) at.2.planes ∙ as_many_planes at.0 ∙ c.requires at.0 (ap (λ (r : ReplyParts). r.page) c.into_parts-outcome.ensures.parts ∙ at.1)

pub returns-in-Refused : goal.returns-in-Refused
returns-in-Refused g c =
    let rack = g.R.Rack.state c.args.rack.now in
    let parts = c.into_parts-outcome.result in
    subst (λ (r : ReplyParts). WritesReply c.args.line.now r rack rack (said.Refused c.in-Refused.error)) (sym (c.into_parts-outcome.ensures.parts ∙ ap (λ (o : Outcome). reply_parts parts.line parts.page.value o) c.in-Refused.is))
    (refused_kept c.args.line.now parts.line parts.page.value c.in-Refused.error rack)

pub returns-in-TooLarge : goal.returns-in-TooLarge
returns-in-TooLarge g c =
    let rack = g.R.Rack.state c.args.rack.now in
    let parts = c.into_parts-outcome.result in
    subst (λ (r : ReplyParts). WritesReply c.args.line.now r rack rack said.TooLarge) (sym (c.into_parts-outcome.ensures.parts ∙ ap (λ (o : Outcome). reply_parts parts.line parts.page.value o) c.in-TooLarge.is))
    (large_kept c.args.line.now parts.line parts.page.value rack)
