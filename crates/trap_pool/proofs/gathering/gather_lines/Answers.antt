-- One line more is gathered.
use Rattle.std.proofs.lemmas.Grind.{common_steps}
use Rattle.std.proofs.Common.{◌≡◌, ◌∙◌, ◌+◌, ℕ, List, [], ◌∷◌, ◌++◌, get_or, length, take, sym, ap, subst, arith, length-append}
use Rattle.job_list.specs.Lines.{LineParts}
use Rattle.trap_pool.specs.Pools.{InTurn}
use Rattle.std.proofs.lemmas.List.{map-append}
use Rattle.trap_pool.specs.Replies.{ReplyParts, accepted, accepted_of}
use Rattle.trap_pool.specs.Taking.{pages_of, waiting_of}
use Rattle.trap_pool.proofs.Turns.{accepted_more, next_turn}
use Rattle.trap_pool.proofs.gathering.gather_lines.Goals as goal

pub loop-number-preserved : goal.loop-number-preserved
loop-number-preserved g c =
    let a = g.T.Tray.state c.args.tray.now in
    let b = g.T.Tray.state c.loop-number.tray in
    let d = g.T.Tray.state c.gather_line-line.new.tray in
    let n = c.loop-number.number in
    let line = c.index-as_slice-number.result in
    let reply = c.gather_line-line.result.0 in
    let pushed : c.push.new.self.items ≡ c.loop-number.gathered.items ++ reply ∷ [] = c.in-Ok.ensures.items in
    let item : line ≡ get_or c.args.lines.now n line = c.index-as_slice-number.is ∙ ap (λ (l : List LineParts). get_or l n line) c.as_slice.ensures in
    let before = c.loop-number.invariant in
    record {
      turn = subst (λ (l : List ReplyParts). InTurn 0 0 (take (n + 1) c.args.lines.now) a d l) (sym pushed)
          (next_turn c.args.lines.now n c.loop-number.used line a b d c.loop-number.gathered.items reply (omega arith) before.count before.used item before.turn c.gather_line-line.ensures.answer);
      count = ap length pushed ∙ length-append c.loop-number.gathered.items (reply ∷ []) ∙ ap (λ (m : ℕ). m + 1) before.count;
      used = ap (λ (m : ℕ). c.loop-number.used + m) c.accepted_samples-used.ensures ∙ ap (λ (m : ℕ). m + accepted_of reply.page reply.outcome) before.used ∙ sym (ap accepted pushed ∙ accepted_more c.loop-number.gathered.items reply);
      few = let limit = c.gather_line-line.ensures.limit in let took = c.accepted_samples-used.ensures in omega arith;
      workspace = let kept = c.in-Ok.ensures.capacity in let workspace = before.workspace in omega arith;
      pages = c.in-Ok-push.ensures.items ∙ (λ i. before.pages i ++ c.gather_line-line.ensures.waits i ∷ []) ∙ sym (ap pages_of pushed ∙ map-append waiting_of c.loop-number.gathered.items (reply ∷ []));
      page_workspace = let kept = c.in-Ok-push.ensures.capacity in let workspace = before.page_workspace in omega arith;
    }

pub returns-clause-turn : goal.returns-clause-turn
returns-clause-turn g c = grind (arith, common_steps)

pub unreachable-requires-in_default-push : goal.unreachable-requires-in_default-push
unreachable-requires-in_default-push g c = grind (arith, common_steps)

pub loop-number-init : goal.loop-number-init
loop-number-init g c = grind (arith, common_steps)
