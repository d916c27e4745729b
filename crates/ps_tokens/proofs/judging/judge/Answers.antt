-- judge: the first fault of a job's tokens, judged one after the other.
use Rattle.std.proofs.Common.{sym, ap, ◌∙◌, Ok, fold}
use Rattle.std.proofs.lemmas.List.{at_drop_all}
use Rattle.ps_tokens.specs.Brackets.{after_next}
use Rattle.ps_tokens.specs.Objects.{unless_open}
use Rattle.ps_tokens.proofs.Judgements.{fold-drop-err, nil-from_top}
use Rattle.ps_tokens.proofs.judging.judge.Goals as goal

pub returns-in-Err : goal.returns-in-Err
returns-in-Err c =
    ap (unless_open c.args.bytes.now c.args.tokens.now)
    (sym c.loop-token.invariant
    ∙ fold-drop-err c.args.bytes.now c.loop-token.brackets c.args.tokens.now c.loop-token.token-index _ c.in-Err.kind c.loop-token-test.true c.in-Err.ensures)

pub returns-in-None : goal.returns-in-None
returns-in-None c =
    sym c.loop-token.invariant
    ∙ at_drop_all (fold (after_next c.args.bytes.now) (Ok c.loop-token.brackets)) c.args.tokens.now c.loop-token.token-index c.loop-token-test.false
    ∙ ap (λ brackets. Ok brackets) (nil-from_top c.loop-token.brackets (sym c.in-None.ensures))
