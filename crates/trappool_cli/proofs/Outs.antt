-- A line whose page is done has a file for each of its plates.
use Rattle.std.proofs.Common.{◌≡◌, ◌∙◌, ℕ, ◌+◌, List, [], ◌∷◌, length, Option, Ok, sym, subst}
use Rattle.outside.specs.Tray.{TrayState}
use Rattle.page_files.specs.Gathering.{Gathers}
use Rattle.page_model.specs.declared.parts.PageParts.{PageParts}
use Rattle.job_list.specs.Lines.{LineParts}
use Rattle.trap_pool.specs.Pools.{AnswersLine, InTurn, source_of}
use Rattle.trap_pool.specs.Replies.{ReplyParts, accepted_of, gathered_of}
use Rattle.trappool_cli.specs.Answers.{AllHaveOuts, HasOuts}
use Rattle.trappool_cli.specs.Reading.{AllPaired, MakesReplies}

line_outs : (k used : ℕ) (line : LineParts) (reply : ReplyParts) (a b : TrayState) → length line.outs ≡ length line.inputs → AnswersLine k used line a b reply → HasOuts line reply
line_outs k used line reply a b paired answers page is =
    let made : Gathers (source_of line) a b (Ok page) = subst (λ (p : Option PageParts). Gathers (source_of line) a b (gathered_of p reply.outcome)) is answers.gathers in
    made.answer.0 ∙ sym paired

outs_in_turn : (k used : ℕ) (lines : List LineParts) (replies : List ReplyParts) (a b : TrayState) → AllPaired lines → InTurn k used lines a b replies → AllHaveOuts lines replies
outs_in_turn k used [] [] a b paired turns = tt
outs_in_turn k used [] (reply ∷ replies) a b paired turns = absurd turns
outs_in_turn k used (line ∷ lines) [] a b paired turns = absurd turns
outs_in_turn k used (line ∷ lines) (reply ∷ replies) a b paired turns = (
  line_outs k used line reply a turns.0 paired.0 turns.1,
  outs_in_turn (k + 1) (used + accepted_of reply.page reply.outcome) lines replies turns.0 b paired.1 turns.2,
)

pub made_outs : (name : List ℕ) (lines : List LineParts) (replies : List ReplyParts) (a b : TrayState) → MakesReplies name a b (Ok (lines, replies)) → AllHaveOuts lines replies
made_outs name lines replies a b made = outs_in_turn 0 0 lines replies made.0 b made.1.answer.1.1 made.2.in_turn
