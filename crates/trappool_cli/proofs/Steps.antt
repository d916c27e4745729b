-- One line more is answered.
use Rattle.std.proofs.Common.{◌≡◌, ◌∙◌, ℕ, suc, ◌+◌, ◌<◌, List, [], ◌∷◌, length, drop, get_or, None, inr, refl, sym, ap, subst, arith}
use Rattle.std.proofs.Math.Seq.{drop-cons}
use Rattle.std.proofs.lemmas.List.{length-drop}
use Rattle.outside.specs.Rack.{RackState}
use Rattle.job_list.specs.Lines.{LineParts}
use Rattle.trap_pool.specs.Replies.{ReplyParts}
use Rattle.trappool_cli.specs.Answers.{AllHaveOuts, AnswersAll, AnswersOne}

-- Where a reply is left, a line is.
some_left : (left : List LineParts) (reply : ReplyParts) (rest : List ReplyParts) → AllHaveOuts left (reply ∷ rest) → 0 < length left
some_left [] reply rest outs = absurd outs
some_left (line ∷ lines) reply rest outs = omega arith

pub line_left : (lines : List LineParts) (n : ℕ) (reply : ReplyParts) (rest : List ReplyParts) → AllHaveOuts (drop n lines) (reply ∷ rest) → n < length lines
line_left lines n reply rest outs = let some = some_left (drop n lines) reply rest outs in omega (arith, length-drop n lines)

-- the line that is left first
pub left_first : (lines : List LineParts) (n : ℕ) (line : LineParts) → n < length lines → line ≡ get_or lines n line → drop n lines ≡ line ∷ drop (n + 1) lines
left_first lines n line here is =
    let one : suc n ≡ n + 1 = omega arith in
    drop-cons lines n line here ∙ ap (λ (l : LineParts). l ∷ drop (suc n) lines) (sym is) ∙ ap (λ (m : ℕ). line ∷ drop m lines) one

pub untold_here : (n so_far : ℕ) (lines left : List LineParts) (line : LineParts) (reply : ReplyParts) (rest : List ReplyParts) (before after : RackState) (status : ℕ) → left ≡ line ∷ lines → AnswersOne n line reply before after None → status ≡ 6 → AnswersAll n so_far left (reply ∷ rest) before after status
untold_here n so_far lines left line reply rest before after status is one ends =
    subst (λ (l : List LineParts). AnswersAll n so_far l (reply ∷ rest) before after status) (sym is) (inr (one, ends))

pub all_answered : (n so_far : ℕ) (left : List LineParts) (rack : RackState) → AllHaveOuts left [] → AnswersAll n so_far left [] rack rack so_far
all_answered n so_far [] rack outs = (refl, refl)
all_answered n so_far (line ∷ lines) rack outs = absurd outs
