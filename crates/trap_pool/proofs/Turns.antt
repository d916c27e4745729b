-- Lines that are gathered one after another, and what that says of each.
use Rattle.std.proofs.Common.{◌≡◌, ◌↔◌, ◌∙◌, ℕ, suc, ◌+◌, ◌-◌, ◌^◌, ◌<◌, ◌≤◌, IsTrue, List, [], ◌∷◌, ◌++◌, length, take, get_or, Option, Some, None, Ok, Err, inl, inr, refl, sym, ap, subst, arith}
use Rattle.std.proofs.lemmas.List.{length-take-le, take_more}
use Rattle.outside.specs.Tray.{TrayState, KeepsTray}
use Rattle.outside.proofs.Steps.{kept_tray}
use Rattle.page_files.specs.Gathering.{AnswersPage, Gathers}
use Rattle.page_files.specs.Inputs.{Makes, Sources, one_page, sources}
use Rattle.page_model.specs.declared.parts.PageParts.{PageParts}
use Rattle.job_list.specs.Lines.{LineParts}
use Rattle.common_errors.specs.declared.common.CommonError.{CommonError}
use Rattle.common_errors.specs.declared.common.CommonError.TheVariants as errors
use Rattle.trap_pool.specs.declared.outcome.Outcome.{Outcome}
use Rattle.trap_pool.specs.declared.outcome.Outcome.TheVariants.{Done, Refused, TooLarge}
use Rattle.trap_pool.specs.Pools.{AnswersLine, InTurn, IsJudged, IsReplyTo, KeepsLimit, Pools, source_of}
use Rattle.trap_pool.specs.Replies.{ReplyParts, IsReply, accepted, accepted_of, all_samples, gathered_of, most_in_all, read_fault, read_faults}

kept_same : (a : TrayState) → KeepsTray a a
kept_same a = record { tells = refl; file = refl; faults = omega arith }

-- the same line by equal numbers
moved : (k m u v : ℕ) (line : LineParts) (a b : TrayState) (reply : ReplyParts) → k ≡ m → u ≡ v → AnswersLine k u line a b reply → AnswersLine m v line a b reply
moved k m u v line a b reply place used answers = record {
  number = answers.number ∙ place;
  kind = answers.kind;
  gathers = answers.gathers;
  limit = subst (λ (n : ℕ). KeepsLimit n reply.page reply.outcome) used answers.limit;
}

-- One line more is gathered.
pub one_more : (k u : ℕ) (lines : List LineParts) (line : LineParts) (a b c : TrayState) (replies : List ReplyParts) (reply : ReplyParts) → InTurn k u lines a b replies → AnswersLine (k + length lines) (u + accepted replies) line b c reply → InTurn k u (lines ++ line ∷ []) a c (replies ++ reply ∷ [])
one_more k u [] line a b c [] reply turn answers =
    (c, subst (λ (t : TrayState). AnswersLine k u line t c reply) turn (moved (k + 0) k (u + 0) u line b c reply (omega arith) (omega arith) answers), refl)
one_more k u [] line a b c (r ∷ rs) reply turn answers = absurd turn
one_more k u (l ∷ ls) line a b c [] reply turn answers = absurd turn
one_more k u (l ∷ ls) line a b c (r ∷ rs) reply turn answers = (
  turn.0,
  turn.1,
  one_more (k + 1) (u + accepted_of r.page r.outcome) ls line turn.0 b c rs reply turn.2
      (moved (k + length (l ∷ ls)) (k + 1 + length ls) (u + accepted (r ∷ rs)) (u + accepted_of r.page r.outcome + accepted rs) line b c reply (omega arith) (omega arith) answers),
)

pub keeps_in_turn : (k u : ℕ) (lines : List LineParts) (a b : TrayState) (replies : List ReplyParts) → InTurn k u lines a b replies → KeepsTray a b
keeps_in_turn k u [] a b [] turn = subst (λ (t : TrayState). KeepsTray a t) (sym turn) (kept_same a)
keeps_in_turn k u [] a b (r ∷ rs) turn = absurd turn
keeps_in_turn k u (l ∷ ls) a b [] turn = absurd turn
keeps_in_turn k u (l ∷ ls) a b (r ∷ rs) turn = kept_tray a turn.0 b turn.1.gathers.keeps (keeps_in_turn (k + 1) (u + accepted_of r.page r.outcome) ls turn.0 b rs turn.2)

pub as_many : (k u : ℕ) (lines : List LineParts) (a b : TrayState) (replies : List ReplyParts) → InTurn k u lines a b replies → length replies ≡ length lines
as_many k u [] a b [] turn = refl
as_many k u [] a b (r ∷ rs) turn = absurd turn
as_many k u (l ∷ ls) a b [] turn = absurd turn
as_many k u (l ∷ ls) a b (r ∷ rs) turn = ap suc (as_many (k + 1) (u + accepted_of r.page r.outcome) ls turn.0 b rs turn.2)

-- A read fault raises the count.
rises : (source : Sources) (a b : TrayState) (common_error : CommonError) → b.faults < 2 ^ 64 - 1 → KeepsTray a b → AnswersPage source a b (Err common_error) → a.faults + read_fault (Refused common_error) ≤ b.faults
rises source a b (errors.Read None) low keeps (inl less, asked) = omega arith
rises source a b (errors.Read None) low keeps (inr last, asked) = absurd (omega arith)
rises source a b (errors.Read (Some k)) low keeps (inl less, asked, breaks) = omega arith
rises source a b (errors.Read (Some k)) low keeps (inr last, asked, breaks) = absurd (omega arith)
rises source a b errors.Memory low keeps answer = let up = keeps.faults in omega arith
rises source a b errors.Usage low keeps answer = let up = keeps.faults in omega arith
rises source a b (errors.Job fault) low keeps answer = let up = keeps.faults in omega arith
rises source a b (errors.NoDetails k) low keeps answer = let up = keeps.faults in omega arith
rises source a b (errors.Plate k fault) low keeps answer = let up = keeps.faults in omega arith
rises source a b (errors.Page fault) low keeps answer = let up = keeps.faults in omega arith
rises source a b (errors.Write file) low keeps answer = let up = keeps.faults in omega arith

no_fault_made : (common_error : CommonError) → common_error ≡ errors.Memory → read_fault (Refused common_error) ≡ 0
no_fault_made common_error is = ap (λ (r : CommonError). read_fault (Refused r)) is

one_rises : (source : Sources) (a b : TrayState) (page : Option PageParts) (outcome : Outcome) → b.faults < 2 ^ 64 - 1 → IsReply page outcome → Gathers source a b (gathered_of page outcome) → a.faults + read_fault outcome ≤ b.faults
one_rises source a b (Some page) (Done trapped) low kind gathers = let up = gathers.keeps.faults in omega arith
one_rises source a b (Some page) TooLarge low kind gathers = let up = gathers.keeps.faults in omega arith
one_rises source a b (Some page) (Refused common_error) low kind gathers = let up = gathers.keeps.faults in let none = no_fault_made common_error kind in omega arith
one_rises source a b None (Refused common_error) low kind gathers = rises source a b common_error low gathers.keeps gathers.answer
one_rises source a b None (Done trapped) low kind gathers = absurd kind
one_rises source a b None TooLarge low kind gathers = absurd kind

pub reads_rise : (k u : ℕ) (lines : List LineParts) (a b : TrayState) (replies : List ReplyParts) → InTurn k u lines a b replies → b.faults < 2 ^ 64 - 1 → a.faults + read_faults replies ≤ b.faults
reads_rise k u [] a b [] turn low = let same : b.faults ≡ a.faults = ap (λ (t : TrayState). t.faults) turn in omega arith
reads_rise k u [] a b (r ∷ rs) turn low = absurd turn
reads_rise k u (l ∷ ls) a b [] turn low = absurd turn
reads_rise k u (l ∷ ls) a b (r ∷ rs) turn low =
    let later = reads_rise (k + 1) (u + accepted_of r.page r.outcome) ls turn.0 b rs turn.2 low in
    let up = (keeps_in_turn (k + 1) (u + accepted_of r.page r.outcome) ls turn.0 b rs turn.2).faults in
    let first = one_rises (source_of l) a turn.0 r.page r.outcome (omega arith) turn.1.kind turn.1.gathers in
    omega arith

-- Each line has its turn.
abbrev HasTurn : ℕ → ℕ → LineParts → TrayState → ReplyParts → Type 0
HasTurn k u line a reply = (m : TrayState) × (n : TrayState) × KeepsTray a m × AnswersLine k u line m n reply

turn_at : (k u : ℕ) (ls : List LineParts) (line : LineParts) (ls' : List LineParts) (a b : TrayState) (rs : List ReplyParts) (reply : ReplyParts) (rs' : List ReplyParts) → length ls ≡ length rs → InTurn k u (ls ++ line ∷ ls') a b (rs ++ reply ∷ rs') → HasTurn (k + length ls) (u + accepted rs) line a reply
turn_at k u [] line ls' a b [] reply rs' same turn = (a, turn.0, kept_same a, moved k (k + 0) u (u + 0) line a turn.0 reply (omega arith) (omega arith) turn.1)
turn_at k u [] line ls' a b (r ∷ rs) reply rs' same turn = absurd (omega arith)
turn_at k u (l ∷ ls) line ls' a b [] reply rs' same turn = absurd (omega arith)
turn_at k u (l ∷ ls) line ls' a b (r ∷ rs) reply rs' same turn =
    let used = u + accepted_of r.page r.outcome in
    let later = turn_at (k + 1) used ls line ls' turn.0 b rs reply rs' (omega arith) turn.2 in (
      later.0,
      later.1,
      kept_tray a turn.0 later.0 turn.1.gathers.keeps later.2,
      moved (k + 1 + length ls) (k + length (l ∷ ls)) (used + accepted rs) (u + accepted (r ∷ rs)) line later.0 later.1 reply (omega arith) (omega arith) later.3,
    )

-- what an error says of the files of a tray that is the same as before
judged : (source : Sources) (m n : TrayState) (common_error : CommonError) → AnswersPage source m n (Err common_error) → IsTrue m.tells → IsJudged m.file source common_error
judged source m n (errors.Job fault) answer tells = answer.1 tells
judged source m n (errors.NoDetails k) answer tells = answer.1 tells
judged source m n (errors.Plate k fault) answer tells = answer.1 tells
judged source m n (errors.Page fault) answer tells = answer.1 tells
judged source m n (errors.Read file) answer tells = tt
judged source m n errors.Memory answer tells = tt
judged source m n errors.Usage answer tells = absurd answer
judged source m n (errors.Write file) answer tells = absurd answer

judged_reply : (source : Sources) (m n : TrayState) (page : Option PageParts) (common_error : CommonError) → IsReply page (Refused common_error) → Gathers source m n (gathered_of page (Refused common_error)) → IsTrue m.tells → IsJudged m.file source common_error
judged_reply source m n (Some page) common_error kind gathers tells = subst (IsJudged m.file source) (sym kind) tt
judged_reply source m n None common_error kind gathers tells = judged source m n common_error gathers.answer tells

made_page : (source : Sources) (m n : TrayState) (outcome : Outcome) (page : PageParts) → Gathers source m n (gathered_of (Some page) outcome) → IsTrue m.tells → Makes one_page m.file source (Ok page)
made_page source m n outcome page gathers tells = gathers.answer.2 tells

too_large : (u : ℕ) (page : PageParts) (outcome : Outcome) → KeepsLimit u (Some page) outcome → (outcome ≡ TooLarge) ↔ (most_in_all < u + all_samples page)
too_large u page TooLarge limit = (λ is. limit, λ over. refl)
too_large u page (Done trapped) limit = (λ is. absurd (cc), λ over. absurd (omega arith))
too_large u page (Refused common_error) limit = (λ is. absurd (cc), λ over. absurd (omega arith))

reply_to : (k u : ℕ) (line : LineParts) (a m n : TrayState) (reply : ReplyParts) → KeepsTray a m → AnswersLine k u line m n reply → IsReplyTo a k u line reply
reply_to k u line a m n reply keeps answers = record {
  number = answers.number;
  kind = answers.kind;
  page = λ page is tells. subst (λ (files : List ℕ → Option (List ℕ)). Makes one_page files (source_of line) (Ok page)) keeps.file
      (made_page (source_of line) m n reply.outcome page (subst (λ (p : Option PageParts). Gathers (source_of line) m n (gathered_of p reply.outcome)) is answers.gathers) (keeps.tells ∙ tells));
  refused = λ common_error is tells. subst (λ (files : List ℕ → Option (List ℕ)). IsJudged files (source_of line) common_error) keeps.file
      (judged_reply (source_of line) m n reply.page common_error (subst (IsReply reply.page) is answers.kind) (subst (λ (o : Outcome). Gathers (source_of line) m n (gathered_of reply.page o)) is answers.gathers) (keeps.tells ∙ tells));
  too_large = λ page is. too_large u page reply.outcome (subst (λ (p : Option PageParts). KeepsLimit u p reply.outcome) is answers.limit);
}

-- what all replies together say
pub pools : (lines : List LineParts) (a b : TrayState) (replies : List ReplyParts) → InTurn 0 0 lines a b replies → Pools lines a b replies
pools lines a b replies turn = record {
  keeps = keeps_in_turn 0 0 lines a b replies turn;
  count = as_many 0 0 lines a b replies turn;
  each = λ ls line ls' rs reply rs' these those same.
      let split = subst (λ (l : List LineParts). InTurn 0 0 l a b (rs ++ reply ∷ rs')) these (subst (λ (r : List ReplyParts). InTurn 0 0 lines a b r) those turn) in
      let at = turn_at 0 0 ls line ls' a b rs reply rs' same split in
      reply_to (length ls) (accepted rs) line a at.0 at.1 reply at.2
      (moved (0 + length ls) (length ls) (0 + accepted rs) (accepted rs) line at.0 at.1 reply (omega arith) (omega arith) at.3);
  reads = λ low. reads_rise 0 0 lines a b replies turn low;
  in_turn = turn;
}

-- the samples of one reply more
pub accepted_more : (replies : List ReplyParts) (reply : ReplyParts) → accepted (replies ++ reply ∷ []) ≡ accepted replies + accepted_of reply.page reply.outcome
accepted_more [] reply = omega arith
accepted_more (first ∷ replies) reply = let later = accepted_more replies reply in omega arith

-- The next line of a list is gathered.
pub next_turn : (lines : List LineParts) (n u : ℕ) (line : LineParts) (a b c : TrayState) (replies : List ReplyParts) (reply : ReplyParts) → n < length lines → length replies ≡ n → u ≡ accepted replies → line ≡ get_or lines n line → InTurn 0 0 (take n lines) a b replies → AnswersLine n u line b c reply → InTurn 0 0 (take (n + 1) lines) a c (replies ++ reply ∷ [])
next_turn lines n u line a b c replies reply here count used item turn answers =
    let long : length (take n lines) ≡ n = length-take-le n lines (omega arith) in
    let more : take (n + 1) lines ≡ take n lines ++ line ∷ [] = take_more lines n line here ∙ ap (λ (l : LineParts). take n lines ++ l ∷ []) (sym item) in
    subst (λ (l : List LineParts). InTurn 0 0 l a c (replies ++ reply ∷ [])) (sym more)
    (one_more 0 0 (take n lines) line a b c replies reply turn (moved n (0 + length (take n lines)) u (0 + accepted replies) line b c reply (omega arith) (omega arith) answers))

-- The page of a line is gathered.
pub page_answers : (k u : ℕ) (line : LineParts) (job : List ℕ) (names inputs : List (List ℕ)) (a b : TrayState) (page : PageParts) (reply : ReplyParts) → job ≡ line.job → names ≡ line.names → inputs ≡ line.inputs → Gathers (sources job names inputs) a b (Ok page) → reply.line ≡ k → gathered_of reply.page reply.outcome ≡ Ok page → IsReply reply.page reply.outcome → KeepsLimit u reply.page reply.outcome → AnswersLine k u line a b reply
page_answers k u line job names inputs a b page reply jobs named read gathers number same kind limit = record {
  number = number;
  kind = kind;
  gathers = subst (Gathers (source_of line) a b) (sym same)
      (subst (λ (i : List (List ℕ)). Gathers (sources line.job line.names i) a b (Ok page)) read
      (subst (λ (n : List (List ℕ)). Gathers (sources line.job n inputs) a b (Ok page)) named
      (subst (λ (j : List ℕ). Gathers (sources j names inputs) a b (Ok page)) jobs gathers)));
  limit = limit;
}
