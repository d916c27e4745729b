-- Replies whose accepted pages are done one after another.
use Rattle.std.proofs.Common.{◌≡◌, ◌∙◌, ℕ, suc, ◌+◌, List, [], ◌∷◌, Option, Some, None, inl, inr, refl, sym, ap, subst, arith}
use Rattle.outside.specs.Tray.{TrayState}
use Rattle.page_files.specs.Gathering.{Gathers}
use Rattle.page_model.specs.declared.parts.PageParts.{PageParts}
use Rattle.job_list.specs.Lines.{LineParts}
use Rattle.page_tally.specs.declared.outcome.Trapped.{Trapped}
use Rattle.trap_pool.specs.declared.outcome.Outcome.{Outcome}
use Rattle.trap_pool.specs.declared.outcome.Outcome.TheVariants.{Done, Refused, TooLarge}
use Rattle.trap_pool.specs.Pools.{AnswersLine, InTurn, KeepsLimit, source_of}
use Rattle.trap_pool.specs.Replies.{ReplyParts, IsReply, IsTrapOf, accepted_of, gathered_of}
use Rattle.trap_pool.specs.Taking.{AllSettled, Settled, Settles, accepted_page, reply_at}

-- The page that was accepted is done.
module _ (made : PageParts) (trapped : Trapped) (trap : IsTrapOf made trapped) where
  done_kind : (page : Option PageParts) (old : Outcome) → accepted_page page old ≡ Some made → IsReply page (Done trapped)
  done_kind None old is = absurd (cc)
  done_kind (Some page) TooLarge is = absurd (cc)
  done_kind (Some page) (Done other) is = let same : page ≡ made = cc in subst (λ (p : PageParts). IsTrapOf p trapped) (sym same) trap
  done_kind (Some page) (Refused common_error) is = let same : page ≡ made = cc in subst (λ (p : PageParts). IsTrapOf p trapped) (sym same) trap

  done_gathered : (page : Option PageParts) (old : Outcome) → accepted_page page old ≡ Some made → gathered_of page (Done trapped) ≡ gathered_of page old
  done_gathered None old is = absurd (cc)
  done_gathered (Some page) old is = refl

  done_limit : (u : ℕ) (page : Option PageParts) (old : Outcome) → accepted_page page old ≡ Some made → KeepsLimit u page old → KeepsLimit u page (Done trapped)
  done_limit u None old is limit = absurd (cc)
  done_limit u (Some page) TooLarge is limit = absurd (cc)
  done_limit u (Some page) (Done other) is limit = limit
  done_limit u (Some page) (Refused common_error) is limit = limit

  done_samples : (page : Option PageParts) (old : Outcome) → accepted_page page old ≡ Some made → accepted_of page (Done trapped) ≡ accepted_of page old
  done_samples None old is = absurd (cc)
  done_samples (Some page) TooLarge is = absurd (cc)
  done_samples (Some page) (Done other) is = refl
  done_samples (Some page) (Refused common_error) is = refl

  done_page : (page : Option PageParts) (old : Outcome) → accepted_page page old ≡ Some made → accepted_page page (Done trapped) ≡ accepted_page page old
  done_page None old is = absurd (cc)
  done_page (Some page) TooLarge is = absurd (cc)
  done_page (Some page) (Done other) is = refl
  done_page (Some page) (Refused common_error) is = refl

module _ (page : Option PageParts) (old new : Outcome) where
  kind_kept : IsReply page old → Settles page old new → IsReply page new
  kind_kept kind (inl same) = subst (IsReply page) (sym same) kind
  kind_kept kind (inr (made, trapped, is, done, trap)) = subst (IsReply page) (sym done) (done_kind made trapped trap page old is)

  gathered_kept : Settles page old new → gathered_of page new ≡ gathered_of page old
  gathered_kept (inl same) = ap (gathered_of page) same
  gathered_kept (inr (made, trapped, is, done, trap)) = ap (gathered_of page) done ∙ done_gathered made trapped trap page old is

  limit_kept : (u : ℕ) → KeepsLimit u page old → Settles page old new → KeepsLimit u page new
  limit_kept u limit (inl same) = subst (KeepsLimit u page) (sym same) limit
  limit_kept u limit (inr (made, trapped, is, done, trap)) = subst (KeepsLimit u page) (sym done) (done_limit made trapped trap u page old is limit)

  samples_kept : Settles page old new → accepted_of page new ≡ accepted_of page old
  samples_kept (inl same) = ap (accepted_of page) same
  samples_kept (inr (made, trapped, is, done, trap)) = ap (accepted_of page) done ∙ done_samples made trapped trap page old is

  page_kept : Settles page old new → accepted_page page new ≡ accepted_page page old
  page_kept (inl same) = ap (accepted_page page) same
  page_kept (inr (made, trapped, is, done, trap)) = ap (accepted_page page) done ∙ done_page made trapped trap page old is

settles_then : (page : Option PageParts) (a b c : Outcome) → Settles page a b → Settles page b c → Settles page a c
settles_then page a b c one (inl same) = subst (Settles page a) (sym same) one
settles_then page a b c one (inr (made, trapped, is, done, trap)) = inr (made, trapped, sym (page_kept page a b one) ∙ is, done, trap)

settled_then : (a b c : ReplyParts) → Settled a b → Settled b c → Settled a c
settled_then a b c one two = record {
  line = two.line ∙ one.line;
  page = two.page ∙ one.page;
  outcome = settles_then a.page a.outcome b.outcome c.outcome one.outcome (subst (λ (p : Option PageParts). Settles p b.outcome c.outcome) one.page two.outcome);
}

pub all_then : (a b c : List ReplyParts) → AllSettled a b → AllSettled b c → AllSettled a c
all_then a b c one two = record {
  count = two.count ∙ one.count;
  each = λ k here. settled_then (reply_at a k) (reply_at b k) (reply_at c k) (one.each k here) (two.each k (let count = one.count in omega arith));
}

-- the replies after the first
after_first : (x y : ReplyParts) (xs ys : List ReplyParts) → AllSettled (x ∷ xs) (y ∷ ys) → AllSettled xs ys
after_first x y xs ys all = record { count = let count = all.count in omega arith; each = λ k here. all.each (suc k) (omega arith) }

answers_kept : (k u : ℕ) (line : LineParts) (a b : TrayState) (old new : ReplyParts) → Settled old new → AnswersLine k u line a b old → AnswersLine k u line a b new
answers_kept k u line a b old new settled answers = record {
  number = settled.line ∙ answers.number;
  kind = subst (λ (p : Option PageParts). IsReply p new.outcome) (sym settled.page) (kind_kept old.page old.outcome new.outcome answers.kind settled.outcome);
  gathers = subst (λ (p : Option PageParts). Gathers (source_of line) a b (gathered_of p new.outcome)) (sym settled.page)
      (subst (Gathers (source_of line) a b) (sym (gathered_kept old.page old.outcome new.outcome settled.outcome)) answers.gathers);
  limit = subst (λ (p : Option PageParts). KeepsLimit u p new.outcome) (sym settled.page) (limit_kept old.page old.outcome new.outcome u answers.limit settled.outcome);
}

pub turn_kept : (k u : ℕ) (lines : List LineParts) (a b : TrayState) (old new : List ReplyParts) → AllSettled old new → InTurn k u lines a b old → InTurn k u lines a b new
turn_kept k u [] a b [] [] all turn = turn
turn_kept k u [] a b [] (y ∷ ys) all turn = absurd (let count = all.count in omega arith)
turn_kept k u [] a b (x ∷ xs) new all turn = absurd turn
turn_kept k u (l ∷ ls) a b [] new all turn = absurd turn
turn_kept k u (l ∷ ls) a b (x ∷ xs) [] all turn = absurd (let count = all.count in omega arith)
turn_kept k u (l ∷ ls) a b (x ∷ xs) (y ∷ ys) all turn =
    let first : Settled x y = all.each 0 (omega arith) in
    let same : u + accepted_of x.page x.outcome ≡ u + accepted_of y.page y.outcome =
    ap (λ (n : ℕ). u + n) (sym (ap (λ (p : Option PageParts). accepted_of p y.outcome) first.page ∙ samples_kept x.page x.outcome y.outcome first.outcome)) in (
      turn.0,
      answers_kept k u l a turn.0 x y first turn.1,
      subst (λ (n : ℕ). InTurn (k + 1) n ls turn.0 b ys) same (turn_kept (k + 1) (u + accepted_of x.page x.outcome) ls turn.0 b xs ys (after_first x y xs ys all) turn.2),
    )
