-- What workers make of the pages that wait, and how replies take it in.
use Rattle.std.specs.Prelude.{◌≡◌, ◌⊎◌, ℕ, ◌<◌, List, length, map, slice_index_or, Option, Some}
use Rattle.std.specs.Prelude.{None}
use Rattle.page_model.specs.declared.parts.PageParts.{PageParts}
use Rattle.page_tally.specs.declared.outcome.Trapped.{Trapped}
use Rattle.common_errors.specs.declared.common.CommonError.TheVariants.{Memory}
use Rattle.trap_pool.specs.declared.outcome.Outcome.{Outcome}
use Rattle.trap_pool.specs.declared.outcome.Outcome.TheVariants.{Done, Refused, TooLarge}
use Rattle.trap_pool.specs.declared.traps.Traps.{Traps}
use Rattle.trap_pool.specs.Made.{IsTrapsOf}
use Rattle.trap_pool.specs.Replies.{ReplyParts, IsReading, IsTrapOf, reply_parts}

-- stands past the last reply
abbrev pub no_reply : ReplyParts
no_reply = reply_parts 0 None (Refused Memory)

-- reply k
abbrev pub reply_at : List ReplyParts → ℕ → ReplyParts
reply_at replies k = slice_index_or replies k no_reply

-- what becomes of a line whose page waits to be trapped, where nothing more is made: there was no
-- memory for it
abbrev pub outcome_so_far : Option Outcome → Outcome
outcome_so_far None = Refused Memory
outcome_so_far (Some outcome) = outcome

-- A page that was gathered waits, is trapped, or is too large; else there is the error of the
-- page.
abbrev pub IsGathered : Option PageParts → Option Outcome → Type 0
IsGathered (Some page) None = Unit {0}
IsGathered (Some page) (Some (Done trapped)) = IsTrapOf page trapped
IsGathered (Some page) (Some TooLarge) = Unit {0}
IsGathered (Some page) (Some (Refused common_error)) = ⊥
IsGathered None (Some (Refused common_error)) = IsReading common_error
IsGathered None outcome = ⊥

-- the page that was accepted, if any
abbrev pub accepted_page : Option PageParts → Outcome → Option PageParts
accepted_page (Some page) (Done trapped) = Some page
accepted_page (Some page) (Refused common_error) = Some page
accepted_page (Some page) TooLarge = None
accepted_page None outcome = None

-- the page of the reply that was accepted, if any: when the lines are gathered, it waits
abbrev pub waiting_of : ReplyParts → Option PageParts
waiting_of reply = accepted_page reply.page reply.outcome

-- the pages that wait when the lines are gathered, with a place for each line
abbrev pub pages_of : List ReplyParts → List (Option PageParts)
pages_of replies = map waiting_of replies

-- The page of the reply was accepted, and is this one.
abbrev pub HasAccepted : ReplyParts → PageParts → Type 0
HasAccepted reply page = waiting_of reply ≡ Some page

-- Line k has a page that was accepted, and it is this one.
abbrev pub HasPage : List ReplyParts → ℕ → PageParts → Type 0
HasPage replies line page = (line < length replies) × HasAccepted (reply_at replies line) page

-- These are the traps of the reply's accepted page.
abbrev pub SettlesBy : ReplyParts → Traps → Type 0
SettlesBy reply traps = (page : PageParts) × HasAccepted reply page × IsTrapsOf page traps

-- These are the traps of the accepted page of that line.
abbrev pub TrapsLine : List ReplyParts → ℕ → Traps → Type 0
TrapsLine replies line traps = (line < length replies) × SettlesBy (reply_at replies line) traps

-- The outcome stays, or the accepted page is done.
abbrev pub Settles : Option PageParts → Outcome → Outcome → Type 0
Settles page old new = (new ≡ old) ⊎ ((made : PageParts) × (trapped : Trapped)
    × (accepted_page page old ≡ Some made) × (new ≡ Done trapped) × IsTrapOf made trapped)

-- A reply is settled: its line and its page stay.
pub record Settled (old new : ReplyParts) : Type 0 where
  pub line : new.line ≡ old.line
  pub page : new.page ≡ old.page
  pub outcome : Settles old.page old.outcome new.outcome

-- All of them are.
pub record AllSettled (old new : List ReplyParts) : Type 0 where
  pub count : length new ≡ length old
  pub each : (k : ℕ) → k < length old → Settled (reply_at old k) (reply_at new k)
