-- Why a band of the page and its neighbours are enough.
use Rattle.std.specs.Prelude.{◌≡◌, ℕ, ◌*◌, ◌≤◌, ◌<◌, true, false, Some, None}
use Rattle.page_model.specs.declared.parts.At.{At}
use Rattle.page_model.specs.declared.parts.EdgeAt.{EdgeAt}
use Rattle.page_model.specs.declared.parts.PageParts.{PageParts}
use Rattle.page_model.specs.Page.{params_at}
use Rattle.page_model.specs.Columns.{column_decider}
use Rattle.page_model.specs.Decider.{decider}
use Rattle.page_model.specs.Deciding.{decides}
use Rattle.page_model.specs.Edges.{IsEdge}
use Rattle.page_model.specs.Reach.{page_reach}
use Rattle.page_model.specs.Tints.{new, new_from}
use Rattle.page_model.specs.Trapped.{trapped_by}
use Rattle.page_model.specs.Within.{within}
use Rattle.lists.specs.Words.{gap}
use Rattle.page_model.specs.Zones.{zone_of}

-- no deciding edge of the page is within of p
abbrev pub NoneWithin : PageParts → At → Type 0
NoneWithin page p = (f : EdgeAt) → IsEdge page f → decides page f ≡ true → within page p f ≡ false

-- where the decider lies at most the page's reach above or below p, the columns give it; else,
-- or where there is none, no deciding edge is within of p, if p's zone is enabled
pub record ReachLaw (page : PageParts) (p : At) : Type 0 where
  pub near : (e : EdgeAt) → decider page p ≡ Some e → gap e.y2 (2 * p.y) ≤ page_reach page
      → column_decider page (page_reach page) p ≡ Some e
  pub far : (e : EdgeAt) → decider page p ≡ Some e → page_reach page < gap e.y2 (2 * p.y)
      → (params_at page (zone_of page p)).enabled ≡ true → NoneWithin page p
  pub none : decider page p ≡ None → NoneWithin page p

-- with the edge that the columns give, p is trapped and has its new tints as with its decider
pub record TrapsByColumns (page : PageParts) (p : At) : Type 0 where
  pub trapped_alike : trapped_by page p (column_decider page (page_reach page) p)
      ≡ trapped_by page p (decider page p)
  pub tints_alike : (c : ℕ)
      → new_from page p c (column_decider page (page_reach page) p) ≡ new page p c
