-- What lies beyond the reach of a page traps nothing.
use Rattle.std.proofs.Common.{◌≡◌, ℕ, ◌+◌, ◌*◌, ◌-◌, ◌<◌, ◌≤◌, Bool, true, false, nat_lt, not, ◌&&◌, ◌||◌, inl, inr, refl, sym, ◌∙◌, ap, arith, length, if◌then◌else◌, Option, Some, None}
use Rattle.std.specs.Option.{MatchOption}
use Rattle.std.proofs.lemmas.Bool.{cases_lt}
use Rattle.page_model.specs.declared.parts.At.{At}
use Rattle.page_model.specs.declared.parts.EdgeAt.{EdgeAt}
use Rattle.page_model.specs.declared.parts.PageParts.{PageParts}
use Rattle.page_model.specs.Apart.{apart}
use Rattle.page_model.specs.Columns.{column_decider}
use Rattle.page_model.specs.Conditions.{IsPage}
use Rattle.page_model.specs.Decider.{decider, IsDecider, AtMost}
use Rattle.page_model.specs.Deciding.{decides}
use Rattle.page_model.specs.Density.{shut, density, spreads}
use Rattle.page_model.specs.Edges.{IsEdge, d2, across, own}
use Rattle.page_model.specs.Page.{params_at, tint, ink_at}
use Rattle.page_model.specs.Reach.{page_reach, zone_reach, params_reach}
use Rattle.page_model.specs.Laws.{Keeps, KeepsUnlessWithin}
use Rattle.page_model.specs.ReachLaw.{NoneWithin, ReachLaw, TrapsByColumns}
use Rattle.page_model.specs.Tints.{new_in, new_from, scaled_in}
use Rattle.page_model.specs.Trapped.{trapped_in, trapped_by}
use Rattle.page_model.specs.Within.{black, edge_slid, within_in}
use Rattle.lists.specs.Words.{gap, square}
use Rattle.page_model.specs.Zones.{zone_of}
use Rattle.page_model.proofs.ZoneLemmas.{greatest_cover-is}
use Rattle.page_model.proofs.DeciderLemmas.{Decides, decider-is, some_rows}
use Rattle.page_model.proofs.ReachLemmas.{at_most_greatest, square_at_most, not_near, five_false}
use Rattle.page_model.proofs.ColumnDecider.{IsDecidingEdge, decider_by_columns, columns_decide}

zone_known : (page : PageParts) (p : At) → 1 ≤ length page.zones → zone_of page p < length page.zones
unfolding zone_of
zone_known page p some = (let most = (greatest_cover-is page p (length page.zones - 1)).most in omega (arith, most, some))

enabled_reach : (page : PageParts) (z : ℕ) → z < length page.zones → (params_at page z).enabled ≡ true → params_reach page.resolution (params_at page z) ≤ page_reach page
unfolding page_reach
enabled_reach page z known on =
    let same : zone_reach page z ≡ params_reach page.resolution (params_at page z) = ap (λ (b : Bool). if b then params_reach page.resolution (params_at page z) else 0) on in
    rw same at (at_most_greatest (zone_reach page) (length page.zones) z known)

-- an edge beyond the reach is not within
not_within : (page : PageParts) (z : ℕ) (p : At) (f : EdgeAt) → z < length page.zones → square (page_reach page + 1) ≤ d2 p f → (params_at page z).enabled ≡ true → within_in page z p f ≡ false
unfolding within_in
not_within page z p f known far on =
    let params = params_at page z in
    not_near (d2 p f) params.trap_width params.black_width page.resolution (page_reach page) (black page params f) (edge_slid page params f) far (enabled_reach page z known on)

far_apart : (p : At) (e f : EdgeAt) (reach : ℕ) → AtMost p e f → reach < gap e.y2 (2 * p.y) → square (reach + 1) ≤ d2 p f
far_apart p e f reach (inl less) far = omega (arith, less, square_at_most (reach + 1) (gap e.y2 (2 * p.y)) (omega arith))
far_apart p e f reach (inr same) far = omega (arith, same.0, square_at_most (reach + 1) (gap e.y2 (2 * p.y)) (omega arith))

beyond : (page : PageParts) (p : At) (e : EdgeAt) → IsPage page → IsDecider page p e → page_reach page < gap e.y2 (2 * p.y) → (params_at page (zone_of page p)).enabled ≡ true → NoneWithin page p
beyond page p e valid is far on = λ f edge d. not_within page (zone_of page p) p f (zone_known page p valid.parts.some_zones) (far_apart p e f (page_reach page) (is.least f edge d) far) on

is_decider : (page : PageParts) (p : At) (e : EdgeAt) → IsPage page → decider page p ≡ Some e → IsDecider page p e
is_decider page p e valid at = go (decider page p) (decider-is page p (some_rows page valid)) at where
  go : (o : Option EdgeAt) → Decides page p o → o ≡ Some e → IsDecider page p e
  go None h q = cc
  go (Some f) h q = (let same : f ≡ e = cc in rw (← same) h)

no_decider : (page : PageParts) (p : At) → IsPage page → decider page p ≡ None → NoneWithin page p
no_decider page p valid at = λ f edge d. absurd (go (decider page p) (decider-is page p (some_rows page valid)) at f edge d) where
  go : (o : Option EdgeAt) → Decides page p o → o ≡ None → (f : EdgeAt) → IsEdge page f → decides page f ≡ true → ⊥
  go None h q f edge d = h f edge d
  go (Some e) h q f edge d = cc

pub reach_law : (page : PageParts) (p : At) → IsPage page → ReachLaw page p
reach_law page p valid = record {
  near = λ e at near. decider_by_columns page p (page_reach page) e (is_decider page p e valid at) near;
  far = λ e at far on. beyond page p e valid (is_decider page p e valid at) far on;
  none = λ at. no_decider page p valid at;
}

-- an edge that is not within traps nothing
not_trapped : (page : PageParts) (z : ℕ) (p : At) (f : EdgeAt) → ((params_at page z).enabled ≡ true → within_in page z p f ≡ false) → trapped_in page z p f ≡ false
unfolding trapped_in
not_trapped page z p f h = five_false (not (shut page p)) (params_at page z).enabled (within_in page z p f) (apart page z p (across p f)) (edge_slid page (params_at page z) f || nat_lt (density page (across p f)) (density page (own p f))) h

kept_by : (page : PageParts) (z : ℕ) (p : At) (f : EdgeAt) (c : ℕ) → trapped_in page z p f ≡ false → new_in page z p f c ≡ tint page c p
unfolding new_in
kept_by page z p f c h = ap (λ (b : Bool). if b && spreads (ink_at page c).kind then scaled_in page z p f c else tint page c p) h

-- the edge of an option traps nothing
pub record TrapsNothing (page : PageParts) (p : At) (o : Option EdgeAt) : Type 0 where
  pub trapped : trapped_by page p o ≡ false
  pub tints : (c : ℕ) → new_from page p c o ≡ tint page c p

traps_nothing : (page : PageParts) (p : At) (o : Option EdgeAt) → MatchOption o (Unit {0}) (IsDecidingEdge page) → ((params_at page (zone_of page p)).enabled ≡ true → NoneWithin page p) → TrapsNothing page p o
traps_nothing page p None h none = record { trapped = refl; tints = λ c. refl }
traps_nothing page p (Some f) h none =
    let off = not_trapped page (zone_of page p) p f (λ on. none on f h.edge h.deciding) in
    record { trapped = off; tints = λ c. kept_by page (zone_of page p) p f c off }

-- an edge beyond the reach traps nothing
pub far_traps_nothing : (page : PageParts) (p : At) (f : EdgeAt) → 1 ≤ length page.zones → square (page_reach page + 1) ≤ d2 p f → TrapsNothing page p (Some f)
far_traps_nothing page p f some far =
    let off = not_trapped page (zone_of page p) p f (λ on. not_within page (zone_of page p) p f (zone_known page p some) far on) in
    record { trapped = off; tints = λ c. kept_by page (zone_of page p) p f c off }

pub traps_by_columns : (page : PageParts) (p : At) → IsPage page → TrapsByColumns page p
traps_by_columns page p valid = go (decider page p) (decider-is page p (some_rows page valid)) refl where
  both : (o : Option EdgeAt) → decider page p ≡ o → TrapsNothing page p o → TrapsNothing page p (column_decider page (page_reach page) p) → TrapsByColumns page p
  both o at a b = record {
    trapped_alike = b.trapped ∙ sym a.trapped ∙ ap (trapped_by page p) (sym at);
    tints_alike = λ c. b.tints c ∙ sym (a.tints c) ∙ ap (new_from page p c) (sym at);
  }

  go : (o : Option EdgeAt) → Decides page p o → decider page p ≡ o → TrapsByColumns page p
  go None h at = both None at (traps_nothing page p None tt (λ on f edge d. absurd (h f edge d))) (traps_nothing page p _ (columns_decide page p (page_reach page)) (λ on f edge d. absurd (h f edge d)))
  go (Some e) h at = elim (cases_lt (page_reach page) (gap e.y2 (2 * p.y))) [
    | inl far ↦ both (Some e) at (traps_nothing page p (Some e) (record { edge = h.edge; deciding = h.deciding }) (beyond page p e valid h far)) (traps_nothing page p _ (columns_decide page p (page_reach page)) (beyond page p e valid h far))
    | inr near ↦ (let same = decider_by_columns page p (page_reach page) e h near ∙ sym at in record { trapped_alike = ap (trapped_by page p) same; tints_alike = λ c. ap (new_from page p c) same })
  ]

-- an edge that is not within keeps the tints
kept_from : (page : PageParts) (p : At) (o : Option EdgeAt) → TrapsNothing page p o → decider page p ≡ o → Keeps page p
kept_from page p o nothing at = λ c. ap (new_from page p c) at ∙ nothing.tints c

pub keeps_unless_within : (page : PageParts) (p : At) → KeepsUnlessWithin page p
keeps_unless_within page p = record {
  none = λ at. kept_from page p None (record { trapped = refl; tints = λ c. refl }) at;
  far = λ e at off. (let nothing = not_trapped page (zone_of page p) p e (λ _. off) in kept_from page p (Some e) (record { trapped = nothing; tints = λ c. kept_by page (zone_of page p) p e c nothing }) at);
}

pub keeps_by_edges : (page : PageParts) (p : At) → IsPage page → NoneWithin page p → Keeps page p
keeps_by_edges page p valid none = go (decider page p) (decider-is page p (some_rows page valid)) refl where
  go : (o : Option EdgeAt) → Decides page p o → decider page p ≡ o → Keeps page p
  go None h at = (keeps_unless_within page p).none at
  go (Some e) h at = (keeps_unless_within page p).far e at (none e h.edge h.deciding)
