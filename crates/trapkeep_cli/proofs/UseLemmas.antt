-- What is drawn back reaches no farther than it may, where no width is too wide.
use Rattle.std.proofs.Common.{ℕ, ◌*◌, ◌<◌, ◌≤◌, List, [], ◌∷◌, map, max, sym, subst, inl, inr, arith}
use Rattle.std.proofs.Math.Nat.{mul-le-mul_right}
use Rattle.std.proofs.lemmas.Bool.{cases_lt}
use Rattle.std.proofs.lemmas.List.Elements.{All-nil, All-cons}
use Rattle.std.specs.List.{All}
use Rattle.keep_pages.specs.declared.uses.KeepUse.{KeepUse}
use Rattle.keep_pages.specs.declared.uses.KeepUse.TheVariants.{UnderBlack, UnderColour}
use Rattle.keep_pages.specs.KeptPages.{Reaches}
use Rattle.keep_words.specs.Stored.{white_words}
use Rattle.keep_words.specs.Words.{KeepWords, UseWords, WhiteWords, widest, widest_of}
use Rattle.keep_words.specs.Words.UseWords.{Black, Colour}
use Rattle.keepaway.specs.Keepaway.{pixel}
use Rattle.page_model.specs.Limits.{most_reach}
use Rattle.page_model.specs.declared.parts.PageParts.{PageParts}
use Rattle.trapkeep_cli.specs.Commands.{AsksFor, IsUsed, IsWide}
use Rattle.underprint.specs.declared.parts.White.{White}
use Rattle.underprint.specs.Lists.{Reaches as ReachesUnderColour}

not_less : (a b : ℕ) → (a < b → ⊥) → b ≤ a
not_less a b isnt = elim (cases_lt a b) [ inl l ↦ absurd (isnt l) | inr l ↦ l ]

-- a width that is at most another one
narrower : (a b resolution most : ℕ) → a ≤ b → 2 * (b * resolution) ≤ most → 2 * (a * resolution) ≤ most
narrower a b resolution most l within =
    let less : a * resolution ≤ b * resolution = mul-le-mul_right resolution l in
    omega (arith, less, within)

-- no underprint is wider than the widest
whites_reach : (page : PageParts) (whites : List White) → 2 * (widest_of (map white_words whites) * page.resolution) ≤ most_reach * pixel → All (λ (white : White). ReachesUnderColour page white.width) whites
whites_reach page [] within = All-nil (λ (white : White). ReachesUnderColour page white.width)
whites_reach page (w ∷ ws) within = All-cons (λ (white : White). ReachesUnderColour page white.width) w ws
    (narrower w.width (max w.width (widest_of (map white_words ws))) page.resolution (most_reach * pixel) (omega arith) within)
    (whites_reach page ws (narrower (widest_of (map white_words ws)) (max w.width (widest_of (map white_words ws))) page.resolution (most_reach * pixel) (omega arith) within))

reaches_by : (asked : UseWords) (page : PageParts) (used : KeepUse) → AsksFor asked used → 2 * (widest asked * page.resolution) ≤ most_reach * pixel → Reaches page used
reaches_by (Black width limit spared) page (UnderBlack rich) is within = subst (λ (n : ℕ). 2 * (n * page.resolution) ≤ most_reach * pixel) (sym is.width_is) within
reaches_by (Colour words) page (UnderColour whites) is within = whites_reach page whites (subst (λ (ws : List WhiteWords). 2 * (widest_of ws * page.resolution) ≤ most_reach * pixel) (sym is) within)
reaches_by (Black width limit spared) page (UnderColour whites) is within = absurd is
reaches_by (Colour words) page (UnderBlack rich) is within = absurd is

pub reaches : (words : KeepWords) (page : PageParts) (used : KeepUse) → IsUsed words used → (IsWide words page → ⊥) → Reaches page used
reaches words page used is narrow = reaches_by words.used page used is (not_less (most_reach * pixel) (2 * (widest words.used * page.resolution)) narrow)
