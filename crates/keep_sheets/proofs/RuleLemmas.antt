-- Keepaway of either use is a local rule, and the least halo is that of the rule's reach.
use Rattle.std.proofs.Common.{◌≡◌, ℕ, ◌+◌, ◌*◌, ◌<◌, ◌≤◌, List, [], ◌∷◌, refl, sym, subst, inl, inr, arith}
use Rattle.std.proofs.Math.Nat.{div-lt_iff_lt-mul}
use Rattle.std.proofs.lemmas.Bool.{cases_lt}
use Rattle.std.proofs.lemmas.List.Elements.{All-head, All-tail}
use Rattle.std.proofs.lemmas.Nat.{mul-le}
use Rattle.std.specs.List.{All}
use Rattle.lists.specs.Words.{square}
use Rattle.page_model.specs.declared.parts.PageParts.{PageParts}
use Rattle.page_model.specs.Columns.{halo}
use Rattle.sheet_geometry.specs.Tiles.{IsTile, Tile, TileLaw, rule_tints}
use Rattle.sheet_geometry.proofs.Tiles.{tile_law}
use Rattle.keepaway.specs.Keepaway.{near_limit}
use Rattle.underprint.specs.declared.parts.White.{White}
use Rattle.underprint.specs.Underprint.{followed}
use Rattle.keep_windows.specs.KeepRules.{farthest, rounded}
use Rattle.keep_windows.proofs.RuleLemmas.{below_farthest, black_local, colour_local, near_rounded, some_farthest}
use Rattle.keep_pages.specs.declared.uses.KeepUse.{KeepUse}
use Rattle.keep_pages.specs.declared.uses.KeepUse.TheVariants.{UnderBlack, UnderColour}
use Rattle.keep_pages.specs.KeptPages.{kept_tints}
use Rattle.keep_sheets.specs.KeepRule.{KeepHaloLaw, KeepRuleLaw, keep_rule}
use Rattle.keep_sheets.specs.KeepSheets.{IsHalo}

tints_same : (used : KeepUse) (page : PageParts) (c : ℕ) → rule_tints (keep_rule used) page c ≡ kept_tints page used c
unfolding kept_tints
tints_same (UnderBlack rich) page c = refl
tints_same (UnderColour whites) page c = refl

pub rule_law : (used : KeepUse) → KeepRuleLaw used
rule_law (UnderBlack rich) = record {
  local = black_local rich;
  tint = λ page p c. refl;
  tints = tints_same (UnderBlack rich);
  covers = λ page core. refl;
  changes = λ page core c. refl;
}
rule_law (UnderColour whites) = record {
  local = colour_local whites;
  tint = λ page p c. refl;
  tints = tints_same (UnderColour whites);
  covers = λ page core. refl;
  changes = λ page core c. refl;
}

half : (n : ℕ) → halo (2 * n) ≡ n
half n = omega arith

enough : (page : PageParts) (used : KeepUse) → IsHalo page.resolution used (halo ((keep_rule used).reach page))
enough page (UnderBlack rich) = subst (λ (n : ℕ). near_limit rich.width page.resolution < square n) (sym (half (rounded rich.width page.resolution + 1))) (near_rounded rich.width page.resolution)
enough page (UnderColour whites) = subst (IsHalo page.resolution (UnderColour whites)) (sym (half (farthest page.resolution whites))) (some_farthest page.resolution whites, below_farthest page.resolution whites)

-- a number whose square is above the limit is above the rounded width
rounded_next : (wide resolution n : ℕ) → near_limit wide resolution < square n → rounded wide resolution + 1 ≤ n
rounded_next wide resolution n above = elim (cases_lt (rounded wide resolution) n) [
  | inl l ↦ omega (arith, l)
  | inr m ↦
      let a = wide * resolution + 360000 in
      let low : n * 720000 ≤ a = omega (arith, m) in
      let small : (n * 720000) * (n * 720000) ≤ a * a = mul-le (n * 720000) (n * 720000) a a low low in
      let some : 0 < 518400000000 = omega arith in
      let far : a * a < (n * n) * 518400000000 = (div-lt_iff_lt-mul some).0 above in
      absurd (omega (arith, small, far))
]

-- a number that all are followed no farther than is no less than the farthest
farthest_least : (resolution : ℕ) (whites : List White) (n : ℕ) → 1 ≤ n → All (λ (white : White). followed white.width resolution ≤ n) whites → farthest resolution whites ≤ n
farthest_least resolution [] n some all = some
farthest_least resolution (w ∷ ws) n some all =
    let rest = farthest_least resolution ws n some (All-tail (λ (white : White). followed white.width resolution ≤ n) w ws all) in
    let first : followed w.width resolution ≤ n = All-head (λ (white : White). followed white.width resolution ≤ n) w ws all in
    omega (arith, rest, first)

least : (page : PageParts) (used : KeepUse) (n : ℕ) → IsHalo page.resolution used n → halo ((keep_rule used).reach page) ≤ n
least page (UnderBlack rich) n is =
    let low = rounded_next rich.width page.resolution n is in
    omega (arith, low, half (rounded rich.width page.resolution + 1))
least page (UnderColour whites) n is =
    let low = farthest_least page.resolution whites n is.0 is.1 in
    omega (arith, low, half (farthest page.resolution whites))

pub halo_law : (page : PageParts) (used : KeepUse) → KeepHaloLaw page used
halo_law page used = record { enough = enough page used; least = least page used }

pub keep_tile : (near : ℕ) (used : KeepUse) (sheet : PageParts) (tile : Tile) (x y rows : ℕ) → IsHalo sheet.resolution used near → IsTile near sheet tile x y rows → TileLaw (keep_rule used) sheet tile x y rows
keep_tile near used sheet tile x y rows is at = tile_law (keep_rule used) (rule_law used).local near sheet (least sheet used near is) tile x y rows at
