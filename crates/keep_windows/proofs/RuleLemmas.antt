-- Keepaway is local.
use Rattle.std.proofs.Common.{◌≡◌, ℕ, zero, suc, ◌+◌, ◌*◌, ◌/◌, ◌<◌, ◌≤◌, List, [], ◌∷◌, length, max, refl, ap, arith}
use Rattle.std.specs.Prelude.{slice_index_or}
use Rattle.std.specs.List.{All}
use Rattle.lists.specs.Words.{square}
use Rattle.page_model.specs.declared.parts.At.{At}
use Rattle.page_model.specs.declared.parts.PageParts.{PageParts}
use Rattle.page_model.specs.Page.{ink_at}
use Rattle.sheet_geometry.specs.declared.cuts.Cut.{Cut}
use Rattle.sheet_geometry.specs.Areas.{one_if}
use Rattle.sheet_geometry.specs.PageRules.{IsLocal}
use Rattle.keepaway.specs.Keepaway.{near_limit}
use Rattle.keepaway.specs.declared.parts.RichBlack.{RichBlack}
use Rattle.underprint.specs.declared.parts.White.{White}
use Rattle.underprint.specs.Underprint.{followed}
use Rattle.keep_windows.specs.KeepRules.{farthest, rounded, under_black, under_colour}
use Rattle.keep_windows.proofs.PlaceLemmas.{deeper}
use Rattle.keep_windows.proofs.WindowLemmas.{covered_same, kept_same}
use Rattle.keep_windows.proofs.ColourLemmas.{covered_same as colour_same}
use Rattle.keep_windows.proofs.UnderLemmas.{followed_in, kept_same as colour_kept, square_less}

-- nothing is near that lies farther than the rounded width
pub near_rounded : (wide resolution : ℕ) → near_limit wide resolution < square (rounded wide resolution + 1)
near_rounded wide resolution = square_less (wide * resolution + 360000) (rounded wide resolution + 1) 720000 (omega arith) (omega arith)

pub black_local : (rich : RichBlack) → IsLocal (under_black rich)
black_local rich = record {
  reach = λ sheet cut. refl;
  tints = λ sheet cut p c is inside. kept_same sheet cut rich c (rounded rich.width sheet.resolution) p is (near_rounded rich.width sheet.resolution) inside;
  marks = λ sheet cut p is inside next. ap one_if (covered_same sheet cut rich.limit p is (deeper sheet cut 2 p (omega arith) inside));
}

-- one more underprint
joined : (resolution most : ℕ) (w : White) (ws : List White) → All (λ (white : White). followed white.width resolution ≤ most) ws
    → (k : ℕ) (d : White) → k < length (w ∷ ws) → followed (slice_index_or (w ∷ ws) k d).width resolution ≤ max (followed w.width resolution) most
joined resolution most w ws rest zero d l = omega arith
joined resolution most w ws rest (suc k) d l = (let here = rest k d (omega (arith, l)) in omega (arith, here))

-- an underprint is followed no farther than the farthest
pub below_farthest : (resolution : ℕ) (whites : List White) → All (λ (white : White). followed white.width resolution ≤ farthest resolution whites) whites
below_farthest resolution [] = λ k d l. absurd (omega (arith, l))
below_farthest resolution (w ∷ ws) = joined resolution (farthest resolution ws) w ws (below_farthest resolution ws)

pub some_farthest : (resolution : ℕ) (whites : List White) → 1 ≤ farthest resolution whites
some_farthest resolution [] = omega arith
some_farthest resolution (w ∷ ws) = (let rest = some_farthest resolution ws in omega (arith, rest))

pub colour_local : (whites : List White) → IsLocal (under_colour whites)
colour_local whites = record {
  reach = λ sheet cut. refl;
  tints = λ sheet cut p c is inside. (let most = below_farthest sheet.resolution whites in
      colour_kept sheet cut whites (farthest sheet.resolution whites) c p is (some_farthest sheet.resolution whites)
      (λ wide e. followed_in sheet.resolution whites (ink_at sheet c).name wide most e) inside);
  marks = λ sheet cut p is inside next. (let some = some_farthest sheet.resolution whites in
      ap one_if (colour_same sheet cut whites p is (deeper sheet cut 2 p (omega (arith, some)) inside)));
}
