-- Keepaway on the windows of a sheet: how large a halo is enough, and what a core has in common
-- with the sheet.
use Rattle.std.specs.Prelude.{◌≡◌, ℕ, ◌+◌, ◌*◌, ◌<◌, ◌≤◌, ◌==◌, not}
use Rattle.std.specs.List.{All}
use Rattle.lists.specs.Words.{square}
use Rattle.page_model.specs.declared.parts.At.{At}
use Rattle.page_model.specs.declared.parts.PageParts.{PageParts}
use Rattle.page_model.specs.Limits.{most_reach}
use Rattle.page_model.specs.Page.{height, tint, width}
use Rattle.sheet_geometry.specs.declared.cuts.Cut.{Cut}
use Rattle.sheet_geometry.specs.Areas.{area_sum, one_if}
use Rattle.sheet_geometry.specs.Windows.{on_sheet, window}
use Rattle.keepaway.specs.Keepaway.{near_limit, pixel}
use Rattle.underprint.specs.declared.parts.White.{White}
use Rattle.underprint.specs.Underprint.{followed}
use Rattle.keep_pages.specs.declared.uses.KeepUse.{KeepUse}
use Rattle.keep_pages.specs.declared.uses.KeepUse.TheVariants.{UnderBlack, UnderColour}
use Rattle.keep_pages.specs.KeptPages.{covered, kept}

-- so many pixels around a pixel are enough at this resolution: nothing as far away is near, and
-- under colour no ink is followed farther
abbrev pub IsHalo : ℕ → KeepUse → ℕ → Type 0
IsHalo resolution (UnderBlack rich) halo = near_limit rich.width resolution < square halo
IsHalo resolution (UnderColour whites) halo =
    (1 ≤ halo) × All (λ (white : White). followed white.width resolution ≤ halo) whites

-- a width is at most 128 pixels
abbrev pub IsNarrow : ℕ → ℕ → Type 0
IsNarrow resolution wide = 2 * (wide * resolution) ≤ most_reach * pixel

-- each width is
abbrev pub AreNarrow : ℕ → KeepUse → Type 0
AreNarrow resolution (UnderBlack rich) = IsNarrow resolution rich.width
AreNarrow resolution (UnderColour whites) =
    All (λ (white : White). IsNarrow resolution white.width) whites

-- 1 where a pixel is covered, and 1 where plate c has another tint than before
abbrev pub covers_at : KeepUse → PageParts → At → ℕ
covers_at used page p = one_if (covered page used p)

abbrev pub changes_at : KeepUse → ℕ → PageParts → At → ℕ
changes_at used c page p = one_if (not (kept page used c p == tint page c p))

-- a pixel of a core, by its column and row there
abbrev pub in_core : Cut → ℕ → ℕ → At
in_core core x y = record { x = core.left + x; y = core.top + y }

-- where the core of a window lies on the sheet
abbrev pub core_on_sheet : Cut → Cut → Cut
core_on_sheet cut core = record {
  left = cut.left + core.left;
  top = cut.top + core.top;
  width = core.width;
  height = core.height;
}

-- the sum over the pixels of a core
abbrev pub core_sum : (At → ℕ) → Cut → ℕ
core_sum f core = area_sum f core.left core.top core.width core.height

-- the core lies in the window, and the window has the halo around it on each side on which the
-- sheet goes on beyond the window
pub record HasHalo (sheet : PageParts) (cut core : Cut) (halo : ℕ) : Type 0 where
  pub across : core.left + core.width ≤ cut.width
  pub down : core.top + core.height ≤ cut.height
  pub left : 0 < cut.left → halo ≤ core.left
  pub top : 0 < cut.top → halo ≤ core.top
  pub right : cut.left + cut.width < width sheet → core.left + core.width + halo ≤ cut.width
  pub bottom : cut.top + cut.height < height sheet → core.top + core.height + halo ≤ cut.height

-- by its window a core is covered as on the sheet and has the sheet's new tints, and what is
-- counted there is what the sheet has there
pub record KeepCoreLaw (sheet : PageParts) (cut core : Cut) (used : KeepUse) : Type 0 where
  pub cover : (x y : ℕ) → x < core.width → y < core.height
      → covered (window sheet cut) used (in_core core x y)
      ≡ covered sheet used (on_sheet cut (in_core core x y))
  pub tints : (x y c : ℕ) → x < core.width → y < core.height
      → kept (window sheet cut) used c (in_core core x y)
      ≡ kept sheet used c (on_sheet cut (in_core core x y))
  pub covers : core_sum (covers_at used (window sheet cut)) core
      ≡ core_sum (covers_at used sheet) (core_on_sheet cut core)
  pub changes : (c : ℕ) → core_sum (changes_at used c (window sheet cut)) core
      ≡ core_sum (changes_at used c sheet) (core_on_sheet cut core)
