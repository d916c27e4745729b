-- What keepaway makes of a page: its planes, what is counted, and the report.
use Rattle.std.specs.Prelude.{ℕ, zero, suc, Bool, not, ◌==◌, List, [], ◌++◌, codes}
use Rattle.std.specs.Fmt.{decimal}
use Rattle.std.specs.List.{All}
use Rattle.lists.specs.Words.{count_below, list_below}
use Rattle.page_model.specs.declared.parts.At.{At}
use Rattle.page_model.specs.declared.parts.PageParts.{PageParts}
use Rattle.page_model.specs.declared.parts.Plane.{Plane}
use Rattle.page_model.specs.Page.{height, ink_at, maxval, plates, sample_at, samples, tint, width}
use Rattle.common_errors.specs.Lines.{line}
use Rattle.trap_report.specs.Report.{head_line}
use Rattle.keepaway.specs.Keepaway.{covered as is_under_black, kept as kept_under_black}
use Rattle.keepaway.specs.Laws.{Locality as LocalUnderBlack}
use Rattle.keepaway.specs.Rows.{Reaches as ReachesUnderBlack}
use Rattle.underprint.specs.declared.parts.White.{White}
use Rattle.underprint.specs.Laws.{Locality as LocalUnderColour}
use Rattle.underprint.specs.Lists.{Reaches as ReachesUnderColour}
use Rattle.underprint.specs.Underprint.{covered as is_under_colour, kept as kept_under_colour}
use Rattle.keep_pages.specs.declared.uses.KeepUse.{KeepUse}
use Rattle.keep_pages.specs.declared.uses.KeepUse.TheVariants.{UnderBlack, UnderColour}

-- whether a pixel is covered
abbrev pub covered : PageParts → KeepUse → At → Bool
covered page (UnderBlack rich) p = is_under_black page rich.limit p
covered page (UnderColour whites) p = is_under_colour page whites p

-- the new tint of plate c at a pixel
abbrev pub kept : PageParts → KeepUse → ℕ → At → ℕ
kept page (UnderBlack rich) c p = kept_under_black page rich c p
kept page (UnderColour whites) c p = kept_under_colour page whites c p

-- no ink is gained, and a tint changes only at a covered pixel, to that of a pixel within the width
-- that is not covered
abbrev pub Locality : PageParts → KeepUse → ℕ → At → Type 0
Locality page (UnderBlack rich) c p = LocalUnderBlack page rich c p
Locality page (UnderColour whites) c p = LocalUnderColour page whites c p

-- at this resolution each width is at most 128 pixels
abbrev pub Reaches : PageParts → KeepUse → Type 0
Reaches page (UnderBlack rich) = ReachesUnderBlack page rich
Reaches page (UnderColour whites) = All (λ (white : White). ReachesUnderColour page white.width) whites

-- the new tints of plate c, row by row
unfoldable pub kept_tints : PageParts → KeepUse → ℕ → List ℕ
kept_tints page used c = list_below (λ k. kept page used c (sample_at page k)) (samples page)

-- plate c afterwards
abbrev pub kept_plane : PageParts → KeepUse → ℕ → Plane
kept_plane page used c = record {
  width = width page;
  height = height page;
  maxval = maxval page;
  tints = kept_tints page used c;
}

-- all plates afterwards
unfoldable pub kept_planes : PageParts → KeepUse → List Plane
kept_planes page used = list_below (kept_plane page used) (plates page)

-- how many pixels are covered
abbrev pub covered_count : PageParts → KeepUse → ℕ
covered_count page used = count_below (λ k. covered page used (sample_at page k)) (samples page)

-- how many pixels of plate c have another tint than before
abbrev pub changed_count : PageParts → KeepUse → ℕ → ℕ
changed_count page used c = count_below
    (λ k. not (kept page used c (sample_at page k) == tint page c (sample_at page k)))
    (samples page)

-- of so many pixels those that changed under black, and those that changed under colour
abbrev pub under_black : KeepUse → ℕ → ℕ
under_black (UnderBlack rich) changed = changed
under_black (UnderColour whites) changed = 0

abbrev pub under_colour : KeepUse → ℕ → ℕ
under_colour (UnderBlack rich) changed = 0
under_colour (UnderColour whites) changed = changed

-- a plate's name, and how many of its pixels changed, by the cause
abbrev pub plate_line : KeepUse → List ℕ → ℕ → List ℕ
plate_line used name changed = line (codes "plate " ++ name
    ++ codes " rich-black " ++ decimal (under_black used changed)
    ++ codes " underprint " ++ decimal (under_colour used changed))

-- the lines of the plates below n
abbrev pub plate_lines : PageParts → KeepUse → (ℕ → ℕ) → ℕ → List ℕ
plate_lines page used changed zero = []
plate_lines page used changed (suc n) =
    plate_lines page used changed n ++ plate_line used (ink_at page n).name (changed n)

-- the text of a report
abbrev pub report_text : PageParts → KeepUse → ℕ → (ℕ → ℕ) → List ℕ
report_text page used covers changed = line (codes "keepaway report")
    ++ head_line (width page) (height page) (maxval page) (plates page)
    ++ line (codes "covered " ++ decimal covers) ++ plate_lines page used changed (plates page)
    ++ line (codes "end")

-- the report of a page
abbrev pub keep_report : PageParts → KeepUse → List ℕ
keep_report page used =
    report_text page used (covered_count page used) (changed_count page used)
