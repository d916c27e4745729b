-- The text of a report.
use Rattle.std.specs.Prelude.{◌≡◌, ℕ, zero, suc, List, [], ◌++◌, length, slice_index, codes}
use Rattle.std.specs.Fmt.{decimal}
use Rattle.page_model.specs.declared.parts.Counts.{Counts}
use Rattle.page_model.specs.declared.parts.PageParts.{PageParts}
use Rattle.page_model.specs.Page.{plates, width, height, maxval, ink_at}
use Rattle.common_errors.specs.Lines.{line}

-- what a report begins with
abbrev pub title_line : List ℕ
title_line = line (codes "trap report")

-- sides, a maxval and a number of plates
abbrev pub head_line : ℕ → ℕ → ℕ → ℕ → List ℕ
head_line wide tall most count = line
    (codes "page " ++ decimal wide ++ codes " " ++ decimal tall ++ codes " "
    ++ decimal most ++ codes " plates " ++ decimal count)

-- the sides that are reported of a page, its maxval and its number of plates
abbrev pub sided_page_line : PageParts → ℕ → ℕ → List ℕ
sided_page_line page wide tall = head_line wide tall (maxval page) (plates page)

-- a zone, how many samples lie in it, and how many of these changed
abbrev pub zone_line : ℕ → ℕ → ℕ → List ℕ
zone_line zone samples changed = line
    (codes "zone " ++ decimal zone ++ codes " samples " ++ decimal samples ++ codes " changed "
    ++ decimal changed)

-- how many edges decide
abbrev pub edges_line : ℕ → List ℕ
edges_line edges = line (codes "edges " ++ decimal edges)

-- a plate's name, and how many of its samples changed
abbrev pub plate_line : List ℕ → ℕ → List ℕ
plate_line name changed = line (codes "plate " ++ name ++ codes " changed " ++ decimal changed)

-- the lines of the zones below n
abbrev pub zone_lines : Counts → ℕ → List ℕ
zone_lines counts zero = []
zone_lines counts (suc n) = zone_lines counts n
    ++ zone_line n (slice_index counts.zone_samples n) (slice_index counts.zone_changed n)

-- the lines of the plates below n
abbrev pub plate_lines : PageParts → Counts → ℕ → List ℕ
plate_lines page counts zero = []
plate_lines page counts (suc n) = plate_lines page counts n
    ++ plate_line (ink_at page n).name (slice_index counts.plate_changed n)

-- the whole report, with the sides that are reported: those of a sheet, where the page is a window
abbrev pub sided_report_of : PageParts → ℕ → ℕ → Counts → List ℕ
sided_report_of page wide tall counts =
    title_line ++ sided_page_line page wide tall
    ++ zone_lines counts (length page.zones) ++ edges_line counts.edges
    ++ plate_lines page counts (plates page) ++ line (codes "end")

-- with the page's own sides
abbrev pub report_of : PageParts → Counts → List ℕ
report_of page counts = sided_report_of page (width page) (height page) counts

-- one count for each zone and each plate
pub record AreCounts (page : PageParts) (counts : Counts) : Type 0 where
  pub zone_samples : length counts.zone_samples ≡ length page.zones
  pub zone_changed : length counts.zone_changed ≡ length page.zones
  pub plate_changed : length counts.plate_changed ≡ plates page
