-- changed_in_row: the tints of a row of a core that differ.
use Rattle.std.proofs.Common.{◌≡◌, ℕ, ◌+◌, ◌*◌, ◌<◌, Bool, not, List, length, slice_index, ap, ◌∙◌, arith}
use Rattle.std.specs.Prelude.{◌==◌}
use Rattle.lists.specs.Words.{count_below}
use Rattle.page_model.specs.Page.{height, tint, width}
use Rattle.page_model.proofs.NumberSums.{counted, sum_same}
use Rattle.sheet_geometry.specs.Areas.{one_if}
use Rattle.keep_pages.specs.KeptPages.{kept}
use Rattle.keep_pages.proofs.PageLemmas.{kept_long}
use Rattle.keep_sheets.specs.KeepSheets.{changes_at}
use Rattle.keep_sheets.proofs.RowLemmas.{kept_here, row_inside}
use Rattle.keep_sheets.proofs.core_counts.changed_in_row.Goals as goal

pub run_of-after-requires : goal.run_of-after-requires
run_of-after-requires c =
    let page = c.args.page.now in
    let core = c.args.core.now in
    let y = core.top + c.args.k in
    let long : length c.args.tints.now ≡ width page * height page = ap length c.requires.tints ∙ kept_long page c.args.used.now c.args.c in
    let inside = row_inside (width page) (height page) core.left core.width y c.requires.core.across (omega (arith, c.requires.core.down, c.requires.row)) in
    let same : y * c.width.result ≡ y * width page = ap (λ (n : ℕ). y * n) c.width.ensures.value in
    omega (arith, long, inside, same)

pub returns-clause-count : goal.returns-clause-count
returns-clause-count c =
    let page = c.args.page.now in
    let used = c.args.used.now in
    let core = c.args.core.now in
    let y = core.top + c.args.k in
    let old = c.run_of-before.result.now in
    let fresh = c.run_of-after.result.now in
    let differs : ℕ → Bool = λ x. not (slice_index fresh x == slice_index old x) in
    let down : y < height page = omega (arith, c.requires.core.down, c.requires.row) in
    c.differences.ensures.count
    ∙ ap (count_below differs) c.run_of-after.ensures.len
    ∙ counted differs core.width
    ∙ sum_same (λ x. one_if (differs x)) (λ x. changes_at used c.args.c page (record { x = core.left + x; y = y })) core.width (λ x l.
    let inside : core.left + x < width page = omega (arith, c.requires.core.across, l) in
    let place : y * c.width.result + core.left + x ≡ y * width page + (core.left + x) = omega (arith, ap (λ (n : ℕ). y * n) c.width.ensures.value) in
    let is_new : slice_index fresh x ≡ kept page used c.args.c (record { x = core.left + x; y = y }) =
    c.run_of-after.ensures.each x l ∙ ap (slice_index c.args.tints.now) place ∙ ap (λ (ts : List ℕ). slice_index ts (y * width page + (core.left + x))) c.requires.tints ∙ kept_here page used c.args.c (core.left + x) y inside down in
    let is_old : slice_index old x ≡ tint page c.args.c (record { x = core.left + x; y = y }) = c.run_of-before.ensures.each x l ∙ c.tints_of_row.ensures.each (core.left + x) inside in
    ap one_if (ap (λ (n : ℕ). not (n == slice_index old x)) is_new ∙ ap (λ (n : ℕ). not (kept page used c.args.c (record { x = core.left + x; y = y }) == n)) is_old))
