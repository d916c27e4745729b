-- add_plates: one more line.
use Rattle.std.proofs.Common.{◌≡◌, ◌++◌, append_assoc, List, ℕ, slice_index, sym, ap, ◌∙◌}
use Rattle.page_model.specs.declared.parts.Ink.{Ink}
use Rattle.page_model.specs.Page.{ink_at}
use Rattle.keep_pages.specs.KeptPages.{plate_line, plate_lines}
use Rattle.keep_pages.proofs.PageLemmas.{lines_next}
use Rattle.keep_pages.proofs.report.add_plates.Goals as goal

pub loop-c-preserved : goal.loop-c-preserved
loop-c-preserved c =
    let page = c.args.page.now in
    let used = c.args.used.now in
    let n = slice_index c.args.changed.now c.loop-c.c in
    let lines = plate_lines page used (slice_index c.args.changed.now) c.loop-c.c in
    let name : c.as_slice.result.now ≡ (ink_at page c.loop-c.c).name = c.as_slice.ensures ∙ ap (λ (i : Ink). i.name) c.ink.ensures.value in
    c.in_ok-add_plate.ensures
    ∙ ap (λ (t : List ℕ). t ++ plate_line used c.as_slice.result.now n) c.loop-c.invariant
    ∙ append_assoc c.args.text.now.items lines (plate_line used c.as_slice.result.now n)
    ∙ ap (λ (one : List ℕ). c.args.text.now.items ++ (lines ++ plate_line used one n)) name
    ∙ ap (λ (all : List ℕ). c.args.text.now.items ++ all) (sym (lines_next page used (slice_index c.args.changed.now) c.loop-c.c))
