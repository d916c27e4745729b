-- draw_page_row: the rows of the lists are those of the page.
use Rattle.std.proofs.Common.{◌≡◌, ◌+◌, ◌*◌, ℕ, List, slice_index, ap, ◌∙◌, arith, if◌then◌else◌}
use Rattle.page_model.specs.Page.{height, tint, width}
use Rattle.page_model.specs.Zones.{zone_of}
use Rattle.draw_back.specs.Fields.{Lists}
use Rattle.keepaway.specs.Keepaway.{is_black_ink}
use Rattle.keepaway.specs.Rows.{CoverLists}
use Rattle.keepaway.proofs.KeepLemmas.{row_kept}
use Rattle.keepaway.proofs.plate.draw_page_row.Goals as goal

pub returns : goal.returns
returns c =
    let page = c.args.page.now in
    let lists : Lists = c.new-field.result in
    let wide : lists.wide ≡ width page = ap (λ (l : Lists). l.wide) c.new-field.ensures ∙ c.width.ensures.value in
    let tall : lists.tall ≡ height page = ap (λ (l : Lists). l.tall) c.new-field.ensures ∙ c.height.ensures.value in
    let marks : lists.marks ≡ c.args.cover.now.marks = ap (λ (l : Lists). l.marks) c.new-field.ensures ∙ c.as_slice.ensures.value ∙ ap (λ (v : CoverLists). v.marks) c.cover.view_is in
    let tints : lists.tints ≡ c.tints_of-tints.result.now = ap (λ (l : Lists). l.tints) c.new-field.ensures in
    record {
      long = omega arith;
      each = λ x l. c.spare_blacks.ensures x l
          ∙ ap (λ (n : ℕ). if is_black_ink page (zone_of page (record { x = x; y = c.args.y })) c.args.c then n else slice_index c.draw_row.new.out x) (c.tints_of_row.ensures.each x l)
          ∙ ap (λ (n : ℕ). if is_black_ink page (zone_of page (record { x = x; y = c.args.y })) c.args.c then tint page c.args.c (record { x = x; y = c.args.y }) else n) (c.draw_row.ensures x (omega (arith, l, wide)))
          ∙ row_kept page c.args.rich.now c.args.c x c.args.y lists c.reach_of-reach.result.limit c.reach_of-reach.result.radius c.window_law.ensures c.reach_of-reach.result.beyond c.reach_of-reach.ensures wide tall
          (λ j k in_row on_page. ap (λ (m : List ℕ). slice_index m (k * lists.wide + j)) marks ∙ ap (λ (w : ℕ). slice_index c.args.cover.now.marks (k * w + j)) wide ∙ c.requires.cover.marks.each j k in_row on_page)
          (λ j k in_row on_page. ap (λ (m : List ℕ). slice_index m (k * lists.wide + j)) tints ∙ ap (λ (w : ℕ). slice_index c.tints_of-tints.result.now (k * w + j)) wide ∙ c.tints_of-tints.ensures.each j k)
          c.requires.drawn l c.requires.row;
    }
