-- write_drawn_row: an ink that is black everywhere keeps its tints.
use Rattle.std.proofs.Common.{◌∙◌, arith}
use Rattle.page_model.specs.Zones.{zone_of}
use Rattle.page_model.proofs.ZoneLemmas.{zone_of-is}
use Rattle.keepaway.proofs.KeepLemmas.{kept_black}
use Rattle.keepaway.proofs.plate.write_drawn_row.Goals as goal

pub returns-then-is_black_everywhere : goal.returns-then-is_black_everywhere
returns-then-is_black_everywhere c =
    let page = c.args.page.now in
    record {
      long = omega arith;
      each = λ x l.
          let known = (zone_of-is page (record { x = x; y = c.args.y }) c.plates-valid.ensures.valid).known in
          c.copy_row.ensures x l ∙ kept_black page c.args.rich.now c.args.c (record { x = x; y = c.args.y })
          (c.is_black_everywhere.ensures c.if-is_black_everywhere.true (zone_of page (record { x = x; y = c.args.y })) known);
    }
