-- raise_black: where an ink is black in each zone, the level is that of its tint.
use Rattle.std.proofs.Common.{ℕ, ◌*◌, max, nat_le, slice_index, sym, ap, ◌∙◌, arith}
use Rattle.page_model.specs.Limits.{scale}
use Rattle.page_model.specs.Zones.{zone_of}
use Rattle.page_model.proofs.ZoneLemmas.{zone_of-is}
use Rattle.keepaway.proofs.LevelLemmas.{level_all}
use Rattle.keepaway.proofs.levels.raise_black.Goals as goal

pub returns-then-is_black_everywhere : goal.returns-then-is_black_everywhere
returns-then-is_black_everywhere c = λ x l.
    let page = c.args.page.now in
    let known = (zone_of-is page (record { x = x; y = c.args.y }) c.plates-valid.ensures.valid).known in
    c.raise_all.ensures x (omega (arith, l, c.tints_of_row.ensures.len))
    ∙ ap (max (slice_index c.args.levels.now x)) (level_all page c.args.limit c.args.c (record { x = x; y = c.args.y }) c.least_tint.result (slice_index c.tints_of_row.result.now x) (c.tints_of_row.ensures.each x l)
    (λ n. ap (λ (m : ℕ). nat_le (c.args.limit * m) (n * scale)) (sym c.maxval.ensures.value) ∙ c.least_tint.ensures n)
    (c.is_black_everywhere.ensures c.if-is_black_everywhere.true (zone_of page (record { x = x; y = c.args.y })) known))
