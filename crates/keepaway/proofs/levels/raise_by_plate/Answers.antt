-- raise_by_plate: an ink that is black nowhere raises no level.
use Rattle.std.proofs.Common.{◌≡◌, ℕ, Bool, false, max, slice_index, arith, if◌then◌else◌}
use Rattle.page_model.specs.Page.{maxval, tint}
use Rattle.page_model.specs.Zones.{zone_of}
use Rattle.page_model.proofs.ZoneLemmas.{zone_of-is}
use Rattle.keepaway.specs.Keepaway.{is_black_ink, tint_level}
use Rattle.keepaway.proofs.levels.raise_by_plate.Goals as goal

same_max : (black : Bool) (level a : ℕ) → black ≡ false → a ≡ max a (if black then level else 0)
same_max black level a e = rw e (omega arith)

pub returns-else-is_black_somewhere : goal.returns-else-is_black_somewhere
returns-else-is_black_somewhere c = λ x l.
    let page = c.args.page.now in
    let known = (zone_of-is page (record { x = x; y = c.args.y }) c.plates-valid.ensures.valid).known in
    same_max (is_black_ink page (zone_of page (record { x = x; y = c.args.y })) c.args.c) (tint_level c.args.limit (maxval page) (tint page c.args.c (record { x = x; y = c.args.y }))) (slice_index c.args.levels.now x)
    (c.is_black_somewhere.ensures c.if-is_black_somewhere.false (zone_of page (record { x = x; y = c.args.y })) known)
