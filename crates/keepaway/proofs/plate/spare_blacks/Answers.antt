-- spare_blacks: an ink that is black nowhere stays drawn back.
use Rattle.std.proofs.Common.{◌≡◌, ℕ, Bool, false, slice_index, refl, if◌then◌else◌}
use Rattle.page_model.specs.Zones.{zone_of}
use Rattle.page_model.proofs.ZoneLemmas.{zone_of-is}
use Rattle.keepaway.specs.Keepaway.{is_black_ink}
use Rattle.keepaway.proofs.plate.spare_blacks.Goals as goal

stays : (black : Bool) (old new : ℕ) → black ≡ false → new ≡ (if black then old else new)
stays black old new e = rw e refl

pub returns-else-is_black_somewhere : goal.returns-else-is_black_somewhere
returns-else-is_black_somewhere c = λ x l.
    let page = c.args.page.now in
    let zone = zone_of page (record { x = x; y = c.args.y }) in
    let known = (zone_of-is page (record { x = x; y = c.args.y }) c.plates-valid.ensures.valid).known in
    stays (is_black_ink page zone c.args.c) (slice_index c.args.tints.now x) (slice_index c.args.out.now x)
    (c.is_black_somewhere.ensures c.if-is_black_somewhere.false zone known)
