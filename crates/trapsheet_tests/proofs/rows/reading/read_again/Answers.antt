-- read_again: reads the plates once more.
use Rattle.std.proofs.Common.{◌≡◌, ◌<◌, ◌-◌, ℕ, length, map, arith, subst}
use Rattle.page_model.specs.Planes.{plane_at}
use Rattle.pgm_plates.specs.Rows.{samples_of}
use Rattle.plate_rows.specs.Rereading.{IsReadTo}
use Rattle.plate_rows.specs.Trays.{open_at, tray_at}
use Rattle.trapsheet_tests.proofs.Twice.{begun_six, both_headers, both_names, more_read, none_read, six, still_begun}
use Rattle.trapsheet_tests.proofs.rows.reading.read_again.Goals as goal

pub read_next-requires-2-clause-read : goal.read_next-requires-2-clause-read
read_next-requires-2-clause-read g c k less =
    let state = g.T.Tray.state in
    let plates = c.begin_plates.new.plates in
    let old = c.args.planes.now in
    let new = c.read_next.new.planes in
    let a = map state c.args.trays.now in
    let b = map state c.begin_plates.new.trays in
    let d = map state c.read_next.new.trays in
    let two : k < 2 = omega arith in
    let begun = c.in_ok-begin_plates.ensures in
    let long : length (plane_at old k).tints ≡ 4 = c.requires.full k two in
    let here : length (plane_at c.keep_last_of_each.new.planes k).tints ≡ 4 = c.keep_last_of_each.ensures k two in
    let all : samples_of (open_at plates k).header ≡ 6 = begun_six both_names both_headers plates a b k two begun (six k two) in
    let some = six k two in
    let top = none_read both_names both_headers plates a b k (length (plane_at old k).tints - 0) two begun (omega (arith, long, some)) in
    let next = more_read plates (record { done = 0; kept = 0 }) old new b d k less top c.in_ok-read_next.ensures (length (plane_at c.keep_last_of_each.new.planes k).tints - 2) (omega (arith, long, here, all)) in
    subst (λ (n : ℕ). IsReadTo (open_at plates k) n (length (plane_at c.keep_last_of_each.new.planes k).tints - 2) (tray_at d k)) (omega (arith, long)) next

pub end_plates-requires-clause-begun : goal.end_plates-requires-clause-begun
end_plates-requires-clause-begun g c k less =
    let state = g.T.Tray.state in
    let plates = c.begin_plates.new.plates in
    let old = c.args.planes.now in
    let mid = c.keep_last_of_each.new.planes in
    let a = map state c.args.trays.now in
    let b = map state c.begin_plates.new.trays in
    let d = map state c.read_next.new.trays in
    let e = map state c.read_next-2.new.trays in
    let two : k < 2 = omega arith in
    let begun = c.in_ok-begin_plates.ensures in
    let long : length (plane_at old k).tints ≡ 4 = c.requires.full k two in
    let here : length (plane_at mid k).tints ≡ 4 = c.keep_last_of_each.ensures k two in
    let all : samples_of (open_at plates k).header ≡ 6 = begun_six both_names both_headers plates a b k two begun (six k two) in
    let some = six k two in
    let top = none_read both_names both_headers plates a b k (length (plane_at old k).tints - 0) two begun (omega (arith, long, some)) in
    let next = more_read plates (record { done = 0; kept = 0 }) old c.read_next.new.planes b d k less top c.in_ok-read_next.ensures (length (plane_at mid k).tints - 2) (omega (arith, long, here, all)) in
    let to : IsReadTo (open_at plates k) 4 (length (plane_at mid k).tints - 2) (tray_at d k) = subst (λ (n : ℕ). IsReadTo (open_at plates k) n (length (plane_at mid k).tints - 2) (tray_at d k)) (omega (arith, long)) next in
    still_begun plates (record { done = 4; kept = 2 }) mid c.read_next-2.new.planes d e k less to c.in_ok-read_next-2.ensures (omega (arith, here, all))
