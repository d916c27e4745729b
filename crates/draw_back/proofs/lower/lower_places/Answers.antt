use Rattle.std.proofs.Common.{◌≡◌, ◌+◌, ◌-◌, ◌<◌, length, slice_index, arith}
use Rattle.draw_back.specs.Lowers.{IsOfPlace, places_of}
use Rattle.draw_back.proofs.LowerLemmas.{lowered_low, lowers_next, lowers_not, lowers_wider}
use Rattle.draw_back.proofs.DiskLemmas.{place_source, place_greatest}
use Rattle.draw_back.proofs.lower.lower_places.Goals as goal

pub loop-i-init : goal.loop-i-init
loop-i-init c = lowers_not c.args.best.now 0 c.saturating_sub-i.result (IsOfPlace c.args.tints.now c.args.marks.now c.args.window.from c.args.window.halo) (λ i v l m o. absurd (omega (arith, o.there, c.saturating_sub-i.ensures)))

pub loop-i-preserved : goal.loop-i-preserved
loop-i-preserved c =
    let i = c.loop-i.i in
    let tints = c.args.tints.now in
    let marks = c.args.marks.now in
    let from = c.args.window.from in
    let halo = c.args.window.halo in
    let j = from + i - halo in
    let t = slice_index c.loop-i.best i in
    let there : j + halo ≡ from + i = omega arith in
    let inside : j < length tints = omega arith in
    lowers_next c.args.best.now c.loop-i.best 0 i c.lowered.result (IsOfPlace tints marks from halo) (omega arith) (omega arith) c.loop-i.invariant
    (rw c.lowered.ensures (lowered_low t (slice_index tints j) (slice_index marks j)))
    (λ v o. rw c.lowered.ensures (place_source tints marks from halo i j v t there o))
    (λ b own all. rw c.lowered.ensures (place_greatest tints marks from halo i j t b there inside own all))

pub returns : goal.returns
returns c = lowers_wider c.args.best.now c.loop-i.best 0 c.loop-i.i (places_of c.args.window) (IsOfPlace c.args.tints.now c.args.marks.now c.args.window.from c.args.window.halo) (omega arith) (λ x v l m o. absurd (omega (arith, o.there, o.inside))) c.loop-i.invariant
