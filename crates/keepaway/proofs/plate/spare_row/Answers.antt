-- spare_row: one more column is put back, or not.
use Rattle.std.proofs.Common.{◌≡◌, ℕ, Bool, slice_index, ap, ◌∙◌, arith, if◌then◌else◌}
use Rattle.page_model.specs.Zones.{zone_of}
use Rattle.keepaway.specs.Keepaway.{is_black_ink}
use Rattle.keepaway.proofs.RowLemmas.{entry_next, entry_later}
use Rattle.keepaway.proofs.plate.spare_row.Goals as goal

pub loop-x-preserved : goal.loop-x-preserved
loop-x-preserved c =
    let x = c.loop-x.x in
    let black : ℕ → Bool = λ i. is_black_ink c.args.page.now (zone_of c.args.page.now (record { x = i; y = c.args.y })) c.args.c in
    let value : ℕ → ℕ = λ i. (if black i then slice_index c.args.tints.now i else slice_index c.args.out.now i) in
    let zone : c.from.result ≡ zone_of c.args.page.now (record { x = x; y = c.args.y }) = c.from.ensures ∙ c.requires.zones.each x (omega arith) in
    let is : c.one_of.result ≡ value x = c.one_of.ensures
    ∙ ap (λ (b : Bool). if b then slice_index c.args.tints.now x else slice_index c.loop-x.out x) (c.is_black_ink-black.ensures ∙ ap (λ (z : ℕ). is_black_ink c.args.page.now z c.args.c) zone)
    ∙ ap (λ (n : ℕ). if black x then slice_index c.args.tints.now x else n) (c.loop-x.invariant.later x (omega arith)) in
    record {
      done = entry_next c.args.out.now c.loop-x.out value x c.one_of.result (omega arith) is c.loop-x.invariant.done;
      later = entry_later c.args.out.now c.loop-x.out x c.one_of.result c.loop-x.invariant.later;
    }
