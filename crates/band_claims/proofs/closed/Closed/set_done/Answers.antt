-- Closed::set_done: makes a piece done that was not, and adds it to the list of the pieces that
-- were made alone, which ascends.
use Rattle.std.proofs.Common.{set, ◌≡◌, ◌≢◌, ℕ, ◌+◌, ◌==◌, ◌<◌, slice_index, sym, ap, ◌∙◌, arith}
use Rattle.page_model.specs.Bands.{pieces_of}
use Rattle.band_claims.specs.Views.{one_if, times}
use Rattle.band_claims.proofs.Marks.{marked_set, marked-ascends}
use Rattle.band_claims.proofs.closed.Closed.set_done.Goals as goal

pub returns-clause-alone : goal.returns-clause-alone
returns-clause-alone c i =
    let p : ℕ = c.args.piece in
    let marks = c.self.inside.marks.items in
    let h = c.self.invariant.1 in
    let within : p < pieces_of c.self.inside.table_key.layout.bands = rw (ap (λ z. z.table_key) c.self.view_is) c.requires.piece in
    let unmarked : slice_index marks p ≢ 1 = (λ e. c.requires.not_done (ap (λ z. slice_index z.words p) (sym c.self.view_is) ∙ h.marked_done p e)) in
    let t = marked_set marks 0 p i (omega (arith, within, h.marks_wide)) unmarked in
    omega (arith, t, ap (λ z. times i z.alone) c.self.view_is, ap (λ (k : ℕ). one_if (i == k)) (let e : 0 + p ≡ p = omega arith in e))

pub returns-clause-order : goal.returns-clause-order
returns-clause-order c = marked-ascends (set c.self.inside.marks.items c.args.piece 1) 0
