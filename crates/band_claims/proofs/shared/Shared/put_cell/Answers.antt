-- Shared::put_cell: fills the next cell of the held piece with its defined value.
use Rattle.std.proofs.lemmas.Grind.{common_steps}
use Rattle.std.proofs.Common.{ap, ◌∙◌, sym, arith, ◌<◌, ◌≡◌, ℕ, ◌+◌, Some}
use Rattle.band_claims.specs.TableKeys.{shape_of, cell}
use Rattle.band_claims.proofs.Carrying.{carried}
use Rattle.band_core.specs.TableShapes.{Has}
use Rattle.band_claims.proofs.Steps.{puts, small_word, fit_shape}
use Rattle.band_claims.proofs.shared.Shared.put_cell.Goals as goal

pub store-requires : goal.store-requires
store-requires c =
    let key = c.self.inside.table.shared.key in
    let k = shape_of key in
    let v = c.pass.inside.seat.me.0 in
    let h = c.requires.next in
    let p : ℕ = h.0 in
    let same_view = ap (λ z. z.view) c.pass.view_is in
    let same_key = ap (λ z. z.table_key) c.self.view_is in
    let stored : v.stored ≡ Some p = ap (λ z. z.stored) same_view ∙ h.1 in
    let page : v.table_key ≡ Some key = ap (λ z. z.table_key) same_view ∙ (c.requires.pass.page ∙ ap (λ z. Some z) (sym same_key)) in
    let workspace : v.filled < k.size p = rw (same_view, same_key) h.2 in
    let value : c.args.value ≡ cell key (k.start p + v.filled) = rw (same_view, same_key) h.3 in
    let t = carried key v p c.pass.inside.piece c.pass.inside.next stored page c.pass.invariant.1 in
    let fit = fit_shape key c.self.invariant.fit in (
      ap (λ z. z.table) c.pass.view_is ∙ (c.requires.pass.table ∙ sym (ap (λ z. z.table) c.self.view_is)),
      omega (arith, t.word, fit.inside p t.in_range, workspace, c.self.invariant.wide),
      rw t.word (puts key c.self.invariant.fit c.self.inside.table.shared.table_id.slots c.pass.inside.seat.id c.pass.inside.seat.me p c.args.value stored workspace value),
    )

pub overflow_add-pass : goal.overflow_add-pass
overflow_add-pass c =
    let key = c.self.inside.table.shared.key in
    let k = shape_of key in
    let v = c.pass.inside.seat.me.0 in
    let h = c.requires.next in
    let p : ℕ = h.0 in
    let same_view = ap (λ z. z.view) c.pass.view_is in
    let same_key = ap (λ z. z.table_key) c.self.view_is in
    let stored : v.stored ≡ Some p = ap (λ z. z.stored) same_view ∙ h.1 in
    let page : v.table_key ≡ Some key = ap (λ z. z.table_key) same_view ∙ (c.requires.pass.page ∙ ap (λ z. Some z) (sym same_key)) in
    let workspace : v.filled < k.size p = rw (same_view, same_key) h.2 in
    let t = carried key v p c.pass.inside.piece c.pass.inside.next stored page c.pass.invariant.1 in
    let here : Has k p (k.start p + v.filled) = record { piece = t.in_range; from = omega arith; below = omega (arith, workspace) } in
    omega (arith, t.word, (small_word key c.self.invariant.fit p (k.start p + v.filled) here).1)

pub returns-clause-put : goal.returns-clause-put
returns-clause-put c = grind (arith, common_steps)
