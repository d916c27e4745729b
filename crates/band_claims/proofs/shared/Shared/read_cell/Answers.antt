-- Shared::read_cell: the word of one cell of a piece that the pass saw done or published.
use Rattle.std.proofs.lemmas.Grind.{common_steps}
use Rattle.std.proofs.Common.{ap, ◌∙◌, sym, arith, ◌≡◌, ℕ, ◌+◌, Some}
use Rattle.page_model.specs.Bands.{pieces_of}
use Rattle.band_core.specs.TableShapes.{Has}
use Rattle.band_claims.specs.TableKeys.{shape_of}
use Rattle.band_claims.specs.Views.{Knows}
use Rattle.band_claims.proofs.Steps.{reads_word, small_word}
use Rattle.band_claims.proofs.shared.Shared.read_cell.Goals as goal

pub overflow_add-word : goal.overflow_add-word
overflow_add-word c =
    let key = c.self.inside.table.shared.key in
    let same_key = ap (λ z. z.table_key) c.self.view_is in
    let h : Has (shape_of key) c.requires.known.0 c.args.j = rw same_key c.requires.known.1 in
    omega (arith, (small_word key c.self.invariant.fit c.requires.known.0 c.args.j h).1, c.pieces.ensures.value, ap pieces_of c.bands.ensures.value, ap (λ z. pieces_of z.layout.bands) c.self.invariant.same_table_key)

pub load-requires : goal.load-requires
load-requires c =
    let key = c.self.inside.table.shared.key in
    let same_view = ap (λ z. z.view) c.pass.view_is in
    let same_key = ap (λ z. z.table_key) c.self.view_is in
    let p : ℕ = c.requires.known.0 in
    let h : Has (shape_of key) p c.args.j = rw same_key c.requires.known.1 in
    let knows : Knows c.pass.inside.seat.me.0 p = rw same_view c.requires.known.2 in
    let page : c.pass.inside.seat.me.0.table_key ≡ Some key = ap (λ z. z.table_key) same_view ∙ (c.requires.pass.page ∙ ap (λ z. Some z) (sym same_key)) in
    let word : c.pieces.result + c.args.j ≡ pieces_of key.layout.bands + c.args.j = omega (arith, c.pieces.ensures.value, ap pieces_of c.bands.ensures.value, ap (λ z. pieces_of z.layout.bands) c.self.invariant.same_table_key) in (
      ap (λ z. z.table) c.pass.view_is ∙ (c.requires.pass.table ∙ sym (ap (λ z. z.table) c.self.view_is)),
      omega (arith, word, (small_word key c.self.invariant.fit p c.args.j h).0, c.self.invariant.wide),
      reads_word key c.self.invariant.fit _ _ _ _ c.args.j p page word h knows,
    )

pub returns-clause-pass : goal.returns-clause-pass
returns-clause-pass c = grind (arith, common_steps)
