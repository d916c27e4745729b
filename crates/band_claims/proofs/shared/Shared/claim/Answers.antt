-- Shared::claim: claims a piece.
use Rattle.std.proofs.lemmas.Grind.{common_steps}
use Rattle.std.proofs.Common.{ap, ◌∙◌, sym, arith, ◌≡◌, ◌≢◌, ℕ, subst, Bool, true, false}
use Rattle.std.proofs.lemmas.Bool.{false≢true}
use Rattle.std.specs.Prelude.{IsTrue}
use Rattle.lists.specs.Words.{count_below}
use Rattle.page_model.specs.declared.bands.Bands.{Bands}
use Rattle.page_model.specs.Bands.{AreBands, pieces_of}
use Rattle.band_core.specs.Needs.{is_need}
use Rattle.band_claims.specs.declared.table_key.TableKey.{TableKey}
use Rattle.band_claims.proofs.Looking.{looks_more, knows_next, lost_exchange, won_by, all_known}
use Rattle.band_claims.proofs.shared.Shared.claim.Goals as goal

not_both : (b : Bool) → IsTrue b → b ≡ false → ⊥
not_both b t f = false≢true (sym f ∙ t)

-- what is told of one list of bands holds of the other
same_need : (one other : Bands) (i n k : ℕ) → one ≡ other → is_need one i n ≡ true → count_below (is_need one i) n ≡ k → (is_need other i n ≡ true) × (count_below (is_need other i) n ≡ k)
same_need one other i n k e need order = (subst (λ (b : Bands). is_need b i n ≡ true) e need, subst (λ (b : Bands). count_below (is_need b i) n ≡ k) e order)

same_count : (one other : Bands) (i n : ℕ) → one ≡ other → n ≡ count_below (is_need one i) (pieces_of one) → count_below (is_need other i) (pieces_of other) ≡ n
same_count one other i n e t = sym (subst (λ (b : Bands). n ≡ count_below (is_need b i) (pieces_of b)) e t)

pub loop-k-preserved : goal.loop-k-preserved
loop-k-preserved c =
    let d = c.is_done.ensures.answer in
    let w = c.loop-k.pass.view in
    let i : ℕ = c.need_at-need.result in
    let bands = c.args.self.now.table_key.layout.bands in
    let same : c.bands-bands.result.now ≡ bands = c.bands-bands.ensures.value ∙ (ap (λ z. z.layout.bands) c.self.invariant.same_table_key ∙ ap (λ z. z.table_key.layout.bands) c.self.view_is) in
    let two : d.0 ≡ 2 = d.2.0 c.if-not-is_done.false in
    let need = same_need c.bands-bands.result.now bands c.args.piece i c.loop-k.k same c.need_at-need.ensures.need c.need_at-need.ensures.order in record {
      pass = c.is_done.ensures.pass;
      looks = rw d.1 (looks_more c.args.pass.now.view w i d.0 c.loop-k.invariant.looks);
      known = rw d.1 (knows_next bands c.args.piece c.loop-k.k i d.0 w need.0 need.1 two c.loop-k.invariant.known);
    }

pub returns-clause-lost : goal.returns-clause-lost
returns-clause-lost c no_win =
    let d = c.take.ensures.answer in
    let ne : d.0 ≢ 0 = (λ e. not_both c.take.result (d.2.1 e) no_win) in
    rw d.1 (lost_exchange _ c.args.piece c.args.pass.now.view c.loop-k.pass.view d.0 c.loop-k.invariant.looks ne)

pub take-requires-clause-known : goal.take-requires-clause-known
take-requires-clause-known c =
    let bands = c.args.self.now.table_key.layout.bands in
    let same : c.bands-bands.result.now ≡ bands = c.bands-bands.ensures.value ∙ (ap (λ z. z.layout.bands) c.self.invariant.same_table_key ∙ ap (λ z. z.table_key.layout.bands) c.self.view_is) in
    let is : AreBands bands = subst (λ (z : TableKey). AreBands z.layout.bands) (ap (λ z. z.table_key) c.self.view_is) c.self.invariant.fit.made.bands in
    let all = same_count c.bands-bands.result.now bands c.args.piece c.need_count-count.result same c.need_count-count.ensures.value in
    all_known bands c.args.piece c.loop-k.k c.loop-k.pass.view is c.requires.piece (omega (arith, all, c.loop-k-test.false)) c.loop-k.invariant.known

pub returns-clause-won : goal.returns-clause-won
returns-clause-won c win =
    let bands = c.args.self.now.table_key.layout.bands in
    let same : c.bands-bands.result.now ≡ bands = c.bands-bands.ensures.value ∙ (ap (λ z. z.layout.bands) c.self.invariant.same_table_key ∙ ap (λ z. z.table_key.layout.bands) c.self.view_is) in
    let is : AreBands bands = subst (λ (z : TableKey). AreBands z.layout.bands) (ap (λ z. z.table_key) c.self.view_is) c.self.invariant.fit.made.bands in
    let all = same_count c.bands-bands.result.now bands c.args.piece c.need_count-count.result same c.need_count-count.ensures.value in
    let d = c.take.ensures.answer in
    rw d.1 (won_by bands c.args.piece c.args.pass.now.view c.loop-k.pass.view d.0 c.loop-k.invariant.looks (all_known bands c.args.piece c.loop-k.k c.loop-k.pass.view is c.requires.piece (omega (arith, all, c.loop-k-test.false)) c.loop-k.invariant.known) (d.2.0 win))

pub returns-then-not-is_done-clause-lost : goal.returns-then-not-is_done-clause-lost
returns-then-not-is_done-clause-lost c = grind (arith, common_steps)

pub loop-k-init : goal.loop-k-init
loop-k-init c = grind (arith, common_steps)
