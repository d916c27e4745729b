-- walk: one walk over the pieces in order.
use Rattle.std.proofs.lemmas.Grind.{common_steps}
use Rattle.std.proofs.Common.{ℕ, sym, ◌∙◌, arith, inl, inr, subst}
use Rattle.std.proofs.lemmas.Bool.{cases_eq, false≢true}
use Rattle.page_model.specs.Bands.{pieces_of}
use Rattle.band_claims.specs.Accounts.{IsAccounted}
use Rattle.band_claims.proofs.Pigeons.{few_published}
use Rattle.band_claims.proofs.Accounting.{accounted_on, accounted_here, still, still_idle, publishes_made, recalls_more, longer_made}
use Rattle.band_claims.proofs.walks.walk.Goals.{then-visit, else-visit}
use Rattle.band_claims.proofs.walks.walk.Goals as goal

pub loop-piece-preserved : goal.loop-piece-preserved
loop-piece-preserved g c =
    let i = c.loop-piece.invariant in
    let n : ℕ = pieces_of c.args.shared.now.table_key.layout.bands in
    let u = c.args.pass.now.view in
    let v = c.loop-piece.pass.view in
    let x = c.visit.new.pass.view in
    let bands = c.args.shared.now.table_key.layout.bands in elim c.if-visit.branch [
      | then-visit w ↦ (let t = c.visit.ensures.made w.if-visit.true in record {
        maker = c.visit.ensures.maker;
        workspace = c.visit.ensures.workspace ∙ i.workspace;
        pass = c.visit.ensures.pass;
        idle = t.idle;
        published = publishes_made c.loop-piece.piece u v x i.published t;
        reported = recalls_more u v x i.reported t.reported;
        share = t.share ∙ i.share;
        few = λ _. few_published n x (c.visit.ensures.fair w.if-visit.true);
        more = λ _. longer_made c.loop-piece.piece u v x i.published t;
        accounted = λ f. absurd (false≢true (sym f ∙ w.won-is));
      })
      | else-visit w ↦ (let t = c.visit.ensures.lost w.if-visit.false in let same = still bands c.loop-piece.piece v x t in record {
        maker = c.visit.ensures.maker;
        workspace = c.visit.ensures.workspace ∙ i.workspace;
        pass = c.visit.ensures.pass;
        idle = still_idle bands c.loop-piece.piece v x t i.idle;
        published = (i.published.0, same ∙ i.published.1);
        reported = recalls_more u v x i.reported t.looks.more_reported;
        share = t.looks.same_share ∙ i.share;
        few = λ h. rw same (i.few (sym w.won-is ∙ h));
        more = λ h. rw same (i.more (sym w.won-is ∙ h));
        accounted = λ f j m. elim (cases_eq j c.loop-piece.piece) [
          | inl e ↦ subst (IsAccounted bands x) (sym e) (accounted_here bands c.loop-piece.piece v x t)
          | inr ne ↦ accounted_on bands c.loop-piece.piece v x t j (i.accounted (sym w.won-is ∙ f) j (omega (arith, m, ne)))
        ];
      })
    ]

pub returns-clause-accounted : goal.returns-clause-accounted
returns-clause-accounted g c = grind (arith, common_steps)

pub loop-piece-init : goal.loop-piece-init
loop-piece-init g c = grind (arith, common_steps)

pub returns-clause-more : goal.returns-clause-more
returns-clause-more g c = grind (arith, common_steps)

pub returns-clause-few : goal.returns-clause-few
returns-clause-few g c = grind (arith, common_steps)
