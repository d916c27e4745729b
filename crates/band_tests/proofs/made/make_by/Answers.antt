-- make_by: the page made by so many workers.
use Rattle.std.proofs.Common.{◌≡◌, sym, subst, refl, arith}
use Rattle.band_claims.specs.declared.table_key.TableKey.{TableKey}
use Rattle.band_claims.specs.declared.view.View.{View}
use Rattle.band_claims.specs.Shares.{IsWhole}
use Rattle.band_claims.specs.Views.{newcomer}
use Rattle.band_claims.proofs.ShareLemmas.{same_whole}
use Rattle.band_tests.proofs.made.make_by.Goals as goal

newcomer_whole : (key : TableKey) (v : View) → v ≡ newcomer key → IsWhole v.share
newcomer_whole key v e = subst (λ (z : View). IsWhole z.share) (sym e) (record { halvings = 0; cut = (omega arith, tt); all = refl })

pub finish_table-requires-clause-whole : goal.finish_table-requires-clause-whole
finish_table-requires-clause-whole g c =
    let whole = newcomer_whole c.in_ok-shared.shared.table_key c.in_ok-shared.pass.view c.in_ok-shared.ensures.new in
    same_whole c.in_ok-shared.pass.view.share c.work_many-pass.result.view.share c.work_many-pass.ensures.share whole
