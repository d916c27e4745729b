-- put_page: traps a page and writes its files, each under its name and the page's number.
use Rattle.std.proofs.Common.{Global, Result, length, map, string_bytes, ap, sym, ◌∙◌, subst}
use Rattle.band_claims.specs.Receipt.{Receipt}
use Rattle.page_output.specs.Output.{PutsOut}
use Rattle.traprun_cli.proofs.PutLemmas.{as_many_outputs, files_named, not_put, page_not_put, page_put}
use Rattle.traprun_cli.specs.Opened.{order_in}
use Rattle.traprun_cli.specs.Words.{targets_of}
use Rattle.traprun_cli.specs.Pages.{target_at}
use Rattle.common_errors.specs.declared.common.CommonError.{CommonError}
use Rattle.traprun_cli.proofs.page.put_page.Goals as goal

pub returns-in_default : goal.returns-in_default
returns-in_default g c = not_put (targets_of (order_in c.args.order.now)) c.args.number c.args.page.now (g.R.Rack.state c.args.rack.now) c.plates-valid.ensures.valid

pub put_out-requires-clause-count : goal.put_out-requires-clause-count
put_out-requires-clause-count g c κs lives =
    let many = as_many_outputs (string_bytes {Z = Global}) c.in-Ok-Ok.outputs.items c.args.order.now c.args.number c.in-Ok-Ok.ensures in
    c.requires.count ∙ sym many ∙ sym (ap (λ fs. length fs) c.as_slice.ensures.value)

pub returns-in-Ok : goal.returns-in-Ok
returns-in-Ok g c =
    let target = targets_of (order_in c.args.order.now) in
    let before = g.R.Rack.state c.args.rack.now in
    let after = g.R.Rack.state c.put_out.new.rack in
    let put = files_named target c.args.number c.args.order.now.band c.args.page.now before after c.put_out.result _ _ (ap (λ fs. map (string_bytes {Z = Global}) fs) c.as_slice.ensures.value ∙ c.in-Ok-Ok.ensures) (c.as_str.ensures.value ∙ c.in-Ok-Ok.ensures') c.put_out.ensures in
    page_put target c.args.number c.args.order.now.band c.args.page.now before after _ (subst (λ (r : Result Receipt CommonError). PutsOut c.args.order.now.band (target_at target c.args.number) c.args.page.now before after r) c.in-Ok.is put)

pub returns : goal.returns
returns g c =
    let target = targets_of (order_in c.args.order.now) in
    let before = g.R.Rack.state c.args.rack.now in
    let after = g.R.Rack.state c.put_out.new.rack in
    let put = files_named target c.args.number c.args.order.now.band c.args.page.now before after c.put_out.result _ _ (ap (λ fs. map (string_bytes {Z = Global}) fs) c.as_slice.ensures.value ∙ c.in-Ok-Ok.ensures) (c.as_str.ensures.value ∙ c.in-Ok-Ok.ensures') c.put_out.ensures in
    page_not_put target c.args.number c.args.order.now.band c.args.page.now before after c.in-Err.common_error c.error_at.result c.error_at.ensures (subst (λ (r : Result Receipt CommonError). PutsOut c.args.order.now.band (target_at target c.args.number) c.args.page.now before after r) c.in-Err.is put)
