-- judge_share: judges some of the plates by so many workers.
use Rattle.std.proofs.lemmas.Grind.{common_steps}
use Rattle.std.proofs.Common.{arith, ◌∙◌}
use Rattle.plate_rows.proofs.ShareLemmas.{shares_of}
use Rattle.plate_rows.proofs.sharing.+shares.Goals as goal

pub judge_share-returns : goal.judge_share-returns
judge_share-returns g t c =
    let both = c.judge_beside-first in
    let trays = c.split_at_mut-trays in
    shares_of g.S.AsStr.text g.T.Tray.state c.split_at.result.0.now c.split_at.result.1.now both.new.headers both.new.headers_after trays.result.0.now both.new.trays trays.result.1.now both.new.trays_after both.result.0 both.result.1
    c.args.inputs.now c.args.trays.now c.share_of-count.result c.first_of.result c.split_at.ensures.by_index.0 trays.ensures.value c.split_at.ensures.front_len
    (both.auto.headers ∙ c.split_at_mut-headers.ensures.front_len) trays.ensures.front_len (both.auto.trays ∙ trays.ensures.front_len) c.first_of.ensures both.ensures.first both.ensures.second

pub judge_beside-returns-clause-first : goal.judge_beside-returns-clause-first
judge_beside-returns-clause-first c = grind (arith, common_steps)

pub fn::judge_beside::second+FnMut::call_mut-second-requires : goal.fn::judge_beside::second+FnMut::call_mut-second-requires
fn::judge_beside::second+FnMut::call_mut-second-requires c = grind (arith, common_steps)

pub judge_share-first_of-requires-clause-known : goal.judge_share-first_of-requires-clause-known
judge_share-first_of-requires-clause-known c = grind (arith, common_steps)

pub fn::judge_beside::first+FnMut::call_mut-first-requires : goal.fn::judge_beside::first+FnMut::call_mut-first-requires
fn::judge_beside::first+FnMut::call_mut-first-requires c = grind (arith, common_steps)

pub judge_beside-returns-clause-second : goal.judge_beside-returns-clause-second
judge_beside-returns-clause-second c = grind (arith, common_steps)

pub fn::judge_beside::first+FnOnce::call_once-first-requires : goal.fn::judge_beside::first+FnOnce::call_once-first-requires
fn::judge_beside::first+FnOnce::call_once-first-requires c = grind (arith, common_steps)

pub fn::judge_beside::second+FnOnce::call_once-second-requires : goal.fn::judge_beside::second+FnOnce::call_once-second-requires
fn::judge_beside::second+FnOnce::call_once-second-requires c = grind (arith, common_steps)

pub judge_beside-second-returns : goal.judge_beside-second-returns
judge_beside-second-returns c = grind (arith, common_steps)

pub judge_share-judge_beside-first-requires : goal.judge_share-judge_beside-first-requires
judge_share-judge_beside-first-requires c = grind (arith, common_steps)

pub judge_beside-join_mut-requires-after_bounds : goal.judge_beside-join_mut-requires-after_bounds
judge_beside-join_mut-requires-after_bounds c = grind (arith, common_steps)

pub judge_share-both_followed-trays : goal.judge_share-both_followed-trays
judge_share-both_followed-trays c = grind (arith, common_steps)

pub judge_share-first_of-requires-clause-few : goal.judge_share-first_of-requires-clause-few
judge_share-first_of-requires-clause-few c = grind (arith, common_steps)

pub judge_beside-first-returns : goal.judge_beside-first-returns
judge_beside-first-returns c = grind (arith, common_steps)

pub judge_share-slice_back_joined-headers : goal.judge_share-slice_back_joined-headers
judge_share-slice_back_joined-headers c = grind (arith, common_steps)

pub judge_share-slice_back_joined-trays : goal.judge_share-slice_back_joined-trays
judge_share-slice_back_joined-trays c = grind (arith, common_steps)

pub judge_beside-first-judge_share-requires : goal.judge_beside-first-judge_share-requires
judge_beside-first-judge_share-requires c = grind (arith, common_steps)

pub judge_beside-second-judge_share-requires : goal.judge_beside-second-judge_share-requires
judge_beside-second-judge_share-requires c = grind (arith, common_steps)
