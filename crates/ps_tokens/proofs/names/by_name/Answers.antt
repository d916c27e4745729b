-- by_name: the names of keys, each with the last of its places.
use Rattle.std.proofs.lemmas.Grind.{common_steps}
use Rattle.std.proofs.Common.{arith, [], get_or, take, fold, sym, ap, ◌∙◌}
use Rattle.std.specs.Prelude.{map}
use Rattle.std.specs.Ordering.{nat_cmp}
use Rattle.std.specs.BTreeMap.{insert_entry}
use Rattle.std.specs.Cmp.Lexicographic.{slice_cmp}
use Rattle.std.proofs.lemmas.List.Sums.{fold_more}
use Rattle.ps_tokens.specs.Dictionaries.{by_bytes, put_key}
use Rattle.ps_tokens.proofs.Naming.{by_bytes-insert}
use Rattle.ps_tokens.proofs.names.by_name.Goals as goal

pub loop-key-preserved : goal.loop-key-preserved
loop-key-preserved c =
    let keys = c.args.keys.now in
    let i = c.loop-key.key-index in
    ap (map by_bytes) c.in-Ok.ensures.entries
    ∙ by_bytes-insert c.loop-key.named.entries c.name_at.result (get_or keys i 0)
    ∙ ap (λ es. insert_entry (slice_cmp nat_cmp) es c.name_at.result.now (get_or keys i 0)) c.loop-key.invariant
    ∙ ap (λ n. insert_entry (slice_cmp nat_cmp) (fold (put_key c.args.objects.now) [] (take i keys)) n (get_or keys i 0)) c.name_at.ensures
    ∙ sym (fold_more (put_key c.args.objects.now) [] keys i 0 c.loop-key-test.true)

pub returns : goal.returns
returns c = grind (arith, common_steps)
