-- last_keys: the places of the last key of each name in the dictionary at a place, in ascending
-- byte order of the names.
use Rattle.std.proofs.Common.{◌≡◌, [], List, ℕ, subst, sym, ap, ◌∙◌, fold}
use Rattle.std.specs.Prelude.{map}
use Rattle.std.specs.BTreeMap.{values}
use Rattle.std.proofs.lemmas.Result.{IfOk-weaker}
use Rattle.ps_tokens.specs.Dictionaries.{Ascend, put_key, key_names, last_keys_of}
use Rattle.ps_tokens.proofs.Ascending.{ascend-last_keys}
use Rattle.ps_tokens.proofs.Naming.{places-by_bytes}
use Rattle.ps_tokens.proofs.names.last_keys.Goals as goal

pub returns : goal.returns
unfolding last_keys_of
returns c =
    let named = c.in_ok-named.named in
    let objects = c.args.objects.now in
    let same : values named ≡ last_keys_of objects c.args.dict =
    places-by_bytes named.entries
    ∙ ap (map (λ e. e.1))
    (c.in_ok-named.ensures
    ∙ ap (λ all. fold (put_key all) [] c.deref.result.now) c.as_slice-all.ensures
    ∙ ap (fold (put_key objects) []) (c.deref.ensures.value ∙ c.in_ok-keys.ensures)) in
    record {
      places = IfOk-weaker c.places_of.result (λ places. places.items ≡ values named) (λ places. places.items ≡ last_keys_of objects c.args.dict) (λ places e. e ∙ same) c.places_of.ensures;
      ascending =
          IfOk-weaker c.places_of.result (λ places. places.items ≡ values named) (λ places. Ascend (key_names objects places.items))
          (λ places e. subst (λ (keys : List ℕ). Ascend (key_names objects keys)) (sym (e ∙ same)) (ascend-last_keys objects c.args.dict)) c.places_of.ensures;
    }
