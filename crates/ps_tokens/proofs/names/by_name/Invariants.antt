-- The loops of by_name: the names of keys, each with the last of its places.
use Rattle.std.proofs.Common.{◌≡◌, [], take, fold}
use Rattle.std.specs.Prelude.{map}
use Rattle.ps_tokens.specs.Dictionaries.{by_bytes, put_key}
use Rattle.ps_tokens.proofs.names.by_name.Given as goal

abbrev pub invariant-loop-key : goal.invariant-loop-key
invariant-loop-key l = map by_bytes l.named.entries ≡ fold (put_key l.objects) [] (take l.key-index l.keys)
