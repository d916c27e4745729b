-- The loops of keys: the places of the keys of the dictionary at a place, in order.
use Rattle.std.proofs.Common.{◌≡◌, ◌-◌, ◌<◌, ◌≤◌, ◌++◌, length}
use Rattle.ps_tokens.specs.Dictionaries.{keys_from, keys_of}
use Rattle.ps_tokens.proofs.dictionary.keys.Given as goal

-- the keys so far and those of the entries that are left are all
abbrev pub invariant-entries : goal.invariant-entries
invariant-entries l = record {
  same : l.keys.items ++ keys_from (l.end - length l.rest) 0 l.rest ≡ keys_of l.objects l.dict;
  left : length l.rest ≤ l.end;
  fits : 0 < length l.rest → l.end ≤ length l.objects;
}

abbrev pub decreases-entries : goal.decreases-entries
decreases-entries l = length l.rest
