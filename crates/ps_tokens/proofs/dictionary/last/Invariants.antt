-- The loops of last: the place of the value of a key's last entry in the dictionary at a place, or
-- `None` exactly where there is no such entry.
use Rattle.std.proofs.Common.{◌≡◌, ◌-◌, ◌<◌, ◌≤◌, length}
use Rattle.ps_tokens.specs.Dictionaries.{keys_from, last_among, last_of}
use Rattle.ps_tokens.proofs.dictionary.last.Given as goal

-- what is found and the entries that are left give the last of all
abbrev pub invariant-entries : goal.invariant-entries
invariant-entries l = record {
  same : last_among l.all l.key l.found (keys_from (l.end - length l.rest) 0 l.rest) ≡ last_of l.objects l.dict l.key;
  left : length l.rest ≤ l.end;
  fits : 0 < length l.rest → l.end ≤ length l.all;
}

abbrev pub decreases-entries : goal.decreases-entries
decreases-entries l = length l.rest
