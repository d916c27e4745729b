-- keys: the places of the keys of the dictionary at a place, in order.
use Rattle.std.proofs.lemmas.Grind.{common_steps}
use Rattle.std.proofs.Common.{◌≡◌, ◌<◌, ◌-◌, ◌+◌, ◌++◌, ◌∷◌, [], length, false-eqb, sym, ap, ◌∙◌, append_assoc, arith, rules}
use Rattle.ps_tokens.specs.Dictionaries.{keys_from}
use Rattle.ps_tokens.proofs.Entries.{keys_from-entry, length-objects}
use Rattle.ps_tokens.proofs.dictionary.keys.Goals as goal

pub overflow_cast-end-in-entries : goal.overflow_cast-end-in-entries
overflow_cast-end-in-entries c =
    omega (arith, length-objects c.args.objects.now c.requires, c.entries.invariant.fits, false-eqb (length c.entries.rest.now) 0 c.entries-test.ensures)

pub entries-preserved : goal.entries-preserved
entries-preserved c =
    let end = c.args.dict + 1 + length c.within-rest.result.now in
    let rest = c.entries.rest.now in
    let suffix = c.after_entry-rest.result.now in
    let place = end - length rest in
    let some : 0 < length rest = omega (arith, false-eqb (length rest) 0 c.entries-test.ensures) in
    let pushed : c.push.new.self.items ≡ c.entries.keys.items ++ place ∷ [] = search (rules, c.in-Ok.ensures.items) in
    record {
      same =
          ap (λ ks. ks ++ keys_from (end - length suffix) 0 suffix) pushed
          ∙ append_assoc c.entries.keys.items (place ∷ []) (keys_from (end - length suffix) 0 suffix)
          ∙ ap (λ ks. c.entries.keys.items ++ ks) (sym (keys_from-entry end rest suffix some c.entries.invariant.left c.after_entry-rest.ensures.value))
          ∙ c.entries.invariant.same;
      left = omega (arith, c.after_entry-rest.ensures.less, c.entries.invariant.left);
      fits = λ more. c.entries.invariant.fits some;
    }

pub returns : goal.returns
returns c = grind (arith, common_steps)
