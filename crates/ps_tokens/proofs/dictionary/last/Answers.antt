-- last: the place of the value of a key's last entry in the dictionary at a place, or `None`
-- exactly where there is no such entry.
use Rattle.std.proofs.Common.{◌≡◌, ◌<◌, ◌-◌, ◌+◌, length, Some, cond, false-eqb, sym, ap, ◌∙◌, arith, rules}
use Rattle.std.specs.Prelude.{slice_get}
use Rattle.ps_tokens.specs.Dictionaries.{keys_from, last_among, names}
use Rattle.ps_tokens.proofs.Entries.{keys_from-entry, length-objects}
use Rattle.ps_tokens.proofs.dictionary.last.Goals as goal
use Rattle.ps_tokens.proofs.dictionary.last.Goals.{then-names, else-names}

pub overflow_cast-found : goal.overflow_cast-found
overflow_cast-found c =
    omega (arith, length-objects c.args.objects.now c.requires, ap length c.as_slice-all.ensures, c.entries.invariant.fits, false-eqb (length c.entries.rest.now) 0 c.entries-test.ensures)

pub overflow_add-found : goal.overflow_add-found
overflow_add-found c =
    omega (arith, length-objects c.args.objects.now c.requires, ap length c.as_slice-all.ensures, c.entries.invariant.fits, false-eqb (length c.entries.rest.now) 0 c.entries-test.ensures)

pub entries-preserved : goal.entries-preserved
entries-preserved c =
    let all = c.as_slice-all.result.now in
    let name = c.args.key.now in
    let end = c.args.dict + 1 + length c.within-rest.result.now in
    let rest = c.entries.rest.now in
    let suffix = c.after_entry-rest.result.now in
    let place = end - length rest in
    let some : 0 < length rest = omega (arith, false-eqb (length rest) 0 c.entries-test.ensures) in
    let found : c.if-names.found ≡ cond (names name (slice_get all place)) (Some (place + 1)) c.entries.found =
    elim c.if-names.branch [ then-names w ↦ search rules | else-names w ↦ search rules ] in
    record {
      same =
          ap (λ o. last_among all name o (keys_from (end - length suffix) 0 suffix)) found
          ∙ ap (last_among all name c.entries.found) (sym (keys_from-entry end rest suffix some c.entries.invariant.left c.after_entry-rest.ensures.value))
          ∙ c.entries.invariant.same;
      left = omega (arith, c.after_entry-rest.ensures.less, c.entries.invariant.left);
      fits = λ more. c.entries.invariant.fits some;
    }
