-- read_number: the number that the word writes.
use Rattle.std.proofs.Common.{◌<◌, sym, arith, rules}
use Rattle.plain_words.proofs.NumberLemmas.{too_large}
use Rattle.plain_words.proofs.numbers.read_number.Goals as goal

pub returns-in-Err-clause-value : goal.returns-in-Err-clause-value
returns-in-Err-clause-value c =
    let fits : c.args.most < 4294967296 = omega arith in
    sym (too_large c.args.least c.args.most c.args.word.now fits (search rules) c.in-Err.ensures.value.0)
