-- parts_of: the page's rows in so many parts at most, one after the other and of as many rows; the
-- last has what is left.
use Rattle.std.specs.Prelude.{◌-◌, ℕ, min}
use Rattle.std.proofs.Common.{◌≡◌, ◌∙◌, ◌+◌, ◌/◌, ◌≤◌, ◌∷◌, ◌++◌, [], ap, arith, false, length, refl}
use Rattle.std.proofs.lemmas.Bool.{false≢true}
use Rattle.std.proofs.lemmas.List.Elements.{All-append, All-cons}
use Rattle.band_claims.specs.Seating.{Seats}
use Rattle.std.proofs.lemmas.Grind.{common_steps}
use Rattle.trap_engine.proofs.PartLemmas.{at_most, one_even, one_few, one_laid, one_of_size}
use Rattle.trap_engine.specs.Parts.{IsPart}
use Rattle.trap_engine.specs.declared.parts.Part.{Part}
use Rattle.trap_engine.proofs.parts.parts_of.Goals as goal

pub loop-first-preserved : goal.loop-first-preserved
loop-first-preserved c =
    let page = c.args.page.now in let v = c.loop-first.invariant in let parts = c.loop-first.parts in
    let one : Part = record { rows = record { first = c.loop-first.first; count = c.min-count.result }; reader = c.reader.result; tally = c.in_ok-tally_of.field-0; done = false } in
    let grown : c.push.new.list ≡ parts ++ one ∷ [] = c.in_ok-push.ensures in
    let size = c.height-height.result / c.args.most + 1 in
    let inside : c.loop-first.first + c.min-count.result ≤ c.height-height.result = omega (arith, c.min-count.ensures, c.loop-first-test.true) in
    let here : IsPart page one = record {
      inside = omega (arith, inside, v.tall);
      begun = λ _. c.in_ok-tally_of.ensures c.loop-first.first;
      ended = λ t. absurd (false≢true t);
    } in
    record {
      tall = v.tall;
      inside = inside;
      pass = c.reader.ensures.pass ∙ v.pass;
      laid = rw grown (one_laid page c.loop-first.first parts one refl here v.laid);
      seats = rw grown (All-append (λ (p : Part). Seats c.args.shared.now p.reader) parts (one ∷ []) v.seats (All-cons (λ (p : Part). Seats c.args.shared.now p.reader) one [] c.reader.ensures.reader (λ j d none. absurd (omega arith))));
      each = v.each;
      size = rw grown (one_of_size page size parts one (c.min-count.ensures ∙ ap (λ (n : ℕ). min (n - c.loop-first.first) size) v.tall) v.size);
      even = λ l. rw grown (one_even parts one size c.loop-first.first c.height-height.result c.min-count.result c.loop-first-test.true c.min-count.ensures (v.even c.loop-first-test.true) l);
      few = rw grown (one_few parts one size c.loop-first.first c.height-height.result c.loop-first-test.true (v.even c.loop-first-test.true));
    }

pub returns-clause-few : goal.returns-clause-few
returns-clause-few c = rw c.into_vec.ensures (at_most (length c.loop-first.parts) c.args.most (c.height-height.result / c.args.most + 1) c.height-height.result c.requires.some refl c.loop-first.invariant.few)

pub returns-clause-parts : goal.returns-clause-parts
returns-clause-parts c = grind (arith, common_steps)

pub returns-clause-size : goal.returns-clause-size
returns-clause-size c = grind (arith, common_steps)

pub returns-clause-seats : goal.returns-clause-seats
returns-clause-seats c = grind (arith, common_steps)

pub loop-first-init : goal.loop-first-init
loop-first-init c = grind (arith, common_steps)
