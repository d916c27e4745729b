-- works_of: what each plate is taken with.
use Rattle.std.proofs.Common.{◌∙◌, ◌∷◌, [], arith, ap, List, length, inl, inr, sym}
use Rattle.std.proofs.lemmas.Bool.{cases_eq, false≢true}
use Rattle.std.proofs.lemmas.List.{get_or_append_left, get_or_push, length-append}
use Rattle.std.proofs.lemmas.List.Elements.{All-append, All-cons}
use Rattle.std.proofs.lemmas.Grind.{common_steps}
use Rattle.trap_engine.specs.declared.plates.PlateWork.{PlateWork}
use Rattle.band_claims.specs.Seating.{Seats}
use Rattle.trap_engine.specs.Taking.{IsPlateWork}
use Rattle.trap_engine.proofs.workspace.works_of.Goals as goal

pub loop-preserved : goal.loop-preserved
loop-preserved c =
    let v = c.loop.invariant in let one = c.in_ok-work_of.field-0 in let e = c.in_ok-push.ensures in let works = c.loop.works in
    let made = c.in_ok-work_of.ensures in
    let work : IsPlateWork c.args.page.now c.loop.counter one = record {
      row = made.row;
      none = λ _. made.none;
      workspace = λ _. made.workspace;
      ended = λ t. absurd (false≢true (sym made.done ∙ t));
    } in
    record {
      end = v.end;
      pass = c.reader-reader.ensures.pass ∙ v.pass;
      count = omega (arith, ap (λ (ws : List PlateWork). length ws) e, length-append works (one ∷ []), v.count);
      works = λ j d l. rw e (elim (cases_eq j c.loop.counter) [
        | inl q ↦ (let here = get_or_push works one d j (v.count ∙ sym q) in rw here (rw q work))
        | inr ne ↦ (let here = get_or_append_left works (one ∷ []) d j (omega (arith, v.count, l, ne)) in rw here (v.works j d (omega (arith, l, ne))))
      ]);
      seats = rw e (All-append (λ (w : PlateWork). Seats c.args.shared.now w.reader) works (one ∷ []) v.seats (All-cons (λ (w : PlateWork). Seats c.args.shared.now w.reader) one [] (rw made.reader c.reader-reader.ensures.reader) (λ j d none. absurd (omega arith))));
    }

pub returns-clause-works : goal.returns-clause-works
returns-clause-works c = grind (arith, common_steps)

pub returns-clause-seats : goal.returns-clause-seats
returns-clause-seats c = grind (arith, common_steps)

pub loop-init : goal.loop-init
loop-init c = grind (arith, common_steps)
