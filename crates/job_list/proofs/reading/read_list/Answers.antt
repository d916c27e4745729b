-- read_list: the jobs of a list.
use Rattle.std.proofs.lemmas.Grind.{common_steps}
use Rattle.std.proofs.Common.{◌≡◌, ◌∙◌, ◌-◌, List, length, Some, [], ◌∷◌, ◌++◌, ◌+◌, ap, sym, subst, arith, length-append}
use Rattle.job_list.specs.Apart.{NextLine, Stands, next_in}
use Rattle.job_list.specs.Lines.{LineParts}
use Rattle.job_list.proofs.Steps.{at_most, bad_line, next_stands}
use Rattle.job_list.proofs.reading.read_list.Goals as goal

pub returns-in-Ok-None : goal.returns-in-Ok-None
returns-in-Ok-None c =
    let left = c.loop-number.rest.now in
    let next : NextLine (length c.args.bytes.now - length left) c.loop-number.lines left (next_in c.in-Ok-None.field-0) = c.in-Ok-None.ensures in
    bad_line c.args.bytes.now c.loop-number.lines left c.loop-number.number c.loop-number.invariant.stands c.loop-number.invariant.count c.if-is_end.ensures
    (rw c.in-Ok-None.field-0-is at next)

pub loop-number-preserved : goal.loop-number-preserved
loop-number-preserved c =
    let left = c.loop-number.rest.now in
    let next : NextLine (length c.args.bytes.now - length left) c.loop-number.lines left (next_in c.in-Ok-Some.field-0) = c.in-Ok-Some.ensures in
    let found : NextLine (length c.args.bytes.now - length left) c.loop-number.lines left (Some (c.in-Ok-Some.line, c.in-Ok-Some.suffix.now)) = rw c.in-Ok-Some.field-0-is at next in
    let pushed : c.push.new.self ≡ c.loop-number.lines ++ c.in-Ok-Some.line ∷ [] = c.in-Ok.ensures.pushed in
    let count : length c.push.new.self ≡ length c.loop-number.lines + 1 = ap length pushed ∙ length-append c.loop-number.lines (c.in-Ok-Some.line ∷ []) in
    record {
      stands = subst (λ (l : List LineParts). Stands c.args.bytes.now l c.in-Ok-Some.suffix.now) (sym pushed) (next_stands c.args.bytes.now c.loop-number.lines left c.in-Ok-Some.line c.in-Ok-Some.suffix.now c.loop-number.invariant.stands found);
      count = omega arith;
    }

pub unreachable-requires : goal.unreachable-requires
unreachable-requires c =
    let most = at_most c.args.bytes.now c.loop-number.lines c.loop-number.rest.now c.loop-number.invariant.stands in
    let count = c.loop-number.invariant.count in
    omega arith

pub next_line-requires : goal.next_line-requires
next_line-requires c = grind (arith, common_steps)

pub overflow_sub-bytes : goal.overflow_sub-bytes
overflow_sub-bytes c = grind (arith, common_steps)
