-- refuse_list: tells why nothing was written, and gives the status of it.
use Rattle.std.proofs.Common.{ℕ, List, refl, sym, subst}
use Rattle.common_errors.specs.Telling.{TellsText}
use Rattle.trappool_cli.specs.Endings.{Refuses, fault_line, fault_status}
use Rattle.trappool_cli.specs.declared.lines.TrappoolError.{TrappoolError}
use Rattle.trappool_cli.proofs.asking.refuse_list.Goals as goal

pub returns-in-BadLine : goal.returns-in-BadLine
returns-in-BadLine g c =
    let a = g.R.Rack.state c.args.rack.now in
    let b = g.R.Rack.state c.tell_line.new.rack in
    subst (λ (f : TrappoolError). Refuses (fault_line f) (fault_status f) a b 3) (sym c.in-BadLine.is)
    (record { files = c.tell_line.ensures.files; text = subst (λ (l : List ℕ). TellsText l a b) c.of_number.ensures.value c.tell_line.ensures.text; status_is = refl })

pub returns-in-NotRead : goal.returns-in-NotRead
returns-in-NotRead g c =
    let a = g.R.Rack.state c.args.rack.now in
    let b = g.R.Rack.state c.tell_line-in-NotRead.new.rack in
    subst (λ (f : TrappoolError). Refuses (fault_line f) (fault_status f) a b 5) (sym c.in-NotRead.is)
    (record { files = c.tell_line-in-NotRead.ensures.files; text = subst (λ (l : List ℕ). TellsText l a b) c.of_text.ensures.value c.tell_line-in-NotRead.ensures.text; status_is = refl })
