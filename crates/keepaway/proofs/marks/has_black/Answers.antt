-- has_black: whether a row has a black pixel in some columns or beside them.
use Rattle.std.proofs.Common.{◌<◌, arith}
use Rattle.keepaway.proofs.marks.has_black.Goals as goal
use Rattle.keepaway.proofs.marks.has_black.Goals.{then-to-row, else-to-row}

pub returns : goal.returns
returns c = λ no j inside begun ended.
    let below : j < c.if-to-row.last = elim c.if-to-row.branch [ then-to-row w ↦ omega arith | else-to-row w ↦ omega arith ] in
    c.loop-j.invariant no j (omega arith) (omega arith)
