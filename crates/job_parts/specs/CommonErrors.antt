-- What a call that draws answers.
use Rattle.std.specs.Prelude.{◌≡◌, List, Some, Result, Ok, Err}
use Rattle.page_model.specs.declared.parts.Vertex.{Vertex}
use Rattle.ps_tokens.specs.declared.faults.FaultKind.{FaultKind}
use Rattle.job_parts.specs.declared.path.PathError.{PathError}
use Rattle.job_parts.specs.declared.path.PathError.TheVariants.{Fault, OutOfMemory}
use Rattle.job_parts.specs.declared.pen.Pen.{Pen}
use Rattle.job_parts.specs.Paths.{Drawing}

-- an error is the fault that is meant, or out of memory, and leaves all as it was
abbrev pub Refuses : {X : Type 0} → PathError → X → X → Result Drawing FaultKind → Type 0
Refuses (Fault kind) old new meant = (meant ≡ Err kind) × (new ≡ old)
Refuses OutOfMemory old new meant = new ≡ old

-- a call draws what is meant, or refuses
abbrev pub Draws : Result (Unit {0}) PathError → Drawing → Drawing → Result Drawing FaultKind
    → Type 0
Draws (Ok done) old new meant = meant ≡ Ok new
Draws (Err error) old new meant = Refuses error old new meant

-- a call adds the vertices that are meant and tells where the pen then is, or refuses
abbrev pub Extends : Result Pen PathError → List Vertex → List Vertex → Result Drawing FaultKind
    → Type 0
Extends (Ok pen) old new meant = meant ≡ Ok (record { vertices = new; pen = Some pen })
Extends (Err error) old new meant = Refuses error old new meant
