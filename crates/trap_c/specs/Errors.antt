-- The status and the line of each error.
use Rattle.std.specs.Prelude.{ℕ, List, ◌++◌, codes, decimal}
use Rattle.common_errors.specs.Lines.{line}
use Rattle.common_errors.specs.CommonErrors.{line_of, status_of}
use Rattle.common_errors.specs.Statuses.{page_refused, usage}
use Rattle.trap_c.specs.declared.error.CallFault.{CallFault}
use Rattle.trap_c.specs.declared.error.CallFault.TheVariants.{Names, Sides, Step, Maxval, Samples}
use Rattle.trap_c.specs.declared.error.CallFault.TheVariants.{Handle, Place, Size}
use Rattle.trap_c.specs.declared.error.CallError.{CallError}
use Rattle.trap_c.specs.declared.error.CallError.TheVariants.{Call, Far, Page}

-- the status that a call ends with
abbrev pub status_of_error : CallError → ℕ
status_of_error (Call fault) = usage
status_of_error (Page common_error) = status_of common_error
status_of_error (Far zone) = page_refused

-- the line of a fault of the arguments
abbrev pub line_of_call : CallFault → List ℕ
line_of_call Names = line (codes "call: Names")
line_of_call Sides = line (codes "call: Sides")
line_of_call Step = line (codes "call: Step")
line_of_call Maxval = line (codes "call: Maxval")
line_of_call Samples = line (codes "call: Samples")
line_of_call Place = line (codes "call: Place")
line_of_call Size = line (codes "call: Size")
line_of_call Handle = line (codes "call: Handle")

-- the line of an error
abbrev pub line_of_error : CallError → List ℕ
line_of_error (Call fault) = line_of_call fault
line_of_error (Page common_error) = line_of common_error
line_of_error (Far zone) = line (codes "sheet: Far in zone " ++ decimal zone)
