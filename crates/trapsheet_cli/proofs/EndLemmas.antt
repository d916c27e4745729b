-- A sheet that was put out.
use Rattle.std.proofs.Common.{◌≡◌, ℕ, List, Result, subst}
use Rattle.outside.specs.Rack.{RackState}
use Rattle.page_model.specs.declared.parts.PageParts.{PageParts}
use Rattle.page_model.specs.declared.parts.Plane.{Plane}
use Rattle.page_model.specs.Tints.{trapped_planes}
use Rattle.sheet_files.specs.declared.error.TrapsheetError.{TrapsheetError}
use Rattle.page_files.specs.Verdicts.{Targets}
use Rattle.trapsheet_cli.specs.Endings.{PutsOut}
use Rattle.sheet_files.specs.Reporting.{sheet_report}
use Rattle.sheet_files.specs.Racks.{WritesSheet}

puts_by : (target : Targets) (sheet : PageParts) (a b : List RackState) (result : Result (Unit {0}) TrapsheetError) → WritesSheet target (trapped_planes sheet) (sheet_report sheet) a b result → PutsOut target sheet a b result
puts_by target sheet a b result (WritesSheet.wrote is wrote keeps) = PutsOut.wrote is wrote keeps
puts_by target sheet a b result (WritesSheet.broke file is breaks keeps) = PutsOut.broke file is breaks keeps

-- the planes and the report of a trapped sheet were written
pub puts_out : (target : Targets) (sheet : PageParts) (planes : List Plane) (text : List ℕ) (a b : List RackState) (result : Result (Unit {0}) TrapsheetError) → planes ≡ trapped_planes sheet → text ≡ sheet_report sheet → WritesSheet target planes text a b result → PutsOut target sheet a b result
puts_out target sheet planes text a b result are is now =
    puts_by target sheet a b result (subst (λ (t : List ℕ). WritesSheet target (trapped_planes sheet) t a b result) is (subst (λ (ps : List Plane). WritesSheet target ps text a b result) are now))
