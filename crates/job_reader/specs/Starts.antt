-- What is in force before the first statement.
use Rattle.std.specs.Prelude.{true, []}
use Rattle.page_model.specs.Parameters.{usual_params}
use Rattle.job_parts.specs.Paths.{nothing_drawn}
use Rattle.job_reader.specs.declared.state.State.{State}

-- no zone and no path, no resolution and no details, and traps with the usual parameters
abbrev pub nothing_read : State
nothing_read =
    record {
      params = usual_params;
      limits = [];
      resolution = 0;
      trapping = true;
      details = [];
      path = nothing_drawn;
      zones = [];
      vertices = 0;
    }
