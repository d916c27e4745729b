-- What a call asks for, as its contract sees it.
use Rattle.std.specs.Prelude.{ℕ, List}
use Rattle.trap_c.specs.declared.layout.Layout.{Layout}
use Rattle.trap_c.specs.declared.request.Request.{Request}

-- the job's bytes, the bytes of the names, and how the planes lie in the samples
pub record Asked : Type 0 where
  pub job : List ℕ
  pub names : List ℕ
  pub layout : Layout

-- what the arguments of an export ask for
abbrev pub asked_by : List ℕ → List ℕ → ℕ → ℕ → ℕ → ℕ → Asked
asked_by job names width height step maxval = record {
  job = job;
  names = names;
  layout = record { width = width; height = height; step = step; maxval = maxval };
}

-- the same, where they are held together
abbrev pub asked : Request → Asked
asked request = record {
  job = request.job.now;
  names = request.names.now;
  layout = request.layout;
}
