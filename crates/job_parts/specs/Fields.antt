-- The trapping parameters by their keys: each key's field of a page's parameters, once.
use Rattle.std.specs.Prelude.{ℕ, Bool, true, false, List, [], ◌∷◌}
use Rattle.ps_tokens.specs.declared.parameters.Key.{Key}
use Rattle.ps_tokens.specs.declared.parameters.Key.TheVariants.{TrapWidth, BlackWidth}
use Rattle.ps_tokens.specs.declared.parameters.Key.TheVariants.{BlackColorLimit}
use Rattle.ps_tokens.specs.declared.parameters.Key.TheVariants.{BlackDensityLimit, StepLimit}
use Rattle.ps_tokens.specs.declared.parameters.Key.TheVariants.{SlidingTrapLimit, TrapColorScaling}
use Rattle.ps_tokens.specs.declared.parameters.Key.TheVariants.{Enabled, Trapping}
use Rattle.page_model.specs.declared.parts.TrapParams.{TrapParams}

-- the parameters that are numbers; Enabled stands beside them
abbrev pub number_keys : List Key
number_keys =
    TrapWidth ∷ BlackWidth ∷ BlackColorLimit ∷ BlackDensityLimit ∷ StepLimit ∷ SlidingTrapLimit
    ∷ TrapColorScaling ∷ []

-- what a parameter is, in ten-thousandths; the two booleans are no numbers
abbrev pub number_at : Key → TrapParams → ℕ
number_at TrapWidth params = params.trap_width
number_at BlackWidth params = params.black_width
number_at BlackColorLimit params = params.black_color_limit
number_at BlackDensityLimit params = params.black_density_limit
number_at StepLimit params = params.step_limit
number_at SlidingTrapLimit params = params.sliding_trap_limit
number_at TrapColorScaling params = params.trap_color_scaling
number_at Enabled params = 0
number_at Trapping params = 0

-- the parameters with these numbers, enabled or not
abbrev pub params_by : (Key → ℕ) → Bool → TrapParams
params_by number enabled = record {
  trap_width = number TrapWidth;
  black_width = number BlackWidth;
  black_color_limit = number BlackColorLimit;
  black_density_limit = number BlackDensityLimit;
  step_limit = number StepLimit;
  sliding_trap_limit = number SlidingTrapLimit;
  trap_color_scaling = number TrapColorScaling;
  enabled = enabled;
}

-- whether a parameter is a number
abbrev pub is_number : Key → Bool
is_number TrapWidth = true
is_number BlackWidth = true
is_number BlackColorLimit = true
is_number BlackDensityLimit = true
is_number StepLimit = true
is_number SlidingTrapLimit = true
is_number TrapColorScaling = true
is_number Enabled = false
is_number Trapping = false
