-- The trapping parameters: their names in a job, and their ranges in ten-thousandths.
use Rattle.std.specs.Prelude.{ℕ, List, codes}
use Rattle.ps_tokens.specs.declared.parameters.Key.{Key}
use Rattle.ps_tokens.specs.declared.parameters.Key.TheVariants.{TrapWidth, BlackWidth}
use Rattle.ps_tokens.specs.declared.parameters.Key.TheVariants.{BlackColorLimit}
use Rattle.ps_tokens.specs.declared.parameters.Key.TheVariants.{BlackDensityLimit, StepLimit}
use Rattle.ps_tokens.specs.declared.parameters.Key.TheVariants.{SlidingTrapLimit, TrapColorScaling}
use Rattle.ps_tokens.specs.declared.parameters.Key.TheVariants.{Enabled, Trapping}
use Rattle.page_model.specs.Limits.{scale}

-- a parameter's name
abbrev pub name_of : Key → List ℕ
name_of TrapWidth = codes "TrapWidth"
name_of BlackWidth = codes "BlackWidth"
name_of BlackColorLimit = codes "BlackColorLimit"
name_of BlackDensityLimit = codes "BlackDensityLimit"
name_of StepLimit = codes "StepLimit"
name_of SlidingTrapLimit = codes "SlidingTrapLimit"
name_of TrapColorScaling = codes "TrapColorScaling"
name_of Enabled = codes "Enabled"
name_of Trapping = codes "Trapping"

-- the least number that a parameter may be; the two booleans have none
abbrev pub least_of : Key → ℕ
least_of TrapWidth = 1
least_of BlackWidth = 1
least_of BlackColorLimit = 0
least_of BlackDensityLimit = 10
least_of StepLimit = 0
least_of SlidingTrapLimit = 0
least_of TrapColorScaling = 0
least_of Enabled = 0
least_of Trapping = 0

-- the greatest number that a parameter may be
abbrev pub most_of : Key → ℕ
most_of TrapWidth = 1000000
most_of BlackWidth = 100000
most_of BlackColorLimit = scale
most_of BlackDensityLimit = 100000
most_of StepLimit = scale
most_of SlidingTrapLimit = scale
most_of TrapColorScaling = scale
most_of Enabled = 0
most_of Trapping = 0
