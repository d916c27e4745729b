-- The trapping parameters: of a job that sets none, and in which ranges they are.
use Rattle.std.specs.Prelude.{◌≤◌, true}
use Rattle.page_model.specs.declared.parts.TrapParams.{TrapParams}
use Rattle.page_model.specs.Limits.{least_ink_density, most_black_width, most_ink_density, scale}
use Rattle.page_model.specs.Limits.{most_trap_width, scale}

-- in ten-thousandths: traps of a quarter of a point, and the shares and densities of PLRM3's
-- section 6.3
abbrev pub usual_params : TrapParams
usual_params = record {
  trap_width = 2500;
  black_width = scale;
  black_color_limit = 9500;
  black_density_limit = 16000;
  step_limit = 2500;
  sliding_trap_limit = 7000;
  trap_color_scaling = scale;
  enabled = true;
}

-- the ranges of a zone's parameters, in ten-thousandths
pub record InRange (params : TrapParams) : Type 0 where
  pub some_width : 1 ≤ params.trap_width
  pub width : params.trap_width ≤ most_trap_width
  pub some_factor : 1 ≤ params.black_width
  pub factor : params.black_width ≤ most_black_width
  pub color : params.black_color_limit ≤ scale
  pub some_density : least_ink_density ≤ params.black_density_limit
  pub density : params.black_density_limit ≤ most_ink_density
  pub step : params.step_limit ≤ scale
  pub sliding : params.sliding_trap_limit ≤ scale
  pub scaling : params.trap_color_scaling ≤ scale
