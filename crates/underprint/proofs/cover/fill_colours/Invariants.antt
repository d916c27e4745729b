use Rattle.std.proofs.Common.{◌≡◌, length}
use Rattle.page_model.specs.Page.{width}
use Rattle.keepaway.specs.Rows.{HasRows}
use Rattle.underprint.specs.Lists.{colour_level}
use Rattle.underprint.proofs.cover.fill_colours.Given as goal

abbrev pub invariant-loop-y : goal.invariant-loop-y
invariant-loop-y l = record {
  rows : HasRows l.page (colour_level l.page l.whites) l.y l.levels;
  sums : length l.sums ≡ width l.page;
}
