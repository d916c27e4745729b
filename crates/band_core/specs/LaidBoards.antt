-- A board together with the layout that its cells stand by.
use Rattle.std.specs.Prelude.{ℕ, List}
use Rattle.band_core.specs.declared.state.State.{State}
use Rattle.band_core.specs.Boards.{Board, IsBoard}
use Rattle.band_core.specs.Layouts.{Layout, IsLayout}
use Rattle.band_core.specs.Shapes.{shape_of}

pub record LaidBoard : Type 0 where
  pub layout : Layout
  pub board : Board

pub record IsLaid (layout : Layout) (states : List State) (cells : List ℕ) : Type 0 where
  pub made : IsLayout layout
  pub whole : IsBoard (shape_of layout) (record { states = states; cells = cells })
