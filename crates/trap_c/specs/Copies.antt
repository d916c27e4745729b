-- Copies of the planes that lie in the samples, and what is known of their tints.
use Rattle.std.specs.Prelude.{◌≡◌, ℕ, List, IsTrue}
use Rattle.trap_c.specs.declared.layout.Layout.{Layout}
use Rattle.trap_c.specs.declared.planes.Copies.{Copies}
use Rattle.trap_c.specs.declared.source.Copied.{Copied}
use Rattle.trap_c.specs.Fit.{AreFit, ArePlanesFit}
use Rattle.trap_c.specs.Planes.{planes_in, tints_in}

-- The tints of plane c, which are in range where they are said to be.
pub record IsCopied (layout : Layout) (samples : List ℕ) (c : ℕ) (copied : Copied) : Type 0 where
  pub tints : copied.tints.items ≡ tints_in layout samples c
  pub fit : IsTrue copied.are_fit → AreFit layout.maxval (tints_in layout samples c)

-- `count` planes, which are in range where they are said to be.
pub record AreCopies (layout : Layout) (samples : List ℕ) (count : ℕ)
    (copies : Copies) : Type 0 where
  pub planes : copies.planes ≡ planes_in layout samples count
  pub fit : IsTrue copies.are_fit → ArePlanesFit copies.planes
