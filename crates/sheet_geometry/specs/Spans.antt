-- A side of a sheet in spans: the samples of each window along the side, and those of its core. The
-- cores side by side are the side.
use Rattle.std.specs.Prelude.{◌≡◌, ℕ, ◌+◌, ◌-◌, ◌*◌, ◌%◌, ◌<◌, ◌≤◌, ◌^◌, max, if◌then◌else◌, List}
use Rattle.std.specs.Prelude.{[], ◌∷◌}
use Rattle.std.specs.Int.{div_ceil}
use Rattle.sheet_geometry.specs.declared.spans.Ruler.{Ruler}
use Rattle.sheet_geometry.specs.declared.spans.Span.{Span}

-- The sides and steps that are cut by. A window has room for its halo before the core and after it,
-- and for a whole step beside.
pub record IsRuler (ruler : Ruler) : Type 0 where
  pub some_side : 1 ≤ ruler.side
  pub few_samples : ruler.side < 2 ^ 30
  pub small_windows : ruler.most < 2 ^ 30
  pub some_step : 1 ≤ ruler.step
  pub workspace : 2 * max 1 ruler.halo + ruler.step ≤ ruler.most

-- a ruler by which windows that all have as many samples have room for a whole step
pub record IsEvenRuler (ruler : Ruler) : Type 0 where
  pub ruler_is : IsRuler ruler
  pub workspace_for_two : ruler.most < ruler.side
      → 2 * max 1 ruler.halo + 2 * ruler.step ≤ ruler.most + 1

-- the samples of a window where all have as many: the side without as many whole steps as it takes
abbrev pub even_wide : Ruler → ℕ
even_wide ruler = ruler.side - div_ceil (ruler.side - ruler.most) ruler.step * ruler.step

-- how many samples of the side lie before the window, counted from where steps are
abbrev pub offset : Ruler → Span → ℕ
offset ruler span = if ruler.from_end then ruler.side - (span.from + span.wide) else span.from

-- a window of the side, so wide, around a sample at which its core is to begin
pub record IsWindow (ruler : Ruler) (at first wide : ℕ) : Type 0 where
  pub begins : first ≤ at
  pub before : 0 < first → ruler.halo ≤ at - first
  pub inside : first + wide ≤ ruler.side
  pub small : wide ≤ ruler.most
  pub some : at < first + wide
  pub workspace : first + wide < ruler.side → at + max 1 ruler.halo < first + wide
  pub exact : (if ruler.from_end then ruler.side - (first + wide) else first) % ruler.step ≡ 0

-- A span whose core begins at a sample of the side. Where the side goes on after the window, the
-- window goes on after its core.
pub record IsSpan (ruler : Ruler) (at : ℕ) (span : Span) : Type 0 where
  pub begins : span.from + span.skip ≡ at
  pub some : 1 ≤ span.core
  pub core : span.skip + span.core ≤ span.wide
  pub inside : span.from + span.wide ≤ ruler.side
  pub small : span.wide ≤ ruler.most
  pub before : 0 < span.from → ruler.halo ≤ span.skip
  pub after : span.from + span.wide < ruler.side
      → span.skip + span.core + max 1 ruler.halo ≤ span.wide
  pub exact : offset ruler span % ruler.step ≡ 0

-- spans whose cores stand side by side, from a sample of the side up to another
abbrev pub AreSpans : Ruler → ℕ → List Span → ℕ → Type 0
AreSpans ruler at [] end = at ≡ end
AreSpans ruler at (span ∷ spans) end =
    IsSpan ruler at span × AreSpans ruler (at + span.core) spans end
