-- Planes with the tints of runs put on.
use Rattle.std.specs.Prelude.{ℕ, ◌/◌, ◌%◌, List, length, slice_index, find, Option, Some, None}
use Rattle.page_model.specs.declared.parts.Plane.{Plane}
use Rattle.page_model.specs.Planes.{plane_at}
use Rattle.lists.specs.Words.{list_below}
use Rattle.trap_set.specs.Runs.{Run, covers}

-- the first run that covers the sample
abbrev pub covering : List Run → ℕ → ℕ → Option Run
covering runs x y = find (λ (run : Run). covers run x y) runs

-- plate c's tint of the run, where there is one, else the tint that was
abbrev pub tint_by : Option Run → ℕ → ℕ → ℕ
tint_by None c tint = tint
tint_by (Some run) c tint = slice_index run.tints c

-- a plane with the runs' tints for plate c on the samples that they cover, and its own elsewhere
abbrev pub applied_plane : List Run → ℕ → Plane → Plane
applied_plane runs c plane = record plane {
  tints = list_below (λ k. tint_by (covering runs (k % plane.width) (k / plane.width)) c
      (slice_index plane.tints k)) (length plane.tints);
}

-- all planes with the runs applied
abbrev pub applied : List Run → List Plane → List Plane
applied runs planes = list_below (λ c. applied_plane runs c (plane_at planes c)) (length planes)
