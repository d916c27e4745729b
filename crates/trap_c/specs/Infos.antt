-- The figures of a job.
use Rattle.std.specs.Prelude.{◌≡◌, ℕ, ◌*◌, ◌<◌, ◌≤◌, false, true, length}
use Rattle.job_reader.specs.declared.job.Job.{Job}
use Rattle.trap_c.specs.declared.info.Info.{Info}
use Rattle.trap_c.specs.Places.{is_exact, job_halo, job_reach}

-- the bytes of C's struct
abbrev pub info_size : ℕ
info_size = 32

-- The step of a window's corner. Where the job has paths, each multiple of it is a place that `suits`
-- takes, and no smaller step is; elsewhere all places are.
pub record IsCornerStep (job : Job) (step : ℕ) : Type 0 where
  pub some : 1 ≤ step
  pub alone : length job.zones ≤ 1 → step ≡ 1
  pub exact : 1 < length job.zones → (m : ℕ) → is_exact job.resolution (m * step) ≡ true
  pub least : 1 < length job.zones → (k : ℕ) → 1 ≤ k → k < step
      → is_exact job.resolution k ≡ false

pub record IsInfoOf (job : Job) (info : Info) : Type 0 where
  pub size : info.size ≡ info_size
  pub resolution : info.resolution ≡ job.resolution
  pub halo : info.halo ≡ job_halo job
  pub corner_step : IsCornerStep job info.corner_step
  pub reach : info.reach ≡ job_reach job
  pub zones : info.zones ≡ length job.zones
  pub inks : info.inks ≡ length job.details
