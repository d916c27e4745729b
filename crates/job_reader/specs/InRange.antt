-- What each job that bytes spell meets.
use Rattle.std.specs.Prelude.{◌≡◌, ◌≤◌, ◌+◌, length, [], All, false, slice_index_or, sum_by}
use Rattle.page_model.specs.declared.parts.Zone.{Zone}
use Rattle.page_model.specs.Conditions.{IsZone, IsInk}
use Rattle.page_model.specs.Page.{no_zone}
use Rattle.job_reader.specs.declared.job.Job.{Job}
use Rattle.page_model.specs.Limits.{most_job_zones, most_resolution, most_vertices_in_all}

-- a job in range: what each job that a file spells meets
pub record IsJob (job : Job) : Type 0 where
  pub some_zones : 1 ≤ length job.zones
  pub few_zones : length job.zones ≤ 1 + most_job_zones
  pub zones : All IsZone job.zones
  pub zone_0 : (slice_index_or job.zones 0 no_zone).path ≡ []
  pub few_vertices : sum_by (λ (z : Zone). length z.path) job.zones ≤ most_vertices_in_all
  pub fine : job.resolution ≤ most_resolution
  pub resolved : job.resolution ≡ 0
      → (length job.zones ≡ 1) × ((slice_index_or job.zones 0 no_zone).params.enabled ≡ false)
  pub details : All IsInk job.details
