-- The job of a handle.
use Rattle.std.specs.Prelude.{Option}
use Rattle.job_handles.specs.declared.job_handle.JobHandle.{JobHandle}
use Rattle.job_handles.specs.declared.open_job.OpenJob.{OpenJob}

-- the open job, where the handle is open
abbrev pub opened : JobHandle → Option OpenJob
opened handle = handle.inner.value
