-- read_first: reads the job from the first tray, and leaves the other trays as they were.
use Rattle.std.proofs.Common.{◌≡◌, ◌≢◌, ℕ, zero, suc, ◌≤◌, List, [], ◌∷◌, length, map, get_or, refl, arith, Result, Ok, Err}
use Rattle.std.proofs.Math.ListN.{set}
use Rattle.job_reader.specs.declared.job.Job.{Job}
use Rattle.outside.specs.Tray.{TrayState}
use Rattle.page_files.specs.Steps.{ReadsJob}
use Rattle.plate_rows.specs.Trays.{tray_at}
use Rattle.common_errors.specs.declared.common.CommonError.{CommonError}
use Rattle.sheet_files.proofs.gather.read_first.Goals as goal

first_read : {T : Type 0} (state : T → TrayState) (trays : List T) (name : List ℕ) (d new : T) (read : Result Job CommonError) → 1 ≤ length trays → ReadsJob name (state (get_or trays 0 d)) (state new) read → ReadsJob name (tray_at (map state trays) 0) (tray_at (map state (set trays 0 new)) 0) read
first_read state [] name d new read some reads = absurd (omega (arith, some))
first_read state (t ∷ ts) name d new read some reads = reads

others_kept : {T : Type 0} (state : T → TrayState) (trays : List T) (new : T) (k : ℕ) → k ≢ 0 → tray_at (map state (set trays 0 new)) k ≡ tray_at (map state trays) k
others_kept state [] new k other = refl
others_kept state (t ∷ ts) new zero other = absurd (other refl)
others_kept state (t ∷ ts) new (suc k) other = refl

pub returns-in-Ok : goal.returns-in-Ok
returns-in-Ok g c = record {
  read = Ok c.in-Ok.job;
  same = refl;
  first = first_read g.T.Tray.state c.args.trays.now c.args.name.now c.index-trays-0.result c.read_job_file.new.tray (Ok c.in-Ok.job) c.requires c.in-Ok.ensures;
  others = others_kept g.T.Tray.state c.args.trays.now c.read_job_file.new.tray;
}

pub returns-in-Err : goal.returns-in-Err
returns-in-Err g c = record {
  read = Err c.in-Err.common_error;
  same = refl;
  first = first_read g.T.Tray.state c.args.trays.now c.args.name.now c.index-trays-0.result c.read_job_file.new.tray (Err c.in-Err.common_error) c.requires c.in-Err.ensures;
  others = others_kept g.T.Tray.state c.args.trays.now c.read_job_file.new.tray;
}
