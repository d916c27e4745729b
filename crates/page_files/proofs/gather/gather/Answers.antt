-- gather: reads the job of that name and then each plate in the order of its file, to their ends,
-- and makes the page of them.
use Rattle.std.proofs.lemmas.Result.{err_from_is_err_and}
use Rattle.std.proofs.Common.{map}
use Rattle.page_files.proofs.GatherLemmas.{job_refused}
use Rattle.page_files.proofs.gather.gather.Goals as goal

pub returns : goal.returns
returns g c = c.gather_plates.ensures c.args.job.now (g.T.Tray.state c.args.tray.now) c.in_ok-read.ensures

pub returns-in_err-read : goal.returns-in_err-read
returns-in_err-read g c =
    let p = err_from_is_err_and c.from_residual.result c.from_residual.ensures.1 in
    rw (p.1, p.2) (job_refused (record { job = c.args.job.now; names = c.args.names.now; inputs = map g.S.AsStr.text c.args.inputs.now }) (g.T.Tray.state c.args.tray.now) (g.T.Tray.state c.read_job_file.new.tray) c.in_err-read.field-0.0 c.in_err-read.ensures)
