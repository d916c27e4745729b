-- expect_end: checks that each file has so many images and no more.
use Rattle.std.proofs.lemmas.Result.{err_from_is_err_and}
use Rattle.traprun_cli.proofs.images.expect_end.Goals as goal

pub returns-in_err-look_through : goal.returns-in_err-look_through
returns-in_err-look_through g c =
    let p = err_from_is_err_and c.from_residual.result c.from_residual.ensures.1 in
    rw (p.1, p.2) c.in_err-look_through.ensures
