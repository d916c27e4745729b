-- keep_window_law: inner pixels of a window are covered and drawn back as on the sheet.
use Rattle.keep_windows.proofs.WindowLemmas.{covered_same, kept_same}
use Rattle.keep_windows.proofs.laws.keep_window_law.Goals as goal

pub returns : goal.returns
returns c = λ sheet cut rich radius is beyond. record {
  cover = λ p inside. covered_same sheet cut rich.limit p is inside;
  tints = λ p plate inside. kept_same sheet cut rich plate radius p is beyond inside;
}
