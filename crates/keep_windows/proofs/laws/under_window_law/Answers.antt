-- under_window_law: inner pixels of a window are covered and drawn back under colour as on the sheet.
use Rattle.std.proofs.Common.{arith}
use Rattle.page_model.specs.Page.{ink_at}
use Rattle.keep_windows.proofs.ColourLemmas.{covered_same}
use Rattle.keep_windows.proofs.ThickLemmas.{thickness_same}
use Rattle.keep_windows.proofs.PlaceLemmas.{deeper}
use Rattle.keep_windows.proofs.UnderLemmas.{followed_in, kept_same}
use Rattle.keep_windows.proofs.laws.under_window_law.Goals as goal

pub returns : goal.returns
returns c = λ sheet cut whites halo is some all. record {
  cover = λ p inside. covered_same sheet cut whites p is (deeper sheet cut 2 p (omega arith) inside);
  thick = λ p wide plate inside. thickness_same sheet cut wide plate p is inside;
  tints = λ p plate inside. kept_same sheet cut whites halo plate p is some
      (λ wide e. let most = followed_in sheet.resolution whites (ink_at sheet plate).name wide all e in omega (arith, most)) inside;
}
