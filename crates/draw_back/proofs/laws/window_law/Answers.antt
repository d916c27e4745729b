use Rattle.draw_back.proofs.WindowLemmas.{window_row}
use Rattle.draw_back.proofs.laws.window_law.Goals as goal

pub returns : goal.returns
returns c = λ window sheet first radius is beyond x y in_row halo. window_row window sheet first radius x y is beyond in_row halo
