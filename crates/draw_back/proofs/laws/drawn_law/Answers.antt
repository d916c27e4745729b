use Rattle.draw_back.proofs.DrawnLemmas.{drawn_is, drawn_only, drawn_stored}
use Rattle.draw_back.proofs.laws.drawn_law.Goals as goal

pub returns : goal.returns
returns c = λ s x y. record {
  is = drawn_is s x y;
  only = λ v is. drawn_only s x y v is;
  stored = drawn_stored s x y;
  less = (drawn_is s x y).own;
}
