-- New tints by rows.
use Rattle.std.proofs.Common.{◌≡◌, ℕ, ◌+◌, ◌*◌, List, ◌++◌, sym, ap, ◌∙◌, arith}
use Rattle.sheet_geometry.specs.Areas.{traps}
use Rattle.sheet_geometry.specs.StripCores.{new_from}
use Rattle.lists.specs.Words.{list_below}
use Rattle.lists.proofs.ListBelow.{list_below-add}
use Rattle.lists.proofs.Same.{list_below-same}
use Rattle.page_model.specs.declared.parts.PageParts.{PageParts}
use Rattle.page_model.specs.Page.{height, sample_at, samples, width}
use Rattle.page_model.specs.Tints.{new, new_tints}
use Rattle.sheet_stream.specs.Growing.{AllAreNew, NewGrow}

-- counted from the first sample
from_none : (sheet : PageParts) (c n : ℕ) → new_from traps sheet c 0 n ≡ list_below (λ k. new sheet (sample_at sheet k) c) n
from_none sheet c n = list_below-same (λ i. new sheet (sample_at sheet (0 + i)) c) (λ k. new sheet (sample_at sheet k) c) n (λ i l. ap (λ (k : ℕ). new sheet (sample_at sheet k) c) (let e : 0 + i ≡ i = omega arith in e))

pub grow : NewGrow
grow sheet c rows =
    let e : rows * width sheet + width sheet ≡ (rows + 1) * width sheet = omega arith in
    ap (λ (t : List ℕ). t ++ new_from traps sheet c (rows * width sheet) (width sheet)) (from_none sheet c (rows * width sheet))
    ∙ sym (list_below-add (λ k. new sheet (sample_at sheet k) c) (rows * width sheet) (width sheet))
    ∙ ap (list_below (λ k. new sheet (sample_at sheet k) c)) e
    ∙ sym (from_none sheet c ((rows + 1) * width sheet))

pub all_new : AllAreNew
unfolding new_tints
all_new sheet c =
    let e : height sheet * width sheet ≡ samples sheet = omega arith in
    from_none sheet c (height sheet * width sheet) ∙ ap (list_below (λ k. new sheet (sample_at sheet k) c)) e
