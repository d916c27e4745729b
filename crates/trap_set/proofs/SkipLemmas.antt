-- Spans of a row in which nothing changes.
use Rattle.std.proofs.Common.{◌≡◌, ℕ, zero, suc, ◌+◌, ◌-◌, ◌<◌, ◌≤◌, ◌||◌, ◌==◌, Bool, false, not, List, [], ◌++◌, take, drop, get_or, sym, ap, ◌∙◌, arith, eq-eqb, if◌then◌else◌, ◌&&◌}
use Rattle.std.proofs.lemmas.List.{get_or-take, get_or-drop, append-nil}
use Rattle.page_model.specs.declared.parts.Plane.{Plane}
use Rattle.lists.specs.Words.{any_below}
use Rattle.trap_set.specs.Rows.{row_text, run_text}
use Rattle.trap_set.specs.Runs.{changes, goes_on, run_at}
use Rattle.trap_set.specs.SetText.{run_line}

-- a sample of a span of a row
pub span_at : (tints : List ℕ) (first w from to x : ℕ) → from ≤ x → x < to → to ≤ w → get_or (take (to - from) (drop from (take (first + w - first) (drop first tints)))) (x - from) 0 ≡ get_or tints (first + x) 0
span_at tints first w from to x low high within =
    let row = take (first + w - first) (drop first tints) in
    let place : from + (x - from) ≡ x = omega arith in
    get_or-take (to - from) (drop from row) (x - from) 0 (omega arith) ∙ get_or-drop from row (x - from) 0 ∙ ap (λ (k : ℕ). get_or row k 0) place
    ∙ get_or-take (first + w - first) (drop first tints) x 0 (omega arith) ∙ get_or-drop first tints x 0

pub unlike : (a b : ℕ) → a ≡ b → not (a == b) ≡ false
unlike a b e = ap not (eq-eqb a b e)

-- where nothing changes no run begins
no_run : (old new : List Plane) (y x : ℕ) → changes old new x y ≡ false → run_text old new y x ≡ []
no_run old new y x e = ap (λ (b : Bool). if (b && not (goes_on old new x y)) then run_line (run_at old new x y) else []) e

same_row : (old new : List Plane) (y x n : ℕ) → ((i : ℕ) → x ≤ i → i < x + n → changes old new i y ≡ false) → row_text old new y (x + n) ≡ row_text old new y x
same_row old new y x zero h = (let e : x + 0 ≡ x = omega arith in ap (row_text old new y) e)
same_row old new y x (suc n) h =
    let e : x + suc n ≡ suc (x + n) = omega arith in
    ap (row_text old new y) e ∙ ap (λ (ys : List ℕ). row_text old new y (x + n) ++ ys) (no_run old new y (x + n) (h (x + n) (omega arith) (omega arith)))
    ∙ append-nil (row_text old new y (x + n)) ∙ same_row old new y x n (λ i l m. h i l (omega arith))

-- so the text of a row stays over a span that is the same
pub row_stays : (old new : List Plane) (y x next : ℕ) → x ≤ next → ((i : ℕ) → x ≤ i → i < next → changes old new i y ≡ false) → row_text old new y x ≡ row_text old new y next
row_stays old new y x next l h =
    let e : x + (next - x) ≡ next = omega arith in
    sym (same_row old new y x (next - x) (λ i low high. h i low (omega arith))) ∙ ap (row_text old new y) e

pub none_more : (test : ℕ → Bool) (n : ℕ) → any_below test n ≡ false → test n ≡ false → any_below test (n + 1) ≡ false
none_more test n before here =
    let e : n + 1 ≡ suc n = omega arith in
    ap (any_below test) e ∙ ap (λ (b : Bool). b || test n) before ∙ here
