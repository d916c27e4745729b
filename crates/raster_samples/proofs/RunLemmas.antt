-- Samples of a row, written one after the other.
use Rattle.std.proofs.Common.{◌≡◌, ℕ, ◌+◌, ◌/◌, ◌%◌, ◌<◌, ◌≤◌, ◌⊎◌, ◌≢◌, List, length, get_or, inl, inr, refl, sym, subst, ◌∙◌, arith, get_or-set_other, get_or-set_same}
use Rattle.std.proofs.Math.ListN.{set, length-set}
use Rattle.std.proofs.lemmas.Bool.{cases_eq}
use Rattle.raster_samples.specs.declared.run.Run.{Run}
use Rattle.raster_samples.specs.declared.raster.Zero.{Zero}
use Rattle.raster_samples.specs.Runs.{IsOf, IsRunApart, IsRunIn, IsRunPut, place}
use Rattle.raster_samples.specs.Samples.{number_at, turned}

-- a number is that of its bytes alone
pub number_same : (size : ℕ) (xs ys : List ℕ) (k : ℕ) → (size ≡ 1) ⊎ (size ≡ 2) → ((j : ℕ) → k ≤ j → j < k + size → get_or xs j 0 ≡ get_or ys j 0) → number_at size xs k ≡ number_at size ys k
number_same size xs ys k (inl e) same =
    let here : get_or xs k 0 ≡ get_or ys k 0 = same k (omega arith) (omega arith) in
    subst (λ (s : ℕ). number_at s xs k ≡ number_at s ys k) (sym e) (omega arith)
number_same size xs ys k (inr e) same =
    let here : get_or xs k 0 ≡ get_or ys k 0 = same k (omega arith) (omega arith) in
    let next : get_or xs (k + 1) 0 ≡ get_or ys (k + 1) 0 = same (k + 1) (omega arith) (omega arith) in
    subst (λ (s : ℕ). number_at s xs k ≡ number_at s ys k) (sym e) (omega arith)

-- one more sample is put
pub run_put : (run : Run) (size : ℕ) (nought : Zero) (maxval : ℕ) (row before now after : List ℕ) (n x : ℕ) → (size ≡ 1) ⊎ (size ≡ 2) → x < n → IsRunApart run size n → number_at size after (place run x) ≡ turned nought maxval (get_or row x 0) → ((k : ℕ) → (IsOf run size x k → ⊥) → get_or after k 0 ≡ get_or now k 0) → IsRunPut run size nought maxval row x before now → IsRunPut run size nought maxval row (x + 1) before after
run_put run size nought maxval row before now after n x sized lx apart here others h = record {
  numbers = λ w lw. elim (cases_eq w x) [
    | inl same ↦ subst (λ (v : ℕ). number_at size after (place run v) ≡ turned nought maxval (get_or row v 0)) (sym same) here
    | inr other ↦ number_same size after now (place run w) sized (λ j from to. others j (λ of. other (apart w x j (omega (arith, lw, lx)) lx (record { from = from; to = to }) of))) ∙ h.numbers w (omega (arith, lw, other))
  ];
  others = λ k none. others k (none x (omega arith)) ∙ h.others k (λ w lw. none w (omega (arith, lw)));
}

pub none_put : (run : Run) (size : ℕ) (nought : Zero) (maxval : ℕ) (row before : List ℕ) → IsRunPut run size nought maxval row 0 before before
none_put run size nought maxval row before = record {
  numbers = λ x l. absurd (omega (arith, l));
  others = λ k none. refl;
}

-- one more sample of one byte
pub byte_put : (run : Run) (nought : Zero) (maxval : ℕ) (row before now : List ℕ) (n x v : ℕ) → x < n → IsRunIn run 1 n (length now) → IsRunApart run 1 n → v ≡ turned nought maxval (get_or row x 0) → IsRunPut run 1 nought maxval row x before now → IsRunPut run 1 nought maxval row (x + 1) before (set now (place run x) v)
byte_put run nought maxval row before now n x v lx within apart e h =
    let both = within x lx in
    let lt : place run x < length now = omega (arith, both.0, both.1) in
    let here : get_or (set now (place run x) v) (place run x) 0 ≡ v = (rw get_or-set_same refl) in
    run_put run 1 nought maxval row before now (set now (place run x) v) n x (inl refl) lx apart (omega (arith, here, e))
    (λ k none. (let ne : k ≢ place run x = λ same. none (record { from = omega (arith, same); to = omega (arith, same) }) in rw get_or-set_other refl)) h

-- one more sample of two bytes
pub word_put : (run : Run) (nought : Zero) (maxval : ℕ) (row before now : List ℕ) (n x v : ℕ) → x < n → IsRunIn run 2 n (length now) → IsRunApart run 2 n → v ≡ turned nought maxval (get_or row x 0) → IsRunPut run 2 nought maxval row x before now → IsRunPut run 2 nought maxval row (x + 1) before (set (set now (place run x) (v % 256)) (place run x + 1) (v / 256))
word_put run nought maxval row before now n x v lx within apart e h =
    let both = within x lx in
    let p = place run x in
    let once = set now p (v % 256) in
    let long : length once ≡ length now = length-set now p (v % 256) in
    let lt : p < length now = omega (arith, both.0, both.1) in
    let lt_next : p + 1 < length once = omega (arith, both.0, both.1, long) in
    let ne_next : p ≢ p + 1 = λ same. omega (arith, same) in
    let low : get_or (set once (p + 1) (v / 256)) p 0 ≡ v % 256 = (get_or-set_other once (p + 1) p (v / 256) 0 ne_next ∙ get_or-set_same now p (v % 256) 0 lt) in
    let high : get_or (set once (p + 1) (v / 256)) (p + 1) 0 ≡ v / 256 = get_or-set_same once (p + 1) (v / 256) 0 lt_next in
    run_put run 2 nought maxval row before now (set once (p + 1) (v / 256)) n x (inr refl) lx apart (omega (arith, low, high, e))
    (λ k none. (
    let ne : k ≢ p = λ same. none (record { from = omega (arith, same); to = omega (arith, same) }) in
    let ne2 : k ≢ p + 1 = λ same. none (record { from = omega (arith, same); to = omega (arith, same) }) in
    get_or-set_other once (p + 1) k (v / 256) 0 ne2 ∙ get_or-set_other now p k (v % 256) 0 ne)) h

-- a run of samples of one byte beside one another
pub beside_put : (from f b size : ℕ) (nought : Zero) (maxval n : ℕ) (row before after : List ℕ) → size ≡ 1 → f ≡ 1 → b ≡ 0 → IsRunPut (record { from = from; forward = 1; back = 0 }) 1 nought maxval row n before after → IsRunPut (record { from = from; forward = f; back = b }) size nought maxval row n before after
beside_put from f b size nought maxval n row before after es ef eb h =
    subst (λ (s : ℕ). IsRunPut (record { from = from; forward = f; back = b }) s nought maxval row n before after) (sym es)
    (subst (λ (g : ℕ). IsRunPut (record { from = from; forward = g; back = b }) 1 nought maxval row n before after) (sym ef)
    (subst (λ (g : ℕ). IsRunPut (record { from = from; forward = 1; back = g }) 1 nought maxval row n before after) (sym eb) h))
