-- The rows that a window shows of a plane, one more of them.
use Rattle.std.proofs.Common.{◌≡◌, ℕ, ◌+◌, ◌*◌, ◌/◌, ◌%◌, ◌<◌, ◌≤◌, ◌++◌, List, length, slice_index, sym, ap, ◌∙◌, arith, take, drop, append_assoc}
use Rattle.std.proofs.Math.Nat.{mul-le-mul}
use Rattle.std.proofs.lemmas.List.{length-append, length-drop, length-take-le, take_at}
use Rattle.std.proofs.lemmas.Nat.{div-mul-add, mod-mul-add}
use Rattle.lists.specs.Words.{list_below}
use Rattle.lists.proofs.ListBelow.{list_below-add, list_below-from}
use Rattle.sheet_geometry.specs.declared.cuts.Cut.{Cut}
use Rattle.sheet_geometry.specs.Shown.{shown_tints}

pub shown_next : (wide : ℕ) (cut : Cut) (tints row : List ℕ) (y from : ℕ) → from ≡ (cut.top + y) * wide + cut.left → length row ≡ cut.width → ((x : ℕ) → x < cut.width → slice_index row x ≡ slice_index tints (from + x))
    → shown_tints wide cut tints (y * cut.width) ++ row ≡ shown_tints wide cut tints ((y + 1) * cut.width)
shown_next wide cut tints row y from ef long each =
    let w : ℕ = cut.width in
    let f : ℕ → ℕ = λ k. slice_index tints ((cut.top + k / w) * wide + (cut.left + k % w)) in
    let all : (y + 1) * w ≡ y * w + w = omega arith in
    let here : row ≡ list_below (λ x. f (y * w + x)) w = list_below-from (λ x. f (y * w + x)) w row long (λ x l.
    each x l ∙ ap (slice_index tints) (let e : from + x ≡ (cut.top + y) * wide + (cut.left + x) = omega (arith, ef) in e)
    ∙ sym (λ i. slice_index tints ((cut.top + div-mul-add y w x l i) * wide + (cut.left + mod-mul-add y w x l i)))) in
    ap (λ (xs : List ℕ). list_below f (y * w) ++ xs) here ∙ sym (list_below-add f (y * w) w) ∙ ap (list_below f) (sym all)

-- a row put among tints, right behind the first of them
pub put_long : (shown run after : List ℕ) (a : ℕ) → a + length run ≤ length shown → after ≡ take a shown ++ (run ++ drop (a + length run) shown) → length after ≡ length shown
put_long shown run after a inside e =
    let before = length-take-le a shown (omega (arith, inside)) in
    let rest = length-drop (a + length run) shown in
    let all = length-append (take a shown) (run ++ drop (a + length run) shown) in
    let more = length-append run (drop (a + length run) shown) in
    ap length e ∙ omega (arith, all, more, before, rest, inside)

pub put_prefix : (shown run after : List ℕ) (a : ℕ) → a + length run ≤ length shown → after ≡ take a shown ++ (run ++ drop (a + length run) shown) → take (a + length run) after ≡ take a shown ++ run
put_prefix shown run after a inside e =
    let before = length-take-le a shown (omega (arith, inside)) in
    let both = length-append (take a shown) run in
    ap (take (a + length run)) (e ∙ sym (append_assoc (take a shown) run (drop (a + length run) shown)))
    ∙ take_at (take a shown ++ run) (drop (a + length run) shown) (a + length run) (omega (arith, both, before))

pub row_inside : (w h y : ℕ) → y < h → y * w + w ≤ w * h
row_inside w h y l = (let t : (y + 1) * w ≤ h * w = mul-le-mul (omega (arith, l)) (omega arith) in omega (arith, t))
