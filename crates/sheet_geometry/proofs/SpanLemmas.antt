-- Windows round a sample of a side, and spans one after the other.
use Rattle.std.proofs.Common.{◌≡◌, ℕ, ◌+◌, ◌-◌, ◌*◌, ◌/◌, ◌%◌, ◌<◌, ◌≤◌, max, min, Bool, true, false, List, [], ◌∷◌, ◌++◌, sym, ap, ◌∙◌, subst, arith, inl, inr, refl, div-add-mod'}
use Rattle.std.specs.Prelude.{if◌then◌else◌}
use Rattle.std.specs.Int.{div_ceil}
use Rattle.std.proofs.Math.Nat.{div-mul-le_self, lt-div-mul-add, mod-lt}
use Rattle.std.proofs.lemmas.Bool.{cases_eq, cases_lt}
use Rattle.std.proofs.lemmas.Nat.{mod-mul-add}
use Rattle.sheet_geometry.specs.declared.spans.Ruler.{Ruler}
use Rattle.sheet_geometry.specs.declared.spans.Span.{Span}
use Rattle.sheet_geometry.specs.Spans.{AreSpans, IsEvenRuler, IsRuler, IsSpan, IsWindow, even_wide}

mod-multiple : (q step : ℕ) → 1 ≤ step → (q * step) % step ≡ 0
mod-multiple q step some = (let e : q * step ≡ q * step + 0 = omega arith in ap (λ (n : ℕ). n % step) e ∙ mod-mul-add q step 0 (omega (arith, some)))

chosen : (from_end : _) (a b step : ℕ) → from_end ≡ false → b % step ≡ 0 → (if from_end then a else b) % step ≡ 0
chosen from_end a b step e h = rw e h

chosen_end : (from_end : _) (a b step : ℕ) → from_end ≡ true → a % step ≡ 0 → (if from_end then a else b) % step ≡ 0
chosen_end from_end a b step e h = rw e h

-- a window that begins at a multiple of the step
pub window_from_start : (ruler : Ruler) (at sub first wide : ℕ) → IsRuler ruler → at < ruler.side → ruler.from_end ≡ false → sub ≡ at - ruler.halo → first ≡ sub / ruler.step * ruler.step → wide ≡ min ruler.most (ruler.side - first) → IsWindow ruler at first wide
window_from_start ruler at sub first wide is inside way es ef ew =
    let low : first ≤ sub = (let t = div-mul-le_self sub ruler.step in omega (arith, t, ef)) in
    let high : sub < first + ruler.step = (let t : sub < sub / ruler.step * ruler.step + ruler.step = lt-div-mul-add (let s = is.some_step in omega (arith, s)) in omega (arith, t, ef)) in
    let workspace = is.workspace in
    record {
      begins = omega (arith, low, es);
      before = λ some. omega (arith, low, es, some);
      inside = omega (arith, low, es, ew, inside);
      small = omega (arith, ew);
      some = omega (arith, low, high, es, ew, inside, workspace);
      workspace = λ more. omega (arith, low, high, es, ew, inside, workspace, more);
      exact = chosen ruler.from_end (ruler.side - (first + wide)) first ruler.step way (ap (λ (n : ℕ). n % ruler.step) ef ∙ mod-multiple (sub / ruler.step) ruler.step is.some_step);
    }

-- a rest, cut up to whole steps
steps_up : (rest step : ℕ) → 1 ≤ step → (rest ≤ div_ceil rest step * step) × (div_ceil rest step * step < rest + step)
steps_up rest step some =
    let t = div-add-mod' rest step in
    let u = mod-lt rest some in
    elim (cases_eq (rest % step) 0) [
      | inl e ↦ (let q : div_ceil rest step ≡ rest / step = omega (arith, e) in let m : div_ceil rest step * step ≡ rest / step * step = ap (λ (n : ℕ). n * step) q in (omega (arith, m, t, e), omega (arith, m, t, e, some)))
      | inr ne ↦ (let q : div_ceil rest step ≡ rest / step + 1 = omega (arith, ne) in let m : div_ceil rest step * step ≡ (rest / step + 1) * step = ap (λ (n : ℕ). n * step) q in (omega (arith, m, t, u), omega (arith, m, t, ne, some)))
    ]

no_steps : (step : ℕ) → 1 ≤ step → div_ceil 0 step ≡ 0
no_steps step some = (let a : 0 / step ≡ 0 = omega arith in let b : 0 % step ≡ 0 = omega arith in omega (arith, a, b))

-- where a window ends, u before the side does
record Ends (side at halo first most u : ℕ) : Type 0 where
  left : u ≤ side - first
  small : side - first - u ≤ most
  some : at < side - u
  workspace : 0 < u → at + max 1 halo < side - u

ends : (side at halo step most first over u : ℕ) → at < side → first ≡ at - halo → over ≡ side - first - most → over ≤ u → u < over + step → (over ≡ 0 → u ≡ 0) → 2 * max 1 halo + step ≤ most → Ends side at halo first most u
ends side at halo step most first over u inside ef eo low high none workspace = elim (cases_eq over 0) [
  | inl e ↦ (let z = none e in record { left = omega (arith, z); small = omega (arith, e, eo, z); some = omega (arith, inside, z); workspace = λ more. absurd (omega (arith, more, z)) })
  | inr ne ↦ (let long : first + most < side = omega (arith, ne, eo) in
      let all : over + first + most ≡ side = omega (arith, long, eo) in
      let near : at ≤ first + halo = omega (arith, ef) in
      record { left = omega (arith, all, high, workspace); small = omega (arith, all, low); some = omega (arith, all, high, workspace, near); workspace = λ _. omega (arith, all, high, workspace, near) })
]

-- a window that ends before a multiple of the step
pub window_from_end : (ruler : Ruler) (at first over up : ℕ) → IsRuler ruler → at < ruler.side → ruler.from_end ≡ true → first ≡ at - ruler.halo → over ≡ ruler.side - first - ruler.most → up ≡ div_ceil over ruler.step → IsWindow ruler at first (ruler.side - first - up * ruler.step)
window_from_end ruler at first over up is inside way ef eo eu =
    let ups = steps_up over ruler.step is.some_step in
    let same : up * ruler.step ≡ div_ceil over ruler.step * ruler.step = ap (λ (n : ℕ). n * ruler.step) eu in
    let low : over ≤ up * ruler.step = (let a = ups.0 in omega (arith, a, same)) in
    let high : up * ruler.step < over + ruler.step = (let a = ups.1 in omega (arith, a, same)) in
    let none : over ≡ 0 → up * ruler.step ≡ 0 = λ e. (let z : up ≡ 0 = eu ∙ ap (λ (n : ℕ). div_ceil n ruler.step) e ∙ no_steps ruler.step is.some_step in ap (λ (n : ℕ). n * ruler.step) z ∙ omega arith) in
    let end = ends ruler.side at ruler.halo ruler.step ruler.most first over (up * ruler.step) inside ef eo low high none is.workspace in
    let left = end.left in
    let before : first ≤ ruler.side = omega (arith, ef, inside) in
    let there : ruler.side - (first + (ruler.side - first - up * ruler.step)) ≡ up * ruler.step = omega (arith, left, before) in
    record {
      begins = omega (arith, ef);
      before = λ some. omega (arith, ef, some);
      inside = omega (arith, left, before);
      small = end.small;
      some = (let a = end.some in omega (arith, a, left, before));
      workspace = λ more. (let a = end.workspace (omega (arith, more, left, before)) in omega (arith, a, left, before));
      exact = chosen_end ruler.from_end (ruler.side - (first + (ruler.side - first - up * ruler.step))) first ruler.step way (ap (λ (n : ℕ). n % ruler.step) there ∙ mod-multiple up ruler.step is.some_step);
    }

-- windows that all have as many samples

-- how many these are
record Evens (side most step wide up m : ℕ) : Type 0 where
  fits : up * step ≤ side
  all : wide + up * step ≡ side
  some : 1 ≤ wide
  small : wide ≤ most
  workspace : 0 < up * step → 2 * m + step ≤ wide

evens : (side most step up over m : ℕ) → 1 ≤ side → 1 ≤ step → 1 ≤ m → 2 * m + step ≤ most → (most < side → 2 * m + 2 * step ≤ most + 1) → over ≡ side - most → up ≡ div_ceil over step → Evens side most step (side - up * step) up m
evens side most step up over m some_side some some_halo least workspace eo eu = elim (cases_eq over 0) [
  | inl e ↦ (let z : up * step ≡ 0 = ap (λ (n : ℕ). n * step) (eu ∙ ap (λ (n : ℕ). div_ceil n step) e ∙ no_steps step some) ∙ omega arith in
      record { fits = omega (arith, z); all = omega (arith, z); some = omega (arith, z, some_side); small = omega (arith, z, e, eo); workspace = λ more. absurd (omega (arith, more, z)) })
  | inr ne ↦ (let ups = steps_up over step some in
      let same : up * step ≡ div_ceil over step * step = ap (λ (n : ℕ). n * step) eu in
      let low : over ≤ up * step = (let a = ups.0 in omega (arith, a, same)) in
      let high : up * step < over + step = (let a = ups.1 in omega (arith, a, same)) in
      let long : most < side = omega (arith, ne, eo) in
      let two = workspace long in
      record { fits = omega (arith, high, long, eo, least); all = omega (arith, high, long, eo, least); some = omega (arith, high, long, eo, least, some_halo); small = omega (arith, low, long, eo); workspace = λ _. omega (arith, high, long, eo, two) })
]

-- the lesser of two multiples, and what is left of one of them after it
least_multiple : (a b step : ℕ) → 1 ≤ step → min (a * step) (b * step) % step ≡ 0
least_multiple a b step some = elim (cases_lt (a * step) (b * step)) [
  | inl l ↦ (let e : min (a * step) (b * step) ≡ a * step = omega (arith, l) in ap (λ (n : ℕ). n % step) e ∙ mod-multiple a step some)
  | inr l ↦ (let e : min (a * step) (b * step) ≡ b * step = omega (arith, l) in ap (λ (n : ℕ). n % step) e ∙ mod-multiple b step some)
]

split_multiple : (a b d step : ℕ) → b ≡ a + d → b * step ≡ a * step + d * step
split_multiple a b d step e = ap (λ (n : ℕ). n * step) e ∙ omega arith

left_multiple : (a b step : ℕ) → 1 ≤ step → (b * step - min (a * step) (b * step)) % step ≡ 0
left_multiple a b step some = elim (cases_lt b a) [
  | inl l ↦ (let t = split_multiple b a (a - b) step (omega (arith, l)) in let e : b * step - min (a * step) (b * step) ≡ 0 * step = omega (arith, t) in ap (λ (n : ℕ). n % step) e ∙ mod-multiple 0 step some)
  | inr l ↦ (let t = split_multiple a b (b - a) step (omega (arith, l)) in let e : b * step - min (a * step) (b * step) ≡ (b - a) * step = omega (arith, t) in ap (λ (n : ℕ). n % step) e ∙ mod-multiple (b - a) step some)
]

either : (from_end : Bool) (a b step : ℕ) → a % step ≡ 0 → b % step ≡ 0 → (if from_end then a else b) % step ≡ 0
either true a b step h k = h
either false a b step h k = k

pub even_window : (ruler : Ruler) (at sub first wide : ℕ) → IsEvenRuler ruler → at < ruler.side → sub ≡ at - ruler.halo → wide ≡ even_wide ruler → first ≡ min (sub / ruler.step * ruler.step) (ruler.side - wide) → IsWindow ruler at first wide
even_window ruler at sub first wide is inside es ew ef =
    let step = ruler.step in
    let some = is.ruler_is.some_step in
    let up : ℕ = div_ceil (ruler.side - ruler.most) step in
    let s = evens ruler.side ruler.most step up (ruler.side - ruler.most) (max 1 ruler.halo) is.ruler_is.some_side some (omega arith) is.ruler_is.workspace is.workspace_for_two refl refl in
    let fits = s.fits in let all = s.all in let small = s.small in let workspace = s.workspace in
    let rest : ruler.side - wide ≡ up * step = omega (arith, ew, fits) in
    let there : first ≡ min (sub / step * step) (up * step) = ef ∙ ap (min (sub / step * step)) rest in
    let low : sub / step * step ≤ sub = div-mul-le_self sub step in
    let high : sub < sub / step * step + step = lt-div-mul-add (omega (arith, some)) in
    let before : first ≤ sub = omega (arith, there, low) in
    let ends : ruler.side - (first + wide) ≡ up * step - min (sub / step * step) (up * step) = omega (arith, there, ew, fits) in
    record {
      begins = omega (arith, before, es);
      before = λ more. omega (arith, before, es, more);
      inside = omega (arith, there, ew, fits);
      small = omega (arith, small, ew);
      some = elim (cases_eq (up * step) 0) [
        | inl z ↦ omega (arith, ew, z, inside)
        | inr ne ↦ (let r = workspace (omega (arith, ne)) in omega (arith, there, ew, fits, high, es, inside, r))
      ];
      workspace = λ more. (let r = workspace (omega (arith, more, there, ew, fits)) in omega (arith, there, ew, fits, high, es, r, more));
      exact = either ruler.from_end (ruler.side - (first + wide)) first step (ap (λ (n : ℕ). n % step) ends ∙ left_multiple (sub / step) up step some) (ap (λ (n : ℕ). n % step) there ∙ least_multiple (sub / step) up step some);
    }

pub push_span : (ruler : Ruler) (spans : List Span) (at end : ℕ) (span : Span) → AreSpans ruler at spans end → IsSpan ruler end span → AreSpans ruler at (spans ++ span ∷ []) (end + span.core)
push_span ruler [] at end span are is = (subst (λ (n : ℕ). IsSpan ruler n span) (sym are) is, ap (λ (n : ℕ). n + span.core) are)
push_span ruler (s ∷ spans) at end span are is = (are.0, push_span ruler spans (at + s.core) end span are.1 is)
