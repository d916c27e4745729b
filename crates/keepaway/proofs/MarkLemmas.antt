-- A pixel that no black pixel touches is not covered.
use Rattle.std.proofs.Common.{◌≡◌, ℕ, ◌+◌, ◌-◌, ◌<◌, ◌≤◌, ◌==◌, ◌||◌, ◌&&◌, Bool, true, false, min, refl, arith}
use Rattle.std.proofs.lemmas.Bool.Decides.{nat_tests}
use Rattle.page_model.specs.declared.parts.PageParts.{PageParts}
use Rattle.page_model.specs.Page.{height, width}
use Rattle.keepaway.specs.Keepaway.{covered, level, touches, touches_row}
use Rattle.keepaway.proofs.RowLemmas.{near_none}

not_two : (n : ℕ) → (n ≡ 2 → ⊥) → (n == 2) ≡ false
not_two n ne = grind (arith, nat_tests, ne)

neither : (a b d : Bool) → a ≡ false → d ≡ false → (a || (b && d)) ≡ false
neither true b d p q = absurd (cc)
neither false true d p q = q
neither false false d p q = refl

pub not_covered : (page : PageParts) (limit x y : ℕ) → x < width page → y < height page → ((j k : ℕ) → j < width page → k < height page → x - 1 ≤ j → j ≤ x + 1 → y - 1 ≤ k → k ≤ y + 1 → level page limit (record { x = j; y = k }) ≡ 2 → ⊥) → covered page limit (record { x = x; y = y }) ≡ false
unfolding covered
not_covered page limit x y in_row on_page none =
    neither (level page limit (record { x = x; y = y }) == 2) (level page limit (record { x = x; y = y }) == 1) (touches page limit (record { x = x; y = y }))
    (not_two (level page limit (record { x = x; y = y })) (none x y in_row on_page (omega arith) (omega arith) (omega arith) (omega arith)))
    (near_none y (height page) (y - 1) (min (y + 2) (height page)) (touches_row page limit x) refl refl (λ k low high.
    near_none x (width page) (x - 1) (min (x + 2) (width page)) (λ j. level page limit (record { x = j; y = k }) == 2) refl refl (λ j left right.
    not_two (level page limit (record { x = j; y = k })) (none j k (omega arith) (omega arith) left (omega arith) low (omega arith)))))
