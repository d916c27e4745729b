-- Levels by the least tint that is at the limit.
use Rattle.std.proofs.Common.{◌≡◌, ℕ, ◌+◌, ◌*◌, ◌/◌, ◌<◌, ◌≤◌, Bool, true, false, nat_le, nat_lt, refl, sym, ap, ◌∙◌, inl, inr, arith, if◌then◌else◌}
use Rattle.std.proofs.lemmas.Bool.{cases_lt}
use Rattle.std.proofs.lemmas.Bool.Decides.{nat_tests}
use Rattle.page_model.specs.declared.parts.At.{At}
use Rattle.page_model.specs.declared.parts.PageParts.{PageParts}
use Rattle.page_model.specs.Limits.{scale}
use Rattle.page_model.specs.Page.{maxval, tint}
use Rattle.page_model.specs.Zones.{zone_of}
use Rattle.keepaway.specs.Keepaway.{is_black_ink, plate_level, tint_level}

is_le : (a b : ℕ) → a ≤ b → nat_le a b ≡ true
is_le a b l = grind (arith, nat_tests)

is_not_le : (a b : ℕ) → b < a → nat_le a b ≡ false
is_not_le a b l = grind (arith, nat_tests)

-- a limit that is divided and rounded up is compared in the same way
pub rounded_up : (a t : ℕ) → nat_le a (t * 10000) ≡ nat_le ((a + 9999) / 10000) t
rounded_up a t = elim (cases_lt (t * 10000) a) [
  | inl l ↦ let more : t < (a + 9999) / 10000 = omega arith in is_not_le a (t * 10000) l ∙ sym (is_not_le ((a + 9999) / 10000) t more)
  | inr l ↦ let less : (a + 9999) / 10000 ≤ t = omega arith in is_le a (t * 10000) l ∙ sym (is_le ((a + 9999) / 10000) t less)
]

black_level : (black : Bool) (n : ℕ) → black ≡ true → n ≡ (if black then n else 0)
black_level black n e = rw e refl

-- the level of a plate whose ink is black
pub level_all : (page : PageParts) (limit c : ℕ) (p : At) (least t : ℕ) → t ≡ tint page c p → ((n : ℕ) → nat_le (limit * maxval page) (n * scale) ≡ nat_le least n) → is_black_ink page (zone_of page p) c ≡ true → (if nat_lt 0 t then (if nat_le least t then 2 else 1) else 0) ≡ plate_level page limit p c
level_all page limit c p least t same is black =
    ap (λ (n : ℕ). if nat_lt 0 n then (if nat_le least n then 2 else 1) else 0) same
    ∙ ap (λ (b : Bool). if nat_lt 0 (tint page c p) then (if b then 2 else 1) else 0) (sym (is (tint page c p)))
    ∙ black_level (is_black_ink page (zone_of page p) c) (tint_level limit (maxval page) (tint page c p)) black
