-- When a segment turns round a point: the tests of the code are those of the definition.
use Rattle.std.proofs.Common.{◌≡◌, refl, Bool, true, false, if◌then◌else◌, pos, arith}
use Rattle.std.specs.Prelude.{ℤ, ◌-ℤ◌, ◌&&◌, int_lt, int_le}
use Rattle.std.proofs.lemmas.Int.{ints}
use Rattle.page_model.specs.Zones.{Point, lean, turn}

both : (a b : Bool) → (a && b) ≡ true → (a ≡ true) × (b ≡ true)
both true true h = (refl, refl)
both true false h = (refl, h)
both false true h = (h, refl)
both false false h = (h, h)

not_back : (a b y : ℤ) → int_lt y b ≡ true → int_le b y ≡ false
not_back a b y h = grind (arith, ints)

three : (a b e : Bool) → (a && b) ≡ false → (a && b && e) ≡ false
three true true true h = h
three true true false h = refl
three true false e h = refl
three false b e h = refl

chosen-up : (a b c d e f : Bool) → a ≡ true → b ≡ true → c ≡ false → (if a && b && e then pos 1 else if c && d && f then pos 0 -ℤ pos 1 else pos 0) ≡ pos (if e then 1 else 0)
chosen-up a b c d e f h k l = rw (h, k, l) (last e)
  where
    last : (e : Bool) → (if true && true && e then pos 1 else if false && d && f then pos 0 -ℤ pos 1 else pos 0) ≡ pos (if e then 1 else 0)
    last true = refl
    last false = refl

chosen-down : (a b c d e f : Bool) → a ≡ false → c ≡ true → d ≡ true → (if a && b && e then pos 1 else if c && d && f then pos 0 -ℤ pos 1 else pos 0) ≡ pos 0 -ℤ pos (if f then 1 else 0)
chosen-down a b c d e f h k l = rw (h, k, l) (last f)
  where
    last : (f : Bool) → (if false && b && e then pos 1 else if true && true && f then pos 0 -ℤ pos 1 else pos 0) ≡ pos 0 -ℤ pos (if f then 1 else 0)
    last true = refl
    last false = refl

-- a segment that rises through a point's height turns round the point where it passes on the right
pub turn-up : (p a b : Point) → (int_le a.py p.py && int_lt p.py b.py) ≡ true → turn p a b ≡ pos (if int_lt (pos 0) (lean a b p) then 1 else 0)
unfolding turn
turn-up p a b h = let k = both (int_le a.py p.py) (int_lt p.py b.py) h in chosen-up _ _ _ _ _ _ k.0 k.1 (not_back a.py b.py p.py k.1)

pub turn-down : (p a b : Point) → (int_le b.py p.py && int_lt p.py a.py) ≡ true → turn p a b ≡ pos 0 -ℤ pos (if int_lt (lean a b p) (pos 0) then 1 else 0)
unfolding turn
turn-down p a b h = let k = both (int_le b.py p.py) (int_lt p.py a.py) h in chosen-down _ _ _ _ _ _ (not_back b.py a.py p.py k.1) k.0 k.1

pub turn-none : (p a b : Point) → (int_le a.py p.py && int_lt p.py b.py) ≡ false → (int_le b.py p.py && int_lt p.py a.py) ≡ false → turn p a b ≡ pos 0
unfolding turn
turn-none p a b h k = rw (three (int_le a.py p.py) (int_lt p.py b.py) (int_lt (pos 0) (lean a b p)) h, three (int_le b.py p.py) (int_lt p.py a.py) (int_lt (lean a b p) (pos 0)) k) refl

-- a segment that rises through a height rises
pub rising_from : (a b y : ℤ) → (int_le a y && int_lt y b) ≡ true → int_lt a b ≡ true
rising_from a b y h = let k = both (int_le a y) (int_lt y b) h in rises a b y k.0 k.1
  where
    rises : (a b y : ℤ) → int_le a y ≡ true → int_lt y b ≡ true → int_lt a b ≡ true
    rises a b y h k = grind (arith, ints)

pub ruleset risings = (rising_from, rising_from)
