-- What the reader of a header knows, byte by byte. No public clause cites this file.
use Rattle.std.specs.Prelude.{◌≡◌, ℕ, ◌+◌, ◌*◌, ◌-◌, ◌<◌, ◌≤◌, min, Bool, ◌&&◌, nat_lt, nat_le}
use Rattle.std.specs.Prelude.{if◌then◌else◌, List, [], ◌∷◌, ◌++◌, length, take, Option, Some, None}
use Rattle.std.specs.Prelude.{Result, Ok, Err}
use Rattle.pgm_plates.specs.declared.bounds.Bounds.{Bounds}
use Rattle.pgm_plates.specs.declared.bounds.Bounds.TheVariants.{Page}
use Rattle.pgm_plates.specs.declared.header_state.HeaderState.{HeaderState}
use Rattle.pgm_plates.specs.declared.header_state.HeaderState.TheVariants.{Start, Digits, Ended}
use Rattle.pgm_plates.specs.declared.header.Sides.{Sides}
use Rattle.pgm_plates.specs.declared.header.Sides.TheVariants.{Neither, Width, Both}
use Rattle.pgm_plates.specs.declared.header.Scan.{Scan}
use Rattle.pgm_plates.specs.declared.header.Header.{Header}
use Rattle.pgm_plates.specs.declared.plate.PlateFault.{PlateFault}
use Rattle.pgm_plates.specs.declared.plate.PlateFault.TheVariants.{BadMagic, BadHeader, SideRange}
use Rattle.pgm_plates.specs.declared.plate.PlateFault.TheVariants.{TooManySamples, MaxvalRange}
use Rattle.pgm_plates.specs.Header.{IsGap, IsNumber, Numbers}
use Rattle.page_model.specs.Limits.{most_maxval}
use Rattle.pgm_plates.specs.Limits.{samples_within, side_within}
use Rattle.pgm_plates.specs.Plates.{IsSideWithin}
use Rattle.pgm_plates.specs.Faults.{NumberFault, DecidesWithin}
use Rattle.pgm_plates.specs.Runs.{run}
use Rattle.pgm_plates.specs.Steps.{step}

-- the sides that are known, from the last to the first
abbrev pub past : Sides → List ℕ
past Neither = []
past (Width w) = w ∷ []
past (Both w h) = h ∷ w ∷ []

abbrev pub side_test : Bounds → ℕ → Bool
side_test bounds n = nat_lt 0 n && nat_le n (side_within bounds)

-- what is wrong with a number whose first digit is at that place, after these sides
abbrev pub number_fault : Bounds → Sides → ℕ → ℕ → Option PlateFault
number_fault bounds Neither n at = if side_test bounds n then None else Some (SideRange at)
number_fault bounds (Width w) n at = if side_test bounds n
    then (if nat_le (w * n) (samples_within bounds) then None else Some (TooManySamples at))
    else Some (SideRange at)
number_fault bounds (Both w h) n at =
    if nat_lt 0 n && nat_le n most_maxval then None else Some (MaxvalRange at)

-- the sides after one number more
abbrev pub sides_then : Sides → ℕ → Sides
sides_then Neither n = Width n
sides_then (Width w) n = Both w n
sides_then (Both w h) n = Both w h

abbrev pub header_fault : ℕ → PlateFault
header_fault at = if nat_lt at 2 then BadMagic at else BadHeader at

-- a number and one digit more, as far as a million
abbrev pub digit_more : ℕ → ℕ → ℕ
digit_more n b = min (n * 10 + (b - 48)) 1000000

abbrev pub judged : Option PlateFault → Scan → Result Scan PlateFault
judged None scan = Ok scan
judged (Some fault) scan = Err fault

-- from one stand to another, by the byte b at that place
abbrev pub entered : Bounds → HeaderState → HeaderState → Scan → ℕ → ℕ → Result Scan PlateFault
entered bounds Digits Digits scan b at = Ok
    (record {
      stand = Digits;
      sides = scan.sides;
      number = digit_more scan.number b;
      first = scan.first;
    })
entered bounds from Digits scan b at =
    Ok (record { stand = Digits; sides = scan.sides; number = digit_more 0 b; first = at })
entered bounds Digits to scan b at = judged (number_fault bounds scan.sides scan.number scan.first)
    (record {
      stand = to;
      sides = sides_then scan.sides scan.number;
      number = scan.number;
      first = scan.first;
    })
entered bounds from to scan b at =
    Ok (record { stand = to; sides = scan.sides; number = scan.number; first = scan.first })

abbrev pub stepped : Bounds → Option HeaderState → Scan → ℕ → ℕ → Result Scan PlateFault
stepped bounds None scan b at = Err (header_fault at)
stepped bounds (Some to) scan b at = entered bounds scan.stand to scan b at

abbrev pub scan_step_within : Bounds → Scan → ℕ → ℕ → Result Scan PlateFault
scan_step_within bounds scan b at =
    stepped bounds (step scan.stand (length (past scan.sides) + 1) b) scan b at

abbrev pub scan_step : Scan → ℕ → ℕ → Result Scan PlateFault
scan_step = scan_step_within Page

abbrev pub header_of : HeaderState → Sides → ℕ → Option Header
header_of Ended (Both w h) maxval = Some (record { width = w; height = h; maxval = maxval })
header_of stand sides maxval = None

-- The bytes end with the digits of a number, the first of them at that place, after these numbers.
pub record AtNumber (bytes : List ℕ) (at number : ℕ) (earlier : List ℕ) : Type 0 where
  pub prefix : List ℕ
  pub gap : List ℕ
  pub digits : List ℕ
  pub numbers : Numbers prefix earlier
  pub is_gap : IsGap gap
  pub is_number : IsNumber digits number
  pub place : length (prefix ++ gap) ≡ at
  pub whole : bytes ≡ prefix ++ gap ++ digits

-- what the fields of a scan stand for
abbrev pub Fits : HeaderState → Scan → List ℕ → List ℕ → Type 0
Fits Digits scan ns bytes = (n : ℕ) × (ns ≡ n ∷ past scan.sides) × (scan.number ≡ min n 1000000)
    × AtNumber bytes scan.first n (past scan.sides)
Fits Ended scan ns bytes = (w h : ℕ) × (scan.sides ≡ Both w h) × (ns ≡ scan.number ∷ h ∷ w ∷ [])
    × (0 < scan.number) × (scan.number ≤ most_maxval)
Fits other scan ns bytes = ns ≡ past scan.sides

abbrev pub InRange : Bounds → Sides → Type 0
InRange bounds Neither = Unit {0}
InRange bounds (Width w) = IsSideWithin bounds w
InRange bounds (Both w h) =
    IsSideWithin bounds w × IsSideWithin bounds h × (w * h ≤ samples_within bounds)

-- no moment up to that one decides a fault
abbrev pub IsClean : Bounds → List ℕ → ℕ → Type 0
IsClean bounds bytes end =
    (m : ℕ) (fault : PlateFault) → m < end → DecidesWithin bounds (take m bytes) fault → ⊥

-- The scan of these bytes, which have no fault before the last of them.
pub record ScannedWithin (bounds : Bounds) (bytes : List ℕ) (scan : Scan) : Type 0 where
  pub ns : List ℕ
  pub ran : run Start [] bytes ≡ Some (record { stand = scan.stand; numbers = ns })
  pub fits : Fits scan.stand scan ns bytes
  pub ranges : InRange bounds scan.sides
  pub early : IsClean bounds bytes (length bytes)
  pub numbered : (fault : PlateFault) → NumberFault bounds bytes fault → ⊥

abbrev pub Scanned : List ℕ → Scan → Type 0
Scanned = ScannedWithin Page
