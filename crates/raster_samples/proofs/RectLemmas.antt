-- Rows of a rectangle, read and written.
use Rattle.std.proofs.Common.{◌≡◌, ℕ, ◌+◌, ◌-◌, ◌*◌, ◌<◌, ◌≤◌, List, ◌++◌, cond, leb, length, take, get_or, inl, inr, refl, sym, ap, ◌∙◌, arith}
use Rattle.std.specs.Prelude.{Option, Some, None, MatchOption}
use Rattle.std.proofs.lemmas.Bool.{cases_eq, cond-true, le-leb}
use Rattle.std.proofs.lemmas.Bool.Decides.{nat_tests}
use Rattle.std.proofs.lemmas.List.{get_or_append_left, get_or-append_right, get_or-take, length-take}
use Rattle.std.proofs.lemmas.Nat.{mul-le}
use Rattle.raster_samples.specs.declared.raster.Raster.{Raster}
use Rattle.raster_samples.specs.declared.raster.Rectangle.{Rectangle}
use Rattle.raster_samples.specs.declared.raster.Zero.{Zero}
use Rattle.raster_samples.specs.declared.raster.Zero.TheVariants.{Paper, Ink}
use Rattle.raster_samples.specs.declared.run.Run.{Run}
use Rattle.raster_samples.specs.Strides.{backward, forward}
use Rattle.raster_samples.specs.Checks.{IsRaster}
use Rattle.raster_samples.specs.Places.{AreApart, Holds, IsAt, ahead, begins, behind}
use Rattle.raster_samples.specs.Reads.{AreRead, AreTints, IsFirstAbove, IsIn, sample_of, tint_of}
use Rattle.raster_samples.specs.Rows.{AreRowTints, IsFirstAboveIn, IsRowRead, IsRowWritten, IsTurned}
use Rattle.raster_samples.specs.Runs.{AreNumbers, IsOf, IsRunApart, IsRunIn, IsRunPut, place}
use Rattle.raster_samples.specs.Samples.{number_at, turned}
use Rattle.raster_samples.specs.Writes.{AreWritten}
use Rattle.raster_samples.proofs.PlaceLemmas.{bounds}
use Rattle.raster_samples.proofs.RunLemmas.{number_same}

-- a sample of the rectangle is one of the raster
pub is_at : (r : Raster) (rect : Rectangle) (y x : ℕ) → IsIn r rect → y < rect.height → x < rect.width → IsAt r rect.plane (rect.top + y) (rect.left + x)
is_at r rect y x h ly lx = record { plane = h.plane; row = omega (arith, h.down); column = omega (arith, h.across) }

-- the samples of row y of the rectangle
pub record IsRunOf (r : Raster) (rect : Rectangle) (y : ℕ) (run : Run) : Type 0 where
  pub from : run.from ≡ begins r rect.plane (rect.top + y) rect.left
  pub forward_is : run.forward ≡ forward r.pixels.stride
  pub back_is : run.back ≡ backward r.pixels.stride

-- its first sample is at the origin of the run, and needs no more room than the last
pub first_room : (r : Raster) (rect : Rectangle) (total y : ℕ) → IsRaster r total → IsIn r rect → y < rect.height → (behind r rect.plane (rect.top + y) rect.left ≤ r.origin) × (r.origin + ahead r rect.plane (rect.top + y) rect.left + r.sample_size ≤ total)
first_room r rect total y fits h ly =
    bounds r total rect.plane (rect.top + y) rect.left fits (record { plane = h.plane; row = omega (arith, h.down); column = omega (arith, h.wide, h.across) })

run_parts : (r : Raster) (rect : Rectangle) (run : Run) (total y x : ℕ) → IsRaster r total → IsIn r rect → y < rect.height → x < rect.width → IsRunOf r rect y run → (place run x ≡ begins r rect.plane (rect.top + y) (rect.left + x)) × (x * run.back ≤ run.from) × (run.from + x * run.forward + r.sample_size ≤ total)
run_parts r rect run total y x fits h ly lx is =
    let first = first_room r rect total y fits h ly in
    let here = bounds r total rect.plane (rect.top + y) (rect.left + x) fits (is_at r rect y x h ly lx) in
    let low = here.0 in
    let high = here.1 in
    let first_low = first.0 in
    let from = is.from in
    let steps : x * run.forward ≡ x * forward r.pixels.stride = ap (λ (n : ℕ). x * n) is.forward_is in
    let backs : x * run.back ≡ x * backward r.pixels.stride = ap (λ (n : ℕ). x * n) is.back_is in
    (omega arith, omega arith, omega arith)

pub run_in : (r : Raster) (rect : Rectangle) (run : Run) (total y count : ℕ) → IsRaster r total → IsIn r rect → y < rect.height → IsRunOf r rect y run → count ≡ rect.width → IsRunIn run r.sample_size count total
run_in r rect run total y count fits h ly is e = λ x lx. (
    let parts = run_parts r rect run total y x fits h ly (omega (arith, lx, e)) is in (parts.1, parts.2))

place_of : (r : Raster) (rect : Rectangle) (run : Run) (total y x : ℕ) → IsRaster r total → IsIn r rect → y < rect.height → x < rect.width → IsRunOf r rect y run → place run x ≡ begins r rect.plane (rect.top + y) (rect.left + x)
place_of r rect run total y x fits h ly lx is = (run_parts r rect run total y x fits h ly lx is).0

holds_of : (r : Raster) (rect : Rectangle) (run : Run) (total y x k : ℕ) → IsRaster r total → IsIn r rect → y < rect.height → x < rect.width → IsRunOf r rect y run → IsOf run r.sample_size x k → Holds r rect.plane (rect.top + y) (rect.left + x) k
holds_of r rect run total y x k fits h ly lx is of =
    let e = place_of r rect run total y x fits h ly lx is in
    record { from = omega (arith, e, of.from); to = omega (arith, e, of.to) }

pub run_apart : (r : Raster) (rect : Rectangle) (run : Run) (total y count : ℕ) → IsRaster r total → IsIn r rect → y < rect.height → IsRunOf r rect y run → count ≡ rect.width → AreApart r → IsRunApart run r.sample_size count
run_apart r rect run total y count fits h ly is e apart = λ x w k lx lw has had. (
    let nx : x < rect.width = omega (arith, lx, e) in
    let nw : w < rect.width = omega (arith, lw, e) in
    let same = apart rect.plane (rect.top + y) (rect.left + x) rect.plane (rect.top + y) (rect.left + w) k (is_at r rect y x h ly nx) (is_at r rect y w h ly nw) (holds_of r rect run total y x k fits h ly nx is has) (holds_of r rect run total y w k fits h ly nw is had) in
    omega (arith, same.2))

-- the numbers of the run are those of the row
numbers_of : (r : Raster) (rect : Rectangle) (run : Run) (total y count x : ℕ) (bytes numbers : List ℕ) → IsRaster r total → IsIn r rect → y < rect.height → IsRunOf r rect y run → count ≡ rect.width → AreNumbers run r.sample_size bytes count numbers → x < rect.width → get_or numbers x 0 ≡ sample_of r bytes rect y x
numbers_of r rect run total y count x bytes numbers fits h ly is e are lx =
    are x (omega (arith, e)) ∙ ap (number_at r.sample_size bytes) (place_of r rect run total y x fits h ly lx is)

pub row_tints : (r : Raster) (rect : Rectangle) (run : Run) (total y count : ℕ) (bytes numbers row : List ℕ) → IsRaster r total → IsIn r rect → y < rect.height → IsRunOf r rect y run → count ≡ rect.width → length numbers ≡ count → AreNumbers run r.sample_size bytes count numbers → IsTurned r.zero r.maxval numbers row → AreRowTints r bytes rect y row
row_tints r rect run total y count bytes numbers row fits h ly is e long are turned_row = λ x lx. turned_row x (omega (arith, lx, e, long)) ∙ ap (turned r.zero r.maxval) (numbers_of r rect run total y count x bytes numbers fits h ly is e are lx)

ink_low : (maxval n : ℕ) → cond (leb n maxval) (maxval - n) n ≤ maxval → n ≤ maxval
ink_low maxval n h = grind (arith, nat_tests)

ink_high : (maxval n : ℕ) → maxval < cond (leb n maxval) (maxval - n) n → maxval < n
ink_high maxval n h = grind (arith, nat_tests)

-- a tint is above the maxval where its number is
turned_low : (nought : Zero) (maxval n : ℕ) → turned nought maxval n ≤ maxval → n ≤ maxval
turned_low Paper maxval n h = h
turned_low Ink maxval n h = ink_low maxval n h

turned_high : (nought : Zero) (maxval n : ℕ) → maxval < turned nought maxval n → maxval < n
turned_high Paper maxval n h = h
turned_high Ink maxval n h = ink_high maxval n h

sample_low : (r : Raster) (bytes : List ℕ) (rect : Rectangle) (y x tint : ℕ) → tint ≡ tint_of r bytes rect y x → tint ≤ r.maxval → sample_of r bytes rect y x ≤ r.maxval
sample_low r bytes rect y x tint e l = turned_low r.zero r.maxval (sample_of r bytes rect y x) (omega (arith, e, l))

pub row_read : (r : Raster) (bytes : List ℕ) (rect : Rectangle) (y : ℕ) (row : List ℕ) → length row ≡ rect.width → AreRowTints r bytes rect y row → ((x : ℕ) → x < length row → get_or row x 0 ≤ r.maxval) → IsRowRead r bytes rect y row
row_read r bytes rect y row long are low = record {
  tint = are;
  fit = λ x lx. sample_low r bytes rect y x (get_or row x 0) (are x lx) (low x (omega (arith, lx, long)));
}

pub row_above : (r : Raster) (bytes : List ℕ) (rect : Rectangle) (y at : ℕ) (row : List ℕ) → length row ≡ rect.width → AreRowTints r bytes rect y row → at < length row → r.maxval < get_or row at 0 → ((x : ℕ) → x < at → get_or row x 0 ≤ r.maxval) → IsFirstAboveIn r bytes rect y at
row_above r bytes rect y at row long are l above before =
    let here : at < rect.width = omega (arith, l, long) in
    let same = are at here in
    record {
      column = here;
      above = turned_high r.zero r.maxval (sample_of r bytes rect y at) (omega (arith, same, above));
      columns = λ w lw. sample_low r bytes rect y w (get_or row w 0) (are w (omega (arith, lw, here))) (before w lw);
    }

-- what the search for a tint above the maxval says of the numbers
pub row_answer : (r : Raster) (bytes : List ℕ) (rect : Rectangle) (y : ℕ) (row : List ℕ) (found : Option ℕ) → length row ≡ rect.width → AreRowTints r bytes rect y row → MatchOption found ((x : ℕ) → x < length row → get_or row x 0 ≤ r.maxval) (λ at. (at < length row) × (r.maxval < get_or row at 0) × ((x : ℕ) → x < at → get_or row x 0 ≤ r.maxval)) → MatchOption found (IsRowRead r bytes rect y row) (λ x. IsFirstAboveIn r bytes rect y x)
row_answer r bytes rect y row None long are low = row_read r bytes rect y row long are low
row_answer r bytes rect y row (Some at) long are found = row_above r bytes rect y at row long are found.0 found.1 found.2

ink_twice : (maxval n : ℕ) → n ≤ maxval → turned Ink maxval (turned Ink maxval n) ≡ n
ink_twice maxval n l =
    let once : turned Ink maxval n ≡ maxval - n = cond-true (leb n maxval) (maxval - n) n (le-leb n maxval l) in
    ap (turned Ink maxval) once ∙ (cond-true (leb (maxval - n) maxval) (maxval - (maxval - n)) (maxval - n) (le-leb (maxval - n) maxval (omega arith)) ∙ omega arith)

turned_twice : (nought : Zero) (maxval n : ℕ) → n ≤ maxval → turned nought maxval (turned nought maxval n) ≡ n
turned_twice Paper maxval n l = refl
turned_twice Ink maxval n l = ink_twice maxval n l

pub row_written : (r : Raster) (rect : Rectangle) (run : Run) (total y count : ℕ) (row before after : List ℕ) → IsRaster r total → IsIn r rect → y < rect.height → IsRunOf r rect y run → count ≡ rect.width → ((x : ℕ) → x < count → get_or row x 0 ≤ r.maxval) → IsRunPut run r.sample_size r.zero r.maxval row count before after → IsRowWritten r row rect y before after
row_written r rect run total y count row before after fits h ly is e low put = record {
  tint = λ x lx. (
      let place_is = place_of r rect run total y x fits h ly lx is in
      ap (λ (p : ℕ). turned r.zero r.maxval (number_at r.sample_size after p)) (sym place_is)
      ∙ (ap (turned r.zero r.maxval) (put.numbers x (omega (arith, lx, e)))
      ∙ turned_twice r.zero r.maxval (get_or row x 0) (low x (omega (arith, lx, e)))));
  others = λ k none. put.others k (λ x lx of. none x (omega (arith, lx, e)) (holds_of r rect run total y x k fits h ly (omega (arith, lx, e)) is of));
}

-- a row put into a list, with any items behind it
abbrev pub put : ℕ → List ℕ → List ℕ → List ℕ → List ℕ
put from row rest xs = take from xs ++ (row ++ rest)

put_here : (xs row rest : List ℕ) (a x : ℕ) → a + length row ≤ length xs → x < length row → get_or (put a row rest xs) (a + x) 0 ≡ get_or row x 0
put_here xs row rest a x within l =
    let prefix : length (take a xs) ≡ a = omega (arith, length-take a xs) in
    let back : a + x - a ≡ x = omega arith in
    get_or-append_right (take a xs) (row ++ rest) a (a + x) 0 prefix (omega arith)
    ∙ (ap (λ (n : ℕ). get_or (row ++ rest) n 0) back
    ∙ get_or_append_left row rest 0 x l)

put_before : (xs row rest : List ℕ) (a k : ℕ) → a + length row ≤ length xs → k < a → get_or (put a row rest xs) k 0 ≡ get_or xs k 0
put_before xs row rest a k within l =
    let prefix : length (take a xs) ≡ a = omega (arith, length-take a xs) in
    get_or_append_left (take a xs) (row ++ rest) 0 k (omega (arith, prefix, l)) ∙ get_or-take a xs k 0 l

pub rows_before : (y z width : ℕ) → z < y → z * width + width ≤ y * width
rows_before y z width l = (let m : (z + 1) * width ≤ y * width = mul-le (z + 1) width y width (omega arith) (omega arith) in omega arith)

-- one more row is copied
pub row_copied : (r : Raster) (bytes : List ℕ) (rect : Rectangle) (y : ℕ) (tints row rest : List ℕ) → y * rect.width + length row ≤ length tints → length row ≡ rect.width → AreTints r bytes rect y tints → AreRowTints r bytes rect y row → AreTints r bytes rect (y + 1) (put (y * rect.width) row rest tints)
row_copied r bytes rect y tints row rest room long h new = λ z x lz lx. elim (cases_eq z y) [
  | inl same ↦ rw same (put_here tints row rest (y * rect.width) x room (omega (arith, lx, long)) ∙ new x lx)
  | inr other ↦ put_before tints row rest (y * rect.width) (z * rect.width + x) room (omega (arith, lx, rows_before y z rect.width (omega (arith, lz, other)))) ∙ h z x (omega (arith, lz, other)) lx
]

-- one more row is read
pub row_more : (r : Raster) (bytes : List ℕ) (rect : Rectangle) (y : ℕ) (tints row rest : List ℕ) → y * rect.width + length row ≤ length tints → length row ≡ rect.width → AreRead r bytes rect y tints → IsRowRead r bytes rect y row → AreRead r bytes rect (y + 1) (put (y * rect.width) row rest tints)
row_more r bytes rect y tints row rest room long h new = record {
  tint = row_copied r bytes rect y tints row rest room long h.tint new.tint;
  fit = λ z x lz lx. elim (cases_eq z y) [
    | inl same ↦ rw same (new.fit x lx)
    | inr other ↦ h.fit z x (omega (arith, lz, other)) lx
  ];
}

pub first_above_in : (r : Raster) (bytes : List ℕ) (rect : Rectangle) (y x : ℕ) (tints : List ℕ) → y < rect.height → AreRead r bytes rect y tints → IsFirstAboveIn r bytes rect y x → IsFirstAbove r bytes rect y x
first_above_in r bytes rect y x tints ly h at = record {
  row = ly;
  column = at.column;
  above = at.above;
  rows = h.fit;
  columns = at.columns;
}

-- one more row is written
pub row_put : (r : Raster) (rect : Rectangle) (total y : ℕ) (tints row before now after : List ℕ) → IsRaster r total → IsIn r rect → AreApart r → y < rect.height → ((x : ℕ) → x < rect.width → get_or row x 0 ≡ get_or tints (y * rect.width + x) 0) → AreWritten r tints rect y before now → IsRowWritten r row rect y now after → AreWritten r tints rect (y + 1) before after
row_put r rect total y tints row before now after fits h apart ly is old new = record {
  tint = λ z x lz lx. elim (cases_eq z y) [
    | inl same ↦ rw same (new.tint x lx ∙ is x lx)
    | inr other ↦ (
        let lz2 : z < rect.height = omega (arith, lz, ly) in
        ap (turned r.zero r.maxval) (number_same r.sample_size after now (begins r rect.plane (rect.top + z) (rect.left + x)) fits.sized (λ k from to. new.others k (λ w lw has. other (
        let same = apart rect.plane (rect.top + z) (rect.left + x) rect.plane (rect.top + y) (rect.left + w) k (is_at r rect z x h lz2 lx) (is_at r rect y w h ly lw) (record { from = from; to = to }) has in
        omega (arith, same.1)))))
        ∙ old.tint z x (omega (arith, lz, other)) lx)
  ];
  others = λ k none. new.others k (λ x lx. none y x (omega arith) lx) ∙ old.others k (λ z x lz lx. none z x (omega (arith, lz)) lx);
}
