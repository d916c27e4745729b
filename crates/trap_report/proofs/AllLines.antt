-- The first lines of zones and of plates begin all of them.
use Rattle.std.proofs.Common.{◌≡◌, ℕ, zero, suc, ◌+◌, ◌-◌, ◌≤◌, List, [], ◌++◌, slice_index, sym, ap, ◌∙◌, arith, append_assoc}
use Rattle.std.proofs.lemmas.List.{append-nil}
use Rattle.page_model.specs.declared.parts.Counts.{Counts}
use Rattle.page_model.specs.declared.parts.PageParts.{PageParts}
use Rattle.page_model.specs.Page.{ink_at}
use Rattle.trap_report.specs.Report.{plate_line, plate_lines, zone_line, zone_lines}

zones_more : (counts : Counts) (n m : ℕ) → (rest : List ℕ) × (zone_lines counts n ++ rest ≡ zone_lines counts (n + m))
zones_more counts n zero = ([], append-nil (zone_lines counts n) ∙ ap (zone_lines counts) (let e : n ≡ n + 0 = omega arith in e))
zones_more counts n (suc m) =
    let here = zones_more counts n m in
    let last = zone_line (n + m) (slice_index counts.zone_samples (n + m)) (slice_index counts.zone_changed (n + m)) in
    (here.0 ++ last, sym (append_assoc (zone_lines counts n) here.0 last) ∙ ap (λ (text : List ℕ). text ++ last) here.1 ∙ ap (zone_lines counts) (let e : suc (n + m) ≡ n + suc m = omega arith in e))

pub zones_from : (counts : Counts) (n all : ℕ) → n ≤ all → (rest : List ℕ) × (zone_lines counts n ++ rest ≡ zone_lines counts all)
zones_from counts n all l =
    let more = zones_more counts n (all - n) in
    (more.0, more.1 ∙ ap (zone_lines counts) (let e : n + (all - n) ≡ all = omega (arith, l) in e))

plates_more : (sheet : PageParts) (counts : Counts) (n m : ℕ) → (rest : List ℕ) × (plate_lines sheet counts n ++ rest ≡ plate_lines sheet counts (n + m))
plates_more sheet counts n zero = ([], append-nil (plate_lines sheet counts n) ∙ ap (plate_lines sheet counts) (let e : n ≡ n + 0 = omega arith in e))
plates_more sheet counts n (suc m) =
    let here = plates_more sheet counts n m in
    let last = plate_line (ink_at sheet (n + m)).name (slice_index counts.plate_changed (n + m)) in
    (here.0 ++ last, sym (append_assoc (plate_lines sheet counts n) here.0 last) ∙ ap (λ (text : List ℕ). text ++ last) here.1 ∙ ap (plate_lines sheet counts) (let e : suc (n + m) ≡ n + suc m = omega arith in e))

pub plates_from : (sheet : PageParts) (counts : Counts) (n all : ℕ) → n ≤ all → (rest : List ℕ) × (plate_lines sheet counts n ++ rest ≡ plate_lines sheet counts all)
plates_from sheet counts n all l =
    let more = plates_more sheet counts n (all - n) in
    (more.0, more.1 ∙ ap (plate_lines sheet counts) (let e : n + (all - n) ≡ all = omega (arith, l) in e))

-- Texts one after the other, however they are put together.
l2 : (a b z : List ℕ) → a ++ (b ++ z) ≡ a ++ b ++ z
l2 a b z = sym (append_assoc a b z)

-- the line of a plate, in two parts
pub plate_parts : (a b c d z : List ℕ) → a ++ b ++ (c ++ d ++ z) ≡ a ++ b ++ c ++ d ++ z
plate_parts a b c d z = l2 (a ++ b) (c ++ d) z ∙ ap (λ (t : List ℕ). t ++ z) (l2 (a ++ b) c d)
