-- The text of a set, piece by piece.
use Rattle.std.proofs.Common.{◌≡◌, ℕ, zero, suc, ◌+◌, ◌-◌, ◌*◌, ◌/◌, ◌%◌, ◌<◌, ◌≤◌, Bool, true, false, List, [], ◌∷◌, ◌++◌, length, take, drop, get_or, map, refl, sym, ap, ◌∙◌, arith, append_assoc, if◌then◌else◌}
use Rattle.std.specs.Prelude.{codes}
use Rattle.std.specs.List.{flat_map}
use Rattle.std.proofs.lemmas.List.{append-nil, drop_more, take-append-drop}
use Rattle.std.proofs.lemmas.Grind.{flat_map-append}
use Rattle.std.proofs.lemmas.List.Concat.{flat_map-cons}
use Rattle.std.proofs.lemmas.List.Folds.{flat_map-map}
use Rattle.std.proofs.lemmas.Nat.{div-mul-add, mod-mul-add}
use Rattle.page_model.specs.declared.parts.Plane.{Plane}
use Rattle.lists.specs.Words.{list_below}
use Rattle.lists.proofs.ListBelow.{list_below-add}
use Rattle.page_model.specs.Shapes.{wide, tall}
use Rattle.trap_set.specs.Runs.{Run, goes_on, begins, run_on, run_at, runs_below, trap_runs}
use Rattle.trap_set.specs.Rows.{run_text, row_text, rows_text}
use Rattle.trap_set.specs.SetText.{SetHead, number, title_line, page_line, run_line, end_line, head_of, set_text}

pub run_on_step : (old new : List Plane) (y i w : ℕ) → i < w → goes_on old new i y ≡ true → run_on old new y i (w - i) ≡ suc (run_on old new y (i + 1) (w - (i + 1)))
run_on_step old new y i w l t =
    let e : w - i ≡ suc (w - (i + 1)) = omega arith in
    let f : suc i ≡ i + 1 = omega arith in
    ap (run_on old new y i) e ∙ ap (λ (b : Bool). if b then suc (run_on old new y (suc i) (w - (i + 1))) else 0) t ∙ ap (λ (k : ℕ). suc (run_on old new y k (w - (i + 1)))) f

-- numbers one after another
pub numbers_rest : (xs : List ℕ) (i : ℕ) → i < length xs → flat_map number xs ≡ (flat_map number (take i xs) ++ number (get_or xs i 0)) ++ flat_map number (drop (i + 1) xs)
numbers_rest xs i l =
    let prefix = flat_map number (take i xs) in
    sym (ap (flat_map number) (take-append-drop i xs)) ∙ flat_map-append number (take i xs) (drop i xs) ∙ ap (λ (ys : List ℕ). prefix ++ flat_map number ys) (drop_more xs i 0 l)
    ∙ ap (λ (ys : List ℕ). prefix ++ ys) (flat_map-cons number (get_or xs i 0) (drop (i + 1) xs)) ∙ sym (append_assoc prefix (number (get_or xs i 0)) (flat_map number (drop (i + 1) xs)))

pub tints_next : (f : ℕ → ℕ) (c : ℕ) → flat_map number (list_below f (c + 1)) ≡ flat_map number (list_below f c) ++ number (f c)
tints_next f c =
    let e : c + 1 ≡ suc c = omega arith in
    ap (λ (k : ℕ). flat_map number (list_below f k)) e ∙ flat_map-append number (list_below f c) (f c ∷ [])
    ∙ ap (λ (ys : List ℕ). flat_map number (list_below f c) ++ ys) (flat_map-cons number (f c) [] ∙ append-nil (number (f c)))

pub tints_rest : (f : ℕ → ℕ) (c n : ℕ) → c < n → flat_map number (list_below f n) ≡ (flat_map number (list_below f c) ++ number (f c)) ++ flat_map number (list_below (λ i. f (c + 1 + i)) (n - (c + 1)))
tints_rest f c n l =
    let e : n ≡ c + 1 + (n - (c + 1)) = omega arith in
    ap (λ (k : ℕ). flat_map number (list_below f k)) e ∙ ap (flat_map number) (list_below-add f (c + 1) (n - (c + 1)))
    ∙ flat_map-append number (list_below f (c + 1)) (list_below (λ i. f (c + 1 + i)) (n - (c + 1)))
    ∙ ap (λ (ys : List ℕ). ys ++ flat_map number (list_below (λ i. f (c + 1 + i)) (n - (c + 1)))) (tints_next f c)

three_and_more : (r a b c t e : List ℕ) → (r ++ (a ++ (b ++ (c ++ [])))) ++ (t ++ e) ≡ ((((r ++ a) ++ b) ++ c) ++ t) ++ e
three_and_more r a b c t e = simp (append_assoc, append-nil)

pub run_line_is : (run : Run) → (codes "run" ++ flat_map number (run.y ∷ run.x ∷ run.count ∷ [])) ++ (flat_map number run.tints ++ 10 ∷ []) ≡ run_line run
run_line_is run = three_and_more (codes "run") (number run.y) (number run.x) (number run.count) (flat_map number run.tints) (10 ∷ [])

-- a row, and the rows, one more
pub row_next : (old new : List Plane) (y x : ℕ) → row_text old new y (x + 1) ≡ row_text old new y x ++ run_text old new y x
row_next old new y x = (let e : x + 1 ≡ suc x = omega arith in ap (row_text old new y) e)

pub row_rest : (old new : List Plane) (y x m : ℕ) → (rest : List ℕ) × (row_text old new y (x + m) ≡ row_text old new y x ++ rest)
row_rest old new y x zero = ([], (let e : x + 0 ≡ x = omega arith in ap (row_text old new y) e ∙ sym (append-nil (row_text old new y x))))
row_rest old new y x (suc m) =
    let before = row_rest old new y x m in
    let e : x + suc m ≡ suc (x + m) = omega arith in
    (before.0 ++ run_text old new y (x + m), ap (row_text old new y) e ∙ ap (λ (ys : List ℕ). ys ++ run_text old new y (x + m)) before.1 ∙ append_assoc (row_text old new y x) before.0 (run_text old new y (x + m)))

pub row_after : (old new : List Plane) (y x w : ℕ) → x < w → (rest : List ℕ) × (row_text old new y w ≡ (row_text old new y x ++ run_text old new y x) ++ rest)
row_after old new y x w l =
    let more = row_rest old new y (x + 1) (w - (x + 1)) in
    let e : w ≡ x + 1 + (w - (x + 1)) = omega arith in
    (more.0, ap (row_text old new y) e ∙ more.1 ∙ ap (λ (ys : List ℕ). ys ++ more.0) (row_next old new y x))

pub rows_next : (old new : List Plane) (y : ℕ) → rows_text old new (y + 1) ≡ rows_text old new y ++ row_text old new y (wide old)
rows_next old new y = (let e : y + 1 ≡ suc y = omega arith in ap (rows_text old new) e)

pub rows_rest : (old new : List Plane) (y m : ℕ) → (rest : List ℕ) × (rows_text old new (y + m) ≡ rows_text old new y ++ rest)
rows_rest old new y zero = ([], (let e : y + 0 ≡ y = omega arith in ap (rows_text old new) e ∙ sym (append-nil (rows_text old new y))))
rows_rest old new y (suc m) =
    let before = rows_rest old new y m in
    let e : y + suc m ≡ suc (y + m) = omega arith in
    (before.0 ++ row_text old new (y + m) (wide old), ap (rows_text old new) e ∙ ap (λ (ys : List ℕ). ys ++ row_text old new (y + m) (wide old)) before.1 ∙ append_assoc (rows_text old new y) before.0 (row_text old new (y + m) (wide old)))

pub rows_after : (old new : List Plane) (y h : ℕ) → y < h → (rest : List ℕ) × (rows_text old new h ≡ (rows_text old new y ++ row_text old new y (wide old)) ++ rest)
rows_after old new y h l =
    let more = rows_rest old new (y + 1) (h - (y + 1)) in
    let e : h ≡ y + 1 + (h - (y + 1)) = omega arith in
    (more.0, ap (rows_text old new) e ∙ more.1 ∙ ap (λ (ys : List ℕ). ys ++ more.0) (rows_next old new y))

-- the first two lines, in the pieces in which they are put
pub head_is : (head : SetHead) → ((title_line ++ codes "page") ++ flat_map number (head.width ∷ head.height ∷ head.maxval ∷ [])) ++ ((codes " plates" ++ number head.plates) ++ 10 ∷ []) ≡ title_line ++ page_line head
head_is head =
    ap (λ (ys : List ℕ). ((title_line ++ codes "page") ++ flat_map number (head.width ∷ head.height ∷ head.maxval ∷ [])) ++ ys) (append_assoc (codes " plates") (number head.plates) (10 ∷ []))
    ∙ whole title_line (codes "page") (number head.width) (number head.height) (number head.maxval) (codes " plates") (number head.plates) (10 ∷ []) where
      whole : (t p w h m n k e : List ℕ) → ((t ++ p) ++ (w ++ (h ++ (m ++ [])))) ++ (n ++ (k ++ e)) ≡ t ++ ((((((p ++ w) ++ h) ++ m) ++ n) ++ k) ++ e)
      whole t p w h m n k e = simp (append_assoc, append-nil)

-- the lines of all runs, row by row
one_line : (run : Run) (b : Bool) → flat_map run_line (if b then run ∷ [] else []) ≡ (if b then run_line run else [])
one_line run true = append-nil (run_line run)
one_line run false = refl

row_are : (old new : List Plane) (y x : ℕ) → x ≤ wide old → flat_map run_line (runs_below old new (y * wide old + x)) ≡ flat_map run_line (runs_below old new (y * wide old)) ++ row_text old new y x
row_are old new y zero l = (let e : y * wide old + 0 ≡ y * wide old = omega arith in ap (λ (n : ℕ). flat_map run_line (runs_below old new n)) e ∙ sym (append-nil (flat_map run_line (runs_below old new (y * wide old)))))
row_are old new y (suc x) l =
    let w = wide old in
    let n = y * w + x in
    let e : y * w + suc x ≡ suc n = omega arith in
    let across : n % w ≡ x = mod-mul-add y w x (omega arith) in
    let down : n / w ≡ y = div-mul-add y w x (omega arith) in
    ap (λ (k : ℕ). flat_map run_line (runs_below old new k)) e
    ∙ flat_map-append run_line (runs_below old new n) (if begins old new (n % w) (n / w) then run_at old new (n % w) (n / w) ∷ [] else [])
    ∙ ap (λ (ys : List ℕ). flat_map run_line (runs_below old new n) ++ ys) (one_line (run_at old new (n % w) (n / w)) (begins old new (n % w) (n / w)) ∙ ap (λ (i : ℕ). run_text old new (n / w) i) across ∙ ap (λ (r : ℕ). run_text old new r x) down)
    ∙ ap (λ (ys : List ℕ). ys ++ run_text old new y x) (row_are old new y x (omega arith))
    ∙ append_assoc (flat_map run_line (runs_below old new (y * w))) (row_text old new y x) (run_text old new y x)

rows_are : (old new : List Plane) (y : ℕ) → flat_map run_line (runs_below old new (y * wide old)) ≡ rows_text old new y
rows_are old new zero = (let e : 0 * wide old ≡ 0 = omega arith in ap (λ (n : ℕ). flat_map run_line (runs_below old new n)) e)
rows_are old new (suc y) =
    let e : suc y * wide old ≡ y * wide old + wide old = omega arith in
    ap (λ (n : ℕ). flat_map run_line (runs_below old new n)) e ∙ row_are old new y (wide old) (omega arith) ∙ ap (λ (ys : List ℕ). ys ++ row_text old new y (wide old)) (rows_are old new y)

runs_are : (old new : List Plane) → flat_map run_line (trap_runs old new) ≡ rows_text old new (tall old)
runs_are old new = (let e : wide old * tall old ≡ tall old * wide old = omega arith in ap (λ (n : ℕ). flat_map run_line (runs_below old new n)) e ∙ rows_are old new (tall old))

four : (t p r e : List ℕ) → ((t ++ p) ++ r) ++ e ≡ t ++ (p ++ (r ++ (e ++ [])))
four t p r e = simp (append_assoc, append-nil)

pub set_is : (old new : List Plane) → ((title_line ++ page_line (head_of old)) ++ rows_text old new (tall old)) ++ end_line ≡ set_text old new
set_is old new =
    let lines = map run_line (trap_runs old new) in
    let joined : flat_map (λ (text : List ℕ). text) (lines ++ end_line ∷ []) ≡ rows_text old new (tall old) ++ (end_line ++ []) =
    flat_map-append (λ (text : List ℕ). text) lines (end_line ∷ [])
    ∙ ap (λ (ys : List ℕ). ys ++ (end_line ++ [])) (flat_map-map (λ (text : List ℕ). text) run_line (trap_runs old new) ∙ runs_are old new) in
    four title_line (page_line (head_of old)) (rows_text old new (tall old)) end_line
    ∙ ap (λ (ys : List ℕ). title_line ++ (page_line (head_of old) ++ ys)) (sym joined)
