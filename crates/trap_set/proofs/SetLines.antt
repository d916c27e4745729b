-- The lines of a set, against those of a text: a text has one set, and one first bad line.
use Rattle.std.proofs.Common.{◌≡◌, ℕ, zero, suc, ◌+◌, ◌-◌, ◌≤◌, List, [], ◌∷◌, ◌++◌, length, take, drop, map, get_or, refl, sym, ap, ◌∙◌, subst, arith, append_assoc}
use Rattle.std.specs.List.{All}
use Rattle.std.proofs.lemmas.List.{append-nil, length-append, get_or_append_left, get_or-append_right}
use Rattle.std.proofs.lemmas.List.Elements.{All-nil, All-cons, All-append}
use Rattle.trap_set.specs.Lines.{IsLine, BeginSet, BeginsSome, IsBadLine, lines_of}
use Rattle.trap_set.specs.Runs.{Run}
use Rattle.trap_set.specs.SetText.{SetHead, IsHead, IsRun, IsSet, IsSetFile, Follows, title_line, page_line, run_line, end_line, set_lines}
use Rattle.trap_set.specs.Standing.{begun_lines}
use Rattle.trap_set.proofs.LineLemmas.{same_head, same_run, short_head, short_run, numbers_of}
use Rattle.trap_set.proofs.EndLemmas.{joined, lines_of_line, lines_of_lines, first_of_lines, nothing_left, title_is_line, page_is_line, run_is_line, end_is_line, run_below}

-- the line of a run is no last line, and that of no other run
not_end : (run : Run) → run_line run ≡ end_line → ⊥
not_end run e = (let f : 114 ≡ 101 = ap (λ (bs : List ℕ). get_or bs 0 0) e in omega (arith, f))

pub one_run : (head : SetHead) (a b : Run) → IsHead head → IsRun head a → IsRun head b → run_line a ≡ run_line b → a ≡ b
one_run head a b h is_a is_b e =
    same_run (numbers_of a) b (head.plates + 3) (omega (arith, is_a.one_each)) (omega arith) (run_below head a h is_a) (short_run head b (head.plates + 3) h is_b refl) e

first_line : (a b : List ℕ) (xs ys : List (List ℕ)) → a ∷ xs ≡ b ∷ ys → a ≡ b
first_line a b xs ys e = ap (λ (ls : List (List ℕ)). get_or ls 0 []) e

other_lines : (a b : List ℕ) (xs ys : List (List ℕ)) → a ∷ xs ≡ b ∷ ys → xs ≡ ys
other_lines a b xs ys e = ap (λ (ls : List (List ℕ)). drop 1 ls) e

-- what the lines of two sets have in common
module _ (head : SetHead) (is_head : IsHead head) where
  -- the runs are the first of the others, and the lines after them those of the rest
  abbrev pub GoesOn : List Run → List Run → List (List ℕ) → List (List ℕ) → Type 0
  GoesOn runs others ls ms = (more : List Run) × (others ≡ runs ++ more) × (ls ≡ map run_line more ++ end_line ∷ ms)

  pub split_of : (runs others : List Run) (ls ms : List (List ℕ)) → All (IsRun head) runs → All (IsRun head) others → map run_line runs ++ ls ≡ map run_line others ++ end_line ∷ ms → GoesOn runs others ls ms
  split_of [] others ls ms h g e = (others, refl, e)
  split_of (a ∷ runs) [] ls ms h g e = absurd (not_end a (first_line (run_line a) end_line (map run_line runs ++ ls) ms e))
  split_of (a ∷ runs) (b ∷ others) ls ms h g e =
      let same = one_run head a b is_head (h 0 a (omega arith)) (g 0 b (omega arith)) (first_line (run_line a) (run_line b) (map run_line runs ++ ls) (map run_line others ++ end_line ∷ ms) e) in
      let later = split_of runs others ls ms (λ k d l. h (suc k) d (omega arith)) (λ k d l. g (suc k) d (omega arith)) (other_lines (run_line a) (run_line b) (map run_line runs ++ ls) (map run_line others ++ end_line ∷ ms) e) in
      (later.0, ap (λ (r : Run). r ∷ others) (sym same) ∙ ap (λ (rs : List Run). a ∷ rs) later.1, later.2)

  -- the same of their first lines, one after the runs
  abbrev pub MayGoOn : List Run → List Run → List (List ℕ) → Type 0
  MayGoOn runs others ls = (more : List Run) × (others ≡ runs ++ more) × (take 1 ls ≡ take 1 (map run_line more ++ end_line ∷ []))

  pub next_of : (runs others : List Run) (ls : List (List ℕ)) → All (IsRun head) runs → All (IsRun head) others → take (suc (length runs)) (map run_line runs ++ ls) ≡ take (suc (length runs)) (map run_line others ++ end_line ∷ []) → MayGoOn runs others ls
  next_of [] others ls h g e = (others, refl, e)
  next_of (a ∷ runs) [] ls h g e = absurd (not_end a (first_line (run_line a) end_line (take (suc (length runs)) (map run_line runs ++ ls)) (take (suc (length runs)) []) e))
  next_of (a ∷ runs) (b ∷ others) ls h g e =
      let xs = take (suc (length runs)) (map run_line runs ++ ls) in
      let ys = take (suc (length runs)) (map run_line others ++ end_line ∷ []) in
      let same = one_run head a b is_head (h 0 a (omega arith)) (g 0 b (omega arith)) (first_line (run_line a) (run_line b) xs ys e) in
      let later = next_of runs others ls (λ k d l. h (suc k) d (omega arith)) (λ k d l. g (suc k) d (omega arith)) (other_lines (run_line a) (run_line b) xs ys e) in
      (later.0, ap (λ (r : Run). r ∷ others) (sym same) ∙ ap (λ (rs : List Run). a ∷ rs) later.1, later.2)

  -- the lines of a set are lines
  runs_are_lines : (runs : List Run) → All (IsRun head) runs → All IsLine (map run_line runs)
  runs_are_lines [] h = All-nil IsLine
  runs_are_lines (run ∷ runs) h = All-cons IsLine (run_line run) (map run_line runs) (run_is_line head run is_head (h 0 run (omega arith))).0 (runs_are_lines runs (λ k d l. h (suc k) d (omega arith)))

  pub begun_are_lines : (runs : List Run) → All (IsRun head) runs → All IsLine (begun_lines head runs)
  begun_are_lines runs h = All-cons IsLine title_line (page_line head ∷ map run_line runs) title_is_line.0 (All-cons IsLine (page_line head) (map run_line runs) (page_is_line head is_head).0 (runs_are_lines runs h))

  pub set_are_lines : (runs : List Run) → All (IsRun head) runs → All IsLine (set_lines head runs)
  set_are_lines runs h = All-append IsLine (begun_lines head runs) (end_line ∷ []) (begun_are_lines runs h) (All-cons IsLine end_line [] end_is_line.0 (All-nil IsLine))

  pub lines_begun : (bytes rest : List ℕ) (runs : List Run) → All (IsRun head) runs → bytes ≡ joined (begun_lines head runs) ++ rest → lines_of bytes ≡ title_line ∷ page_line head ∷ (map run_line runs ++ lines_of rest)
  lines_begun bytes rest runs h e = ap lines_of e ∙ lines_of_lines (begun_lines head runs) rest (begun_are_lines runs h)

pub lines_whole : (bytes : List ℕ) (head : SetHead) (runs : List Run) → IsSetFile bytes head runs → lines_of bytes ≡ title_line ∷ page_line head ∷ (map run_line runs ++ end_line ∷ [] ∷ [])
lines_whole bytes head runs file =
    ap lines_of (file.text ∙ sym (append-nil (joined (set_lines head runs)))) ∙ lines_of_lines (set_lines head runs) [] (set_are_lines head file.is_set.in_range runs file.is_set.within)
    ∙ ap (λ (ls : List (List ℕ)). title_line ∷ page_line head ∷ ls) (append_assoc (map run_line runs) (end_line ∷ []) ([] ∷ []))

-- page lines of heads in range
pub one_head : (a b : SetHead) → IsHead a → IsHead b → page_line a ≡ page_line b → a ≡ b
one_head a b h g e = same_head a b (short_head a h) (short_head b g) e

heads_of : (a b : SetHead) (xs ys : List (List ℕ)) → IsHead a → IsHead b → title_line ∷ page_line a ∷ xs ≡ title_line ∷ page_line b ∷ ys → (a ≡ b) × (xs ≡ ys)
heads_of a b xs ys h g e =
    let inner = other_lines title_line title_line (page_line a ∷ xs) (page_line b ∷ ys) e in
    (one_head a b h g (first_line (page_line a) (page_line b) xs ys inner), other_lines (page_line a) (page_line b) xs ys inner)

-- a text has one set
pub one_set : (bytes : List ℕ) (a b : SetHead) (runs others : List Run) → IsSetFile bytes a runs → IsSetFile bytes b others → (a ≡ b) × (runs ≡ others)
one_set bytes a b runs others one other =
    let heads = heads_of a b (map run_line runs ++ end_line ∷ [] ∷ []) (map run_line others ++ end_line ∷ [] ∷ []) one.is_set.in_range other.is_set.in_range (sym (lines_whole bytes a runs one) ∙ lines_whole bytes b others other) in
    let within : All (IsRun a) others = subst (λ (head : SetHead). All (IsRun head) others) (sym heads.0) other.is_set.within in
    let found = split_of a one.is_set.in_range runs others (end_line ∷ [] ∷ []) ([] ∷ []) one.is_set.within within heads.1 in
    (heads.0, by found.0 found.1 found.2) where
      by : (more : List Run) → others ≡ runs ++ more → end_line ∷ [] ∷ [] ≡ map run_line more ++ end_line ∷ [] ∷ [] → runs ≡ others
      by [] e f = sym (e ∙ append-nil runs)
      by (run ∷ more) e f = absurd (not_end run (sym (first_line end_line (run_line run) ([] ∷ []) (map run_line more ++ end_line ∷ [] ∷ []) f)))

-- The first bad line. Before the first.
pub begin_none : (bytes : List ℕ) → BeginsSome bytes 0
begin_none bytes = (least, [], record { is_set = record { in_range = least_head; within = All-nil (IsRun least); ascend = λ i j d l m. absurd (omega (arith, m)) }; there = omega arith; same = refl }) where
  least : SetHead
  least = record { width = 1; height = 1; maxval = 1; plates = 1 }

  least_head : IsHead least
  least_head = record { some_width = omega arith; narrow = omega arith; some_height = omega arith; low = omega arith; some_maxval = omega arith; maxval_fits = omega arith; some_plates = omega arith; few_plates = omega arith; few_samples = omega arith }

pub bad_title : (bytes : List ℕ) → ((more : List ℕ) → bytes ≡ title_line ++ more → ⊥) → IsBadLine bytes 0
bad_title bytes none = record { no_set = no_set; before = begin_none bytes; bad = bad } where
  stuck : take 1 (lines_of bytes) ≡ title_line ∷ [] → ⊥
  stuck e = (let found = first_of_lines bytes title_line title_is_line.0 e in none found.0 found.1)

  no_set : (head : SetHead) (runs : List Run) → IsSetFile bytes head runs → ⊥
  no_set head runs file = stuck (ap (take 1) (lines_whole bytes head runs file))

  bad : BeginsSome bytes 1 → ⊥
  bad (head, runs, b) = stuck b.same

pub empty_set : (head : SetHead) → IsHead head → IsSet head []
empty_set head h = record { in_range = h; within = All-nil (IsRun head); ascend = λ i j d l m. absurd (omega (arith, m)) }

pub bad_page : (bytes rest : List ℕ) → bytes ≡ title_line ++ rest → ((head : SetHead) (more : List ℕ) → IsHead head → rest ≡ page_line head ++ more → ⊥) → IsBadLine bytes 1
bad_page bytes rest is none = record { no_set = no_set; before = before; bad = bad } where
  lines : lines_of bytes ≡ title_line ∷ lines_of rest
  lines = ap lines_of is ∙ lines_of_line title_line rest title_is_line.0

  stuck : (head : SetHead) → IsHead head → take 1 (lines_of rest) ≡ page_line head ∷ [] → ⊥
  stuck head h e = (let found = first_of_lines rest (page_line head) (page_is_line head h).0 e in none head found.0 h found.1)

  no_set : (head : SetHead) (runs : List Run) → IsSetFile bytes head runs → ⊥
  no_set head runs file = stuck head file.is_set.in_range (ap (take 1) (other_lines title_line title_line (lines_of rest) (page_line head ∷ (map run_line runs ++ end_line ∷ [] ∷ [])) (sym lines ∙ lines_whole bytes head runs file)))

  bad : BeginsSome bytes 2 → ⊥
  bad (head, runs, b) = stuck head b.is_set.in_range (other_lines title_line title_line (take 1 (lines_of rest)) (page_line head ∷ []) (sym (ap (take 2) lines) ∙ b.same))

  before : BeginsSome bytes 1
  before = (let none_yet = begin_none bytes in (none_yet.0, none_yet.1, record { is_set = none_yet.2.is_set; there = omega arith; same = ap (take 1) lines }))

-- after some runs
take_runs : (runs : List Run) (ls : List (List ℕ)) → take (length runs) (map run_line runs ++ ls) ≡ map run_line runs
take_runs [] ls = refl
take_runs (run ∷ runs) ls = ap (λ (xs : List (List ℕ)). run_line run ∷ xs) (take_runs runs ls)

pub runs_count : (runs : List Run) → length (map run_line runs) ≡ length runs
runs_count [] = refl
runs_count (run ∷ runs) = ap suc (runs_count runs)

lines_count : (head : SetHead) (runs : List Run) → length (set_lines head runs) ≡ length runs + 3
lines_count head runs = omega (arith, length-append (map run_line runs) (end_line ∷ []), runs_count runs)

-- a set whose runs begin with these, and go on with another, is one in which the other may come
pub prefix_of_set : (head : SetHead) (runs more : List Run) (run : Run) → IsSet head (runs ++ run ∷ more) → IsRun head run × All (λ earlier. Follows earlier run) runs
prefix_of_set head runs more run set = (
  subst (IsRun head) (get_or-append_right runs (run ∷ more) (length runs) (length runs) run refl (omega arith) ∙ ap (λ (i : ℕ). get_or (run ∷ more) i run) (let z : length runs - length runs ≡ 0 = omega arith in z)) (set.within (length runs) run (omega (arith, length-append runs (run ∷ more)))),
  λ k d l.
      (let pair = set.ascend k (length runs) d l (omega (arith, length-append runs (run ∷ more))) in
      let first = get_or_append_left runs (run ∷ more) d k l in
      let last = get_or-append_right runs (run ∷ more) (length runs) (length runs) d refl (omega arith) ∙ ap (λ (i : ℕ). get_or (run ∷ more) i d) (let z : length runs - length runs ≡ 0 = omega arith in z) in
      subst (λ (r : Run). Follows r run) first (subst (λ (r : Run). Follows (get_or (runs ++ run ∷ more) k d) r) last pair)),
)

module _ (bytes rest : List ℕ) (head : SetHead) (runs : List Run) (set : IsSet head runs) where
  -- the lines of a text that begins with the lines of these runs
  abbrev pub Begun : Type 0
  Begun = bytes ≡ joined (begun_lines head runs) ++ rest

  lines_here : Begun → lines_of bytes ≡ title_line ∷ page_line head ∷ (map run_line runs ++ lines_of rest)
  lines_here is = lines_begun head set.in_range bytes rest runs set.within is

  pub begins_runs : Begun → BeginSet bytes (suc (suc (length runs))) head runs
  begins_runs is = record {
    is_set = set;
    there = omega (arith, lines_count head runs);
    same = ap (take (suc (suc (length runs)))) (lines_here is) ∙ ap (λ (ls : List (List ℕ)). title_line ∷ page_line head ∷ ls) (take_runs runs (lines_of rest) ∙ sym (take_runs runs (end_line ∷ [])));
  }

  pub bad_run : Begun → ((more : List ℕ) → rest ≡ end_line ++ more → ⊥) → ((run : Run) (more : List ℕ) → IsRun head run → All (λ earlier. Follows earlier run) runs → rest ≡ run_line run ++ more → ⊥) → IsBadLine bytes (suc (suc (length runs)))
  bad_run is no_end no_run = record { no_set = no_set; before = (head, runs, begins_runs is); bad = bad } where
    stuck : (others more : List Run) (ms : List (List ℕ)) → IsSet head others → others ≡ runs ++ more → take 1 (lines_of rest) ≡ take 1 (map run_line more ++ end_line ∷ ms) → ⊥
    stuck others [] ms is_set e f = (let found = first_of_lines rest end_line end_is_line.0 f in no_end found.0 found.1)
    stuck others (run ∷ more) ms is_set e f =
        let next = prefix_of_set head runs more run (subst (IsSet head) e is_set) in
        let found = first_of_lines rest (run_line run) (run_is_line head run set.in_range next.0).0 f in
        no_run run found.0 next.0 next.1 found.1

    no_set : (other : SetHead) (others : List Run) → IsSetFile bytes other others → ⊥
    no_set other others file =
        let heads = heads_of head other (map run_line runs ++ lines_of rest) (map run_line others ++ end_line ∷ [] ∷ []) set.in_range file.is_set.in_range (sym (lines_here is) ∙ lines_whole bytes other others file) in
        let is_set : IsSet head others = subst (λ (h : SetHead). IsSet h others) (sym heads.0) file.is_set in
        let found = split_of head set.in_range runs others (lines_of rest) ([] ∷ []) set.within is_set.within heads.1 in
        stuck others found.0 ([] ∷ []) is_set found.1 (ap (take 1) found.2)

    bad : BeginsSome bytes (suc (suc (length runs)) + 1) → ⊥
    bad (other, others, b) =
        let k : suc (suc (length runs)) + 1 ≡ suc (suc (suc (length runs))) = omega arith in
        let same : take (suc (suc (suc (length runs)))) (lines_of bytes) ≡ take (suc (suc (suc (length runs)))) (set_lines other others) = subst (λ (n : ℕ). take n (lines_of bytes) ≡ take n (set_lines other others)) k b.same in
        let heads = heads_of head other (take (suc (length runs)) (map run_line runs ++ lines_of rest)) (take (suc (length runs)) (map run_line others ++ end_line ∷ [])) set.in_range b.is_set.in_range (sym (ap (take (suc (suc (suc (length runs))))) (lines_here is)) ∙ same) in
        let is_set : IsSet head others = subst (λ (h : SetHead). IsSet h others) (sym heads.0) b.is_set in
        let found = next_of head set.in_range runs others (lines_of rest) set.within is_set.within heads.1 in
        stuck others found.0 [] is_set found.1 found.2

-- after a whole set
module _ (bytes rest : List ℕ) (head : SetHead) (runs : List Run) (set : IsSet head runs) (is : bytes ≡ joined (set_lines head runs) ++ rest) where
  lines_there : lines_of bytes ≡ title_line ∷ page_line head ∷ (map run_line runs ++ end_line ∷ lines_of rest)
  lines_there = ap lines_of is ∙ lines_of_lines (set_lines head runs) rest (set_are_lines head set.in_range runs set.within)
      ∙ ap (λ (ls : List (List ℕ)). title_line ∷ page_line head ∷ ls) (append_assoc (map run_line runs) (end_line ∷ []) (lines_of rest))

  pub is_file : rest ≡ [] → IsSetFile bytes head runs
  is_file none = record { is_set = set; text = is ∙ ap (λ (bs : List ℕ). joined (set_lines head runs) ++ bs) none ∙ append-nil (joined (set_lines head runs)) }

  take_all_runs : (rs : List Run) (ls : List (List ℕ)) → take (suc (length rs)) (map run_line rs ++ end_line ∷ ls) ≡ map run_line rs ++ end_line ∷ []
  take_all_runs [] ls = refl
  take_all_runs (run ∷ rs) ls = ap (λ (xs : List (List ℕ)). run_line run ∷ xs) (take_all_runs rs ls)

  pub begins_all : BeginSet bytes (suc (suc (suc (length runs)))) head runs
  begins_all = record {
    is_set = set;
    there = omega (arith, lines_count head runs);
    same = ap (take (suc (suc (suc (length runs))))) lines_there ∙ ap (λ (ls : List (List ℕ)). title_line ∷ page_line head ∷ ls) (take_all_runs runs (lines_of rest) ∙ sym (take_all_runs runs []));
  }

  pub bad_after : (rest ≡ [] → ⊥) → IsBadLine bytes (suc (suc (suc (length runs))))
  bad_after some = record { no_set = no_set; before = (head, runs, begins_all); bad = bad } where
    no_set : (other : SetHead) (others : List Run) → IsSetFile bytes other others → ⊥
    no_set other others file =
        let heads = heads_of head other (map run_line runs ++ end_line ∷ lines_of rest) (map run_line others ++ end_line ∷ [] ∷ []) set.in_range file.is_set.in_range (sym lines_there ∙ lines_whole bytes other others file) in
        let within : All (IsRun head) others = subst (λ (h : SetHead). All (IsRun h) others) (sym heads.0) file.is_set.within in
        let found = split_of head set.in_range runs others (end_line ∷ lines_of rest) ([] ∷ []) set.within within heads.1 in
        by found.0 found.2 where
          by : (more : List Run) → end_line ∷ lines_of rest ≡ map run_line more ++ end_line ∷ [] ∷ [] → ⊥
          by [] f = some (nothing_left rest [] (other_lines end_line end_line (lines_of rest) ([] ∷ []) f))
          by (run ∷ more) f = not_end run (sym (first_line end_line (run_line run) (lines_of rest) (map run_line more ++ end_line ∷ [] ∷ []) f))

    take_two : (n : ℕ) (xs ys : List (List ℕ)) → take (suc n) xs ≡ take (suc n) ys → take n xs ≡ take n ys
    take_two n xs ys e = less n xs ∙ ap (take n) e ∙ sym (less n ys) where
      less : (m : ℕ) (zs : List (List ℕ)) → take m zs ≡ take m (take (suc m) zs)
      less zero zs = refl
      less (suc m) [] = refl
      less (suc m) (z ∷ zs) = ap (λ (ws : List (List ℕ)). z ∷ ws) (less m zs)

    bad : BeginsSome bytes (suc (suc (suc (length runs))) + 1) → ⊥
    bad (other, others, b) =
        let k : suc (suc (suc (length runs))) + 1 ≡ suc (suc (suc (suc (length runs)))) = omega arith in
        let four : take (suc (suc (suc (suc (length runs))))) (lines_of bytes) ≡ take (suc (suc (suc (suc (length runs))))) (set_lines other others) = subst (λ (n : ℕ). take n (lines_of bytes) ≡ take n (set_lines other others)) k b.same in
        let same = take_two (suc (suc (suc (length runs)))) (lines_of bytes) (set_lines other others) four in
        let heads = heads_of head other (take (suc (length runs)) (map run_line runs ++ end_line ∷ lines_of rest)) (take (suc (length runs)) (map run_line others ++ end_line ∷ [])) set.in_range b.is_set.in_range (sym (ap (take (suc (suc (suc (length runs))))) lines_there) ∙ same) in
        let within : All (IsRun head) others = subst (λ (h : SetHead). All (IsRun h) others) (sym heads.0) b.is_set.within in
        let found = next_of head set.in_range runs others (end_line ∷ lines_of rest) set.within within heads.1 in
        by found.0 found.1 found.2 (omega (arith, b.there, lines_count other others)) where
          by : (more : List Run) → others ≡ runs ++ more → end_line ∷ [] ≡ take 1 (map run_line more ++ end_line ∷ []) → length runs + 1 ≤ length others → ⊥
          by [] e f l = omega (arith, l, ap (length {A = Run}) (e ∙ append-nil runs))
          by (run ∷ more) e f l = not_end run (sym (first_line end_line (run_line run) [] [] f))
