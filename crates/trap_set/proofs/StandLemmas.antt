-- How the reading of a set goes on, and how it ends.
use Rattle.std.proofs.Common.{◌≡◌, ℕ, zero, suc, ◌+◌, ◌-◌, ◌*◌, ◌≤◌, List, [], ◌∷◌, ◌++◌, length, take, map, get_or, Option, Some, None, Result, Ok, Err, IsTrue, refl, sym, ap, ◌∙◌, subst, inl, inr, arith, append_assoc}
use Rattle.std.specs.List.{All}
use Rattle.std.proofs.Math.Nat.{mul-le-mul}
use Rattle.std.proofs.lemmas.List.{append-nil, length-append, get_or-append_right}
use Rattle.std.proofs.lemmas.List.Elements.{All-nil, All-push}
use Rattle.std.proofs.lemmas.List.Quantifiers.{all_pairs_push}
use Rattle.std.proofs.lemmas.List.Concat.{flat_map-cons}
use Rattle.std.proofs.lemmas.Grind.{flat_map-append}
use Rattle.outside.specs.ErrorCases.{Rose, Asks}
use Rattle.outside.specs.Tray.{TrayState, Begins}
use Rattle.std.proofs.lemmas.Bool.{both_ways}
use Rattle.outside.proofs.Steps.{kept_tray, rose_before}
use Rattle.page_model.specs.declared.parts.Plane.{Plane}
use Rattle.trap_set.specs.Applied.{applied}
use Rattle.trap_set.specs.Applying.{Fits, IsFull, Differ, CountsFaults, KeepsPlanes, EndsSet, EndsWith, AppliesText, AppliesSet}
use Rattle.trap_set.specs.Bytes.{GivesByte, ReadsNext}
use Rattle.trap_set.specs.Lines.{IsLine, HasNoEnd, lines_of}
use Rattle.trap_set.specs.Runs.{Run}
use Rattle.trap_set.specs.SetText.{SetHead, IsHead, IsRun, IsSet, Follows, title_line, page_line, run_line, end_line, set_lines}
use Rattle.trap_set.specs.Standing.{IsAfter, IsPageLine, MayCome, RunsTo, Reached, begun_lines}
use Rattle.trap_set.specs.declared.apply.SetError.{SetError}
use Rattle.trap_set.specs.declared.apply.SetError.TheVariants.{BadLine, Differs, ReadFault}
use Rattle.trap_set.specs.declared.steps.Place.{Place}
use Rattle.trap_set.proofs.EndLemmas.{joined, lines_of_line, lines_of_lines, lone_line, title_is_line, page_is_line}
use Rattle.trap_set.proofs.PlaneLemmas.{applied_none, applied_keeps, applied_more, applied_fits, applied_full, keeps_itself}
use Rattle.trap_set.proofs.SetLines.{begin_none, bad_title, bad_page, bad_run, bad_after, begins_runs, begins_all, begun_are_lines, set_are_lines, is_file, one_head, empty_set, runs_count}

-- the runs, one more
pub runs_none : (head : SetHead) (place : Place) → IsHead head → place.row ≡ 0 → place.column ≡ 0 → RunsTo head [] place
runs_none head place h row column = record {
  within = All-nil (IsRun head);
  ascend = λ i j d l m. absurd (omega (arith, m));
  suffix = λ run. (λ b k d l. absurd (omega (arith, l)), λ all. at_start run);
  few = omega arith;
  row = omega (arith, row, h.some_height);
  column = omega (arith, column);
} where
  at_start : (run : Run) → IsAfter place run
  at_start run = by run.y refl where
    by : (y : ℕ) → run.y ≡ y → IsAfter place run
    by zero is = inr (row ∙ sym is, omega (arith, column))
    by (suc y) is = inl (omega (arith, row, is))

pub runs_more : (head : SetHead) (runs : List Run) (run : Run) (place next : Place) → RunsTo head runs place → IsRun head run → IsAfter place run → next.row ≡ run.y → next.column ≡ run.x + run.count → RunsTo head (runs ++ run ∷ []) next
runs_more head runs run place next to is suffix row column = record {
  within = All-push (IsRun head) runs run to.within is;
  ascend = all_pairs_push Follows runs run to.ascend ((to.suffix run).0 suffix);
  suffix = λ other. (λ b. All-push (λ earlier. Follows earlier other) runs run (all_before other (last_before other b)) (last_before other b), λ all. after_last other (last_of other all));
  few = omega (arith, length-append runs (run ∷ []), place_before suffix, column, ap (λ (r : ℕ). r * head.width) row);
  row = omega (arith, row, is.in_rows);
  column = omega (arith, column, is.in_row);
} where
  last_before : (other : Run) → IsAfter next other → Follows run other
  last_before other (inl less) = inl (omega (arith, less, row))
  last_before other (inr (same, after)) = inr (sym row ∙ same, omega (arith, after, column))

  after_last : (other : Run) → Follows run other → IsAfter next other
  after_last other (inl less) = inl (omega (arith, less, row))
  after_last other (inr (same, after)) = inr (row ∙ same, omega (arith, after, column))

  last_of : (other : Run) → All (λ earlier. Follows earlier other) (runs ++ run ∷ []) → Follows run other
  last_of other all =
      subst (λ (r : Run). Follows r other) (get_or-append_right runs (run ∷ []) (length runs) (length runs) run refl (omega arith) ∙ ap (λ (i : ℕ). get_or (run ∷ []) i run) (let z : length runs - length runs ≡ 0 = omega arith in z))
      (all (length runs) run (omega (arith, length-append runs (run ∷ []))))

  then_later : (earlier other : Run) → Follows earlier run → Follows run other → Follows earlier other
  then_later earlier other (inl a) (inl b) = inl (omega (arith, a, b))
  then_later earlier other (inl a) (inr (same, after)) = inl (omega (arith, a, same))
  then_later earlier other (inr (same, after)) (inl b) = inl (omega (arith, same, b))
  then_later earlier other (inr (same, after)) (inr (same2, after2)) = inr (same ∙ same2, omega (arith, after, after2, is.some))

  all_before : (other : Run) → Follows run other → All (λ earlier. Follows earlier other) runs
  all_before other f = λ k d l. then_later (get_or runs k d) other ((to.suffix run).0 suffix k d l) f

  place_before : IsAfter place run → length runs + 1 ≤ run.y * head.width + (run.x + run.count)
  place_before (inl less) =
      let rows : (place.row + 1) * head.width ≤ run.y * head.width = (let up : place.row + 1 ≤ run.y = omega (arith, less) in let wide : head.width ≤ head.width = omega arith in mul-le-mul up wide) in
      omega (arith, rows, to.few, to.column, is.some)
  place_before (inr (same, after)) = omega (arith, to.few, after, is.some, ap (λ (r : ℕ). r * head.width) same)

pub runs_set : (head : SetHead) (runs : List Run) (place : Place) → IsHead head → RunsTo head runs place → IsSet head runs
runs_set head runs place h to = record { in_range = h; within = to.within; ascend = to.ascend }

-- the text, line by line
pub reached_none : (s : TrayState) → Reached [] s s []
reached_none s = record { keeps = record { tells = refl; file = refl; faults = omega arith }; asked = refl; count = refl; text = λ t. refl }

joined_more : (lines : List (List ℕ)) (line rest : List ℕ) → joined lines ++ (line ++ rest) ≡ joined (lines ++ line ∷ []) ++ rest
joined_more lines line rest =
    sym (append_assoc (joined lines) line rest)
    ∙ ap (λ (bs : List ℕ). (joined lines ++ bs) ++ rest) (sym (append-nil line) ∙ sym (flat_map-cons (λ (l : List ℕ). l) line []))
    ∙ ap (λ (bs : List ℕ). bs ++ rest) (sym (flat_map-append (λ (l : List ℕ). l) lines (line ∷ [])))

pub reached_line : {E : Type 0} (Looked : List ℕ → Type 0) (lines : List (List ℕ)) (line : List ℕ) (start s t : TrayState) (stored held2 : List ℕ) → Reached lines start s stored → ReadsNext {E = E} Looked s t stored held2 (Ok (Some line)) → Reached (lines ++ line ∷ []) start t held2
reached_line Looked lines line start s t stored held2 r n = record {
  keeps = kept_tray start s t r.keeps n.keeps;
  asked = n.asked ∙ r.asked;
  count = n.well ∙ r.count;
  text = λ tells. r.text tells ∙ ap (λ (bs : List ℕ). joined lines ++ bs) (n.line.1 (r.keeps.tells ∙ tells)) ∙ joined_more lines line (held2 ++ t.left);
}

map_more : (runs : List Run) (run : Run) → map run_line (runs ++ run ∷ []) ≡ map run_line runs ++ run_line run ∷ []
map_more [] run = refl
map_more (r ∷ runs) run = ap (λ (ls : List (List ℕ)). run_line r ∷ ls) (map_more runs run)

pub reached_run : {E : Type 0} (Looked : List ℕ → Type 0) (head : SetHead) (runs : List Run) (run : Run) (start s t : TrayState) (stored held2 : List ℕ) → Reached (begun_lines head runs) start s stored → ReadsNext {E = E} Looked s t stored held2 (Ok (Some (run_line run))) → Reached (begun_lines head (runs ++ run ∷ [])) start t held2
reached_run Looked head runs run start s t stored held2 r n =
    subst (λ (ls : List (List ℕ)). Reached (title_line ∷ page_line head ∷ ls) start t held2) (sym (map_more runs run)) (reached_line Looked (begun_lines head runs) (run_line run) start s t stored held2 r n)

take_over : (n : ℕ) (runs : List Run) → length runs ≤ n → take n runs ≡ runs
take_over zero [] l = refl
take_over zero (run ∷ runs) l = absurd (omega (arith, l))
take_over (suc n) [] l = refl
take_over (suc n) (run ∷ runs) l = ap (λ (rs : List Run). run ∷ rs) (take_over n runs (omega (arith, l)))

-- a text that begins with a page line for these planes is for no others
no_other : (bytes : List ℕ) (head : SetHead) (ls : List (List ℕ)) (planes : List Plane) → IsHead head → lines_of bytes ≡ title_line ∷ page_line head ∷ ls → Fits head planes → Differ bytes planes → ⊥
no_other bytes head ls planes h lines fits d =
    let both : title_line ∷ page_line head ∷ [] ≡ title_line ∷ page_line d.head ∷ [] = sym (ap (take 2) lines) ∙ d.begins.same in
    let same = one_head head d.head h d.begins.is_set.in_range (ap (λ (xs : List (List ℕ)). get_or xs 1 []) both) in
    d.others (subst (λ (o : SetHead). Fits o planes) same fits)

-- what a reading that broke off says
taken_prefix : (lines : List (List ℕ)) (part left bytes : List ℕ) → bytes ≡ joined lines ++ (part ++ left) → bytes ≡ (joined lines ++ part) ++ left
taken_prefix lines part left bytes e = e ∙ sym (append_assoc (joined lines) part left)

-- what is left is the end of the text
pub left_after : (lines : List (List ℕ)) (part stored left bytes rest : List ℕ) → bytes ≡ joined lines ++ rest → rest ≡ part ++ (stored ++ left) → EndsWith bytes left
left_after lines part stored left bytes rest whole here = (
  (joined lines ++ part) ++ stored,
  whole ∙ ap (λ (bs : List ℕ). joined lines ++ bs) here ∙ sym (append_assoc (joined lines) part (stored ++ left)) ∙ sym (append_assoc (joined lines ++ part) stored left),
)

prefix_lines : (lines : List (List ℕ)) (part : List ℕ) → All IsLine lines → HasNoEnd part → lines_of (joined lines ++ part) ≡ lines ++ part ∷ []
prefix_lines lines part h none = lines_of_lines lines part h ∙ ap (λ (ls : List (List ℕ)). lines ++ ls) (lone_line part none)

part_is_no_line : (part line : List ℕ) → HasNoEnd part → IsLine line → part ≡ line → ⊥
part_is_no_line part line none h e =
    let n = length h.text in
    let long : length part ≡ n + 1 = ap (length {A = ℕ}) (e ∙ h.is) ∙ length-append h.text (10 ∷ []) in
    let last : get_or part n 0 ≡ 10 = ap (λ (bs : List ℕ). get_or bs n 0) (e ∙ h.is) ∙ get_or-append_right h.text (10 ∷ []) n n 0 refl (omega arith) ∙ ap (λ (i : ℕ). get_or (10 ∷ []) i 0) (let z : n - n ≡ 0 = omega arith in z) in
    none n 0 (omega (arith, long)) last

module _ (start s t : TrayState) (stored held2 : List ℕ) (old : List Plane) where
  -- The first line is none.
  pub no_title : {T E : Type 0} → (v : ℕ) → v ≡ 1 → Reached [] start s stored → ReadsNext {E = E} (λ line. line ≡ title_line) s t stored held2 (Ok None) → AppliesText {T = T} start t old old (Err (BadLine v))
  no_title v is r n = record {
    keeps = kept_tray start s t r.keeps n.keeps;
    asked = n.asked ∙ r.asked;
    begun = n.begun;
    planes = keeps_itself old;
    count = n.well ∙ r.count;
    taken = λ tells. (let part = n.other (r.keeps.tells ∙ tells) in left_after [] part.0 held2 t.left start.left (stored ++ s.left) (r.text tells) part.1);
    says = λ tells.
        (let bad = bad_title start.left (λ more e. n.none (r.keeps.tells ∙ tells) title_line more refl (sym (r.text tells) ∙ e)) in
        let first = begin_none start.left in
        record { good = 0; is = is; bad = bad; same = λ d. bad.bad (d.head, [], record { is_set = d.begins.is_set; there = omega arith; same = one_less (lines_of start.left) title_line (page_line d.head) d.begins.same }); has = record { head = first.0; runs = first.1; begins = first.2; planes = sym (applied_none old) } });
  } where
    one_less : (ls : List (List ℕ)) (a b : List ℕ) → take 2 ls ≡ a ∷ b ∷ [] → take 1 ls ≡ a ∷ []
    one_less [] a b e = absurd (omega (arith, ap (length {A = List ℕ}) e))
    one_less (l ∷ ls) a b e = ap (λ (xs : List (List ℕ)). get_or xs 0 [] ∷ []) e

  -- The second line is none.
  pub no_page : {T E : Type 0} → (v : ℕ) → v ≡ 2 → Reached (title_line ∷ []) start s stored → ReadsNext {E = E} IsPageLine s t stored held2 (Ok None) → AppliesText {T = T} start t old old (Err (BadLine v))
  no_page v is r n = record {
    keeps = kept_tray start s t r.keeps n.keeps;
    asked = n.asked ∙ r.asked;
    begun = n.begun;
    planes = keeps_itself old;
    count = n.well ∙ r.count;
    taken = λ tells. (let part = n.other (r.keeps.tells ∙ tells) in left_after (title_line ∷ []) part.0 held2 t.left start.left (stored ++ s.left) (r.text tells) part.1);
    says = λ tells.
        (let whole : start.left ≡ title_line ++ (stored ++ s.left) = r.text tells in
        let bad = bad_page start.left (stored ++ s.left) whole (λ head more h e. n.none (r.keeps.tells ∙ tells) (page_line head) more (head, h, refl) e) in
        record { good = 1; is = is; bad = bad; same = λ d. bad.bad (d.head, [], d.begins); has = record { head = bad.before.0; runs = bad.before.1; begins = bad.before.2; planes = sym (applied_none old) } });
  }

  -- The set is for other planes.
  pub other_planes : {T : Type 0} → (head : SetHead) → IsHead head → (Fits head old → ⊥) → Reached (begun_lines head []) start t held2 → IsTrue t.begun → AppliesText {T = T} start t old old (Err Differs)
  other_planes head h others r begun = record {
    keeps = r.keeps;
    asked = r.asked;
    begun = begun;
    planes = keeps_itself old;
    count = r.count;
    taken = λ tells. left_after (begun_lines head []) [] held2 t.left start.left (held2 ++ t.left) (r.text tells) refl;
    says = λ tells. (record { head = head; begins = begins_runs start.left (held2 ++ t.left) head [] (empty_set head h) (r.text tells); others = others }, refl);
  }

  -- The tray failed in the first line, or in the second.
  pub title_fault : {T E : Type 0} → (e : E) → Reached [] start s stored → ReadsNext {E = E} (λ line. line ≡ title_line) s t stored held2 (Err e) → AppliesText {T = T} start t old old (Err ReadFault)
  title_fault e r n = record {
    keeps = kept_tray start s t r.keeps n.keeps;
    asked = n.asked ∙ r.asked;
    begun = n.begun;
    planes = keeps_itself old;
    count = rose_before start.faults s.faults t.faults r.keeps.faults n.reason;
    taken = λ tells. (let part = n.part (r.keeps.tells ∙ tells) in (part.0, r.text tells ∙ part.2));
    says = λ tells.
        (let part = n.part (r.keeps.tells ∙ tells) in
        let lines : lines_of part.0 ≡ part.0 ∷ [] = lone_line part.0 part.1 in
        let first = begin_none part.0 in
        record {
          prefix = part.0;
          taken = r.text tells ∙ part.2;
          good = 0;
          whole_lines = ap (length {A = List ℕ}) lines;
          same = λ d. omega (arith, ap (length {A = List ℕ}) (sym (ap (take 2) lines) ∙ d.begins.same));
          has = record { head = first.0; runs = first.1; begins = first.2; planes = sym (applied_none old) };
        });
  }

  pub page_fault : {T E : Type 0} → (e : E) → Reached (title_line ∷ []) start s stored → ReadsNext {E = E} IsPageLine s t stored held2 (Err e) → AppliesText {T = T} start t old old (Err ReadFault)
  page_fault e r n = record {
    keeps = kept_tray start s t r.keeps n.keeps;
    asked = n.asked ∙ r.asked;
    begun = n.begun;
    planes = keeps_itself old;
    count = rose_before start.faults s.faults t.faults r.keeps.faults n.reason;
    taken = λ tells. (let part = n.part (r.keeps.tells ∙ tells) in (title_line ++ part.0, r.text tells ∙ ap (λ (bs : List ℕ). title_line ++ bs) part.2 ∙ sym (append_assoc title_line part.0 t.left)));
    says = λ tells.
        (let part = n.part (r.keeps.tells ∙ tells) in
        let lines : lines_of (title_line ++ part.0) ≡ title_line ∷ part.0 ∷ [] = lines_of_line title_line part.0 title_is_line.0 ∙ ap (λ (ls : List (List ℕ)). title_line ∷ ls) (lone_line part.0 part.1) in
        let first = begin_none part.0 in
        record {
          prefix = title_line ++ part.0;
          taken = r.text tells ∙ ap (λ (bs : List ℕ). title_line ++ bs) part.2 ∙ sym (append_assoc title_line part.0 t.left);
          good = 1;
          whole_lines = ap (length {A = List ℕ}) lines;
          same = λ d. part_is_no_line part.0 (page_line d.head) part.1 (page_is_line d.head d.begins.is_set.in_range).0 (ap (λ (xs : List (List ℕ)). get_or xs 1 []) (sym (ap (take 2) lines) ∙ d.begins.same));
          has = record { head = first.0; runs = first.1; begins = record { is_set = first.2.is_set; there = omega arith; same = ap (take 1) lines }; planes = sym (applied_none old) };
        });
  }

-- a byte after the last line is the first of a bad one
pub byte_after : {T E : Type 0} (number b : ℕ) (s t : TrayState) (stored held2 : List ℕ) → GivesByte {E = E} s t stored held2 (Ok (Some b)) → EndsSet {T = T} number s t stored (Err (BadLine number))
byte_after number b s t stored held2 g = record {
  keeps = g.keeps;
  asked = g.asked;
  begun = g.begun;
  count = g.well;
  says = λ tells. (refl, (λ none. absurd (let e : [] ≡ b ∷ (held2 ++ t.left) = sym none ∙ g.some tells in cc)), (b ∷ held2, g.some tells));
}

-- after the page line
module _ (start s t : TrayState) (stored held2 : List ℕ) (old new : List Plane) (head : SetHead) (runs : List Run) (place : Place) (h : IsHead head) (to : RunsTo head runs place) (fits : Fits head old) (is : new ≡ applied runs old) where
  keeps_planes : KeepsPlanes old new
  keeps_planes = subst (KeepsPlanes old) (sym is) (applied_keeps head runs old to.within fits)

  have_runs : (k : ℕ) → length runs ≤ k - 2 → new ≡ applied (take (k - 2) runs) old
  have_runs k l = is ∙ ap (λ (rs : List Run). applied rs old) (sym (take_over (k - 2) runs l))

  set_here : IsSet head runs
  set_here = runs_set head runs place h to

  pub no_run : {T E : Type 0} → (v : ℕ) → v ≡ length runs + 3 → Reached (begun_lines head runs) start s stored → ReadsNext {E = E} (MayCome head place) s t stored held2 (Ok None) → AppliesText {T = T} start t old new (Err (BadLine v))
  no_run v number r n = record {
    keeps = kept_tray start s t r.keeps n.keeps;
    asked = n.asked ∙ r.asked;
    begun = n.begun;
    planes = keeps_planes;
    count = n.well ∙ r.count;
    taken = λ tells. (let part = n.other (r.keeps.tells ∙ tells) in left_after (begun_lines head runs) part.0 held2 t.left start.left (stored ++ s.left) (r.text tells) part.1);
    says = λ tells.
        (let whole = r.text tells in
        let there = r.keeps.tells ∙ tells in
        let bad = bad_run start.left (stored ++ s.left) head runs set_here whole (λ more e. n.none there end_line more (inl refl) e) (λ run more is_run follow e. n.none there (run_line run) more (inr (run, is_run, (to.suffix run).1 follow, refl)) e) in
        record {
          good = suc (suc (length runs));
          is = omega (arith, number);
          bad = bad;
          same = no_other start.left head (map run_line runs ++ lines_of (stored ++ s.left)) old h (lines_of_begun whole) fits;
          has = record { head = head; runs = runs; begins = begins_runs start.left (stored ++ s.left) head runs set_here whole; planes = have_runs (suc (suc (length runs))) (omega arith) };
        });
  } where
    lines_of_begun : start.left ≡ joined (begun_lines head runs) ++ (stored ++ s.left) → lines_of start.left ≡ title_line ∷ page_line head ∷ (map run_line runs ++ lines_of (stored ++ s.left))
    lines_of_begun e = ap lines_of e ∙ lines_of_lines (begun_lines head runs) (stored ++ s.left) (begun_are_lines head h runs to.within)

  pub run_fault : {T E : Type 0} → (e : E) → Reached (begun_lines head runs) start s stored → ReadsNext {E = E} (MayCome head place) s t stored held2 (Err e) → AppliesText {T = T} start t old new (Err ReadFault)
  run_fault e r n = record {
    keeps = kept_tray start s t r.keeps n.keeps;
    asked = n.asked ∙ r.asked;
    begun = n.begun;
    planes = keeps_planes;
    count = rose_before start.faults s.faults t.faults r.keeps.faults n.reason;
    taken = λ tells. (let part = n.part (r.keeps.tells ∙ tells) in (joined (begun_lines head runs) ++ part.0, taken_prefix (begun_lines head runs) part.0 t.left start.left (r.text tells ∙ ap (λ (bs : List ℕ). joined (begun_lines head runs) ++ bs) part.2)));
    says = λ tells.
        (let part = n.part (r.keeps.tells ∙ tells) in
        let lines = prefix_lines (begun_lines head runs) part.0 (begun_are_lines head h runs to.within) part.1 in
        record {
          prefix = joined (begun_lines head runs) ++ part.0;
          taken = taken_prefix (begun_lines head runs) part.0 t.left start.left (r.text tells ∙ ap (λ (bs : List ℕ). joined (begun_lines head runs) ++ bs) part.2);
          good = suc (suc (length runs));
          whole_lines = ap (length {A = List ℕ}) lines ∙ omega (arith, length-append (map run_line runs) (part.0 ∷ []), runs_count runs);
          same = no_other (joined (begun_lines head runs) ++ part.0) head (map run_line runs ++ part.0 ∷ []) old h lines fits;
          has = record { head = head; runs = runs; begins = begins_runs (joined (begun_lines head runs) ++ part.0) part.0 head runs set_here refl; planes = have_runs (suc (suc (length runs))) (omega arith) };
        });
  }

  -- after the last line
  pub set_ends : {T : Type 0} → (number : ℕ) (result : Result T SetError) → number ≡ length runs + 4 → Reached (set_lines head runs) start s stored → EndsSet number s t stored result → AppliesText start t old new result
  set_ends number (Ok v) is_number r e = record {
    keeps = kept_tray start s t r.keeps e.keeps;
    asked = e.asked ∙ r.asked;
    begun = e.begun;
    planes = keeps_planes;
    count = e.count ∙ r.count;
    taken = λ tells. (start.left, sym (append-nil start.left) ∙ ap (λ (bs : List ℕ). start.left ++ bs) (sym (e.says (r.keeps.tells ∙ tells)).1));
    says = λ tells.
        (let says = e.says (r.keeps.tells ∙ tells) in
        record { head = head; runs = runs; is_file = is_file start.left (stored ++ s.left) head runs set_here (r.text tells) says.0; fits = fits; planes = is; at_end = says.1 });
  }
  set_ends number (Err (BadLine v)) is_number r e = record {
    keeps = kept_tray start s t r.keeps e.keeps;
    asked = e.asked ∙ r.asked;
    begun = e.begun;
    planes = keeps_planes;
    count = e.count ∙ r.count;
    taken = λ tells. (let part = (e.says (r.keeps.tells ∙ tells)).2 in (joined (set_lines head runs) ++ part.0, taken_prefix (set_lines head runs) part.0 t.left start.left (r.text tells ∙ ap (λ (bs : List ℕ). joined (set_lines head runs) ++ bs) part.1)));
    says = λ tells.
        (let says = e.says (r.keeps.tells ∙ tells) in
        let whole = r.text tells in
        record {
          good = suc (suc (suc (length runs)));
          is = omega (arith, says.0, is_number);
          bad = bad_after start.left (stored ++ s.left) head runs set_here whole says.1;
          same = no_other start.left head ((map run_line runs ++ end_line ∷ []) ++ lines_of (stored ++ s.left)) old h (ap lines_of whole ∙ lines_of_lines (set_lines head runs) (stored ++ s.left) (set_are_lines head h runs to.within)) fits;
          has = record { head = head; runs = runs; begins = begins_all start.left (stored ++ s.left) head runs set_here whole; planes = have_runs (suc (suc (suc (length runs)))) (omega arith) };
        });
  }
  set_ends number (Err Differs) is_number r e = record {
    keeps = kept_tray start s t r.keeps e.keeps;
    asked = e.asked ∙ r.asked;
    begun = e.begun;
    planes = keeps_planes;
    count = e.count ∙ r.count;
    taken = λ tells. absurd (e.says (r.keeps.tells ∙ tells));
    says = λ tells. absurd (e.says (r.keeps.tells ∙ tells));
  }
  set_ends number (Err ReadFault) is_number r e = record {
    keeps = kept_tray start s t r.keeps e.keeps;
    asked = e.asked ∙ r.asked;
    begun = e.begun;
    planes = keeps_planes;
    count = rose_before start.faults s.faults t.faults r.keeps.faults e.count;
    taken = λ tells. (joined (set_lines head runs) ++ [], taken_prefix (set_lines head runs) [] t.left start.left (r.text tells ∙ ap (λ (bs : List ℕ). joined (set_lines head runs) ++ bs) (e.says (r.keeps.tells ∙ tells))));
    says = λ tells.
        (let rest = e.says (r.keeps.tells ∙ tells) in
        let prefix = joined (set_lines head runs) ++ [] in
        let lines = lines_of_lines (set_lines head runs) [] (set_are_lines head h runs to.within) in
        record {
          prefix = prefix;
          taken = taken_prefix (set_lines head runs) [] t.left start.left (r.text tells ∙ ap (λ (bs : List ℕ). joined (set_lines head runs) ++ bs) rest);
          good = suc (suc (suc (length runs)));
          whole_lines = ap (length {A = List ℕ}) lines ∙ omega (arith, length-append (map run_line runs ++ end_line ∷ []) ([] ∷ []), length-append (map run_line runs) (end_line ∷ []), runs_count runs);
          same = no_other prefix head ((map run_line runs ++ end_line ∷ []) ++ [] ∷ []) old h lines fits;
          has = record { head = head; runs = runs; begins = begins_all prefix [] head runs set_here refl; planes = have_runs (suc (suc (suc (length runs)))) (omega arith) };
        });
  }

-- where the reading of the runs stands: at those that were read so far, from where it began
pub record Standing (head : SetHead) (place : Place) (number : ℕ) (old planes : List Plane) (before now : TrayState) (held0 stored : List ℕ) : Type 0 where
  pub runs : List Run
  pub to : RunsTo head runs place
  pub is_number : number ≡ length runs + 3
  pub planes_are : planes ≡ applied runs old
  pub text : (start : TrayState) → Reached (begun_lines head []) start before held0 → Reached (begun_lines head runs) start now stored

pub standing_none : (head : SetHead) (place : Place) (old : List Plane) (before : TrayState) (held0 : List ℕ) → IsHead head → place.row ≡ 0 → place.column ≡ 0 → Standing head place 3 old old before before held0 held0
standing_none head place old before held0 h row column = record { runs = []; to = runs_none head place h row column; is_number = refl; planes_are = sym (applied_none old); text = λ start r. r }

pub standing_more : {E : Type 0} (head : SetHead) (place next : Place) (number : ℕ) (old planes planes2 : List Plane) (before now after : TrayState) (held0 stored held2 : List ℕ) (run : Run) → Standing head place number old planes before now held0 stored → IsRun head run → IsAfter place run → next.row ≡ run.y → next.column ≡ run.x + run.count → ReadsNext {E = E} (MayCome head place) now after stored held2 (Ok (Some (run_line run))) → planes2 ≡ applied (run ∷ []) planes → Standing head next (number + 1) old planes2 before after held0 held2
standing_more head place next number old planes planes2 before now after held0 stored held2 run so is suffix row column n put = record {
  runs = so.runs ++ run ∷ [];
  to = runs_more head so.runs run place next so.to is suffix row column;
  is_number = omega (arith, so.is_number, length-append so.runs (run ∷ []));
  planes_are = put ∙ ap (applied (run ∷ [])) so.planes_are ∙ applied_more so.runs run old ((so.to.suffix run).0 suffix);
  text = λ start r. reached_run (MayCome head place) head so.runs run start now after stored held2 (so.text start r) n;
}

-- the file is begun first
counts_from : {T : Type 0} (a b c : TrayState) (r : Result T SetError) → b.faults ≡ a.faults → CountsFaults b c r → CountsFaults a c r
counts_from a b c (Ok v) e h = h ∙ e
counts_from a b c (Err (BadLine n)) e h = h ∙ e
counts_from a b c (Err Differs) e h = h ∙ e
counts_from a b c (Err ReadFault) e h = subst (λ (n : ℕ). Rose n c.faults) e h

pub begun_applied : {T U E : Type 0} (name : List ℕ) (a b c : TrayState) (v : U) (old new : List Plane) (r : Result T SetError) → Begins {T = U} {E = E} name a b (Ok v) → AppliesText b c old new r → AppliesSet name a c old new r
begun_applied name a b c v old new r g t = record {
  keeps = kept_tray a b c g.keeps t.keeps;
  asked = subst (λ (o : Option (List (List ℕ))). Asks a.asked o (name ∷ [])) (sym t.asked) g.asked;
  planes = t.planes;
  count = counts_from a b c r g.well t.count;
  not_begun = λ f. absurd (both_ways c.begun f t.begun);
  taken = λ begun tells. (b.left, g.left tells, t.taken (g.keeps.tells ∙ tells));
  says = λ begun tells. (b.left, g.left tells, t.says (g.keeps.tells ∙ tells));
}

pub begin_failed : {T U E : Type 0} (name : List ℕ) (a b : TrayState) (e : E) (old : List Plane) → Begins {T = U} {E = E} name a b (Err e) → AppliesSet {T = T} name a b old old (Err ReadFault)
begin_failed name a b e old g = record {
  keeps = g.keeps;
  asked = g.asked;
  planes = keeps_itself old;
  count = g.reason;
  not_begun = λ f. (refl, refl);
  taken = λ begun tells. absurd (both_ways b.begun g.begun begun);
  says = λ begun tells. absurd (both_ways b.begun g.begun begun);
}

-- how the runs end
module _ (head : SetHead) (place : Place) (number : ℕ) (old planes : List Plane) (before now after : TrayState) (held0 stored held2 : List ℕ) (h : IsHead head) (fits : Fits head old) (so : Standing head place number old planes before now held0 stored) where
  pub ends_there : {T E : Type 0} → (last : TrayState) (result : Result T SetError) → ReadsNext {E = E} (MayCome head place) now after stored held2 (Ok (Some end_line)) → EndsSet (number + 1) after last held2 result → (start : TrayState) → Reached (begun_lines head []) start before held0 → AppliesText start last old planes result
  ends_there last result n e start r =
      set_ends start after last held2 held2 old planes head so.runs place h so.to fits so.planes_are (number + 1) result (omega (arith, so.is_number))
      (reached_line (MayCome head place) (begun_lines head so.runs) end_line start now after stored held2 (so.text start r) n) e

  pub bad_there : {T E : Type 0} → ReadsNext {E = E} (MayCome head place) now after stored held2 (Ok None) → (start : TrayState) → Reached (begun_lines head []) start before held0 → AppliesText {T = T} start after old planes (Err (BadLine number))
  bad_there n start r = no_run start now after stored held2 old planes head so.runs place h so.to fits so.planes_are number so.is_number (so.text start r) n

  pub fault_there : {T E : Type 0} → (e : E) → ReadsNext {E = E} (MayCome head place) now after stored held2 (Err e) → (start : TrayState) → Reached (begun_lines head []) start before held0 → AppliesText {T = T} start after old planes (Err ReadFault)
  fault_there e n start r = run_fault start now after stored held2 old planes head so.runs place h so.to fits so.planes_are e (so.text start r) n

  pub fit_still : Fits head planes
  fit_still = subst (Fits head) (sym so.planes_are) (applied_fits head so.runs old fits)

  pub full_still : All IsFull old → All IsFull planes
  full_still full = subst (All IsFull) (sym so.planes_are) (applied_full so.runs old full)
