-- A line that is read byte by byte, and what is looked for in its place.
use Rattle.std.proofs.Common.{◌≡◌, ◌↔◌, ℕ, Bool, true, false, if◌then◌else◌, inl, inr, List, ◌++◌, Option, Some, None, Ok, IsTrue, refl, sym, ◌∙◌, subst}
use Rattle.outside.specs.Tray.{TrayState, KeepsTray}
use Rattle.trap_set.specs.Bytes.{ReadsNext, IsShortLine}
use Rattle.trap_set.specs.Lines.{HasNoEnd}
use Rattle.std.proofs.lemmas.Bool.{false≢true}
use Rattle.std.specs.Prelude.{IfSome, IfNone}
use Rattle.trap_set.specs.Reading.{head_in, run_in}
use Rattle.trap_set.specs.SetText.{SetHead, IsHead, IsRun, title_line, page_line, run_line, end_line}
use Rattle.trap_set.specs.declared.lines.Head.{Head}
use Rattle.trap_set.specs.declared.steps.Next.{Next}
use Rattle.trap_set.specs.declared.steps.Next.TheVariants as nexts
use Rattle.trap_set.specs.Standing.{IsAfter, IsPageLine, MayCome, found_page, line_in}
use Rattle.trap_set.specs.declared.steps.Place.{Place}
use Rattle.trap_set.proofs.EndLemmas.{same_line, title_is_line, page_is_line, run_is_line, end_is_line}

-- bytes of a line that were read, and its end is not among them
pub record ReadSoFar (start s : TrayState) (held0 stored line : List ℕ) : Type 0 where
  pub keeps : KeepsTray start s
  pub asked : s.asked ≡ start.asked
  pub begun : IsTrue s.begun
  pub count : s.faults ≡ start.faults
  pub none : HasNoEnd line
  pub text : IsTrue start.tells → held0 ++ start.left ≡ line ++ (stored ++ s.left)

-- what is looked for in place of any short line
module _ {E D : Type 0} (Looked : List ℕ → Type 0) (s t : TrayState) (stored held2 : List ℕ) where
  pub next_line : (line : List ℕ) → Looked line → ReadsNext {E = E} IsShortLine s t stored held2 (Ok (Some line)) → ReadsNext {E = D} Looked s t stored held2 (Ok (Some line))
  next_line line is n = record { keeps = n.keeps; asked = n.asked; begun = n.begun; line = (is, n.line.1); none = tt; other = tt; part = tt; well = n.well; reason = tt }

  pub next_none : ((line : List ℕ) → Looked line → IsShortLine line) → ReadsNext {E = E} IsShortLine s t stored held2 (Ok None) → ReadsNext {E = D} Looked s t stored held2 (Ok None)
  next_none short n = record { keeps = n.keeps; asked = n.asked; begun = n.begun; line = tt; none = λ tells line more is e. n.none tells line more (short line is) e; other = n.other; part = tt; well = n.well; reason = tt }

  pub next_other : (line : List ℕ) → ((l : List ℕ) → Looked l → IsShortLine l) → (Looked line → ⊥) → ReadsNext {E = E} IsShortLine s t stored held2 (Ok (Some line)) → ReadsNext {E = D} Looked s t stored held2 (Ok None)
  next_other line short other n = record {
    keeps = n.keeps;
    asked = n.asked;
    begun = n.begun;
    line = tt;
    none = λ tells l more is e. other (subst Looked (sym (same_line line l (held2 ++ t.left) more n.line.0.0 (short l is).0 (sym (n.line.1 tells) ∙ e))) is);
    other = λ tells. (line, n.line.1 tells);
    part = tt;
    well = n.well;
    reason = tt;
  }

pub short_title : (l : List ℕ) → l ≡ title_line → IsShortLine l
short_title l is = subst IsShortLine (sym is) title_is_line

-- the first line, where the next one is it
pub title_found : {E D : Type 0} (s t : TrayState) (stored held2 line : List ℕ) (b : Bool) → IsTrue b ↔ (line ≡ title_line) → ReadsNext {E = E} IsShortLine s t stored held2 (Ok (Some line)) → ReadsNext {E = D} (λ l. l ≡ title_line) s t stored held2 (Ok (if b then Some title_line else None))
title_found {E = E} {D = D} s t stored held2 line true is n = next_line (λ l. l ≡ title_line) s t stored held2 title_line refl (subst (λ (l : List ℕ). ReadsNext {E = E} IsShortLine s t stored held2 (Ok (Some l))) (is.0 refl) n)
title_found s t stored held2 line false is n = next_other (λ l. l ≡ title_line) s t stored held2 line short_title (λ e. false≢true (is.1 e)) n

pub short_page : (l : List ℕ) → IsPageLine l → IsShortLine l
short_page l (head, h, is) = subst IsShortLine (sym is) (page_is_line head h)

pub short_next : (head : SetHead) (place : Place) → IsHead head → (l : List ℕ) → MayCome head place l → IsShortLine l
short_next head place h l (inl is) = subst IsShortLine (sym is) end_is_line
short_next head place h l (inr (run, is_run, suffix, is)) = subst IsShortLine (sym is) (run_is_line head run h is_run)

-- a page line, where the next one is one
pub page_found : {E D : Type 0} (s t : TrayState) (stored held2 line bytes : List ℕ) (page : Option Head) → bytes ≡ line → IfSome page (λ head. bytes ≡ page_line (head_in head)) → IfSome page (λ head. IsHead (head_in head)) → IfNone page ((head : SetHead) → IsHead head → bytes ≡ page_line head → ⊥) → ReadsNext {E = E} IsShortLine s t stored held2 (Ok (Some line)) → ReadsNext {E = D} IsPageLine s t stored held2 (found_page {E = D} (Ok page))
page_found {E = E} {D = D} s t stored held2 line bytes (Some head) same is range none n =
    next_line IsPageLine s t stored held2 (page_line (head_in head)) (head_in head, range, refl) (subst (λ (l : List ℕ). ReadsNext {E = E} IsShortLine s t stored held2 (Ok (Some l))) (sym same ∙ is) n)
page_found s t stored held2 line bytes None same is range none n = next_other IsPageLine s t stored held2 line short_page (λ looked. none looked.0 looked.1 (same ∙ looked.2)) n

-- a run's line or the last, where the next one is one of these
pub run_found : {E D : Type 0} (s t : TrayState) (stored held2 line bytes : List ℕ) (head : SetHead) (place : Place) (next : Next) (numbers : List ℕ) → IsHead head → bytes ≡ line
    → (next ≡ nexts.End → bytes ≡ end_line) → (next ≡ nexts.Run → (bytes ≡ run_line (run_in numbers)) × IsRun head (run_in numbers) × IsAfter place (run_in numbers)) → (next ≡ nexts.Bad → MayCome head place bytes → ⊥)
    → ReadsNext {E = E} IsShortLine s t stored held2 (Ok (Some line)) → ReadsNext {E = D} (MayCome head place) s t stored held2 (Ok (line_in next numbers))
run_found {E = E} {D = D} s t stored held2 line bytes head place nexts.End numbers h same end run bad n =
    next_line (MayCome head place) s t stored held2 end_line (inl refl) (subst (λ (l : List ℕ). ReadsNext {E = E} IsShortLine s t stored held2 (Ok (Some l))) (sym same ∙ end refl) n)
run_found {E = E} {D = D} s t stored held2 line bytes head place nexts.Run numbers h same end run bad n =
    let r = run refl in
    next_line (MayCome head place) s t stored held2 (run_line (run_in numbers)) (inr (run_in numbers, r.1, r.2, refl)) (subst (λ (l : List ℕ). ReadsNext {E = E} IsShortLine s t stored held2 (Ok (Some l))) (sym same ∙ r.0) n)
run_found s t stored held2 line bytes head place nexts.Bad numbers h same end run bad n =
    next_other (MayCome head place) s t stored held2 line (short_next head place h) (λ may. bad refl (subst (MayCome head place) (sym same) may)) n
