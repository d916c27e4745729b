-- A list of which one byte more was read than it may have is as good, or as bad, as all of it.
use Rattle.std.proofs.Common.{◌≡◌, ◌≢◌, ◌∙◌, ℕ, ◌+◌, ◌≤◌, Bool, true, false, not, ◌&&◌, cond, List, [], ◌∷◌, ◌++◌, length, map, take, drop, IsTrue, Option, Some, None, Result, Ok, Err, refl, sym, ap, ap₂, subst, arith, append_assoc, length-append}
use Rattle.std.specs.List.{list_any, slice_split}
use Rattle.std.specs.Str.{is_utf8}
use Rattle.plain_words.specs.Parts.{PlateNames, is_some_text, parts_of}
use Rattle.std.proofs.lemmas.List.{length-drop, length-map, length-take, take-append-drop, take_all}
use Rattle.job_list.specs.Lines.{LineParts, are_plates, is_lf, is_space, line_of, line_of_words, line_with}
use Rattle.outside.specs.ErrorCases.{Asks}
use Rattle.outside.specs.Reading.{TakesPrefix}
use Rattle.outside.specs.Tray.{TrayState, KeepsTray}
use Rattle.job_list.specs.Lists.{IsBadLine, IsList, ReadsList, lines_of, one_more, text_of}
use Rattle.job_list.specs.declared.reading.ListError.{ListError}
use Rattle.job_list.specs.declared.reading.ListError.TheVariants as refused
use Rattle.trappool_cli.specs.declared.lines.TrappoolError.{TrappoolError}
use Rattle.trappool_cli.specs.Reading.{AllPaired, AreJobs, Judges, ReadsLines, TakesList}
use Rattle.job_list.proofs.Going.{as_many, text_more}

prefix_of : (rest suffix text later : List ℕ) → rest ++ suffix ≡ text ++ 10 ∷ later → length text + 1 ≤ length rest → (after : List ℕ) × (rest ≡ text ++ 10 ∷ after)
prefix_of [] suffix text later same long = absurd (omega arith)
prefix_of (r ∷ rest) suffix [] later same long = let head : r ≡ 10 = cc in (rest, ap (λ (b : ℕ). b ∷ rest) head)
prefix_of (r ∷ rest) suffix (t ∷ text) later same long =
    let head : r ≡ t = cc in
    let tail : rest ++ suffix ≡ text ++ 10 ∷ later = cc in
    let next = prefix_of rest suffix text later tail (omega arith) in
    (next.0, ap₂ (λ (b : ℕ) (l : List ℕ). b ∷ l) head next.1)

longer : (texts : List (List ℕ)) (text : List ℕ) → length (text_of (texts ++ text ∷ [])) ≡ length (text_of texts) + length text + 1
longer texts text =
    let same = ap length (text_more texts text []) in
    let one = length-append (text_of texts) (text ++ 10 ∷ []) in
    let two = length-append (text_of (texts ++ text ∷ [])) [] in
    let three = length-append text (10 ∷ []) in
    omega arith

pub list_of_prefix : (most : ℕ) (all : List ℕ) (lines : List LineParts) → 1048577 ≤ most → IsList (take most all) lines → IsList all lines
list_of_prefix most all lines enough list =
    let short = list.3.short in
    let long : length (take most all) ≤ 1048576 = subst (λ (l : List ℕ). length l ≤ 1048576) (sym list.1) short in
    let few : length all ≤ most = omega (arith, enough, length-take most all) in
    subst (λ (l : List ℕ). IsList l lines) (take_all most all few) list

not_empty : (rest suffix : List ℕ) → rest ≢ [] → rest ++ suffix ≢ []
not_empty [] suffix some = λ none. some refl
not_empty (r ∷ rest) suffix some = λ none. absurd (cc)

pub bad_of_prefix : (most : ℕ) (all : List ℕ) (k : ℕ) → 1048577 ≤ most → IsBadLine (take most all) k → IsBadLine all k
bad_of_prefix most all k enough bad = record {
  texts = bad.texts;
  lines = bad.lines;
  rest = bad.rest ++ drop most all;
  whole = sym (take-append-drop most all) ∙ ap (λ (l : List ℕ). l ++ drop most all) bad.whole ∙ append_assoc (text_of bad.texts) bad.rest (drop most all);
  good = bad.good;
  place = bad.place;
  there = λ some. not_empty bad.rest (drop most all) (bad.there some);
  bad = λ text suffix more same begins.
      let short = begins.short in
      let size = longer bad.texts text in
      let prefix : length (take most all) ≡ length (text_of bad.texts) + length bad.rest = ap length bad.whole ∙ length-append (text_of bad.texts) bad.rest in
      let sum : length bad.rest + length (drop most all) ≡ length text + length (10 ∷ suffix) = sym (length-append bad.rest (drop most all)) ∙ ap length same ∙ length-append text (10 ∷ suffix) in
      let long : length text + 1 ≤ length bad.rest = omega (arith, enough, length-take most all, length-drop most all) in
      let found = prefix_of bad.rest (drop most all) text suffix same long in
      bad.bad text found.0 more found.1 begins;
}

-- what a list's bytes say of its lines, be they told or not
plates_paired : (condition : Bool) (job report : List ℕ) (plates : List PlateNames) (line : LineParts) → (cond condition (Some (line_with job report plates)) None) ≡ Some line → length line.outs ≡ length line.inputs
plates_paired true job report plates line is =
    let same : line_with job report plates ≡ line = cc in
    subst (λ (l : LineParts). length l.outs ≡ length l.inputs) same
    (length-map plates (λ (p : PlateNames). p.output) ∙ sym (length-map plates (λ (p : PlateNames). p.input)))
plates_paired false job report plates line is = absurd (cc)

words_paired : (words : List (List ℕ)) (line : LineParts) → line_of_words words ≡ Some line → length line.outs ≡ length line.inputs
words_paired [] line is = absurd (cc)
words_paired (job ∷ []) line is = absurd (cc)
words_paired (job ∷ report ∷ plates) line is = plates_paired (is_some_text job && is_some_text report && are_plates plates) job report (map parts_of plates) line is

paired_if : (condition : Bool) (words : List (List ℕ)) (line : LineParts) → cond condition (line_of_words words) None ≡ Some line → length line.outs ≡ length line.inputs
paired_if true words line is = words_paired words line is
paired_if false words line is = absurd (cc)

line_paired : (text : List ℕ) (line : LineParts) → line_of text ≡ Some line → length line.outs ≡ length line.inputs
line_paired text line is = paired_if (is_utf8 text && not (list_any is_lf text)) (slice_split is_space text) line is

-- one job and the later ones of texts that are lines
more_paired : (first : Option LineParts) (later : Option (List LineParts)) (lines : List LineParts) → one_more first later ≡ Some lines → ((line : LineParts) → first ≡ Some line → length line.outs ≡ length line.inputs) → ((more : List LineParts) → later ≡ Some more → AllPaired more) → AllPaired lines
more_paired None None lines is one rest = absurd (cc)
more_paired None (Some more) lines is one rest = absurd (cc)
more_paired (Some line) None lines is one rest = absurd (cc)
more_paired (Some line) (Some more) lines is one rest = let same : line ∷ more ≡ lines = cc in subst AllPaired same (one line refl, rest more refl)

texts_paired : (texts : List (List ℕ)) (lines : List LineParts) → lines_of texts ≡ Some lines → AllPaired lines
texts_paired [] lines is = let same : ◌≡◌ {A = List LineParts} [] lines = cc in subst AllPaired same tt
texts_paired (text ∷ texts) lines is = more_paired (line_of text) (lines_of texts) lines is (line_paired text) (texts_paired texts)

pub list_jobs : (bytes : List ℕ) (lines : List LineParts) → IsList bytes lines → AreJobs lines
list_jobs bytes lines list =
    let count = as_many list.0 lines list.3.read in
    let few = list.3.few in
    (omega arith, texts_paired list.0 lines list.3.read)

-- A list that was read is judged.
pub read_judged : (most : ℕ) (name : List ℕ) (a b : TrayState) (bytes : List ℕ) (read : Result (List LineParts) ListError) (result : Result (List LineParts) TrappoolError) → KeepsTray a b → Asks a.asked b.asked (name ∷ []) → TakesList name a b → b.faults ≡ a.faults → (IsTrue a.tells → TakesPrefix name most a b bytes) → ReadsList bytes read → Judges read result → 1048577 ≤ most → ReadsLines name a b result
read_judged most name a b bytes (Ok lines) result keeps asked few calm taken reads is enough =
    subst (ReadsLines name a b) (sym is) (record {
      keeps = keeps;
      asked = asked;
      few = few;
      answer = (calm, list_jobs bytes lines reads, λ tells. let prefix = taken tells in (prefix.all, prefix.found, list_of_prefix most prefix.all lines enough (subst (λ (l : List ℕ). IsList l lines) prefix.taken reads)));
    })
read_judged most name a b bytes (Err (refused.BadLine k)) result keeps asked few calm taken reads is enough =
    subst (ReadsLines name a b) (sym is) (record {
      keeps = keeps;
      asked = asked;
      few = few;
      answer = (calm, λ tells. let prefix = taken tells in (prefix.all, prefix.found, bad_of_prefix most prefix.all k enough (subst (λ (l : List ℕ). IsBadLine l k) prefix.taken reads)));
    })
read_judged most name a b bytes (Err refused.OutOfMemory) result keeps asked few calm taken reads is enough =
    subst (ReadsLines name a b) (sym is) (record { keeps = keeps; asked = asked; few = few; answer = calm })
