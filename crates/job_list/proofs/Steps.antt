-- The steps in which a list of jobs is read.
use Rattle.std.proofs.Common.{◌≡◌, ◌≢◌, ◌∙◌, ℕ, ◌+◌, ◌-◌, ◌<◌, ◌≤◌, Bool, true, false, List, [], ◌∷◌, ◌++◌, length, cond, Some, None, refl, sym, ap, subst, arith, length-append, append-nil}
use Rattle.std.specs.List.{list_any}
use Rattle.job_list.specs.Apart.{Follows, IsCut, NextLine, Stands, is_new}
use Rattle.job_list.specs.Lines.{LineParts, is_lf, line_of}
use Rattle.job_list.specs.Lists.{IsBadLine, IsList, text_of}
use Rattle.job_list.proofs.Cuts.{has_lf, line_without_lf, one_cut}
use Rattle.job_list.proofs.Going.{as_many, goes_on, text_more, went_on}

pub none_left : (seen : ℕ) (lines : List LineParts) (rest : List ℕ) → list_any is_lf rest ≡ false → NextLine seen lines rest None
none_left seen lines rest none text suffix line same follows =
    let other : list_any is_lf rest ≡ true = ap (list_any is_lf) same ∙ has_lf text suffix in
    absurd (cc)

module _ (seen : ℕ) (lines : List LineParts) (rest text suffix : List ℕ) (cut : IsCut rest text suffix) where
  none_here : ((line : LineParts) → Follows seen lines text line → ⊥) → NextLine seen lines rest None
  none_here none other after line same follows =
      let one = one_cut text other suffix after cut.1 (line_without_lf other line follows.read) (sym cut.0 ∙ same) in
      none line (subst (λ (t : List ℕ). Follows seen lines t line) (sym one.0) follows)

  pub too_many : 256 ≤ length lines → NextLine seen lines rest None
  too_many many = none_here (λ line follows. omega arith)

  pub too_long : 1048576 ≤ seen + length text → NextLine seen lines rest None
  too_long long = none_here (λ line follows. omega arith)

  pub no_line : None ≡ line_of text → NextLine seen lines rest None
  no_line none = none_here (λ line follows. let is = follows.read in absurd (cc))

  by_new : (line : LineParts) → Some line ≡ line_of text → length lines < 256 → seen + length text < 1048576 → (b : Bool) → is_new line lines ≡ b → NextLine seen lines rest (cond b (Some (line, suffix)) None)
  by_new line is few short true new = (text, cut.0, record { read = sym is; few = few; short = omega arith; new = new })
  by_new line is few short false old = none_here (λ other follows.
      let read = follows.read in
      let same : line ≡ other = cc in
      let new : is_new line lines ≡ true = subst (λ (l : LineParts). is_new l lines ≡ true) (sym same) follows.new in
      absurd (cc))

  pub judged : (line : LineParts) → Some line ≡ line_of text → length lines < 256 → seen + length text < 1048576 → NextLine seen lines rest (cond (is_new line lines) (Some (line, suffix)) None)
  judged line is few short = by_new line is few short (is_new line lines) refl

-- How many bytes stand before what is left.
before : (bytes : List ℕ) (lines : List LineParts) (rest : List ℕ) (stands : Stands bytes lines rest) → length bytes - length rest ≡ length (text_of stands.texts)
before bytes lines rest stands = let whole : length bytes ≡ length (text_of stands.texts) + length rest = ap length stands.whole ∙ length-append (text_of stands.texts) rest in omega arith

pub at_start : (bytes : List ℕ) → Stands bytes [] bytes
at_start bytes = record { texts = []; whole = refl; good = record { read = refl; few = omega arith; short = omega arith; apart = refl } }

pub at_most : (bytes : List ℕ) (lines : List LineParts) (rest : List ℕ) → Stands bytes lines rest → length lines ≤ 256
at_most bytes lines rest stands = let count = as_many stands.texts lines stands.good.read in let few = stands.good.few in omega arith

pub bad_line : (bytes : List ℕ) (lines : List LineParts) (rest : List ℕ) (number : ℕ) → Stands bytes lines rest → length lines ≡ number → (0 < number → rest ≢ []) → NextLine (length bytes - length rest) lines rest None → IsBadLine bytes number
bad_line bytes lines rest number stands count there none = record {
  texts = stands.texts;
  lines = lines;
  rest = rest;
  whole = stands.whole;
  good = stands.good;
  place = sym (as_many stands.texts lines stands.good.read) ∙ count;
  there = there;
  bad = λ text suffix more same begins.
      let last = went_on (length bytes - length rest) stands.texts lines more text (before bytes lines rest stands) stands.good begins in
      none text suffix last.0 same last.1;
}

pub next_stands : (bytes : List ℕ) (lines : List LineParts) (rest : List ℕ) (line : LineParts) (suffix : List ℕ) → Stands bytes lines rest → NextLine (length bytes - length rest) lines rest (Some (line, suffix)) → Stands bytes (lines ++ line ∷ []) suffix
next_stands bytes lines rest line suffix stands next =
    let text = next.0 in
    record {
      texts = stands.texts ++ text ∷ [];
      whole = stands.whole ∙ ap (λ (r : List ℕ). text_of stands.texts ++ r) next.1 ∙ text_more stands.texts text suffix;
      good = goes_on (length bytes - length rest) stands.texts lines text line (before bytes lines rest stands) stands.good next.2;
    }

pub whole_list : (bytes : List ℕ) (lines : List LineParts) (rest : List ℕ) (number : ℕ) → Stands bytes lines rest → length lines ≡ number → 0 < number → rest ≡ [] → IsList bytes lines
whole_list bytes lines rest number stands count some none = (
  stands.texts,
  stands.whole ∙ ap (λ (r : List ℕ). text_of stands.texts ++ r) none ∙ append-nil (text_of stands.texts),
  omega arith,
  stands.good,
)
