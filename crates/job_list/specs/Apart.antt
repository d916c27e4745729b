-- How a list of jobs goes on by one line.
use Rattle.std.specs.Prelude.{◌≡◌, ℕ, ◌+◌, ◌<◌, ◌≤◌, Bool, true, false, not, ◌&&◌, List, ◌∷◌, ◌++◌}
use Rattle.std.specs.Prelude.{length, Some, None, Option}
use Rattle.std.specs.Borrow.{Bor}
use Rattle.std.specs.List.{list_all, list_any}
use Rattle.std.specs.Str.{bytes_eq}
use Rattle.plain_words.specs.Distinct.{are_distinct}
use Rattle.job_list.specs.Lines.{LineParts, is_lf, line_of}
use Rattle.job_list.specs.Lists.{Begins, most_lines, longest_list, text_of, written_by}

-- none of the first texts is one of the second
abbrev pub are_apart : List (List ℕ) → List (List ℕ) → Bool
are_apart first second = list_all (λ text. not (list_any (bytes_eq text) second)) first

-- whether a job writes no file twice, and none that an earlier one writes
abbrev pub is_new : LineParts → List LineParts → Bool
is_new line lines =
    are_distinct (written_by line)
    && list_all (λ e. are_apart (written_by e) (written_by line)) lines

-- A text follows these jobs, which have `seen` bytes.
pub record Follows (seen : ℕ) (lines : List LineParts) (text : List ℕ)
    (line : LineParts) : Type 0 where
  pub read : line_of text ≡ Some line
  pub few : length lines < most_lines
  pub short : seen + length text + 1 ≤ longest_list
  pub new : is_new line lines ≡ true

-- The bytes are cut at their first LF.
abbrev pub IsCut : List ℕ → List ℕ → List ℕ → Type 0
IsCut bytes text suffix = (bytes ≡ text ++ 10 ∷ suffix) × (list_any is_lf text ≡ false)

-- a job, and the bytes after its line
abbrev pub next_in : Option (LineParts × Bor (List ℕ)) → Option (LineParts × List ℕ)
next_in None = None
next_in (Some next) = Some (next.0, next.1.now)

-- The next line follows, or none does.
abbrev pub NextLine : ℕ → List LineParts → List ℕ → Option (LineParts × List ℕ) → Type 0
NextLine seen lines rest (Some next) = (text : List ℕ) × (rest ≡ text ++ 10 ∷ next.1)
    × Follows seen lines text next.0
NextLine seen lines rest None = (text suffix : List ℕ) (line : LineParts)
    → rest ≡ text ++ 10 ∷ suffix → Follows seen lines text line → ⊥

-- How far the list is read: these lines, and what is left.
pub record Stands (bytes : List ℕ) (lines : List LineParts) (rest : List ℕ) : Type 0 where
  pub texts : List (List ℕ)
  pub whole : bytes ≡ text_of texts ++ rest
  pub good : Begins texts lines
