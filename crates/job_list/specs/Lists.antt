-- What a list of jobs is, and which of its lines is the first bad one.
use Rattle.std.specs.Prelude.{◌≡◌, ◌≢◌, ◌⊎◌, ℕ, ◌<◌, ◌≤◌, true, List, [], ◌∷◌, ◌++◌, length, Option}
use Rattle.std.specs.Prelude.{Some, None, Result, Ok, Err}
use Rattle.plain_words.specs.Distinct.{are_distinct}
use Rattle.job_list.specs.Lines.{LineParts, line_of}
use Rattle.job_list.specs.declared.reading.ListError.{ListError}
use Rattle.job_list.specs.declared.reading.ListError.TheVariants.{BadLine, OutOfMemory}

-- how many bytes and how many lines a list has at most
abbrev pub longest_list : ℕ
longest_list = 1048576

abbrev pub most_lines : ℕ
most_lines = 256

-- these texts as lines, an LF after each
abbrev pub text_of : List (List ℕ) → List ℕ
text_of [] = []
text_of (text ∷ texts) = text ++ 10 ∷ text_of texts

abbrev pub one_more : Option LineParts → Option (List LineParts) → Option (List LineParts)
one_more (Some line) (Some lines) = Some (line ∷ lines)
one_more _ _ = None

-- the jobs of these texts, where each of them is a line
abbrev pub lines_of : List (List ℕ) → Option (List LineParts)
lines_of [] = Some []
lines_of (text ∷ texts) = one_more (line_of text) (lines_of texts)

-- the files that a job writes
abbrev pub written_by : LineParts → List (List ℕ)
written_by line = line.report ∷ line.outs

-- the files that all jobs write
abbrev pub written : List LineParts → List (List ℕ)
written [] = []
written (line ∷ lines) = written_by line ++ written lines

-- A list may begin with these lines: each means a job, no file is written twice, and they are
-- neither too many nor too long.
pub record Begins (texts : List (List ℕ)) (lines : List LineParts) : Type 0 where
  pub read : lines_of texts ≡ Some lines
  pub few : length texts ≤ most_lines
  pub short : length (text_of texts) ≤ longest_list
  pub apart : are_distinct (written lines) ≡ true

-- The bytes are a list of these jobs, of which there is at least one.
abbrev pub IsList : List ℕ → List LineParts → Type 0
IsList bytes lines = (texts : List (List ℕ)) × (bytes ≡ text_of texts) × (1 ≤ length lines)
    × Begins texts lines

-- Line k is the first bad one: a list may begin with the k lines before it, and with no line more.
-- It is not the end after the last line; but where there is no byte, line 0 is missing.
pub record IsBadLine (bytes : List ℕ) (k : ℕ) : Type 0 where
  pub texts : List (List ℕ)
  pub lines : List LineParts
  pub rest : List ℕ
  pub whole : bytes ≡ text_of texts ++ rest
  pub good : Begins texts lines
  pub place : length texts ≡ k
  pub there : 0 < k → rest ≢ []
  pub bad : (text suffix : List ℕ) (more : List LineParts) → rest ≡ text ++ 10 ∷ suffix
      → Begins (texts ++ text ∷ []) more → ⊥

-- what the answer says
abbrev pub ReadsList : List ℕ → Result (List LineParts) ListError → Type 0
ReadsList bytes (Ok lines) = IsList bytes lines
ReadsList bytes (Err (BadLine k)) = IsBadLine bytes k
ReadsList bytes (Err OutOfMemory) = Unit {0}

-- The bytes are a list, or have a first bad line.
abbrev pub HasReading : List ℕ → Type 0
HasReading bytes = ((lines : List LineParts) × IsList bytes lines) ⊎ ((k : ℕ) × IsBadLine bytes k)

-- Bytes that are a list have no bad line; there is one first bad line at most; and one list of
-- jobs.
pub record OneReading : Type 0 where
  pub no_bad_line : (bytes : List ℕ) (lines : List LineParts) (k : ℕ) → IsList bytes lines
      → IsBadLine bytes k → ⊥
  pub one_bad_line : (bytes : List ℕ) (one two : ℕ) → IsBadLine bytes one → IsBadLine bytes two
      → one ≡ two
  pub one_list : (bytes : List ℕ) (one two : List LineParts) → IsList bytes one → IsList bytes two
      → one ≡ two
