-- The text of one page of a job of many.
use Rattle.std.specs.Prelude.{ℕ, Bool, not, ◌&&◌, ◌-◌, nat_le, max, List, ◌∷◌, ◌++◌, take, drop}
use Rattle.std.specs.Prelude.{length, map, filter, fold, replicate, slice_index, ◌+◌}
use Rattle.job_pages.specs.declared.statement_spans.StatementSpan.{StatementSpan}
use Rattle.job_pages.specs.StatementSpans.{shows, stays}

-- where the pages of a job end, in their order: each after its `showpage`
abbrev pub page_ends : List StatementSpan → List ℕ
page_ends spans = map (λ (p : StatementSpan). p.end) (filter shows spans)

-- page k stands between the bounds k and k + 1
abbrev pub bound : List StatementSpan → ℕ → ℕ
bound spans k = slice_index (0 ∷ page_ends spans) k

-- whether a statement of a page before this place sets nothing that stays in force
abbrev pub is_left_after : ℕ → StatementSpan → Bool
is_left_after start p = not (stays p) && nat_le p.end start

-- as many spaces as there are bytes
abbrev pub spaces_for : List ℕ → List ℕ
spaces_for bytes = replicate (length bytes) 32

-- a text with spaces in a statement's place
abbrev pub blanked : List ℕ → StatementSpan → List ℕ
blanked text p =
    take p.from text ++ spaces_for (take (p.end - p.from) (drop p.from text)) ++
    drop (max p.from p.end) text

-- The bytes up to the end of page k, counted from 0. In the place of each statement of an earlier
-- page stand spaces, unless it is `setpagedevice` or `settrapparams`: so parameters, limits,
-- resolution, Trapping and details go on from page to page, paths and zones do not, and all offsets
-- are those of the whole job.
abbrev pub text_in : List StatementSpan → List ℕ → ℕ → List ℕ
text_in spans bytes k =
    fold blanked (take (bound spans (k + 1)) bytes)
    (filter (is_left_after (bound spans k)) spans)
