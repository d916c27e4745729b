-- The loops of blank_earlier: puts spaces in the place of the statements before a page that set
-- nothing which stays in force.
use Rattle.std.proofs.Common.{◌≡◌, take}
use Rattle.std.specs.Prelude.{filter, fold}
use Rattle.job_pages.specs.PageText.{blanked, is_left_after}
use Rattle.job_pages.proofs.page.blank_earlier.Given as goal

-- the statements so far are blanked where they are left after
abbrev pub invariant-loop-span : goal.invariant-loop-span
invariant-loop-span l = l.text ≡ fold blanked l.initial.text (filter (is_left_after l.start) (take l.span-index l.spans))
