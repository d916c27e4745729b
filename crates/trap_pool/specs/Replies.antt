-- What is answered to a line of a list of jobs.
use Rattle.std.specs.Prelude.{◌≡◌, ℕ, ◌+◌, ◌*◌, ◌≤◌, List, [], ◌∷◌, Option, Some, None}
use Rattle.std.specs.Prelude.{Result, Ok, Err, length, All}
use Rattle.page_model.specs.declared.parts.PageParts.{PageParts}
use Rattle.page_model.specs.declared.parts.Plane.{Plane}
use Rattle.page_model.specs.Conditions.{IsPlane}
use Rattle.page_model.specs.Counts.{page_counts}
use Rattle.page_model.specs.Limits.{most_plates, most_samples}
use Rattle.page_model.specs.Page.{height, plates, width}
use Rattle.page_model.specs.Tints.{trapped_planes}
use Rattle.page_tally.specs.declared.outcome.Trapped.{Trapped}
use Rattle.common_errors.specs.declared.common.CommonError.{CommonError}
use Rattle.common_errors.specs.declared.common.CommonError.TheVariants.{Usage, Read, Write, Memory}
use Rattle.trap_report.specs.Report.{report_of}
use Rattle.trap_pool.specs.declared.outcome.Outcome.{Outcome}
use Rattle.trap_pool.specs.declared.outcome.Outcome.TheVariants.{Done, Refused, TooLarge}

-- the reply to a line: its number, its page where one was gathered, and what became of it
pub record ReplyParts : Type 0 where
  pub line : ℕ
  pub page : Option PageParts
  pub outcome : Outcome

abbrev pub reply_parts : ℕ → Option PageParts → Outcome → ReplyParts
reply_parts line page outcome = record { line = line; page = page; outcome = outcome }

-- The new tints and the counts are those of the page.
pub record IsTrapOf (page : PageParts) (trapped : Trapped) : Type 0 where
  pub planes : trapped.planes ≡ trapped_planes page
  pub counts : trapped.counts ≡ page_counts page

-- Planes that can be written, with their report, the page's.
pub record IsReport (page : PageParts) (planes : List Plane) (text : List ℕ) : Type 0 where
  pub text_is : text ≡ report_of page (page_counts page)
  pub few : length planes ≤ most_plates
  pub planes_in_range : All IsPlane planes
  pub few_samples : All (λ (plane : Plane). plane.width * plane.height ≤ most_samples) planes

-- Beside what is done stands its report.
abbrev pub IsReady : Option PageParts → Outcome → Option (List ℕ) → Type 0
IsReady (Some page) (Done trapped) (Some text) = IsReport page trapped.planes text
IsReady (Some page) (Done trapped) None = ⊥
IsReady page outcome text = Unit {0}

-- A page is gathered or refused: nothing else comes of the words, and nothing is written.
abbrev pub IsReading : CommonError → Type 0
IsReading Usage = ⊥
IsReading (Write file) = ⊥
IsReading other = Unit {0}

-- A page that was gathered is trapped, or is too large, or there was no memory to trap it; else
-- there is the error of the page.
abbrev pub IsReply : Option PageParts → Outcome → Type 0
IsReply (Some page) (Done trapped) = IsTrapOf page trapped
IsReply (Some page) TooLarge = Unit {0}
IsReply (Some page) (Refused common_error) = common_error ≡ Memory
IsReply None (Refused common_error) = IsReading common_error
IsReply None (Done trapped) = ⊥
IsReply None TooLarge = ⊥

-- the samples of all plates of a page
abbrev pub all_samples : PageParts → ℕ
all_samples page = width page * height page * plates page

-- how many samples the pages of a list may have together
abbrev pub most_in_all : ℕ
most_in_all = 320000000

-- the samples that a reply's page takes of these, where it is accepted
abbrev pub accepted_of : Option PageParts → Outcome → ℕ
accepted_of None outcome = 0
accepted_of (Some page) TooLarge = 0
accepted_of (Some page) (Done trapped) = all_samples page
accepted_of (Some page) (Refused common_error) = all_samples page

-- the samples of all accepted pages
abbrev pub accepted : List ReplyParts → ℕ
accepted [] = 0
accepted (reply ∷ replies) = accepted_of reply.page reply.outcome + accepted replies

-- 1 where the reply is a read fault
abbrev pub read_fault : Outcome → ℕ
read_fault (Refused (Read file)) = 1
read_fault other = 0

-- how many of the replies are read faults
abbrev pub read_faults : List ReplyParts → ℕ
read_faults [] = 0
read_faults (reply ∷ replies) = read_fault reply.outcome + read_faults replies

-- what was gathered, be it accepted or not
abbrev pub gathered_of : Option PageParts → Outcome → Result PageParts CommonError
gathered_of (Some page) outcome = Ok page
gathered_of None (Refused common_error) = Err common_error
gathered_of None (Done trapped) = Err Memory
gathered_of None TooLarge = Err Memory
