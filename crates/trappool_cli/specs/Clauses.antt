-- What the top call promises, clause by clause, of the words and of what stands before and, primed,
-- after the call.
use Rattle.std.specs.Prelude.{◌≡◌, ◌≢◌, ◌⊎◌, ℕ, ◌+◌, ◌-◌, ◌^◌, ◌<◌, ◌≤◌, IsTrue, List, [], ◌∷◌}
use Rattle.std.specs.Prelude.{◌++◌, length, map, Some, None, Ok}
use Rattle.outside.specs.ErrorCases.{Rose, RoseOnce, Asks}
use Rattle.outside.specs.Rack.{RackState}
use Rattle.outside.specs.Tray.{TrayState}
use Rattle.page_files.specs.Inputs.{Holds, one_page, read_files}
use Rattle.page_files.specs.Files.{Written}
use Rattle.page_files.specs.Writing.{FinishesAll}
use Rattle.job_list.specs.Lines.{LineParts}
use Rattle.job_list.specs.Lists.{IsBadLine, IsList}
use Rattle.trap_pool.specs.Pools.{source_of, target_of}
use Rattle.trap_pool.specs.Replies.{ReplyParts}
use Rattle.common_errors.specs.CommonErrors.{line_of}
use Rattle.common_errors.specs.Statuses.{done, job_refused, not_read, not_written, out_of_memory}
use Rattle.common_errors.specs.Statuses.{usage, lines_refused}
use Rattle.common_errors.specs.Telling.{KeepsFiles, TellsText}
use Rattle.common_errors.specs.declared.common.CommonError.TheVariants as errors
use Rattle.trappool_cli.specs.Answers.{AnswersAll}
use Rattle.trappool_cli.specs.Cases.{AsksPrefixes, LinesEnd, read_lines, write_lines}
use Rattle.trappool_cli.specs.Reading.{MakesReplies, TakesList}
use Rattle.page_files.specs.Verdicts.{IsVerdict, Out, written_names}
use Rattle.trappool_cli.specs.declared.answering.LineStatus.{LineStatus}
use Rattle.trappool_cli.specs.Text.{bad_line, job_line, unread_line, usage_line}
use Rattle.trappool_cli.specs.Words.{AskedWords, asked_of}
use Rattle.trappool_cli.specs.declared.answering.LineStatus.TheVariants as said

-- Status 2 comes exactly where the words mean nothing. The usage line is then printed, and nothing
-- is read.
pub record Usage (words : List (List ℕ)) (tray tray' : TrayState) (rack rack' : RackState)
    (status : ℕ) : Type 0 where
  pub only : status ≡ usage → asked_of words ≡ None
  pub always : asked_of words ≡ None → status ≡ usage
  pub line : asked_of words ≡ None → TellsText usage_line rack rack'
  pub unread : asked_of words ≡ None → tray' ≡ tray

-- Status 3 comes only where the list has a first bad line, which is reported; status 5 only where
-- one call of the tray failed while the list was read, which is reported; and status 7 tells that
-- memory ran out.
pub record RefusedList (words : List (List ℕ)) (tray tray' : TrayState) (rack rack' : RackState)
    (status : ℕ) : Type 0 where
  pub bad : status ≡ job_refused → (asked : AskedWords) × (k : ℕ) × (asked_of words ≡ Some asked)
      × (tray'.faults ≡ tray.faults) × (IsTrue tray.tells
      → Holds tray.file asked.list (λ bytes. IsBadLine bytes k)) × TellsText (bad_line k) rack rack'
  pub unread : status ≡ not_read → RoseOnce tray.faults tray'.faults
      × TellsText unread_line rack rack'
  pub memory : status ≡ out_of_memory → TellsText (line_of errors.Memory) rack rack'

-- At every status but 0, 6 and 9 no file is created, changed, opened or finished.
abbrev pub LeavesFiles : RackState → RackState → ℕ → Type 0
LeavesFiles rack rack' status = status ≢ done → status ≢ not_written → status ≢ lines_refused
    → KeepsFiles rack rack'

-- what is printed where each of these lines, the first of them being line k, is done
abbrev pub done_text : ℕ → List LineParts → List ℕ
done_text k [] = []
done_text k (line ∷ lines) = job_line k said.Done ++ done_text (k + 1) lines

-- the files that are written for these lines, in order
abbrev pub all_written : List LineParts → List (List ℕ)
all_written [] = []
all_written (line ∷ lines) = written_names (target_of line) ++ all_written lines

-- Status 0 comes only where the list is one, each of its lines is printed as done, and each of
-- their files is finished.
abbrev pub Success : List (List ℕ) → TrayState → RackState → RackState → ℕ → Type 0
Success words tray rack rack' status = status ≡ done → (asked : AskedWords)
    × (lines : List LineParts) × (asked_of words ≡ Some asked)
    × (IsTrue tray.tells → Holds tray.file asked.list (λ bytes. IsList bytes lines))
    × (IsTrue rack.tells → rack'.reported ≡ rack.reported ++ done_text 0 lines)
    × FinishesAll (all_written lines) rack rack'

-- Status 6 comes only where the rack's count rose.
abbrev pub Untold : RackState → RackState → ℕ → Type 0
Untold rack rack' status = status ≡ not_written → Rose rack.faults rack'.faults

-- status 0, 9 or 6
abbrev pub IsAnswer : ℕ → Type 0
IsAnswer status = (status ≡ done) ⊎ ((status ≡ lines_refused) ⊎ (status ≡ not_written))

-- Status 0, 6 and 9 come only where the list and the pages of its lines were read: its lines are
-- then answered one after another, by the replies of the pool.
abbrev pub AnswersLines : List (List ℕ) → TrayState → TrayState → RackState → RackState → ℕ → Type 0
AnswersLines words tray tray' rack rack' status = IsAnswer status → (asked : AskedWords)
    × (lines : List LineParts) × (replies : List ReplyParts) × (asked_of words ≡ Some asked)
    × MakesReplies asked.list tray tray' (Ok (lines, replies))
    × AnswersAll 0 0 lines replies rack rack' status

-- No other status comes.
abbrev pub IsStatus : ℕ → Type 0
IsStatus status = IsAnswer status ⊎ ((status ≡ usage)
    ⊎ ((status ≡ job_refused) ⊎ ((status ≡ not_read) ⊎ (status ≡ out_of_memory))))

-- Where the tray tells the list's bytes: status 3 does not come of bytes that are a list; and of
-- bytes with a first bad line, where the tray's count did not rise, it comes and that line is
-- reported, or status 7 comes.
pub record JudgesList (words : List (List ℕ)) (tray tray' : TrayState) (rack rack' : RackState)
    (status : ℕ) : Type 0 where
  pub good : (asked : AskedWords) (lines : List LineParts) → asked_of words ≡ Some asked
      → IsTrue tray.tells → Holds tray.file asked.list (λ bytes. IsList bytes lines)
      → status ≢ job_refused
  pub bad : (asked : AskedWords) (k : ℕ) → asked_of words ≡ Some asked → IsTrue tray.tells
      → Holds tray.file asked.list (λ bytes. IsBadLine bytes k) → ¬ Rose tray.faults tray'.faults
      → ((status ≡ job_refused) × TellsText (bad_line k) rack rack') ⊎ (status ≡ out_of_memory)

-- What is said of the lines of a list that was read, and what stands after it: each line is in one
-- of its cases; names are handed out in their order, of each line a prefix of those that it gives;
-- below the last value of a count no more lines tell a failed read or a failed write than it rose
-- by; and where no count rose, a line whose verdict is a list of files is done, or too large, or
-- there was no memory for it.
pub record Answered (asked : AskedWords) (tray tray' : TrayState) (rack rack' : RackState)
    (status : ℕ) (lines : List LineParts) (whats : List LineStatus) : Type 0 where
  pub list : IsTrue tray.tells → Holds tray.file asked.list (λ bytes. IsList bytes lines)
  pub each : LinesEnd tray tray' 0 0 done lines whats rack rack' status
  pub begun : AsksPrefixes tray.asked tray'.asked
      ((asked.list ∷ []) ∷ map (λ (l : LineParts). read_files (source_of l)) lines)
  pub created : AsksPrefixes rack.asked rack'.asked
      (map (λ (l : LineParts). written_names (target_of l)) lines)
  pub reads : tray'.faults < 2 ^ 64 - 1 → tray.faults + read_lines whats ≤ tray'.faults
  pub writes : rack'.faults < 2 ^ 64 - 1 → rack.faults + write_lines whats ≤ rack'.faults
  pub calm : (before : List LineParts) (line : LineParts) (suffix : List LineParts)
      (earlier : List LineStatus) (what : LineStatus) (later : List LineStatus)
      (written : List Written)
      → lines ≡ before ++ line ∷ suffix → whats ≡ earlier ++ what ∷ later
      → length before ≡ length earlier → IsTrue tray.tells
      → IsVerdict one_page tray.file (source_of line) (target_of line) (Out written)
      → ¬ Rose tray.faults tray'.faults → ¬ Rose rack.faults rack'.faults → (what ≡ said.Done)
      ⊎ ((what ≡ said.TooLarge) ⊎ (what ≡ said.Refused errors.Memory))

-- Status 0, 9 and 6 come only where a list was read: there is then something said of each of its
-- lines, up to the first that cannot be printed.
abbrev pub AnswersEach : List (List ℕ) → TrayState → TrayState → RackState → RackState → ℕ → Type 0
AnswersEach words tray tray' rack rack' status = IsAnswer status → (asked : AskedWords)
    × (lines : List LineParts) × (whats : List LineStatus) × (asked_of words ≡ Some asked)
    × Answered asked tray tray' rack rack' status lines whats

-- At every other status no name but that of the list was handed to `begin`, and no more of it was
-- taken than is owed.
abbrev pub BeginsList : List (List ℕ) → TrayState → TrayState → ℕ → Type 0
BeginsList words tray tray' status = (asked : AskedWords) → asked_of words ≡ Some asked
    → ¬ IsAnswer status → Asks tray.asked tray'.asked (asked.list ∷ [])
    × TakesList asked.list tray tray'

-- Words that mean something and a list give 0, 9 or 7; or 5, where the tray's count rose, or 6,
-- where the rack's did.
abbrev pub Completeness : List (List ℕ) → TrayState → TrayState → RackState → RackState → ℕ → Type 0
Completeness words tray tray' rack rack' status = (asked : AskedWords) (lines : List LineParts)
    → asked_of words ≡ Some asked → IsTrue tray.tells
    → Holds tray.file asked.list (λ bytes. IsList bytes lines) → (status ≡ done)
    ⊎ ((status ≡ lines_refused) ⊎ ((status ≡ out_of_memory)
    ⊎ (((status ≡ not_read) × Rose tray.faults tray'.faults)
    ⊎ ((status ≡ not_written) × Rose rack.faults rack'.faults))))
