-- Lines that are answered by their replies end in one of the cases.
use Rattle.std.proofs.Common.{◌≡◌, ◌⊎◌, ◌∙◌, ℕ, ◌+◌, ◌-◌, ◌^◌, ◌<◌, ◌≤◌, Bool, true, false, IsTrue, List, [], ◌∷◌, ◌++◌, length, map, Option, Some, None, Ok, Err, inl, inr, refl, sym, ap, subst, arith, ltb, ltb-true}
use Rattle.std.proofs.lemmas.Bool.{ltb-false}
use Rattle.outside.specs.ErrorCases.{Rose}
use Rattle.outside.specs.Rack.{RackState, KeepsRack}
use Rattle.outside.specs.Tray.{TrayState, KeepsTray}
use Rattle.outside.proofs.Names.{asks_none_of}
use Rattle.outside.proofs.Steps.{kept_tray}
use Rattle.page_files.specs.Gathering.{AnswersPage, Gathers}
use Rattle.page_files.specs.Inputs.{Makes, one_page, read_files}
use Rattle.page_model.specs.declared.parts.PageParts.{PageParts}
use Rattle.page_files.specs.Files.{Written}
use Rattle.page_files.specs.Writing.{Breaks}
use Rattle.job_list.specs.Lines.{LineParts}
use Rattle.trap_pool.specs.declared.outcome.Outcome.{Outcome}
use Rattle.trap_pool.specs.declared.outcome.Outcome.TheVariants as outcomes
use Rattle.trap_pool.specs.Pools.{AnswersLine, InTurn, IsJudged, KeepsLimit, source_of, target_of}
use Rattle.trap_pool.specs.Replies.{ReplyParts, IsReading, IsReply, accepted_of, all_samples, gathered_of, read_fault, read_faults}
use Rattle.trap_pool.proofs.Turns.{keeps_in_turn}
use Rattle.common_errors.specs.declared.common.CommonError.{CommonError}
use Rattle.common_errors.specs.declared.common.CommonError.TheVariants as errors
use Rattle.page_files.specs.Verdicts.{IsVerdict, OneVerdict, Out, Refused as refused_verdict, outcome, written_names}
use Rattle.trappool_cli.specs.Answers.{AnswersAll, AnswersDone, AnswersSaid, status_with}
use Rattle.trappool_cli.specs.Cases.{AcceptsPage, AsksPrefixes, IsCase, LinesEnd, MakesPage, read_line, read_lines, write_line, write_lines}
use Rattle.trappool_cli.specs.declared.answering.LineStatus.{LineStatus}
use Rattle.trappool_cli.specs.declared.answering.LineStatus.TheVariants as said

less : (a b : ℕ) → (a < b) ⊎ (b ≤ a)
less a b = elim (ltb a b) as (λ (v : Bool). ltb a b ≡ v → (a < b) ⊎ (b ≤ a)) [ true ↦ λ e. inl (ltb-true a b e) | false ↦ λ e. inr (ltb-false a b e) ] refl

-- a rise between two moments is one between an earlier and a later
pub rose_within : (a b c d : ℕ) → a ≤ b → b ≤ c → c ≤ d → Rose b c → Rose a d
rose_within a b c d p q r (inl up) = inl (omega arith)
rose_within a b c d p q r (inr last) = elim (less a d) [ inl up ↦ inl up | inr down ↦ inr (let same : d ≡ c = omega arith in same ∙ last) ]

module _ (t t' : TrayState) (used : ℕ) (line : LineParts) (m n : TrayState) (keeps : KeepsTray t m) (up : m.faults ≤ n.faults) (later : n.faults ≤ t'.faults) where
  judged_as : (error : CommonError) → (IsTrue m.tells → IsJudged m.file (source_of line) error) → IsTrue t.tells → IsJudged t.file (source_of line) error
  judged_as error judged tells = subst (λ (files : List ℕ → Option (List ℕ)). IsJudged files (source_of line) error) keeps.file (judged (keeps.tells ∙ tells))

  refused_case : (error : CommonError) → IsReading error → AnswersPage (source_of line) m n (Err error) → (a b : RackState) → b ≡ a → IsCase t t' used 0 line a b (said.Refused error)
  refused_case errors.Usage reading answer a b same = absurd reading
  refused_case (errors.Write file) reading answer a b same = absurd reading
  refused_case errors.Memory reading answer a b same = (inl refl, same)
  refused_case (errors.Read None) reading answer a b same = (rose_within t.faults m.faults n.faults t'.faults keeps.faults up later answer.0, refl, same)
  refused_case (errors.Read (Some k)) reading answer a b same = (rose_within t.faults m.faults n.faults t'.faults keeps.faults up later answer.0, refl, same)
  refused_case (errors.Job fault) reading answer a b same = (judged_as (errors.Job fault) answer.1, refl, same)
  refused_case (errors.NoDetails k) reading answer a b same = (judged_as (errors.NoDetails k) answer.1, refl, same)
  refused_case (errors.Plate k fault) reading answer a b same = (judged_as (errors.Plate k fault) answer.1, refl, same)
  refused_case (errors.Page fault) reading answer a b same = (judged_as (errors.Page fault) answer.1, refl, same)

  makes_page : (page : PageParts) (outcome : Outcome) → Gathers (source_of line) m n (gathered_of (Some page) outcome) → MakesPage t line page
  makes_page page outcome gathers =
      let made : IsTrue t.tells → Makes one_page t.file (source_of line) (Ok page) = λ tells. subst (λ (files : List ℕ → Option (List ℕ)). Makes one_page files (source_of line) (Ok page)) keeps.file (gathers.answer.2 (keeps.tells ∙ tells)) in
      record { made = made; verdict = λ tells. (page, made tells, refl) }

  done_case : (page : PageParts) → AcceptsPage t used (all_samples page) line page → (a b : RackState) (what : LineStatus) → AnswersDone (target_of line) page a b what → IsCase t t' used (all_samples page) line a b what
  done_case page accepts a b said.Done answer = (page, accepts, answer)
  done_case page accepts a b said.TooLarge answer = absurd answer
  done_case page accepts a b (said.Refused (errors.Write file)) answer = (page, accepts, answer.0, answer.1)
  done_case page accepts a b (said.Refused errors.Memory) answer = (inr (page, accepts), answer)
  done_case page accepts a b (said.Refused errors.Usage) answer = absurd answer
  done_case page accepts a b (said.Refused (errors.Job fault)) answer = absurd answer
  done_case page accepts a b (said.Refused (errors.NoDetails k)) answer = absurd answer
  done_case page accepts a b (said.Refused (errors.Plate k fault)) answer = absurd answer
  done_case page accepts a b (said.Refused (errors.Page fault)) answer = absurd answer
  done_case page accepts a b (said.Refused (errors.Read file)) answer = absurd answer

  case_of : (page : Option PageParts) (outcome : Outcome) → IsReply page outcome → Gathers (source_of line) m n (gathered_of page outcome) → KeepsLimit used page outcome → (a b : RackState) (what : LineStatus) → AnswersSaid (target_of line) page outcome a b what → IsCase t t' used (accepted_of page outcome) line a b what
  case_of (Some page) (outcomes.Done trapped) kind gathers limit a b what answer =
      done_case page (record { is_made = makes_page page (outcomes.Done trapped) gathers; workspace = limit; samples = refl }) a b what answer
  case_of (Some page) outcomes.TooLarge kind gathers limit a b said.TooLarge answer = (page, makes_page page outcomes.TooLarge gathers, limit, refl, answer)
  case_of (Some page) outcomes.TooLarge kind gathers limit a b said.Done answer = absurd answer
  case_of (Some page) outcomes.TooLarge kind gathers limit a b (said.Refused other) answer = absurd answer
  case_of (Some page) (outcomes.Refused error) kind gathers limit a b (said.Refused other) answer =
      subst (λ (r : CommonError). IsCase t t' used (all_samples page) line a b (said.Refused r)) (sym (answer.0 ∙ kind))
      (inr (page, record { is_made = makes_page page (outcomes.Refused error) gathers; workspace = limit; samples = refl }), answer.1)
  case_of (Some page) (outcomes.Refused error) kind gathers limit a b said.Done answer = absurd answer
  case_of (Some page) (outcomes.Refused error) kind gathers limit a b said.TooLarge answer = absurd answer
  case_of None (outcomes.Refused error) kind gathers limit a b (said.Refused other) answer =
      subst (λ (r : CommonError). IsCase t t' used 0 line a b (said.Refused r)) (sym answer.0) (refused_case error kind gathers.answer a b answer.1)
  case_of None (outcomes.Refused error) kind gathers limit a b said.Done answer = absurd answer
  case_of None (outcomes.Refused error) kind gathers limit a b said.TooLarge answer = absurd answer
  case_of None (outcomes.Done trapped) kind gathers limit a b what answer = absurd kind
  case_of None outcomes.TooLarge kind gathers limit a b what answer = absurd kind

-- A failed read is told only of a reply that is one.
read_as : (error : CommonError) → read_line (said.Refused error) ≤ read_fault (outcomes.Refused error)
read_as errors.Usage = omega arith
read_as (errors.Write file) = omega arith
read_as errors.Memory = omega arith
read_as (errors.Read file) = omega arith
read_as (errors.Job fault) = omega arith
read_as (errors.NoDetails k) = omega arith
read_as (errors.Plate k fault) = omega arith
read_as (errors.Page fault) = omega arith

read_done : (line : LineParts) (page : PageParts) (a b : RackState) (what : LineStatus) → AnswersDone (target_of line) page a b what → read_line what ≤ 0
read_done line page a b said.Done answer = omega arith
read_done line page a b said.TooLarge answer = absurd answer
read_done line page a b (said.Refused (errors.Write file)) answer = omega arith
read_done line page a b (said.Refused errors.Memory) answer = omega arith
read_done line page a b (said.Refused errors.Usage) answer = absurd answer
read_done line page a b (said.Refused (errors.Job fault)) answer = absurd answer
read_done line page a b (said.Refused (errors.NoDetails k)) answer = absurd answer
read_done line page a b (said.Refused (errors.Plate k fault)) answer = absurd answer
read_done line page a b (said.Refused (errors.Page fault)) answer = absurd answer
read_done line page a b (said.Refused (errors.Read file)) answer = absurd answer

read_same : (error other : CommonError) → other ≡ error → read_line (said.Refused other) ≤ read_fault (outcomes.Refused error)
read_same error other same = subst (λ (r : CommonError). read_line (said.Refused r) ≤ read_fault (outcomes.Refused error)) (sym same) (read_as error)

read_one : (line : LineParts) (page : Option PageParts) (outcome : Outcome) (a b : RackState) (what : LineStatus) → AnswersSaid (target_of line) page outcome a b what → read_line what ≤ read_fault outcome
read_one line (Some page) (outcomes.Done trapped) a b what answer = read_done line page a b what answer
read_one line None (outcomes.Done trapped) a b said.Done answer = absurd answer
read_one line None (outcomes.Done trapped) a b said.TooLarge answer = absurd answer
read_one line None (outcomes.Done trapped) a b (said.Refused other) answer = absurd answer
read_one line (Some page) (outcomes.Refused error) a b (said.Refused other) answer = read_same error other answer.0
read_one line (Some page) (outcomes.Refused error) a b said.Done answer = absurd answer
read_one line (Some page) (outcomes.Refused error) a b said.TooLarge answer = absurd answer
read_one line None (outcomes.Refused error) a b (said.Refused other) answer = read_same error other answer.0
read_one line None (outcomes.Refused error) a b said.Done answer = absurd answer
read_one line None (outcomes.Refused error) a b said.TooLarge answer = absurd answer
read_one line (Some page) outcomes.TooLarge a b said.TooLarge answer = omega arith
read_one line (Some page) outcomes.TooLarge a b said.Done answer = absurd answer
read_one line (Some page) outcomes.TooLarge a b (said.Refused other) answer = absurd answer
read_one line None outcomes.TooLarge a b said.TooLarge answer = omega arith
read_one line None outcomes.TooLarge a b said.Done answer = absurd answer
read_one line None outcomes.TooLarge a b (said.Refused other) answer = absurd answer

-- All lines end in their cases.
module _ (t t' : TrayState) where
  abbrev pub Ended : ℕ → ℕ → ℕ → List LineParts → List ReplyParts → RackState → RackState → ℕ → Type 0
  Ended k used so_far lines replies a b status = (whats : List LineStatus) × LinesEnd t t' k used so_far lines whats a b status × (read_lines whats ≤ read_faults replies)

  line_ends : (k used : ℕ) (line : LineParts) (reply : ReplyParts) (m n : TrayState) (a b : RackState) (what : LineStatus) → KeepsTray t m → n.faults ≤ t'.faults → AnswersLine k used line m n reply → KeepsRack a b → (IsTrue a.tells → b.reported ≡ a.reported) → AnswersSaid (target_of line) reply.page reply.outcome a b what → IsCase t t' used (accepted_of reply.page reply.outcome) line a b what
  line_ends k used line reply m n a b what keeps later answers kept reported answer =
      case_of t t' used line m n keeps answers.gathers.keeps.faults later reply.page reply.outcome answers.kind answers.gathers answers.limit a b what answer

  pub lines_end : (k used so_far : ℕ) (lines : List LineParts) (replies : List ReplyParts) (m : TrayState) (a b : RackState) (status : ℕ) → KeepsTray t m → InTurn k used lines m t' replies → AnswersAll k so_far lines replies a b status → Ended k used so_far lines replies a b status
  lines_end k used so_far [] [] m a b status keeps turn all = ([], all, omega arith)
  lines_end k used so_far [] (reply ∷ replies) m a b status keeps turn all = absurd turn
  lines_end k used so_far (line ∷ lines) [] m a b status keeps turn all = absurd turn
  lines_end k used so_far (line ∷ lines) (reply ∷ replies) m a b status keeps turn (inl one) =
      let taken = accepted_of reply.page reply.outcome in
      let more = keeps_in_turn (k + 1) (used + taken) lines turn.0 t' replies turn.2 in
      let kept = kept_tray t m turn.0 keeps turn.1.gathers.keeps in
      let wrote = one.2.1 in
      let rest = lines_end (k + 1) (used + taken) (status_with so_far one.0) lines replies turn.0 one.1 b status kept turn.2 one.3 in
      let first = read_one line reply.page reply.outcome a one.2.0 one.0 wrote.answer in
      let few = rest.2 in (
        one.0 ∷ rest.0,
        (
          taken,
          one.2.0,
          record { keeps = wrote.keeps; reported = wrote.reported; asked = wrote.asked; ends = line_ends k used line reply m turn.0 a one.2.0 one.0 keeps more.faults turn.1 wrote.keeps wrote.reported wrote.answer },
          inl (one.1, one.2.2, rest.1),
        ),
        omega arith,
      )
  lines_end k used so_far (line ∷ lines) (reply ∷ replies) m a b status keeps turn (inr untold) =
      let taken = accepted_of reply.page reply.outcome in
      let more = keeps_in_turn (k + 1) (used + taken) lines turn.0 t' replies turn.2 in
      let what = untold.0.0 in
      let mid = untold.0.1 in
      let wrote = untold.0.2 in
      let first = read_one line reply.page reply.outcome a mid what wrote.answer in (
        what ∷ [],
        (
          taken,
          mid,
          record { keeps = wrote.keeps; reported = wrote.reported; asked = wrote.asked; ends = line_ends k used line reply m turn.0 a mid what keeps more.faults turn.1 wrote.keeps wrote.reported wrote.answer },
          inr (untold.0.3, refl, untold.1),
        ),
        omega arith,
      )

  -- The rack's count never falls.
  pub racks_up : (k used so_far : ℕ) (lines : List LineParts) (whats : List LineStatus) (a b : RackState) (status : ℕ) → LinesEnd t t' k used so_far lines whats a b status → a.faults ≤ b.faults
  racks_up k used so_far [] [] a b status all = let same : b.faults ≡ a.faults = ap (λ (r : RackState). r.faults) all.0 in omega arith
  racks_up k used so_far [] (what ∷ whats) a b status all = absurd all
  racks_up k used so_far (line ∷ lines) [] a b status all = absurd all
  racks_up k used so_far (line ∷ lines) (what ∷ whats) a b status (taken, between, ends, inl on) =
      let up = racks_up (k + 1) (used + taken) (status_with so_far what) lines whats on.0 b status on.2 in
      let first = ends.keeps.faults in
      let calm = on.1.calm in
      omega arith
  racks_up k used so_far (line ∷ lines) (what ∷ whats) a b status (taken, between, ends, inr last) =
      let first = ends.keeps.faults in
      let end = last.0.files.keeps.faults in
      omega arith

  -- A failed write raises it.
  broke : (plates : ℕ) (files : List Written) (file : Option ℕ) (a b : RackState) → Breaks plates files file a b → Rose a.faults b.faults
  broke plates files (Some k) a b breaks = breaks.1.reason
  broke plates files None a b breaks = breaks.reason

  up_by_one : (a b : ℕ) → b < 2 ^ 64 - 1 → Rose a b → a + 1 ≤ b
  up_by_one a b low (inl up) = omega arith
  up_by_one a b low (inr last) = absurd (omega arith)

  write_one : (used taken : ℕ) (line : LineParts) (a b : RackState) (what : LineStatus) → b.faults < 2 ^ 64 - 1 → a.faults ≤ b.faults → IsCase t t' used taken line a b what → a.faults + write_line what ≤ b.faults
  write_one used taken line a b (said.Refused (errors.Write file)) low up ends = up_by_one a.faults b.faults low (broke (length line.outs) (outcome (target_of line) ends.0) file a b ends.2)
  write_one used taken line a b said.Done low up ends = omega arith
  write_one used taken line a b said.TooLarge low up ends = omega arith
  write_one used taken line a b (said.Refused errors.Usage) low up ends = omega arith
  write_one used taken line a b (said.Refused errors.Memory) low up ends = omega arith
  write_one used taken line a b (said.Refused (errors.Read file)) low up ends = omega arith
  write_one used taken line a b (said.Refused (errors.Job fault)) low up ends = omega arith
  write_one used taken line a b (said.Refused (errors.NoDetails k)) low up ends = omega arith
  write_one used taken line a b (said.Refused (errors.Plate k fault)) low up ends = omega arith
  write_one used taken line a b (said.Refused (errors.Page fault)) low up ends = omega arith

  pub writes_rise : (k used so_far : ℕ) (lines : List LineParts) (whats : List LineStatus) (a b : RackState) (status : ℕ) → LinesEnd t t' k used so_far lines whats a b status → b.faults < 2 ^ 64 - 1 → a.faults + write_lines whats ≤ b.faults
  writes_rise k used so_far [] [] a b status all low = let same : b.faults ≡ a.faults = ap (λ (r : RackState). r.faults) all.0 in omega arith
  writes_rise k used so_far [] (what ∷ whats) a b status all low = absurd all
  writes_rise k used so_far (line ∷ lines) [] a b status all low = absurd all
  writes_rise k used so_far (line ∷ lines) (what ∷ whats) a b status (taken, between, ends, inl on) low =
      let up = racks_up (k + 1) (used + taken) (status_with so_far what) lines whats on.0 b status on.2 in
      let more = writes_rise (k + 1) (used + taken) (status_with so_far what) lines whats on.0 b status on.2 low in
      let calm = on.1.calm in
      let first = write_one used taken line a between what (omega arith) ends.keeps.faults ends.ends in
      omega arith
  writes_rise k used so_far (line ∷ lines) (what ∷ whats) a b status (taken, between, ends, inr last) low =
      let end = last.0.files.keeps.faults in
      let first = write_one used taken line a between what (omega arith) ends.keeps.faults ends.ends in
      let none : write_lines whats ≡ 0 = ap write_lines last.1 in
      omega arith

-- ## Names

none_asked : (a : Option (List (List ℕ))) (groups : List (List (List ℕ))) → AsksPrefixes a a groups
none_asked a [] = refl
none_asked a (names ∷ groups) = (a, asks_none_of a names, none_asked a groups)

pub asked_reading : (k used : ℕ) (lines : List LineParts) (replies : List ReplyParts) (m n : TrayState) → InTurn k used lines m n replies → AsksPrefixes m.asked n.asked (map (λ (l : LineParts). read_files (source_of l)) lines)
asked_reading k used [] [] m n turn = ap (λ (s : TrayState). s.asked) turn
asked_reading k used [] (reply ∷ replies) m n turn = absurd turn
asked_reading k used (line ∷ lines) [] m n turn = absurd turn
asked_reading k used (line ∷ lines) (reply ∷ replies) m n turn = (turn.0.asked, turn.1.gathers.asked, asked_reading (k + 1) (used + accepted_of reply.page reply.outcome) lines replies turn.0 n turn.2)

abbrev made_names : List LineParts → List (List (List ℕ))
made_names = map (λ (l : LineParts). written_names (target_of l))

module _ (t t' : TrayState) where
  pub asked_writing : (k used so_far : ℕ) (lines : List LineParts) (whats : List LineStatus) (a b : RackState) (status : ℕ) → LinesEnd t t' k used so_far lines whats a b status → AsksPrefixes a.asked b.asked (made_names lines)
  asked_writing k used so_far [] [] a b status all = ap (λ (r : RackState). r.asked) all.0
  asked_writing k used so_far [] (what ∷ whats) a b status all = absurd all
  asked_writing k used so_far (line ∷ lines) [] a b status all = absurd all
  asked_writing k used so_far (line ∷ lines) (what ∷ whats) a b status (taken, between, ends, inl on) = (
    between.asked,
    ends.asked,
    subst (λ (o : Option (List (List ℕ))). AsksPrefixes o b.asked (made_names lines)) on.1.files.asked (asked_writing (k + 1) (used + taken) (status_with so_far what) lines whats on.0 b status on.2),
  )
  asked_writing k used so_far (line ∷ lines) (what ∷ whats) a b status (taken, between, ends, inr last) = (
    between.asked,
    ends.asked,
    subst (λ (o : Option (List (List ℕ))). AsksPrefixes between.asked o (made_names lines)) (sym last.0.files.asked) (none_asked between.asked (made_names lines)),
  )

-- ## Without a rise

never_nil : {A : Type 0} (xs : List A) (x : A) (ys : List A) → xs ++ x ∷ ys ≡ [] → ⊥
never_nil [] x ys is = absurd (cc)
never_nil (z ∷ xs) x ys is = absurd (cc)

module _ (t t' : TrayState) where
  abbrev HasCase : LineParts → LineStatus → RackState → RackState → Type 0
  HasCase line what a b = (used : ℕ) × (taken : ℕ) × (x : RackState) × (y : RackState) × IsCase t t' used taken line x y what × (a.faults ≤ x.faults) × (x.faults ≤ y.faults) × (y.faults ≤ b.faults)

  case_at : (k used so_far : ℕ) (before : List LineParts) (line : LineParts) (suffix : List LineParts) (earlier : List LineStatus) (what : LineStatus) (later : List LineStatus) (a b : RackState) (status : ℕ) → length before ≡ length earlier → LinesEnd t t' k used so_far (before ++ line ∷ suffix) (earlier ++ what ∷ later) a b status → HasCase line what a b
  case_at k used so_far [] line suffix [] what later a b status same (taken, between, ends, inl on) =
      let up = racks_up t t' (k + 1) (used + taken) (status_with so_far what) suffix later on.0 b status on.2 in
      let calm = on.1.calm in
      (used, taken, a, between, ends.ends, omega arith, ends.keeps.faults, omega arith)
  case_at k used so_far [] line suffix [] what later a b status same (taken, between, ends, inr last) =
      (used, taken, a, between, ends.ends, omega arith, ends.keeps.faults, last.0.files.keeps.faults)
  case_at k used so_far [] line suffix (w ∷ earlier) what later a b status same all = absurd (omega arith)
  case_at k used so_far (l ∷ before) line suffix [] what later a b status same all = absurd (omega arith)
  case_at k used so_far (l ∷ before) line suffix (w ∷ earlier) what later a b status same (taken, between, ends, inl on) =
      let found = case_at (k + 1) (used + taken) (status_with so_far w) before line suffix earlier what later on.0 b status (omega arith) on.2 in
      let first = ends.keeps.faults in
      let calm = on.1.calm in
      let low = found.5 in
      (found.0, found.1, found.2, found.3, found.4, omega arith, found.6, found.7)
  case_at k used so_far (l ∷ before) line suffix (w ∷ earlier) what later a b status same (taken, between, ends, inr last) = absurd (never_nil earlier what later last.1)

  calm_case : OneVerdict one_page → (used taken : ℕ) (line : LineParts) (x y : RackState) (what : LineStatus) (written : List Written) → IsCase t t' used taken line x y what → IsTrue t.tells → IsVerdict one_page t.file (source_of line) (target_of line) (Out written) → ¬ Rose t.faults t'.faults → ¬ Rose x.faults y.faults → (what ≡ said.Done) ⊎ ((what ≡ said.TooLarge) ⊎ (what ≡ said.Refused errors.Memory))
  calm_case one used taken line x y said.Done written ends tells out calm still = inl refl
  calm_case one used taken line x y said.TooLarge written ends tells out calm still = inr (inl refl)
  calm_case one used taken line x y (said.Refused errors.Memory) written ends tells out calm still = inr (inr refl)
  calm_case one used taken line x y (said.Refused errors.Usage) written ends tells out calm still = absurd ends
  calm_case one used taken line x y (said.Refused (errors.Read file)) written ends tells out calm still = absurd (calm ends.0)
  calm_case one used taken line x y (said.Refused (errors.Write file)) written ends tells out calm still = absurd (still (broke t t' (length line.outs) (outcome (target_of line) ends.0) file x y ends.2))
  calm_case one used taken line x y (said.Refused (errors.Job fault)) written ends tells out calm still =
      let same : refused_verdict (errors.Job fault) ≡ Out written = one t.file (source_of line) (target_of line) (refused_verdict (errors.Job fault)) (Out written) (ends.0 tells) out in absurd (cc)
  calm_case one used taken line x y (said.Refused (errors.NoDetails k)) written ends tells out calm still =
      let same : refused_verdict (errors.NoDetails k) ≡ Out written = one t.file (source_of line) (target_of line) (refused_verdict (errors.NoDetails k)) (Out written) (ends.0 tells) out in absurd (cc)
  calm_case one used taken line x y (said.Refused (errors.Plate k fault)) written ends tells out calm still =
      let same : refused_verdict (errors.Plate k fault) ≡ Out written = one t.file (source_of line) (target_of line) (refused_verdict (errors.Plate k fault)) (Out written) (ends.0 tells) out in absurd (cc)
  calm_case one used taken line x y (said.Refused (errors.Page fault)) written ends tells out calm still =
      let same : refused_verdict (errors.Page fault) ≡ Out written = one t.file (source_of line) (target_of line) (refused_verdict (errors.Page fault)) (Out written) (ends.0 tells) out in absurd (cc)

  pub calm_at : OneVerdict one_page → (lines : List LineParts) (whats : List LineStatus) (a b : RackState) (status : ℕ) → LinesEnd t t' 0 0 0 lines whats a b status → (before : List LineParts) (line : LineParts) (suffix : List LineParts) (earlier : List LineStatus) (what : LineStatus) (later : List LineStatus) (written : List Written) → lines ≡ before ++ line ∷ suffix → whats ≡ earlier ++ what ∷ later → length before ≡ length earlier → IsTrue t.tells → IsVerdict one_page t.file (source_of line) (target_of line) (Out written) → ¬ Rose t.faults t'.faults → ¬ Rose a.faults b.faults → (what ≡ said.Done) ⊎ ((what ≡ said.TooLarge) ⊎ (what ≡ said.Refused errors.Memory))
  calm_at one lines whats a b status all before line suffix earlier what later written those these same tells out calm still =
      let split = subst (λ (l : List LineParts). LinesEnd t t' 0 0 0 l (earlier ++ what ∷ later) a b status) those (subst (λ (w : List LineStatus). LinesEnd t t' 0 0 0 lines w a b status) these all) in
      let at = case_at 0 0 0 before line suffix earlier what later a b status same split in
      calm_case one at.0 at.1 line at.2 at.3 what written at.4 tells out calm (λ rose. still (rose_within a.faults at.2.faults at.3.faults b.faults at.5 at.6 at.7 rose))
