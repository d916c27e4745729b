-- What the bytes of the list say of how a call ends.
use Rattle.std.proofs.Common.{◌≡◌, ◌⊎◌, ◌∙◌, ℕ, IsTrue, List, [], ◌∷◌, Option, Some, Ok, Err, inl, inr, sym, subst, arith}
use Rattle.outside.specs.ErrorCases.{Rose, Asks}
use Rattle.outside.specs.Rack.{RackState}
use Rattle.outside.specs.Tray.{TrayState}
use Rattle.outside.proofs.Names.{asks_all}
use Rattle.outside.proofs.Steps.{rose_once}
use Rattle.page_files.specs.Inputs.{Holds, one_page}
use Rattle.job_list.specs.Lines.{LineParts}
use Rattle.job_list.specs.Lists.{IsBadLine, IsList, OneReading}
use Rattle.trap_pool.specs.Replies.{ReplyParts}
use Rattle.page_files.specs.Verdicts.{OneVerdict}
use Rattle.trappool_cli.specs.Clauses.{Answered, AnswersEach, BeginsList, Completeness, IsAnswer, JudgesList}
use Rattle.trappool_cli.specs.Answers.{AnswersAll}
use Rattle.trappool_cli.specs.Endings.{Ends}
use Rattle.trappool_cli.specs.Endings.Ends.{answered, no_list, no_words}
use Rattle.trappool_cli.specs.Reading.{MakesReplies, TakesList}
use Rattle.trappool_cli.specs.Text.{bad_line}
use Rattle.trappool_cli.specs.Words.{AskedWords, asked_of}
use Rattle.trappool_cli.specs.declared.answering.LineStatus.{LineStatus}
use Rattle.trappool_cli.specs.declared.lines.TrappoolError.{TrappoolError}
use Rattle.trappool_cli.specs.declared.lines.TrappoolError.TheVariants.{BadLine, NotRead, Memory}
use Rattle.common_errors.specs.Telling.{TellsText}
use Rattle.trappool_cli.proofs.Cases.{asked_reading, asked_writing, calm_at, lines_end, writes_rise}
use Rattle.trappool_cli.proofs.Clauses.{answer_status, both, no_answer, rose_in, usage_no_answer}

-- the words have one meaning
one_meaning : (words : List (List ℕ)) (one two : AskedWords) → asked_of words ≡ Some one → asked_of words ≡ Some two → one ≡ two
one_meaning words one two first second = let same : Some one ≡ Some two = sym first ∙ second in cc

-- a file's bytes are what they are
one_file : (files : List ℕ → Option (List ℕ)) (name : List ℕ) (P Q : List ℕ → Type 0) → Holds files name P → Holds files name Q → (bytes : List ℕ) × P bytes × Q bytes
one_file files name P Q one two =
    let both : Some one.0 ≡ Some two.0 = sym one.1 ∙ two.1 in
    let same : two.0 ≡ one.0 = cc in
    (one.0, one.2, subst Q same two.2)

-- What is said of a list that was refused.
good_list : OneReading → (name : List ℕ) (t t' : TrayState) (lines : List LineParts) (k : ℕ) → IsTrue t.tells → Holds t.file name (λ bytes. IsList bytes lines) → MakesReplies name t t' (Err (BadLine k)) → ⊥
good_list law name t t' lines k tells list (inl reads) =
    let at = one_file t.file name (λ bytes. IsList bytes lines) (λ bytes. IsBadLine bytes k) list (reads.answer.1 tells) in
    law.no_bad_line at.0 lines k at.1 at.2
good_list law name t t' lines k tells list (inr full) = let never = full.0 in absurd (cc)

same_line : OneReading → (name : List ℕ) (t t' : TrayState) (j k : ℕ) → IsTrue t.tells → Holds t.file name (λ bytes. IsBadLine bytes k) → MakesReplies name t t' (Err (BadLine j)) → j ≡ k
same_line law name t t' j k tells bad (inl reads) =
    let at = one_file t.file name (λ bytes. IsBadLine bytes j) (λ bytes. IsBadLine bytes k) (reads.answer.1 tells) bad in
    law.one_bad_line at.0 j k at.1 at.2
same_line law name t t' j k tells bad (inr full) = let never = full.0 in absurd (cc)

unread_rose : (name : List ℕ) (t t' : TrayState) → MakesReplies name t t' (Err NotRead) → Rose t.faults t'.faults
unread_rose name t t' (inl reads) = rose_once t.faults t'.faults reads.answer
unread_rose name t t' (inr full) = let never = full.0 in absurd (cc)

list_taken : (name : List ℕ) (t t' : TrayState) (fault : TrappoolError) → MakesReplies name t t' (Err fault) → Asks t.asked t'.asked (name ∷ []) × TakesList name t t'
list_taken name t t' fault (inl reads) = (reads.asked, reads.few)
list_taken name t t' fault (inr full) = (full.2.asked, full.2.few)

bad_list_read : OneReading → (name : List ℕ) (t t' : TrayState) (lines : List LineParts) (replies : List ReplyParts) (k : ℕ) → IsTrue t.tells → Holds t.file name (λ bytes. IsBadLine bytes k) → MakesReplies name t t' (Ok (lines, replies)) → ⊥
bad_list_read law name t t' lines replies k tells bad made =
    let at = one_file t.file name (λ bytes. IsList bytes lines) (λ bytes. IsBadLine bytes k) (made.1.answer.2 tells) bad in
    law.no_bad_line at.0 lines k at.1 at.2

answer_not_three : (status : ℕ) → IsAnswer status → status ≡ 3 → ⊥
answer_not_three status (inl is) three = absurd (omega arith)
answer_not_three status (inr (inl is)) three = absurd (omega arith)
answer_not_three status (inr (inr is)) three = absurd (omega arith)

module _ (words : List (List ℕ)) (t t' : TrayState) (r r' : RackState) (status : ℕ) where
  not_three : OneReading → (asked : AskedWords) (lines : List LineParts) → asked_of words ≡ Some asked → IsTrue t.tells → Holds t.file asked.list (λ bytes. IsList bytes lines) → Ends words t t' r r' status → status ≡ 3 → ⊥
  not_three law asked lines means tells list (no_words none same refuses) is = let two = refuses.status_is in absurd (omega arith)
  not_three law asked lines means tells list (no_list other (BadLine k) also made refuses) is =
      good_list law asked.list t t' lines k tells list (subst (λ (a : AskedWords). MakesReplies a.list t t' (Err (BadLine k))) (one_meaning words other asked also means) made)
  not_three law asked lines means tells list (no_list other NotRead also made refuses) is = let five = refuses.status_is in absurd (omega arith)
  not_three law asked lines means tells list (no_list other Memory also made refuses) is = let seven = refuses.status_is in absurd (omega arith)
  not_three law asked lines means tells list (answered other read replies also made all) is = answer_not_three status (answer_status 0 read replies r r' status all) is

  bad_ends : OneReading → (asked : AskedWords) (k : ℕ) → asked_of words ≡ Some asked → IsTrue t.tells → Holds t.file asked.list (λ bytes. IsBadLine bytes k) → ¬ Rose t.faults t'.faults → Ends words t t' r r' status → ((status ≡ 3) × TellsText (bad_line k) r r') ⊎ (status ≡ 7)
  bad_ends law asked k means tells bad calm (no_words none same refuses) = absurd (both words t t' r r' status asked means none)
  bad_ends law asked k means tells bad calm (no_list other (BadLine j) also made refuses) =
      let line = same_line law asked.list t t' j k tells bad (subst (λ (a : AskedWords). MakesReplies a.list t t' (Err (BadLine j))) (one_meaning words other asked also means) made) in
      inl (refuses.status_is, subst (λ (n : ℕ). TellsText (bad_line n) r r') line refuses.text)
  bad_ends law asked k means tells bad calm (no_list other NotRead also made refuses) = absurd (calm (unread_rose other.list t t' made))
  bad_ends law asked k means tells bad calm (no_list other Memory also made refuses) = inr refuses.status_is
  bad_ends law asked k means tells bad calm (answered other lines replies also made all) =
      absurd (bad_list_read law asked.list t t' lines replies k tells bad (subst (λ (a : AskedWords). MakesReplies a.list t t' (Ok (lines, replies))) (one_meaning words other asked also means) made))

  pub judges_list : OneReading → Ends words t t' r r' status → JudgesList words t t' r r' status
  judges_list law ends = record {
    good = λ asked lines means tells list is. not_three law asked lines means tells list ends is;
    bad = λ asked k means tells bad calm. bad_ends law asked k means tells bad calm ends;
  }

  complete_answer : IsAnswer status → ((status ≡ 6 → Rose r.faults r'.faults)) → (status ≡ 0) ⊎ ((status ≡ 9) ⊎ ((status ≡ 7) ⊎ (((status ≡ 5) × Rose t.faults t'.faults) ⊎ ((status ≡ 6) × Rose r.faults r'.faults))))
  complete_answer (inl is) rose = inl is
  complete_answer (inr (inl is)) rose = inr (inl is)
  complete_answer (inr (inr is)) rose = inr (inr (inr (inr (is, rose is))))

  complete_ends : OneReading → (asked : AskedWords) (lines : List LineParts) → asked_of words ≡ Some asked → IsTrue t.tells → Holds t.file asked.list (λ bytes. IsList bytes lines) → Ends words t t' r r' status → (status ≡ 0) ⊎ ((status ≡ 9) ⊎ ((status ≡ 7) ⊎ (((status ≡ 5) × Rose t.faults t'.faults) ⊎ ((status ≡ 6) × Rose r.faults r'.faults))))
  complete_ends law asked lines means tells list (no_words none same refuses) = absurd (both words t t' r r' status asked means none)
  complete_ends law asked lines means tells list (no_list other (BadLine k) also made refuses) =
      absurd (good_list law asked.list t t' lines k tells list (subst (λ (a : AskedWords). MakesReplies a.list t t' (Err (BadLine k))) (one_meaning words other asked also means) made))
  complete_ends law asked lines means tells list (no_list other NotRead also made refuses) = inr (inr (inr (inl (refuses.status_is, unread_rose other.list t t' made))))
  complete_ends law asked lines means tells list (no_list other Memory also made refuses) = inr (inr (inl refuses.status_is))
  complete_ends law asked lines means tells list (answered other read replies also made all) =
      complete_answer (answer_status 0 read replies r r' status all) (λ is. rose_in 0 0 read replies r r' status (λ never. absurd (omega arith)) all is)

  pub completeness : OneReading → Ends words t t' r r' status → Completeness words t t' r r' status
  completeness law ends asked lines means tells list = complete_ends law asked lines means tells list ends

  pub begins_list : Ends words t t' r r' status → BeginsList words t t' status
  begins_list (no_words none same refuses) asked means other = absurd (both words t t' r r' status asked means none)
  begins_list (no_list made_for fault also made refuses) asked means other =
      subst (λ (a : AskedWords). Asks t.asked t'.asked (a.list ∷ []) × TakesList a.list t t') (one_meaning words made_for asked also means) (list_taken made_for.list t t' fault made)
  begins_list (answered made_for lines replies also made all) asked means other = absurd (other (answer_status 0 lines replies r r' status all))

  all_answered : OneVerdict one_page → (asked : AskedWords) (lines : List LineParts) (replies : List ReplyParts) → MakesReplies asked.list t t' (Ok (lines, replies)) → AnswersAll 0 0 lines replies r r' status → (whats : List LineStatus) × Answered asked t t' r r' status lines whats
  all_answered law asked lines replies made all =
      let list = made.1 in
      let pools = made.2 in
      let ended = lines_end t t' 0 0 0 lines replies made.0 r r' status list.keeps pools.in_turn all in
      let same = list.answer.0 in
      let few = ended.2 in (
        ended.0,
        record {
          list = list.answer.2;
          each = ended.1;
          begun = (made.0.asked, asks_all t.asked made.0.asked (asked.list ∷ []) list.asked, asked_reading 0 0 lines replies made.0 t' pools.in_turn);
          created = asked_writing t t' 0 0 0 lines ended.0 r r' status ended.1;
          reads = λ low. let rise = pools.reads low in omega arith;
          writes = λ low. writes_rise t t' 0 0 0 lines ended.0 r r' status ended.1 low;
          calm = λ before line suffix earlier what later written those these same tells out calm still. calm_at t t' law lines ended.0 r r' status ended.1 before line suffix earlier what later written those these same tells out calm still;
        },
      )

  pub answers_each : OneVerdict one_page → Ends words t t' r r' status → AnswersEach words t t' r r' status
  answers_each law (no_words none same refuses) = λ is. absurd (usage_no_answer status refuses.status_is is)
  answers_each law (no_list asked fault means made refuses) = λ is. absurd (no_answer fault (subst IsAnswer refuses.status_is is))
  answers_each law (answered asked lines replies means made all) = λ is. let found = all_answered law asked lines replies made all in (asked, lines, found.0, means, found.1)
