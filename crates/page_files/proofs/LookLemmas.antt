-- Files that are looked into one after another.
use Rattle.std.proofs.Common.{◌≡◌, ℕ, ◌<◌, ◌+◌, List, [], ◌∷◌, ◌++◌, length, take, map, get_or, All, Option, Some, None, Ok, Err, IsTrue, inl, inr, sym, ap, ◌∙◌, subst, arith, length-append, below_more}
use Rattle.std.specs.Prelude.{IfSome}
use Rattle.std.proofs.lemmas.List.{get_or_append_left, get_or-map, length-map, take_more}
use Rattle.std.proofs.lemmas.List.Elements.{All-append, All-cons}
use Rattle.std.proofs.Math.Seq.{get_or-append_seam}
use Rattle.outside.specs.ErrorCases.{Asks, AsksPrefix}
use Rattle.outside.specs.Tray.{TrayState, KeepsTray}
use Rattle.outside.proofs.Names.{asks_then, asks_prefix}
use Rattle.outside.proofs.Steps.{kept_tray, rose_before}
use Rattle.page_files.specs.Inputs.{Holds, AreFound, name_at}
use Rattle.page_files.specs.Looks.{AnswersLooks, FileInHand, HasTaken, HoldsOne, IsLast, LooksAt, LooksThrough, Refuses, Sought, Takes}

-- The files of a tray are what they were before.
pub stored_before : (a b : TrayState) (name : List ℕ) (Fact : List ℕ → Type 0) → KeepsTray a b → (IsTrue b.tells → Holds b.file name Fact) → IsTrue a.tells → Holds a.file name Fact
stored_before a b name Fact keeps stored tells =
    let there = stored (keeps.tells ∙ tells) in
    (there.0, ap (λ (files : List ℕ → Option (List ℕ)). files name) (sym keeps.file) ∙ there.1, there.2)

-- The same of bytes that were taken.
pub taken_before : (Such : List ℕ → Type 0) (a b c : TrayState) (name : List ℕ) → KeepsTray a b → HasTaken Such name b c → HasTaken Such name a c
taken_before Such a b c name keeps here begun tells =
    let there = here begun (keeps.tells ∙ tells) in
    (there.0, ap (λ (files : List ℕ → Option (List ℕ)). files name) (sym keeps.file) ∙ there.1, there.2)

-- .. and of a file in hand
pub in_hand_before : (Few : List ℕ → Type 0) (names : List (List ℕ)) (a b c : TrayState) → KeepsTray a b → FileInHand Few names b c → FileInHand Few names a c
in_hand_before Few names a b c keeps (k, within, takes, last) = (
  k,
  within,
  record {
    bytes = takes.bytes;
    taken = λ begun tells. ap (λ (files : List ℕ → Option (List ℕ)). files (name_at names k)) (sym keeps.file) ∙ takes.taken begun (keeps.tells ∙ tells);
    few = takes.few;
  },
  last,
)

-- the name that was handed out last
pub last_asked : (name : List ℕ) (a : Option (List (List ℕ))) (b : TrayState) → Asks a b.asked (name ∷ []) → IsLast name b
last_asked name a b asked = last_of name a b.asked asked where
  last_of : (name : List ℕ) (a b : Option (List (List ℕ))) → Asks a b (name ∷ []) → IfSome b (λ all. (earlier : List (List ℕ)) × (all ≡ earlier ++ name ∷ []))
  last_of name a None asked = tt
  last_of name a (Some all) asked = (asked.0, asked.2)

-- Where there are files, one of them is in hand.
pub some_in_hand : (Few : List ℕ → Type 0) (names : List (List ℕ)) (count : ℕ) (a b : TrayState) → 0 < count → HoldsOne Few names count a b → FileInHand Few names a b
some_in_hand Few names count a b some (inl none) = absurd (omega (arith, some, none.0))
some_in_hand Few names count a b some (inr there) = there

-- one more file gave its value
pub found_more : {V : Type 0} (Gives : List ℕ → V → Type 0) (none : V) (files : List ℕ → Option (List ℕ)) (names : List (List ℕ)) (k : ℕ) (values : List V) (value : V) → AreFound Gives none files names k values → Holds files (name_at names k) (λ bytes. Gives bytes value) → AreFound Gives none files names (k + 1) (values ++ value ∷ [])
found_more {V} Gives none files names k values value before here = record {
  all = length-append values (value ∷ []) ∙ ap (λ (n : ℕ). n + 1) before.all;
  each = below_more (λ (j : ℕ). Holds files (name_at names j) (λ bytes. Gives bytes (get_or (values ++ value ∷ []) j none))) k
      (λ j within.
      let lt : j < length values = omega (arith, before.all) in
      subst (λ (v : V). Holds files (name_at names j) (λ bytes. Gives bytes v)) (sym (get_or_append_left values (value ∷ []) none j lt)) (before.each j within))
      (subst (λ (v : V). Holds files (name_at names k) (λ bytes. Gives bytes v)) (sym (ap (λ (n : ℕ). get_or (values ++ value ∷ []) n none) (sym before.all) ∙ get_or-append_seam values value [] none)) here);
}

module _ {V E : Type 0} (sought : Sought V E) where
  -- an error, seen from a tray before
  pub refuses_before : (k : ℕ) (name : List ℕ) (a b c : TrayState) (error : E) → KeepsTray a b → b.faults ≡ a.faults → Refuses sought k name b c error → Refuses sought k name a c error
  refuses_before k name a b c error keeps calm (Refuses.refused why is count stored) = Refuses.refused why is (λ open_. count open_ ∙ calm) (stored_before a b name (sought.because why) keeps stored)
  refuses_before k name a b c error keeps calm (Refuses.unread is rose taken) = Refuses.unread is (rose_before a.faults b.faults c.faults keeps.faults rose) (taken_before sought.sound a b c name keeps taken)
  refuses_before k name a b c error keeps calm (Refuses.no_memory is count) = Refuses.no_memory is (count ∙ calm)

  -- the names that were handed out, whatever was refused
  pub refused_prefix : (names : List (List ℕ)) (a b : TrayState) (error : E) → AnswersLooks sought names a b (Err error) → AsksPrefix a.asked b.asked names
  refused_prefix names a b error (k, stops, why) = asks_prefix a.asked b.asked (k + 1) names stops.asked

  module _ (names : List (List ℕ)) where
    -- what stands after some files gave their values
    pub record SoFar (k : ℕ) (a b : TrayState) (values : List V) : Type 0 where
      pub keeps : KeepsTray a b
      pub in_hand : HoldsOne sought.few names k a b
      pub asked : Asks a.asked b.asked (take k names)
      pub count : length values ≡ k
      pub fine : All sought.fine values
      pub calm : b.faults ≡ a.faults
      pub found : IsTrue a.tells → AreFound sought.gives sought.none a.file names k values

  -- one more of these inputs is looked into
  module _ {X : Type 0} (text : X → List ℕ) (inputs : List X) (k : ℕ) (d : X) (a b c : TrayState) (values : List V) (here : k < length inputs) (so_far : SoFar (map text inputs) k a b values) where
    abbrev names : List (List ℕ)
    names = map text inputs

    abbrev name : List ℕ
    name = text (get_or inputs k d)

    within : k < length names
    within = omega (arith, length-map inputs text)

    named : name ≡ name_at names k
    named = sym (get_or-map text inputs k d [] here)

    asked_more : Asks b.asked c.asked (name ∷ []) → Asks a.asked c.asked (take (k + 1) names)
    asked_more next = subst (λ (l : List (List ℕ)). Asks a.asked c.asked l) (ap (λ (n : List ℕ). take k names ++ n ∷ []) named ∙ sym (take_more names k [] within)) (asks_then a.asked b.asked c.asked (take k names) (name ∷ []) so_far.asked next)

    in_hand_now : (n : ℕ) → Asks b.asked c.asked (name ∷ []) → Takes sought.few name b c → HoldsOne sought.few names n a c
    in_hand_now n asked takes = inr (in_hand_before sought.few names a b c so_far.keeps (k, within, subst (λ (n : List ℕ). Takes sought.few n b c) named takes, subst (λ (n : List ℕ). IsLast n c) named (last_asked name b.asked c asked)))

    pub more_so_far : (value : V) → LooksAt sought k name b c (Ok value) → SoFar names (k + 1) a c (values ++ value ∷ [])
    more_so_far value one = record {
      keeps = kept_tray a b c so_far.keeps one.keeps;
      in_hand = in_hand_now (k + 1) one.asked one.takes;
      asked = asked_more one.asked;
      count = length-append values (value ∷ []) ∙ ap (λ (n : ℕ). n + 1) so_far.count;
      fine = All-append sought.fine values (value ∷ []) so_far.fine (All-cons sought.fine value [] one.answer.0 (λ j d none. absurd (omega arith)));
      calm = one.answer.1 ∙ so_far.calm;
      found = λ tells. found_more sought.gives sought.none a.file names k values value (so_far.found tells) (subst (λ (n : List ℕ). Holds a.file n (λ bytes. sought.gives bytes value)) named (stored_before a b name (λ bytes. sought.gives bytes value) so_far.keeps one.answer.2 tells));
    }

    -- file k is refused
    stopped : (error : E) → KeepsTray b c → Asks b.asked c.asked (name ∷ []) → Takes sought.few name b c → Refuses sought k name b c error → LooksThrough sought names a c (Err error)
    stopped error keeps asked takes refuses = record {
      keeps = kept_tray a b c so_far.keeps keeps;
      in_hand = in_hand_now (length names) asked takes;
      answer = (k, record { known = within; asked = asked_more asked; found = values; before_it = so_far.found }, subst (λ (n : List ℕ). Refuses sought k n a c error) named (refuses_before k name a b c error so_far.keeps so_far.calm refuses));
    }

    pub look_refused : (error : E) → LooksAt sought k name b c (Err error) → LooksThrough sought names a c (Err error)
    look_refused error one = stopped error one.keeps one.asked one.takes one.answer

    pub no_workspace : (value : V) (error : E) → error ≡ sought.memory → LooksAt sought k name b c (Ok value) → LooksThrough sought names a c (Err error)
    no_workspace value error is one = stopped error one.keeps one.asked one.takes (Refuses.no_memory is one.answer.1)
