-- Trays whose plates are read once more, after a first reading of all files.
use Rattle.std.proofs.Common.{◌≡◌, ◌≢◌, ◌⊎◌, ℕ, zero, suc, ◌<◌, ◌≤◌, List, [], ◌∷◌, ◌++◌, length, take, drop, Option, Some, None, Err, inl, inr, sym, ap, ◌∙◌, subst, arith, append_assoc}
use Rattle.std.proofs.lemmas.Bool.{cases_lt}
use Rattle.std.proofs.lemmas.List.{take-append-drop}
use Rattle.outside.specs.ErrorCases.{Asks, AsksPrefix, Rose}
use Rattle.outside.specs.Tray.{TrayState, KeepsTray}
use Rattle.outside.proofs.Names.{asks_all, asks_before, asks_then}
use Rattle.page_files.specs.Inputs.{Sources, name_at}
use Rattle.page_files.specs.Steps.{TakesPlate}
use Rattle.page_files.proofs.LookLemmas.{last_asked}
use Rattle.pgm_plates.specs.declared.bounds.Bounds.TheVariants.{Sheet}
use Rattle.pgm_plates.specs.declared.header.Header.{Header}
use Rattle.pgm_plates.specs.declared.plate.PlateError.TheVariants.{ReadFault}
use Rattle.pgm_plates.specs.Reading.{ReadsPlateWithin}
use Rattle.plate_rows.specs.Laws.{NoChange}
use Rattle.plate_rows.specs.Rereading.{HasChanged as PlateChanges, Interrupts}
use Rattle.plate_rows.specs.Trays.{TakesFile, TakesFiles}
use Rattle.plate_rows.proofs.ErrorLemmas.{went_rows}
use Rattle.sheet_geometry.specs.declared.budget.Budget.{Budget}
use Rattle.sheet_files.specs.declared.planning.PlannedSheet.{PlannedSheet}
use Rattle.sheet_files.specs.Gathering.{AsksAll, AsksTwice, FailsAgain, HasChanged, HasPlate, InHand, StopsAgain, TakesTrays, TakesTwice}
use Rattle.sheet_files.specs.Judging.{IsJudged, header_in}
use Rattle.plate_rows.specs.Trays.{IsCalm, tray_at}
use Rattle.sheet_files.specs.Trays.{files_twice, tray_files}
use Rattle.sheet_files.proofs.TrayLemmas.{takes_before}

-- the first so many of some names, with others after them
asks_longer : (a b : Option (List (List ℕ))) (names more : List (List ℕ)) → AsksPrefix a b names → AsksPrefix a b (names ++ more)
asks_longer a None names more some = tt
asks_longer a (Some all) names more some =
    let n = some.1 in
    let whole : take n names ++ (drop n names ++ more) ≡ names ++ more = sym (append_assoc (take n names) (drop n names) more) ∙ ap (λ (l : List (List ℕ)). l ++ more) (take-append-drop n names) in
    subst (λ (l : List (List ℕ)). AsksPrefix a (Some all) l) whole (asks_before a (Some all) (take n names) (drop n names ++ more) (some.0, some.2, some.3))

keeps_then : (a b c : TrayState) → KeepsTray a b → KeepsTray b c → KeepsTray a c
keeps_then a b c one two = record { tells = two.tells ∙ one.tells; file = two.file ∙ one.file; faults = omega arith }

takes_plate : (name : List ℕ) (a b : TrayState) → TakesFile name a b → TakesPlate name a b
takes_plate name a b takes = record { bytes = takes.bytes; taken = takes.taken; few = takes.few }

-- no plate was read again
pub takes_once : (source : Sources) (a b : List TrayState) → TakesTrays source a b → TakesTwice source a b
takes_once source a b one = record {
  keeps = one.keeps;
  asked = λ k. asks_longer (tray_at a k).asked (tray_at b k).asked (tray_files source k) (name_at source.inputs k ∷ []) (one.asked k);
  in_hand = one.in_hand;
  beyond = one.beyond;
}

-- All files were read, and the first so many plates once more.
module _ (source : Sources) (a b c : List TrayState) (one : TakesTrays source a b) (asks : (k : ℕ) → k < length source.inputs → AsksAll source a b k) where
  asks_again : (k : ℕ) → k < length source.inputs → Asks (tray_at b k).asked (tray_at c k).asked (name_at source.inputs k ∷ []) → AsksTwice source a c k
  asks_again k l again = asks_then (tray_at a k).asked (tray_at b k).asked (tray_at c k).asked (tray_files source k) (name_at source.inputs k ∷ []) (asks k l) again

  module _ (count : ℕ) (few : count ≤ length source.inputs) (two : TakesFiles source.inputs count b c) where
    pub once_or_twice : (k : ℕ) → k < length source.inputs → AsksAll source a c k ⊎ AsksTwice source a c k
    once_or_twice k l = elim (cases_lt k count) [
      | inl less ↦ inr (asks_again k l (two.each k less).asked)
      | inr more ↦ inl (subst (λ (t : TrayState). Asks (tray_at a k).asked t.asked (tray_files source k)) (sym (two.others k (omega arith))) (asks k l))
    ]

    pub twice : (k : ℕ) → k < count → AsksTwice source a c k
    twice k less = asks_again k (omega (arith, few, less)) (two.each k less).asked

    keeps_at : (k : ℕ) → KeepsTray (tray_at a k) (tray_at c k)
    keeps_at k = elim (cases_lt k count) [
      | inl less ↦ keeps_then (tray_at a k) (tray_at b k) (tray_at c k) (one.keeps k) (two.each k less).keeps
      | inr more ↦ subst (λ (t : TrayState). KeepsTray (tray_at a k) t) (sym (two.others k (omega arith))) (one.keeps k)
    ]

    asked_at : (k : ℕ) → AsksPrefix (tray_at a k).asked (tray_at c k).asked (files_twice source k)
    asked_at k = elim (cases_lt k count) [
      | inl less ↦ asks_all (tray_at a k).asked (tray_at c k).asked (files_twice source k) (twice k less)
      | inr more ↦ subst (λ (t : TrayState). AsksPrefix (tray_at a k).asked t.asked (files_twice source k)) (sym (two.others k (omega arith)))
          (asks_longer (tray_at a k).asked (tray_at b k).asked (tray_files source k) (name_at source.inputs k ∷ []) (one.asked k))
    ]

    plate_at : (k : ℕ) → k < count → HasPlate (name_at source.inputs k) (tray_at a k) (tray_at c k)
    plate_at k less = (
      takes_before (name_at source.inputs k) (tray_at a k) (tray_at b k) (tray_at c k) (one.keeps k) (takes_plate (name_at source.inputs k) (tray_at b k) (tray_at c k) (two.each k less)),
      last_asked (name_at source.inputs k) (tray_at b k).asked (tray_at c k) (two.each k less).asked,
    )

    hand_again : (k : ℕ) → k < count → InHand source k (tray_at a k) (tray_at c k)
    hand_again zero less = inr (inr (plate_at 0 less))
    hand_again (suc k) less = inr (plate_at (suc k) less)

    hand_at : (k : ℕ) → InHand source k (tray_at a k) (tray_at c k)
    hand_at k = elim (cases_lt k count) [
      | inl less ↦ hand_again k less
      | inr more ↦ subst (λ (t : TrayState). InHand source k (tray_at a k) t) (sym (two.others k (omega arith))) (one.in_hand k)
    ]

    pub takes_twice : TakesTwice source a c
    takes_twice = record {
      keeps = keeps_at;
      asked = asked_at;
      in_hand = hand_at;
      beyond = λ k more. two.others k (omega (arith, few, more)) ∙ one.beyond k more;
    }

  -- The second reading stops at a plate.
  module _ (calm : (k : ℕ) → IsCalm a b k) (plate : ℕ) (error : Interrupts source.inputs (length source.inputs) plate b c) where
    pub takes_to : TakesTwice source a c
    takes_to = takes_twice error.begun error.most error.takes

    calm_else : (k : ℕ) → k ≢ plate → IsCalm a c k
    calm_else k other = elim (cases_lt k plate) [
      | inl less ↦ error.calm k (inl less) ∙ calm k
      | inr more ↦ error.calm k (inr (omega (arith, more, other))) ∙ calm k
    ]

    stops_again : Asks (tray_at b plate).asked (tray_at c plate).asked (name_at source.inputs plate ∷ []) → StopsAgain source plate a c
    stops_again again = record {
      known = error.known;
      begun = asks_again plate error.known again;
      others = once_or_twice error.begun error.most error.takes;
      calm = calm_else;
    }

    pub fails_again : ReadsPlateWithin Sheet (name_at source.inputs plate) (tray_at b plate) (tray_at c plate) (Err ReadFault) → FailsAgain source plate a c
    fails_again reads =
        let keeps = one.keeps plate in
        record {
          stops = stops_again reads.asked;
          rose = subst (λ (n : ℕ). Rose n (tray_at c plate).faults) (calm plate) reads.answer.0;
          taken = λ begun tells. (reads.bytes, ap (λ (files : List ℕ → Option (List ℕ)). files (name_at source.inputs plate)) (sym keeps.file) ∙ reads.taken begun (keeps.tells ∙ tells), reads.answer.1);
        }

    asks_changed : (header : Header) → PlateChanges (name_at source.inputs plate) header (tray_at b plate) (tray_at c plate) → Asks (tray_at b plate).asked (tray_at c plate).asked (name_at source.inputs plate ∷ [])
    asks_changed header (inl other) = (went_rows (name_at source.inputs plate) (tray_at b plate) (tray_at c plate) other.plate [] other.read).takes.asked
    asks_changed header (inr fault) = fault.1.asked

    pub has_changed : NoChange → (budget : Budget) (judged : PlannedSheet) → IsJudged source budget a judged → PlateChanges (name_at source.inputs plate) (header_in judged.outline) (tray_at b plate) (tray_at c plate) → HasChanged source plate a c
    has_changed law budget judged is changed =
        let keeps = one.keeps plate in
        record {
          stops = stops_again (asks_changed (header_in judged.outline) changed);
          untold = λ tells.
              let stored = is.headers plate error.known tells in
              law (name_at source.inputs plate) (header_in judged.outline) (tray_at b plate) (tray_at c plate) stored.0 stored.2.0 changed (keeps.tells ∙ tells)
              (ap (λ (files : List ℕ → Option (List ℕ)). files (name_at source.inputs plate)) keeps.file ∙ stored.1) stored.2.1 stored.2.2;
        }
