-- What is so of a tray that is as it was, and of one whose files stay.
use Rattle.std.proofs.Common.{◌≡◌, ℕ, List, refl, sym, ap, ◌∙◌, subst, arith}
use Rattle.std.specs.Prelude.{Option}
use Rattle.outside.specs.Tray.{TrayState, KeepsTray}
use Rattle.page_files.specs.Steps.{TakesPlate}

pub keeps_same : (a : TrayState) → KeepsTray a a
keeps_same a = record { tells = refl; file = refl; faults = omega arith }

-- a tray that is as it was
pub keeps_is : (a b : TrayState) → b ≡ a → KeepsTray a b
keeps_is a b same = subst (λ (t : TrayState). KeepsTray a t) (sym same) (keeps_same a)

pub calm_is : (a b : TrayState) → b ≡ a → b.faults ≡ a.faults
calm_is a b same = ap (λ (t : TrayState). t.faults) same

-- what is taken of a plate's file, seen from an earlier state of the same files
pub takes_before : (name : List ℕ) (a b c : TrayState) → KeepsTray a b → TakesPlate name b c → TakesPlate name a c
takes_before name a b c keeps takes = record {
  bytes = takes.bytes;
  taken = λ begun tells. ap (λ (files : List ℕ → Option (List ℕ)). files name) (sym keeps.file) ∙ takes.taken begun (keeps.tells ∙ tells);
  few = takes.few;
}
