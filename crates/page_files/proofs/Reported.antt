-- A failed write, seen from the state in which its line was told.
use Rattle.std.proofs.Common.{◌≡◌, ℕ, ◌≤◌, List, [], ◌∷◌, ◌++◌, take, Option, Some, None, IsTrue, inl, inr, refl, sym, ap, ◌∙◌, subst}
use Rattle.outside.specs.ErrorCases.{Rose, RoseOnce, Asks}
use Rattle.outside.specs.Rack.{RackState, KeepsRack}
use Rattle.outside.specs.Writing.{BreaksFile}
use Rattle.outside.proofs.Steps.{rose_after}
use Rattle.page_files.specs.Files.{Written, names_of, put_all}
use Rattle.page_files.specs.Writing.{Breaks, BreaksAt}
use Rattle.common_errors.specs.Telling.{KeepsFiles, TellsText, TellsAfterFault}

-- a file that broke, after what changes no file
broken_then : (name bytes : List ℕ) (stored : List ℕ → Option (List ℕ)) (b c : RackState) → c.is_open ≡ b.is_open → c.file ≡ b.file → BreaksFile name bytes stored b → BreaksFile name bytes stored c
broken_then name bytes stored b c opened same (inl none) = inl (opened ∙ none.0, same ∙ none.1)
broken_then name bytes stored b c opened same (inr prefix) = inr (opened ∙ prefix.0, (prefix.1.0, same ∙ prefix.1.1))

-- the write that failed, after its line was told
pub breaks_then : (written : List Written) (k : ℕ) (a b c : RackState) → KeepsRack a b → BreaksAt written k a b → KeepsFiles b c → BreaksAt written k a c
breaks_then written k a b c keeps breaks files = record {
  earlier = breaks.earlier;
  file = breaks.file;
  later = breaks.later;
  all = breaks.all;
  place = breaks.place;
  asked = subst (λ (names : Option (List (List ℕ))). Asks a.asked names (names_of breaks.earlier ++ breaks.file.name ∷ [])) (sym files.asked) breaks.asked;
  finished = λ reported. subst (λ (names : Option (List (List ℕ))). Asks a.finished names (names_of breaks.earlier)) (sym files.finished) (breaks.finished reported);
  part = λ reported. broken_then breaks.file.name breaks.file.bytes (put_all breaks.earlier a.file) b c files.is_open (files.files (keeps.tells ∙ reported)) (breaks.part reported);
  reason = rose_after a.faults b.faults c.faults keeps.faults files.keeps.faults breaks.reason;
}

pub file_breaks : (plates : ℕ) (written : List Written) (file : Option ℕ) (a b c : RackState) → KeepsRack a b → Breaks plates written file a b → KeepsFiles b c → Breaks plates written file a c
file_breaks plates written None a b c keeps breaks files = breaks_then written plates a b c keeps breaks files
file_breaks plates written (Some k) a b c keeps breaks files = (breaks.0, breaks_then written k a b c keeps breaks.1 files)

pub breaks_error : (plates : ℕ) (written : List Written) (file : Option ℕ) (a b : RackState) → Breaks plates written file a b → Rose a.faults b.faults
breaks_error plates written None a b breaks = breaks.reason
breaks_error plates written (Some k) a b breaks = breaks.1.reason

-- its line, which is cut short by a further failed call alone
pub line_after : (text : List ℕ) (a b c : RackState) → (IsTrue a.tells → b.reported ≡ a.reported) → b.tells ≡ a.tells → RoseOnce a.faults b.faults → TellsText text b c → TellsAfterFault text a c
line_after text a b c same tells once (inl whole) = inl (whole.0 ∙ once, λ reported. whole.1 (tells ∙ reported) ∙ ap (λ (t : List ℕ). t ++ text) (same reported))
line_after text a b c same tells once (inr part) = inr (subst (λ (n : ℕ). RoseOnce n c.faults) once part.0, λ reported. (let cut = part.1 (tells ∙ reported) in (cut.0, cut.1 ∙ ap (λ (t : List ℕ). t ++ take cut.0 text) (same reported))))
