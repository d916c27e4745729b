-- No header is a proper prefix of another.
use Rattle.std.proofs.Common.{◌≡◌, ℕ, ◌≤◌, List, [], ◌∷◌, ◌++◌, length, take, drop, Some, refl, sym, ap, ◌∙◌, subst, inl, inr, arith}
use Rattle.std.proofs.lemmas.List.{append_assoc, append-nil, take-append-drop, take-append-le, append_cancel_left}
use Rattle.std.proofs.lemmas.Bool.{cases_lt}
use Rattle.std.proofs.Math.Seq.{take-append_seam}
use Rattle.pgm_plates.specs.declared.header_state.HeaderState.TheVariants.{Start, Ended}
use Rattle.pgm_plates.specs.Header.{IsHeader, IsBegun}
use Rattle.pgm_plates.specs.Runs.{Reached, run}
use Rattle.pgm_plates.specs.Faults.{HoldsNoHeader}
use Rattle.pgm_plates.proofs.HeaderRun.{reached, run_then, header_run, nothing_after}

-- A run that is through has nothing after it.
pub through : (prefix back ns : List ℕ) (r : Reached) → run Start [] prefix ≡ Some (reached Ended ns) → run Start [] (prefix ++ back) ≡ Some r → back ≡ []
through prefix back ns r ended on = nothing_after ns back r (sym (run_then Start Ended [] ns prefix back ended) ∙ on)

-- the shorter of two prefixes of one list is a prefix of the other
pub prefix_of : (a x b y : List ℕ) → a ++ x ≡ b ++ y → length a ≤ length b → a ++ drop (length a) b ≡ b
prefix_of a x b y same le =
    let e : take (length a) b ≡ a = sym (take-append-le (length a) b y le) ∙ ap (take (length a)) (sym same) ∙ take-append_seam a x in
    ap (λ (p : List ℕ). p ++ drop (length a) b) (sym e) ∙ take-append-drop (length a) b

shorter_same : (a x b y ms ns : List ℕ) → run Start [] a ≡ Some (reached Ended ms) → run Start [] b ≡ Some (reached Ended ns) → a ++ x ≡ b ++ y → length a ≤ length b → a ≡ b
shorter_same a x b y ms ns ra rb same le =
    let whole : a ++ drop (length a) b ≡ b = prefix_of a x b y same le in
    let none : drop (length a) b ≡ [] = through a (drop (length a) b) ms (reached Ended ns) ra (ap (run Start []) whole ∙ rb) in
    sym (append-nil a) ∙ ap (λ (z : List ℕ). a ++ z) (sym none) ∙ whole

-- Two headers at the beginning of one list are the same.
pub one_run : (a x b y ms ns : List ℕ) → run Start [] a ≡ Some (reached Ended ms) → run Start [] b ≡ Some (reached Ended ns) → a ++ x ≡ b ++ y → a ≡ b
one_run a x b y ms ns ra rb same =
    elim (cases_lt (length a) (length b)) [
      | inl less ↦ shorter_same a x b y ms ns ra rb same (omega arith)
      | inr le ↦ sym (shorter_same b y a x ns ms rb ra (sym same) le)
    ]

pub record SameHeader (a x b y : List ℕ) (w h m w' h' m' : ℕ) : Type 0 where
  pub bytes : a ≡ b
  pub rest : x ≡ y
  pub width : w ≡ w'
  pub height : h ≡ h'
  pub maxval : m ≡ m'

pub one_header : (a x b y : List ℕ) (w h m w' h' m' : ℕ) → IsHeader a w h m → IsHeader b w' h' m' → a ++ x ≡ b ++ y → SameHeader a x b y w h m w' h' m'
one_header a x b y w h m w' h' m' one two same =
    let ra = header_run a w h m one in
    let rb = header_run b w' h' m' two in
    let e : a ≡ b = one_run a x b y (m ∷ h ∷ w ∷ []) (m' ∷ h' ∷ w' ∷ []) ra rb same in
    let runs : Some (reached Ended (m ∷ h ∷ w ∷ [])) ≡ Some (reached Ended (m' ∷ h' ∷ w' ∷ [])) = sym ra ∙ ap (run Start []) e ∙ rb in
    let ends : reached Ended (m ∷ h ∷ w ∷ []) ≡ reached Ended (m' ∷ h' ∷ w' ∷ []) = cc in
    let ns : m ∷ h ∷ w ∷ [] ≡ m' ∷ h' ∷ w' ∷ [] = ap (λ (r : Reached). r.numbers) ends in
    record {
      bytes = e;
      rest = append_cancel_left a x y (same ∙ ap (λ (z : List ℕ). z ++ y) (sym e));
      width = cc;
      height = cc;
      maxval = cc;
    }

empty_prefix : (x y : List ℕ) → x ++ y ≡ [] → x ≡ []
empty_prefix [] y e = refl
empty_prefix (b ∷ x) y e = absurd (cc)

-- What begins with a header and begins one is that header.
pub begun_stops : (a x : List ℕ) (w h m : ℕ) → IsHeader a w h m → IsBegun (a ++ x) → x ≡ []
begun_stops a x w h m header begun =
    let more = begun.0 in
    let shape = begun.1 in
    let e : x ++ more ≡ [] = through a (x ++ more) (m ∷ h ∷ w ∷ []) (reached Ended (shape.2 ∷ shape.1 ∷ shape.0 ∷ [])) (header_run a w h m header)
    (ap (run Start []) (sym (append_assoc a x more)) ∙ header_run (a ++ x ++ more) shape.0 shape.1 shape.2 shape.3) in
    empty_prefix x more e

pub holds_header : (a x : List ℕ) (w h m : ℕ) → IsHeader a w h m → HoldsNoHeader (a ++ x) → ⊥
holds_header a x w h m header none = none (length a) (w, h, m, subst (λ (z : List ℕ). IsHeader z w h m) (sym (take-append_seam a x)) header)
