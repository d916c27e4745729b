-- A line that is read byte by byte: what the next byte, the end or a failed read makes of it.
use Rattle.std.proofs.Common.{◌≡◌, ℕ, ◌<◌, ◌≤◌, ◌+◌, List, [], ◌∷◌, ◌++◌, length, get_or, Some, None, Ok, Err, sym, ap, ◌∙◌, arith, append_assoc}
use Rattle.std.proofs.lemmas.Grind.{common_steps}
use Rattle.std.proofs.lemmas.List.{length-append, append-nil}
use Rattle.outside.specs.declared.tray.DeviceError.{DeviceError}
use Rattle.outside.specs.Tray.{TrayState}
use Rattle.outside.proofs.Steps.{kept_tray, rose_before}
use Rattle.trap_set.specs.Bytes.{GivesByte, IsShortLine, ReadsNext, most_line}
use Rattle.trap_set.specs.Lines.{HasNoEnd, IsLine}
use Rattle.trap_set.proofs.NextLemmas.{ReadSoFar}

-- no shorter line begins a text that begins with bytes of which none ends a line
no_line : (bytes rest line more : List ℕ) → HasNoEnd bytes → (is : IsLine line) → length is.text < length bytes → bytes ++ rest ≡ line ++ more → ⊥
no_line bytes rest line more none is less same =
    let k = length is.text in
    let ends : get_or ((is.text ++ 10 ∷ []) ++ more) k 0 ≡ 10 = grind (arith, common_steps) in
    let there : get_or (bytes ++ rest) k 0 ≡ get_or bytes k 0 = grind (arith, common_steps) in
    none k 0 less (sym there ∙ ap (λ (l : List ℕ). get_or l k 0) same ∙ ap (λ (l : List ℕ). get_or (l ++ more) k 0) is.is ∙ ends)

line_size : (line : List ℕ) (is : IsLine line) → length line ≡ length is.text + 1
line_size line is = ap length is.is ∙ length-append is.text (10 ∷ [])

module _ (start s t : TrayState) (held0 stored held2 line : List ℕ) (so : ReadSoFar start s held0 stored line) where
  pub line_ended : (line2 : List ℕ) (byte : ℕ) → GivesByte {E = DeviceError} s t stored held2 (Ok (Some byte)) → line2 ≡ line ++ byte ∷ [] → byte ≡ 10 → length line2 ≤ most_line → ReadsNext {E = DeviceError} IsShortLine start t held0 held2 (Ok (Some line2))
  line_ended line2 byte given is ten short = record {
    keeps = kept_tray start s t so.keeps given.keeps;
    asked = given.asked ∙ so.asked;
    begun = given.begun;
    line = (
      (record { text = line; is = is ∙ ap (λ (b : ℕ). line ++ b ∷ []) ten; one = so.none }, short),
      λ tells. so.text tells ∙ ap (λ (l : List ℕ). line ++ l) (given.some (so.keeps.tells ∙ tells)) ∙ sym (append_assoc line (byte ∷ []) (held2 ++ t.left)) ∙ ap (λ (l : List ℕ). l ++ (held2 ++ t.left)) (sym is),
    );
    none = tt;
    other = tt;
    part = tt;
    well = given.well ∙ so.count;
    reason = tt;
  }

  pub line_cut : GivesByte {E = DeviceError} s t stored held2 (Ok None) → ReadsNext {E = DeviceError} IsShortLine start t held0 held2 (Ok None)
  line_cut given = record {
    keeps = kept_tray start s t so.keeps given.keeps;
    asked = given.asked ∙ so.asked;
    begun = given.begun;
    line = tt;
    none = λ tells l more is e.
        let same : line ++ [] ≡ l ++ more = ap (λ (x : List ℕ). line ++ x) (sym (given.none (so.keeps.tells ∙ tells)).0) ∙ sym (so.text tells) ∙ e in
        let size : length line ≡ length l + length more = ap length (sym (append-nil line) ∙ same) ∙ length-append l more in
        no_line line [] l more so.none is.0 (omega (arith, line_size l is.0)) same;
    other = λ tells. (line, so.text tells ∙ ap (λ (x : List ℕ). line ++ x) ((given.none (so.keeps.tells ∙ tells)).0 ∙ sym (given.none (so.keeps.tells ∙ tells)).1));
    part = tt;
    well = given.well ∙ so.count;
    reason = tt;
  }

  pub line_failed : (e : DeviceError) → GivesByte {E = DeviceError} s t stored held2 (Err e) → ReadsNext {E = DeviceError} IsShortLine start t held0 held2 (Err e)
  line_failed e given = record {
    keeps = kept_tray start s t so.keeps given.keeps;
    asked = given.asked ∙ so.asked;
    begun = given.begun;
    line = tt;
    none = tt;
    other = tt;
    part = λ tells. (line, so.none, so.text tells ∙ ap (λ (x : List ℕ). line ++ x) (given.kept (so.keeps.tells ∙ tells)));
    well = tt;
    reason = rose_before start.faults s.faults t.faults so.keeps.faults given.reason;
  }

pub line_long : (start s : TrayState) (held0 stored line : List ℕ) → ReadSoFar start s held0 stored line → most_line ≤ length line → ReadsNext {E = DeviceError} IsShortLine start s held0 stored (Ok None)
line_long start s held0 stored line so long = record {
  keeps = so.keeps;
  asked = so.asked;
  begun = so.begun;
  line = tt;
  none = λ tells l more is e. no_line line (stored ++ s.left) l more so.none is.0 (omega (arith, line_size l is.0, is.1)) (sym (so.text tells) ∙ e);
  other = λ tells. (line, so.text tells);
  part = tt;
  well = so.count;
  reason = tt;
}
