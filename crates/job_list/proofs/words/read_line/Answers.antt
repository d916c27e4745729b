-- read_line: the job that a line's bytes mean; `None` where they are no line.
use Rattle.std.proofs.Common.{◌≡◌, ◌∙◌, ℕ, List, Bor, Option, IfOk, map, sym, ap, subst}
use Rattle.std.specs.List.{slice_split}
use Rattle.job_list.specs.Lines.{LineParts, is_space, line_of, line_of_words}
use Rattle.job_list.proofs.Cuts.{line_meant, none_meant}
use Rattle.job_list.proofs.words.read_line.Goals as goal

pub returns-in_ok-words_of-in-Ok : goal.returns-in_ok-words_of-in-Ok
returns-in_ok-words_of-in-Ok c =
    let cases = c.in-Ok.ensures.cases in
    let meant : line_of_words (slice_split is_space c.in-Ok.text.now) ≡ line_of c.args.text.now =
    ap (λ (t : List ℕ). line_of_words (slice_split is_space t)) cases.0 ∙ sym (line_meant c.args.text.now cases.1 c.requires) in
    subst (λ (m : Option LineParts). IfOk c.read_words.result (λ line. line ≡ m)) (ap line_of_words (ap (map (λ (w : Bor (List ℕ)). w.now)) c.as_slice.ensures.value ∙ c.in_ok-words_of-in-Ok.ensures) ∙ meant) c.read_words.ensures

pub returns-in-Err : goal.returns-in-Err
returns-in-Err c = none_meant c.args.text.now c.in-Err.ensures.cases.0
