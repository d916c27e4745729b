-- text_in: the text of page k.
use Rattle.std.proofs.Common.{rules, ◌≡◌, ℕ, ◌++◌, length, take, drop, min, sym, ap, ◌∙◌}
use Rattle.std.proofs.Math.Seq.{take-append_seam}
use Rattle.job_pages.proofs.Blanks.{text_made}
use Rattle.job_pages.proofs.page.text_in.Goals as goal

pub returns-in-Ok : goal.returns-in-Ok
returns-in-Ok c =
    let made = c.blank_earlier.new.text in
    let long : length c.blank_earlier.new.text ≡ c.in-Ok.text.len = search rules in
    let prefix : c.as_mut_slice.result.now ≡ take (min c.bound-end.result (length c.args.bytes.now)) c.args.bytes.now = search rules in
    ap (λ (n : ℕ). take n (made ++ drop (length made) c.in-Ok.text.items)) (sym long)
    ∙ take-append_seam made (drop (length made) c.in-Ok.text.items)
    ∙ text_made c.args.run.now.spans c.as_slice-shown.result.now c.args.bytes.now made c.as_mut_slice.result.now c.bound-start.result c.bound-end.result c.args.k
    (search rules) c.bound-start.ensures c.bound-end.ensures prefix (search rules)
