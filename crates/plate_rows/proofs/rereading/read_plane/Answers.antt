-- read_plane: fills a plane with the next rows of a plate, behind the tints that are kept.
use Rattle.std.proofs.Common.{◌≡◌, ◌++◌, List, ℕ, length, take, drop, arith, ap, sym, subst, rules, ◌∙◌}
use Rattle.std.proofs.Math.Seq.{take-append_seam}
use Rattle.std.proofs.lemmas.Grind.{common_steps}
use Rattle.plate_rows.specs.Rereading.{ReadsAfter}
use Rattle.plate_rows.proofs.ReadLemmas.{plane_read}
use Rattle.plate_rows.proofs.rereading.read_plane.Goals as goal

pub returns-clause-answer : goal.returns-clause-answer
returns-clause-answer g c =
    let before = g.T.Tray.state c.args.tray.now in
    let after = g.T.Tray.state c.read_after-result.new.tray in
    let result = c.read_after-result.result in
    let new = c.read_after-result.new.tints in
    let items = c.into_vec-tints.result.items in
    let long : c.into_vec-tints.result.len ≡ length new = grind (arith, common_steps) in
    let put : c.from_vec.result ≡ new = c.from_vec.ensures ∙ ap (λ (n : ℕ). take n (new ++ drop (length new) items)) long ∙ take-append_seam new (drop (length new) items) in
    let old : c.as_mut_slice.result.now ≡ c.args.plane.now.tints = search rules in
    plane_read c.args.plate c.args.next c.args.plane.now c.from_vec.result before after result
    (subst (λ (l : List ℕ). ReadsAfter c.args.plate c.args.next c.args.plane.now.tints l before after result) (sym put)
    (subst (λ (l : List ℕ). ReadsAfter c.args.plate c.args.next l new before after result) old c.read_after-result.ensures.answer))

pub read_after-result-requires-clause-read : goal.read_after-result-requires-clause-read
read_after-result-requires-clause-read g c = grind (arith, common_steps)
