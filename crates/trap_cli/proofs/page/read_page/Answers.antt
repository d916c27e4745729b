-- read_page: reads the page of the command's job and plates.
use Rattle.std.proofs.lemmas.Grind.{common_steps}
use Rattle.std.proofs.Common.{ℕ, List, Bor, map, ap, ◌∙◌, subst, arith, inr}
use Rattle.trap_cli.specs.Stored.{plates_in}
use Rattle.plain_words.specs.Plates.{inputs_of, names_of}
use Rattle.page_files.specs.Gathering.{Gathers}
use Rattle.page_files.specs.Inputs.{sources}
use Rattle.trap_cli.proofs.page.read_page.Goals as goal

pub gather-requires-clause-named : goal.gather-requires-clause-named
gather-requires-clause-named c = grind (arith, common_steps)

pub gather-requires-clause-some : goal.gather-requires-clause-some
gather-requires-clause-some c = grind (arith, common_steps)

pub gather-requires-clause-few : goal.gather-requires-clause-few
gather-requires-clause-few c = grind (arith, common_steps)

pub returns-in-Ok-Ok : goal.returns-in-Ok-Ok
returns-in-Ok-Ok g c =
    let job : List ℕ = c.args.command.now.job.now in let plates = plates_in c.args.command.now.plates.items in
    let named = c.in-Ok-Ok.ensures ∙ ap (λ (ws : List (Bor (List ℕ))). names_of (plates_in ws)) c.as_slice-words.ensures.value in
    let files = ap (λ (fs : List (Bor (List ℕ))). map (λ (f : Bor (List ℕ)). f.now) fs) c.as_slice.ensures.value ∙ (c.in-Ok-Ok.ensures' ∙ ap (λ (ws : List (Bor (List ℕ))). inputs_of (plates_in ws)) c.as_slice-words.ensures.value) in
    inr (subst (λ (ns : List (List ℕ)). Gathers (sources job ns (inputs_of plates)) (g.T.Tray.state c.args.tray.now) (g.T.Tray.state c.gather.new.tray) c.gather.result) named
    (subst (λ (fs : List (List ℕ)). Gathers (sources job c.in-Ok-Ok.names fs) (g.T.Tray.state c.args.tray.now) (g.T.Tray.state c.gather.new.tray) c.gather.result) files c.gather.ensures))
