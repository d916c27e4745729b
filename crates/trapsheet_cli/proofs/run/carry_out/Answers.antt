-- carry_out: names the plates' files, and carries on with them.
use Rattle.std.proofs.Common.{ℕ, List, Bor, Global, map, ap, ◌∙◌, string_bytes}
use Rattle.std.proofs.lemmas.List.{length-map}
use Rattle.plain_words.specs.Parts.{PlateNames}
use Rattle.trapsheet_cli.proofs.NameLemmas.{files_count}
use Rattle.trapsheet_cli.proofs.run.carry_out.Goals as goal

pub carry_on-requires-clause-inputs : goal.carry_on-requires-clause-inputs
carry_on-requires-clause-inputs g c κs alive =
    let words = map (string_bytes {Z = Global}) c.args.order.now.plates.now in
    let named = ap (λ (fs : List (Bor (List ℕ))). map (λ (f : Bor (List ℕ)). f.now) fs) c.as_slice.ensures.value ∙ c.in-Ok.ensures in
    record {
      named = named;
      count = files_count (λ (p : PlateNames). p.input) c.as_slice.result.now words named ∙ length-map c.args.order.now.plates.now (string_bytes {Z = Global});
    }
