-- file_named: the bytes of the last file of that name.
use Rattle.std.proofs.Common.{rules, ◌≡◌, [], ◌∷◌, ◌++◌, ◌+◌, take, Some, Bool, cond, true, false, List, ℕ, ap, sym, ◌∙◌}
use Rattle.std.specs.Option.{option_copied}
use Rattle.std.specs.Str.{bytes_eq}
use Rattle.std.proofs.lemmas.List.{take_more}
use Rattle.outside.specs.declared.shelf.RackFile.{RackFile}
use Rattle.outside.specs.Shelf.{file_in}
use Rattle.outside.proofs.Shelves.{file_in_more}
use Rattle.outside.proofs.shelf.file_named.Goals as goal
use Rattle.outside.proofs.shelf.file_named.Goals.{then-is_named, else-is_named}

pub loop-file-preserved : goal.loop-file-preserved
loop-file-preserved c =
    let i = c.loop-file.file-index in
    let done = c.args.done.now in
    let item = c.file-item.result in
    let name = c.args.name.now in
    let grown : take (i + 1) done ≡ take i done ++ item ∷ [] = take_more done i item c.loop-file-test.true ∙ ap (λ (x : RackFile). take i done ++ x ∷ []) (sym c.file-item.is) in
    let here : file_in (take (i + 1) done) name ≡ cond (bytes_eq item.name name) (Some item.bytes) (file_in (take i done) name) = ap (λ (l : List RackFile). file_in l name) grown ∙ file_in_more (take i done) item name in
    elim c.if-is_named.branch [
      | then-is_named w ↦
          let yes : bytes_eq item.name name ≡ true = sym c.is_named.ensures ∙ w.if-is_named.true in
          ap option_copied w.found-is ∙ ap (λ (b : List ℕ). Some b) (search rules) ∙ sym (here ∙ ap (λ (t : Bool). cond t (Some item.bytes) (file_in (take i done) name)) yes)
      | else-is_named w ↦
          let no : bytes_eq item.name name ≡ false = sym c.is_named.ensures ∙ w.if-is_named.false in
          ap option_copied w.found-is ∙ c.loop-file.invariant ∙ sym (here ∙ ap (λ (t : Bool). cond t (Some item.bytes) (file_in (take i done) name)) no)
    ]
