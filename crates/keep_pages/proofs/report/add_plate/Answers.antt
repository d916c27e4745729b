-- add_plate: a line that is added part by part.
use Rattle.std.proofs.Common.{[], ◌∷◌, ap, ◌∙◌, ◌++◌, ℕ}
use Rattle.std.specs.Fmt.{decimal}
use Rattle.std.specs.Prelude.{codes}
use Rattle.keep_pages.specs.KeptPages.{under_black, under_colour}
use Rattle.keep_pages.proofs.PageLemmas.{text_plate}
use Rattle.keep_pages.proofs.report.add_plate.Goals as goal

pub returns : goal.returns
returns c = text_plate c.args.text.now.items c.add.new.text.items c.add-2.new.text.items c.add_number.new.text.items c.add_number-2.new.text.items c.add-3.new.text.items (codes "plate ") c.args.name.now (codes " rich-black ") (decimal (under_black c.args.used.now c.args.changed)) (codes " underprint ") (decimal (under_colour c.args.used.now c.args.changed)) (10 ∷ []) c.in_ok-add.ensures c.in_ok-add-2.ensures (c.in_ok-add_number.ensures ∙ ap (λ (n : ℕ). c.add-2.new.text.items ++ (codes " rich-black " ++ decimal n)) c.under_black.ensures) (c.in_ok-add_number-2.ensures ∙ ap (λ (n : ℕ). c.add_number.new.text.items ++ (codes " underprint " ++ decimal n)) c.under_colour.ensures) c.in_ok-add-3.ensures
