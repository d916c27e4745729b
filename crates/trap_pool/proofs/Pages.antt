-- There are as many pages as replies.
use Rattle.std.proofs.Common.{◌≡◌, ◌∙◌, List, length, Option, ap}
use Rattle.std.proofs.lemmas.List.{length-map}
use Rattle.page_model.specs.declared.parts.PageParts.{PageParts}
use Rattle.trap_pool.specs.Replies.{ReplyParts}
use Rattle.trap_pool.specs.Taking.{pages_of, waiting_of}

-- as many pages as lines
pub as_many_pages : (replies : List ReplyParts) (pages : List (Option PageParts)) → pages ≡ pages_of replies → length pages ≡ length replies
as_many_pages replies pages all = ap length all ∙ length-map replies waiting_of
