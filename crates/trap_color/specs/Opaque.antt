-- That no plate has an opaque ink.
use Rattle.std.specs.Prelude.{◌≢◌, ℕ, ◌<◌}
use Rattle.page_model.specs.declared.parts.InkKind.TheVariants.{Opaque}
use Rattle.page_model.specs.declared.parts.PageParts.{PageParts}
use Rattle.page_model.specs.Page.{plates, ink_at}

-- no plate has an Opaque ink
abbrev pub HasNoOpaque : PageParts → Type 0
HasNoOpaque page = (c : ℕ) → c < plates page → (ink_at page c).kind ≢ Opaque
