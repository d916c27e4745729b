-- What pages have in common that differ in their tints and in where their paths stand.
use Rattle.std.specs.Prelude.{ℕ, List, length, map}
use Rattle.page_model.specs.declared.parts.Ink.{Ink}
use Rattle.page_model.specs.declared.parts.Limit.{Limit}
use Rattle.page_model.specs.declared.parts.PageParts.{PageParts}
use Rattle.page_model.specs.declared.parts.Zone.{Zone}
use Rattle.page_model.specs.Page.{plates}

-- of a zone: how many vertices its path has, and its limits
pub record ZoneForm : Type 0 where
  pub vertices : ℕ
  pub limits : List Limit

-- of a page or sheet: how many plates it has, its inks, and that of each zone
pub record Form : Type 0 where
  pub deep : ℕ
  pub inks : List Ink
  pub zones : List ZoneForm

abbrev pub zone_form : Zone → ZoneForm
zone_form zone = record { vertices = length zone.path; limits = zone.limits }

unfoldable pub form_of : PageParts → Form
form_of page = record {
  deep = plates page;
  inks = page.inks;
  zones = map zone_form page.zones;
}
