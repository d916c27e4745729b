-- A sheet that was judged, by how it is planned.
use Rattle.std.proofs.Common.{◌≡◌, ℕ, ◌*◌, ◌<◌, ◌^◌, false, nat_lt, ◌||◌, inl, inr, sym, subst, arith}
use Rattle.std.proofs.lemmas.Bool.{ltb-false, or_parts}
use Rattle.sheet_geometry.specs.Areas.{traps}
use Rattle.sheet_geometry.specs.Outline.{outline_sheet}
use Rattle.sheet_geometry.specs.Planned.{IsPlan, IsPlanFor}
use Rattle.sheet_geometry.specs.CommonErrors.{is_large}
use Rattle.sheet_geometry.proofs.OutlineLemmas.{cuttable_is, law_of}
use Rattle.sheet_geometry.specs.declared.plan.Plan.{Plan}
use Rattle.sheet_geometry.specs.declared.plan.Plan.TheVariants.{Page, Windows}
use Rattle.sheet_geometry.specs.declared.plan.Rulers.{Rulers}
use Rattle.page_model.specs.declared.parts.PageParts.{PageParts}
use Rattle.page_model.specs.Columns.{halo}
use Rattle.page_model.specs.Reach.{page_reach}
use Rattle.page_model.specs.Conditions.{IsPage}
use Rattle.page_model.specs.Limits.{most_samples, most_side}
use Rattle.page_model.specs.Page.{height, plates, width}
use Rattle.sheet_geometry.specs.declared.budget.Budget.{Budget}
use Rattle.sheet_geometry.specs.Sheets.{IsSheet}
use Rattle.sheet_geometry.proofs.Pages.{sheet_is_page}
use Rattle.sheet_files.specs.Holding.{CanHold}
use Rattle.sheet_files.specs.Trapping.{CanCut}
use Rattle.trapsheet_cli.specs.Strips.{HasNoStrips}

-- A sheet that is planned otherwise has no strips of one height.
pub no_strips_by : (outline : PageParts) (budget : Budget) (rulers : Rulers) → IsPlanFor traps outline budget (Windows rulers) → HasNoStrips outline
no_strips_by outline budget rulers is = inr (rulers, record { fit = is.1.fit; step_across = is.1.step_across; step_down = is.1.step_down; large = is.2 })

pub no_cut : (outline : PageParts) (budget : Budget) → IsPlanFor traps outline budget Page → HasNoStrips outline
no_cut outline budget is = inl is.0

-- Its sides are below 2^30 samples.
pub record HasSides (outline : PageParts) : Type 0 where
  pub narrow : width outline < 2 ^ 30
  pub low : height outline < 2 ^ 30

pub sides_by : (outline : PageParts) (budget : Budget) (rulers : Rulers) → IsPlanFor traps outline budget (Windows rulers) → HasSides outline
sides_by outline budget rulers is =
    let fits = is.1 in
    record {
      narrow = (let side = fits.columns.few_samples in let same = fits.fit.wide in omega (arith, side, same));
      low = (let side = fits.rows.few_samples in let same = fits.fit.tall in omega (arith, side, same));
    }

pub page_sides : (outline : PageParts) (budget : Budget) → IsPlanFor traps outline budget Page → HasSides outline
page_sides outline budget is =
    let one = or_parts (nat_lt most_side (width outline)) (nat_lt most_side (height outline) || nat_lt most_samples (width outline * height outline * plates outline)) is.1 in
    let two = or_parts (nat_lt most_side (height outline)) (nat_lt most_samples (width outline * height outline * plates outline)) one.1 in
    record {
      narrow = (let a = ltb-false _ _ one.0 in omega (arith, a));
      low = (let a = ltb-false _ _ two.0 in omega (arith, a));
    }

page_from_sheet : (sheet : PageParts) → IsSheet sheet → is_large sheet ≡ false → IsPage sheet
page_from_sheet sheet is small =
    let one = or_parts (nat_lt most_side (width sheet)) (nat_lt most_side (height sheet) || nat_lt most_samples (width sheet * height sheet * plates sheet)) small in
    let two = or_parts (nat_lt most_side (height sheet)) (nat_lt most_samples (width sheet * height sheet * plates sheet)) one.1 in
    sheet_is_page sheet is (let a = ltb-false _ _ one.0 in omega (arith, a)) (let a = ltb-false _ _ two.0 in omega (arith, a)) (let a = ltb-false _ _ two.1 in omega (arith, a))

-- A sheet that is bare so has the same plan.
plan_of : (outline sheet : PageParts) (budget : Budget) (plan : Plan) → IsPlanFor traps outline budget plan → outline_sheet sheet ≡ outline → IsPlanFor traps sheet budget plan
plan_of outline sheet budget plan is same = subst (λ (n : ℕ). IsPlan (halo n) sheet budget plan) (law_of sheet).reach
    ((law_of sheet).plan (halo (page_reach (outline_sheet sheet))) budget plan (subst (λ (b : PageParts). IsPlanFor traps b budget plan) (sym same) is))

cuts_by : (outline sheet : PageParts) (budget : Budget) (rulers : Rulers) → IsPlanFor traps outline budget (Windows rulers) → IsSheet sheet → outline_sheet sheet ≡ outline → CanCut sheet rulers
cuts_by outline sheet budget rulers is valid same =
    let here = plan_of outline sheet budget (Windows rulers) is same in
    let sides = sides_by sheet budget rulers here in
    record {
      cuttable = cuttable_is sheet valid here.0 sides.narrow sides.low;
      fit = here.1.fit;
      small = here.1.small;
      columns = here.1.columns;
      rows = here.1.rows;
    }

pub hold_windows : (outline : PageParts) (budget : Budget) (rulers : Rulers) → IsPlanFor traps outline budget (Windows rulers) → CanHold outline (Windows rulers)
hold_windows outline budget rulers is =
    let sides = sides_by outline budget rulers is in
    record { narrow = sides.narrow; low = sides.low; can = λ sheet valid same. cuts_by outline sheet budget rulers is valid same }

pub hold_page : (outline : PageParts) (budget : Budget) → IsPlanFor traps outline budget Page → CanHold outline Page
hold_page outline budget is =
    let sides = page_sides outline budget is in
    record { narrow = sides.narrow; low = sides.low; can = λ sheet valid same. page_from_sheet sheet valid (plan_of outline sheet budget Page is same).1 }
