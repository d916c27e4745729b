-- The memory of the workers and of the caller is that of the table's layout.
use Rattle.std.proofs.Common.{refl, ◌≡◌, ℕ, ◌∙◌, ◌∷◌, ◌++◌, [], All, List, ap, arith, subst, sym}
use Rattle.std.proofs.lemmas.List.Elements.{All-append, All-cons}
use Rattle.page_model.specs.declared.bands.Bands.{Bands}
use Rattle.band_core.specs.Layouts.{Layout}
use Rattle.band_claims.specs.declared.table_key.TableKey.{TableKey}
use Rattle.band_claims.specs.declared.view.View.{View}
use Rattle.band_claims.specs.Shares.{IsWhole}
use Rattle.band_claims.specs.Views.{newcomer}
use Rattle.band_pieces.specs.Workspace.{Memory}

abbrev laid : Bands → ℕ → ℕ → Layout
laid b w p = record { bands = b; width = w; plates = p }

pub served_by : (layout : Layout) (bands : Bands) (w p w' p' : ℕ) (all : List Memory) → layout ≡ record { bands = bands; width = w; plates = p } → w ≡ w' → p ≡ p' → All (λ (s : Memory). s.layout ≡ record { bands = bands; width = w'; plates = p' }) all → All (λ (s : Memory). s.layout ≡ layout) all
served_by layout bands w p w' p' all e ew ep h = subst (λ (l : Layout). All (λ (s : Memory). s.layout ≡ l) all) (sym (e ∙ ap (λ (n : ℕ). laid bands n p) ew ∙ ap (laid bands w') ep)) h

pub one_served_by : (layout one : Layout) (bands : Bands) (w p w' p' : ℕ) → layout ≡ record { bands = bands; width = w; plates = p } → w ≡ w' → p ≡ p' → one ≡ record { bands = bands; width = w'; plates = p' } → one ≡ layout
one_served_by layout one bands w p w' p' e ew ep h = h ∙ sym (e ∙ ap (λ (n : ℕ). laid bands n p) ew ∙ ap (laid bands w') ep)

-- and so it stays where one more is added
pub one_more_laid : (all : List Memory) (one : Memory) (bands : Bands) (w p : ℕ) → All (λ (s : Memory). s.layout ≡ record { bands = bands; width = w; plates = p }) all → one.layout ≡ record { bands = bands; width = w; plates = p } → All (λ (s : Memory). s.layout ≡ record { bands = bands; width = w; plates = p }) (all ++ one ∷ [])
one_more_laid all one bands w p h e = All-append (λ (s : Memory). s.layout ≡ laid bands w p) all (one ∷ []) h (All-cons (λ (s : Memory). s.layout ≡ laid bands w p) one [] e (λ j d none. absurd (omega arith)))

-- a table's first pass has all shares
pub newcomer_whole : (key : TableKey) (v : View) → v ≡ newcomer key → IsWhole v.share
newcomer_whole key v e = subst (λ (z : View). IsWhole z.share) (sym e) (record { halvings = 0; cut = (omega arith, tt); all = refl })
