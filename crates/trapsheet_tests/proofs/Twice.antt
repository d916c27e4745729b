-- Two plates of six samples that are begun, and read by four samples and then by two.
use Rattle.std.proofs.Common.{◌≡◌, ℕ, zero, suc, ◌+◌, ◌-◌, ◌<◌, ◌≤◌, List, [], ◌∷◌, ◌++◌, length, drop, Ok, IsTrue, refl, ap, ◌∙◌, arith}
use Rattle.std.proofs.lemmas.List.{length-append, length-drop, length-map}
use Rattle.outside.specs.Tray.{TrayState}
use Rattle.page_model.specs.declared.parts.Plane.{Plane}
use Rattle.page_model.specs.Planes.{plane_at}
use Rattle.pgm_plates.specs.declared.bounds.Bounds.TheVariants.{Sheet}
use Rattle.pgm_plates.specs.declared.header.Header.{Header}
use Rattle.pgm_plates.specs.declared.rows.OpenPlate.{OpenPlate}
use Rattle.pgm_plates.specs.Rows.{samples_of}
use Rattle.plate_rows.specs.declared.rereading.NextRows.{NextRows}
use Rattle.plate_rows.specs.Rereading.{BeginsPlates, IsReadTo, ReadsNext, new_rows, wanted}
use Rattle.plate_rows.specs.Trays.{header_at, name_at, open_at, tray_at}

-- the name of both files
abbrev pub both_names : List (List ℕ)
both_names = (105 ∷ 110 ∷ []) ∷ (105 ∷ 110 ∷ []) ∷ []

-- the headers of both
abbrev pub both_headers : List Header
both_headers = record { width = 2; height = 3; maxval = 9 } ∷ record { width = 2; height = 3; maxval = 300 } ∷ []

pub six : (k : ℕ) → k < 2 → samples_of (header_at both_headers k) ≡ 6
six zero less = refl
six (suc zero) less = refl
six (suc (suc k)) less = absurd (omega arith)

-- how many samples the tints that are not kept give
new_long : (plates : List OpenPlate) (kept : ℕ) (planes : List Plane) (k : ℕ) → length (new_rows plates kept planes k) ≡ wanted kept planes k
new_long plates kept planes k =
    let tints = (plane_at planes k).tints in
    length-map (drop kept tints) (λ (v : ℕ). (open_at plates k).header.maxval - v) ∙ length-drop kept tints

-- what was read is more by the next samples
module _ (plates : List OpenPlate) (next : NextRows) (old new : List Plane) (a b : List TrayState) (k : ℕ) (less : k < length plates) (to : IsReadTo (open_at plates k) next.done (wanted next.kept old k) (tray_at a k)) (reads : ReadsNext plates next old new a b (Ok tt)) where
  pub more_long : length (new_rows plates next.kept new k) ≡ wanted next.kept old k
  more_long = new_long plates next.kept new k ∙ ap (λ (n : ℕ). n - next.kept) (reads.0 k less).tints.full

  pub more_read : (more : ℕ) → next.done + wanted next.kept old k + more ≤ samples_of (open_at plates k).header → IsReadTo (open_at plates k) (next.done + wanted next.kept old k) more (tray_at b k)
  more_read more workspace =
      let long = more_long in
      record {
        name = to.name;
        start = to.start;
        samples = to.samples ++ new_rows plates next.kept new k;
        read = reads.1.each k less Sheet to.name to.start to.samples to.read to.count (omega (arith, long, workspace));
        count = length-append to.samples (new_rows plates next.kept new k) ∙ ap (λ (n : ℕ). n + length (new_rows plates next.kept new k)) to.count ∙ ap (λ (n : ℕ). next.done + n) long;
        workspace = workspace;
      }

  pub still_begun : next.done + wanted next.kept old k ≤ samples_of (open_at plates k).header → IsTrue (tray_at b k).begun
  still_begun workspace = (more_read 0 (omega (arith, workspace))).read.rows.begun

-- nothing is read of a plate that is begun
pub none_read : (names : List (List ℕ)) (headers : List Header) (plates : List OpenPlate) (a b : List TrayState) (k more : ℕ) → k < length names → BeginsPlates names headers plates a b (Ok tt) → more ≤ samples_of (header_at headers k) → IsReadTo (open_at plates k) 0 more (tray_at b k)
none_read names headers plates a b k more less begins workspace = record {
  name = name_at names k;
  start = tray_at a k;
  samples = [];
  read = (begins.each k less).read;
  count = refl;
  workspace = (let same = ap samples_of (begins.each k less).same in omega (arith, same, workspace));
}

-- its header
pub begun_six : (names : List (List ℕ)) (headers : List Header) (plates : List OpenPlate) (a b : List TrayState) (k : ℕ) → k < length names → BeginsPlates names headers plates a b (Ok tt) → samples_of (header_at headers k) ≡ 6 → samples_of (open_at plates k).header ≡ 6
begun_six names headers plates a b k less begins six = ap samples_of (begins.each k less).same ∙ six
