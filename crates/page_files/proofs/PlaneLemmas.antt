-- Plates that are read as planes.
use Rattle.std.proofs.Common.{◌≡◌, ℕ, ◌<◌, List, [], ◌∷◌, length, map, All, Option, sym, ap₂, ◌∙◌, subst, refl, arith, suc}
use Rattle.std.proofs.lemmas.List.{get_or-map, length-map}
use Rattle.page_files.specs.Inputs.{AreFound, Holds, name_at, no_plate}
use Rattle.page_model.specs.declared.parts.Plane.{Plane}
use Rattle.page_model.specs.Conditions.{IsPlane}
use Rattle.page_model.specs.Planes.{no_plane}
use Rattle.pgm_plates.specs.declared.plate.Plate.{Plate}
use Rattle.pgm_plates.specs.Laws.{PlaneTurnsBack}
use Rattle.pgm_plates.specs.Planes.{plane_of, plate_of}

-- What files give as planes, they give as plates.
pub plates_found : (Gives : List ℕ → Plate → Type 0) (files : List ℕ → Option (List ℕ)) (names : List (List ℕ)) (count : ℕ) (planes : List Plane) → AreFound (λ bytes plane. Gives bytes (plate_of plane)) no_plane files names count planes → AreFound Gives no_plate files names count (map plate_of planes)
plates_found Gives files names count planes found = record {
  all = length-map planes plate_of ∙ found.all;
  each = λ k within.
      let here : k < length planes = omega (arith, found.all) in
      subst (λ (plate : Plate). Holds files (name_at names k) (λ bytes. Gives bytes plate)) (sym (get_or-map plate_of planes k no_plane no_plate here)) (found.each k within);
}

-- Planes that are turned into plates and back are as before.
pub planes_back : PlaneTurnsBack → (planes : List Plane) → All IsPlane planes → map plane_of (map plate_of planes) ≡ planes
planes_back law [] all = refl
planes_back law (first ∷ rest) all = ap₂ (λ (p : Plane) (ps : List Plane). p ∷ ps) (law first (all 0 first (omega arith))) (planes_back law rest (λ k d within. all (suc k) d (omega arith)))
