-- A plate that is written after others.
use Rattle.std.proofs.Common.{◌≡◌, ℕ, ◌<◌, List, [], ◌∷◌, ◌++◌, length, map, get_or, Some, Ok, Err, IsTrue, sym, ap, ◌∙◌, subst, arith}
use Rattle.std.proofs.lemmas.List.{length-map, length-append, get_or-map}
use Rattle.outside.specs.Rack.{RackState, KeepsRack}
use Rattle.outside.specs.Writing.{WritesFile}
use Rattle.outside.proofs.Steps.{kept_then, once_before, reported_on}
use Rattle.page_model.specs.declared.parts.Plane.{Plane}
use Rattle.page_files.specs.Format.{encoded}
use Rattle.common_errors.specs.declared.common.CommonError.TheVariants.{Write}
use Rattle.page_files.specs.Files.{Written, plate_files}
use Rattle.page_files.specs.Writing.{WritesAll, BreaksAt, WritesPlates}
use Rattle.page_files.proofs.Steps.{wrote_more, breaks_next, plates_more, plates_split, plates_length, plate_broken}

-- the file of the plate that comes after so many
output_at : {X : Type 0} (text : X → List ℕ) (plates : List X) (done : List Plane) (place : ℕ) (d : X) (shown : List ℕ) → shown ≡ text (get_or plates place d) → length done < length plates → place ≡ length done → shown ≡ get_or (map text plates) (length done) shown
output_at text plates done place d shown is less at = subst (λ (k : ℕ). shown ≡ get_or (map text plates) k shown) at
    (is ∙ sym (get_or-map text plates place d shown (omega (arith, less, at))))

less_outputs : {X : Type 0} (text : X → List ℕ) (plates : List X) (done : List Plane) → length done < length plates → length done < length (map text plates)
less_outputs text plates done less = omega (arith, less, length-map plates text)

-- there is a word for each plane that is left
pub word_left : {X : Type 0} (plates : List X) (planes done : List Plane) (plane : Plane) (rest : List Plane) → length planes ≡ length plates → planes ≡ done ++ plane ∷ rest → length done < length plates
word_left plates planes done plane rest count whole = omega (arith, count, ap length whole ∙ length-append done (plane ∷ rest))

pub plate_wrote : {X T E : Type 0} (text : X → List ℕ) (plates : List X) (done : List Plane) (plane : Plane) (place : ℕ) (d : X) (shown : List ℕ) (a b c : RackState) (x : T) → shown ≡ text (get_or plates place d) → length done < length plates → place ≡ length done → KeepsRack a b → WritesAll (plate_files (map text plates) done) a b
    → WritesFile {T = T} {E = E} shown (encoded plane) b c (Ok x) → WritesAll (plate_files (map text plates) (done ++ plane ∷ [])) a c
plate_wrote text plates done plane place d shown a b c x is less at keeps before now =
    let more = plates_more (map text plates) done plane shown (less_outputs text plates done less) (output_at text plates done place d shown is less at) in
    subst (λ (files : List Written). WritesAll files a c) (sym more) (wrote_more (plate_files (map text plates) done) (record { name = shown; bytes = encoded plane }) a b c x keeps before now)

pub plate_broke : {X T U E : Type 0} (text : X → List ℕ) (plates : List X) (planes done : List Plane) (plane : Plane) (rest : List Plane) (place : ℕ) (d : X) (shown : List ℕ) (a b c : RackState) (e : E) → shown ≡ text (get_or plates place d) → length planes ≡ length plates → planes ≡ done ++ plane ∷ rest → place ≡ length done → KeepsRack a b
    → (IsTrue a.tells → b.reported ≡ a.reported) → WritesAll (plate_files (map text plates) done) a b → WritesFile {T = T} {E = E} shown (encoded plane) b c (Err e) → WritesPlates {T = U} (map text plates) planes a c (Err (Write (Some place)))
plate_broke text plates planes done plane rest place d shown a b c e is count whole at keeps reported before now =
    let less = word_left plates planes done plane rest count whole in
    let outputs = map text plates in
    let few = less_outputs text plates done less in
    let split = plates_split outputs done plane rest shown few (output_at text plates done place d shown is less at) in
    let files : plate_files outputs planes ≡ plate_files outputs done ++ record { name = shown; bytes = encoded plane } ∷ split.0 = ap (plate_files outputs) whole ∙ split.1 in
    let long : length (plate_files outputs done) ≡ place = plates_length outputs done (omega (arith, few)) ∙ sym at in
    let broke = breaks_next (plate_files outputs done) (record { name = shown; bytes = encoded plane }) split.0 a b c e keeps before now in
    let there = subst (λ (fs : List Written). BreaksAt fs place a c) (sym files) (subst (λ (k : ℕ). BreaksAt (plate_files outputs done ++ record { name = shown; bytes = encoded plane } ∷ split.0) k a c) long broke) in
    let same : length planes ≡ length outputs = count ∙ sym (length-map plates text) in
    plate_broken outputs planes place a c same (kept_then a b c keeps now.keeps) (λ tells. now.reported (reported_on a b keeps tells) ∙ reported tells) (once_before a.faults b.faults c.faults before.well now.once) there
