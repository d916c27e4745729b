-- The files that a trapped page is written into: a plate for each plane, and the report.
use Rattle.std.specs.Prelude.{ℕ, List, [], ◌∷◌, ◌++◌, map, Option}
use Rattle.outside.specs.Rack.{put}
use Rattle.page_model.specs.declared.parts.Plane.{Plane}
use Rattle.page_files.specs.Format.{encoded}

-- a file that is written, by its name
pub record Written : Type 0 where
  pub name : List ℕ
  pub bytes : List ℕ

-- each plane as a plate's file, under its name, as far as there are names and planes
abbrev pub plate_files : List (List ℕ) → List Plane → List Written
plate_files [] planes = []
plate_files (output ∷ outputs) [] = []
plate_files (output ∷ outputs) (plane ∷ planes) =
    record { name = output; bytes = encoded plane } ∷ plate_files outputs planes

-- all files of a page in the order in which they are written: the plates, and then the report
abbrev pub page_files : List (List ℕ) → List Plane → List ℕ → List ℕ → List Written
page_files outputs planes report text =
    plate_files outputs planes ++ record { name = report; bytes = text } ∷ []

-- the names of these files
abbrev pub names_of : List Written → List (List ℕ)
names_of = map (λ w. w.name)

-- the files, with these put in one after another
abbrev pub put_all : List Written → (List ℕ → Option (List ℕ)) → List ℕ → Option (List ℕ)
put_all [] files = files
put_all (w ∷ rest) files = put_all rest (put w.name w.bytes files)
