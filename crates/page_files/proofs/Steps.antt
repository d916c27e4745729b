-- Files that are written one after another.
use Rattle.std.proofs.Common.{◌≡◌, ℕ, ◌+◌, ◌<◌, ◌≤◌, List, [], ◌∷◌, ◌++◌, length, get_or, Option, Some, None, Ok, Err, IsTrue, refl, sym, ap, ◌∙◌, subst, arith}
use Rattle.std.proofs.lemmas.List.{append_assoc, map-append, length-append}
use Rattle.outside.specs.ErrorCases.{RoseOnce, Asks, AsksPrefix}
use Rattle.outside.specs.Rack.{RackState, KeepsRack, put}
use Rattle.outside.specs.Writing.{WritesFile, BreaksFile}
use Rattle.outside.proofs.Names.{asks_none, asks_then, asks_all, asks_before}
use Rattle.outside.proofs.Steps.{kept_then, once_before, rose_before, reported_on}
use Rattle.page_model.specs.declared.parts.Plane.{Plane}
use Rattle.page_files.specs.Format.{encoded}
use Rattle.common_errors.specs.declared.common.CommonError.{CommonError}
use Rattle.common_errors.specs.declared.common.CommonError.TheVariants.{Write}
use Rattle.page_files.specs.Files.{Written, plate_files, page_files, names_of, put_all}
use Rattle.page_files.specs.Writing.{WritesAll, BreaksAt, FailsOnce, FinishesAll, WritesPage, WritesPlates}

put_all_more : (files : List Written) (w : Written) (stored : List ℕ → Option (List ℕ)) → put_all (files ++ w ∷ []) stored ≡ put w.name w.bytes (put_all files stored)
put_all_more [] w stored = refl
put_all_more (f ∷ fs) w stored = put_all_more fs w (put f.name f.bytes stored)

names_append : (files more : List Written) → names_of (files ++ more) ≡ names_of files ++ names_of more
names_append files more = map-append (λ (f : Written). f.name) files more

-- nothing is written
pub wrote_none : (files : List Written) (a : RackState) → files ≡ [] → WritesAll files a a
wrote_none files a none = subst (λ (fs : List Written). WritesAll fs a a) (sym none) (record { asked = asks_none a.asked; whole = λ tells. refl; finished = λ tells. asks_none a.finished; shut = λ some. absurd (omega arith); well = refl })

-- files that are finished, and then others
pub finished_then : (names more : List (List ℕ)) (a b c : RackState) → KeepsRack a b → FinishesAll names a b → FinishesAll more b c → FinishesAll (names ++ more) a c
finished_then names more a b c keeps one two tells = asks_then a.finished b.finished c.finished names more (one tells) (two (reported_on a b keeps tells))

-- one file more
pub wrote_more : {T E : Type 0} (files : List Written) (w : Written) (a b c : RackState) (x : T) → KeepsRack a b → WritesAll files a b → WritesFile {T = T} {E = E} w.name w.bytes b c (Ok x) → WritesAll (files ++ w ∷ []) a c
wrote_more files w a b c x keeps before now = record {
  asked = subst (λ (names : List (List ℕ)). Asks a.asked c.asked names) (sym (names_append files (w ∷ []))) (asks_then a.asked b.asked c.asked (names_of files) (w.name ∷ []) before.asked now.asked);
  whole = λ tells. now.files (reported_on a b keeps tells) ∙ ap (put w.name w.bytes) (before.whole tells) ∙ sym (put_all_more files w a.file);
  finished = subst (λ (names : List (List ℕ)). FinishesAll names a c) (sym (names_append files (w ∷ []))) (finished_then (names_of files) (w.name ∷ []) a b c keeps before.finished now.finished);
  shut = λ some. now.shut;
  well = now.well ∙ before.well;
}

-- the next file breaks
pub breaks_next : {T E : Type 0} (files : List Written) (w : Written) (later : List Written) (a b c : RackState) (e : E) → KeepsRack a b → WritesAll files a b → WritesFile {T = T} {E = E} w.name w.bytes b c (Err e) → BreaksAt (files ++ w ∷ later) (length files) a c
breaks_next files w later a b c e keeps before now = record {
  earlier = files;
  file = w;
  later = later;
  all = refl;
  place = refl;
  asked = asks_then a.asked b.asked c.asked (names_of files) (w.name ∷ []) before.asked now.asked;
  finished = λ tells. subst (λ o. Asks a.finished o (names_of files)) (sym now.unfinished) (before.finished tells);
  part = λ tells. subst (λ (stored : List ℕ → Option (List ℕ)). BreaksFile w.name w.bytes stored c) (before.whole tells) (now.part (reported_on a b keeps tells));
  reason = rose_before a.faults b.faults c.faults keeps.faults now.reason;
}

-- what breaks, breaks with more files after it
breaks_before : (files more : List Written) (k : ℕ) (a b : RackState) → BreaksAt files k a b → BreaksAt (files ++ more) k a b
breaks_before files more k a b broke = record {
  earlier = broke.earlier;
  file = broke.file;
  later = broke.later ++ more;
  all = ap (λ (l : List Written). l ++ more) broke.all ∙ append_assoc broke.earlier (broke.file ∷ broke.later) more;
  place = broke.place;
  asked = broke.asked;
  finished = broke.finished;
  part = broke.part;
  reason = broke.reason;
}

pub breaks_below : (files : List Written) (k : ℕ) (a b : RackState) → BreaksAt files k a b → k < length files
breaks_below files k a b broke =
    let long : length files ≡ length broke.earlier + length (broke.file ∷ broke.later) = ap length broke.all ∙ length-append broke.earlier (broke.file ∷ broke.later) in
    omega (arith, long, broke.place)

-- the names up to the file that breaks are a prefix of all names
pub breaks_prefix : (files : List Written) (k : ℕ) (a b : RackState) → BreaksAt files k a b → AsksPrefix a.asked b.asked (names_of files)
breaks_prefix files k a b broke =
    let whole : names_of files ≡ (names_of broke.earlier ++ broke.file.name ∷ []) ++ names_of broke.later =
    ap names_of broke.all ∙ names_append broke.earlier (broke.file ∷ broke.later) ∙ sym (append_assoc (names_of broke.earlier) (broke.file.name ∷ []) (names_of broke.later)) in
    subst (λ (names : List (List ℕ)). AsksPrefix a.asked b.asked names) (sym whole) (asks_before a.asked b.asked (names_of broke.earlier ++ broke.file.name ∷ []) (names_of broke.later) broke.asked)

pub all_prefix : (files : List Written) (a b : RackState) → WritesAll files a b → AsksPrefix a.asked b.asked (names_of files)
all_prefix files a b wrote = asks_all a.asked b.asked (names_of files) wrote.asked

pub no_plates : (outputs : List (List ℕ)) → plate_files outputs [] ≡ []
no_plates [] = refl
no_plates (o ∷ os) = refl

-- a plate and those after it
pub plates_split : (outputs : List (List ℕ)) (planes : List Plane) (plane : Plane) (rest : List Plane) (name : List ℕ) → length planes < length outputs → name ≡ get_or outputs (length planes) name
    → (later : List Written) × (plate_files outputs (planes ++ plane ∷ rest) ≡ plate_files outputs planes ++ record { name = name; bytes = encoded plane } ∷ later)
plates_split [] planes plane rest name less at = let e : ⊥ = omega (arith, less) in absurd e
plates_split (o ∷ os) [] plane rest name less at = (plate_files os rest, ap (λ (n : List ℕ). record { name = n; bytes = encoded plane } ∷ plate_files os rest) (sym at))
plates_split (o ∷ os) (p ∷ ps) plane rest name less at =
    let suffix = plates_split os ps plane rest name (omega (arith, less)) at in
    (suffix.0, ap (λ (l : List Written). record { name = o; bytes = encoded p } ∷ l) suffix.1)

-- one plate more
pub plates_more : (outputs : List (List ℕ)) (planes : List Plane) (plane : Plane) (name : List ℕ) → length planes < length outputs → name ≡ get_or outputs (length planes) name
    → plate_files outputs (planes ++ plane ∷ []) ≡ plate_files outputs planes ++ record { name = name; bytes = encoded plane } ∷ []
plates_more [] planes plane name less at = let e : ⊥ = omega (arith, less) in absurd e
plates_more (o ∷ os) [] plane name less at = ap (λ (l : List Written). record { name = o; bytes = encoded plane } ∷ l) (no_plates os) ∙ ap (λ (n : List ℕ). record { name = n; bytes = encoded plane } ∷ []) (sym at)
plates_more (o ∷ os) (p ∷ ps) plane name less at = ap (λ (l : List Written). record { name = o; bytes = encoded p } ∷ l) (plates_more os ps plane name (omega (arith, less)) at)

pub plates_length : (outputs : List (List ℕ)) (planes : List Plane) → length planes ≤ length outputs → length (plate_files outputs planes) ≡ length planes
plates_length [] [] less = refl
plates_length [] (p ∷ ps) less = let e : ⊥ = omega (arith, less) in absurd e
plates_length (o ∷ os) [] less = refl
plates_length (o ∷ os) (p ∷ ps) less = omega (arith, plates_length os ps (omega (arith, less)))

pub plates_names : (outputs : List (List ℕ)) (planes : List Plane) → length planes ≡ length outputs → names_of (plate_files outputs planes) ≡ outputs
plates_names [] planes same = refl
plates_names (o ∷ os) [] same = let e : ⊥ = omega (arith, same) in absurd e
plates_names (o ∷ os) (p ∷ ps) same = ap (λ (l : List (List ℕ)). o ∷ l) (plates_names os ps (omega (arith, same)))

-- all plates are written
pub plates_written : {T : Type 0} (outputs : List (List ℕ)) (planes : List Plane) (a b : RackState) (x : T) → length planes ≡ length outputs → KeepsRack a b → (IsTrue a.tells → b.reported ≡ a.reported) → WritesAll (plate_files outputs planes) a b → WritesPlates {T = T} outputs planes a b (Ok x)
plates_written outputs planes a b x same keeps reported wrote = record {
  keeps = keeps;
  reported = reported;
  asked = subst (λ (names : List (List ℕ)). AsksPrefix a.asked b.asked names) (plates_names outputs planes same) (all_prefix (plate_files outputs planes) a b wrote);
  answer = wrote;
  once = tt;
}

-- a plate breaks
pub plate_broken : {T : Type 0} (outputs : List (List ℕ)) (planes : List Plane) (k : ℕ) (a b : RackState) → length planes ≡ length outputs → KeepsRack a b → (IsTrue a.tells → b.reported ≡ a.reported) → RoseOnce a.faults b.faults → BreaksAt (plate_files outputs planes) k a b → WritesPlates {T = T} outputs planes a b (Err (Write (Some k)))
plate_broken outputs planes k a b same keeps reported once broke = record {
  keeps = keeps;
  reported = reported;
  asked = subst (λ (names : List (List ℕ)). AsksPrefix a.asked b.asked names) (plates_names outputs planes same) (breaks_prefix (plate_files outputs planes) k a b broke);
  answer = (omega (arith, breaks_below (plate_files outputs planes) k a b broke, plates_length outputs planes (omega (arith, same)), same), broke);
  once = once;
}

pub page_names : (outputs : List (List ℕ)) (planes : List Plane) (report text : List ℕ) → length planes ≡ length outputs → names_of (page_files outputs planes report text) ≡ outputs ++ report ∷ []
page_names outputs planes report text same = names_append (plate_files outputs planes) _ ∙ ap (λ (l : List (List ℕ)). l ++ report ∷ []) (plates_names outputs planes same)

as_prefix : (outputs : List (List ℕ)) (planes : List Plane) (report text : List ℕ) (a b : RackState) → length planes ≡ length outputs → AsksPrefix a.asked b.asked (names_of (page_files outputs planes report text)) → AsksPrefix a.asked b.asked (outputs ++ report ∷ [])
as_prefix outputs planes report text a b same prefix = subst (λ (names : List (List ℕ)). AsksPrefix a.asked b.asked names) (page_names outputs planes report text same) prefix

-- the plates, and then the report
pub page_written : {T U E : Type 0} (outputs : List (List ℕ)) (planes : List Plane) (report text : List ℕ) (a b c : RackState) (x y : T) (z : U) → length planes ≡ length outputs → WritesPlates outputs planes a b (Ok x) → WritesFile {T = U} {E = E} report text b c (Ok z) → WritesPage outputs planes report text a c (Ok y)
page_written outputs planes report text a b c x y z same plates now =
    let all = wrote_more (plate_files outputs planes) (record { name = report; bytes = text }) a b c z plates.keeps plates.answer now in
    record {
      keeps = kept_then a b c plates.keeps now.keeps;
      reported = λ tells. now.reported (reported_on a b plates.keeps tells) ∙ plates.reported tells;
      asked = as_prefix outputs planes report text a c same (all_prefix (page_files outputs planes report text) a c all);
      answer = all;
      once = tt;
    }

-- the plates, and then a fault at the report
pub report_broken : {T U E : Type 0} (outputs : List (List ℕ)) (planes : List Plane) (report text : List ℕ) (a b c : RackState) (x : T) (e : E) → length planes ≡ length outputs → WritesPlates outputs planes a b (Ok x) → WritesFile {T = U} {E = E} report text b c (Err e) → WritesPage {T = T} outputs planes report text a c (Err (Write None))
report_broken outputs planes report text a b c x e same plates now =
    let files = plate_files outputs planes in
    let count : length files ≡ length outputs = plates_length outputs planes (omega (arith, same)) ∙ same in
    let broke : BreaksAt (page_files outputs planes report text) (length outputs) a c =
    subst (λ (k : ℕ). BreaksAt (page_files outputs planes report text) k a c) count (breaks_next files (record { name = report; bytes = text }) [] a b c e plates.keeps plates.answer now) in
    record {
      keeps = kept_then a b c plates.keeps now.keeps;
      reported = λ tells. now.reported (reported_on a b plates.keeps tells) ∙ plates.reported tells;
      asked = as_prefix outputs planes report text a c same (breaks_prefix (page_files outputs planes report text) (length outputs) a c broke);
      answer = broke;
      once = once_before a.faults b.faults c.faults plates.answer.well now.once;
    }

-- a fault at a plate
pub plates_broken : {T : Type 0} (outputs : List (List ℕ)) (planes : List Plane) (report text : List ℕ) (a b : RackState) (error : CommonError) → length planes ≡ length outputs → WritesPlates {T = T} outputs planes a b (Err error) → WritesPage {T = T} outputs planes report text a b (Err error)
plates_broken outputs planes report text a b (Write (Some k)) same plates =
    let files = plate_files outputs planes in
    let broke = breaks_before files (record { name = report; bytes = text } ∷ []) k a b plates.answer.1 in
    record {
      keeps = plates.keeps;
      reported = plates.reported;
      asked = as_prefix outputs planes report text a b same (breaks_prefix (page_files outputs planes report text) k a b broke);
      answer = (plates.answer.0, broke);
      once = plates.once;
    }
plates_broken outputs planes report text a b other same plates = absurd plates.answer
