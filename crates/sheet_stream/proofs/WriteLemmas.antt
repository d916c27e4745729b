-- Rows of new tints that are written, and prefixes of plates.
use Rattle.std.proofs.Common.{◌≡◌, ℕ, ◌-◌, List, [], ◌∷◌, ◌++◌, length, map, take, IsTrue, refl, sym, ap, ◌∙◌, subst, append_assoc}
use Rattle.std.proofs.lemmas.List.{map-append, take_at}
use Rattle.std.proofs.lemmas.Grind.{flat_map-append}
use Rattle.outside.specs.ErrorCases.{Asks}
use Rattle.outside.specs.Rack.{put}
use Rattle.outside.proofs.Steps.{kept_then, reported_on}
use Rattle.page_model.specs.Page.{width}
use Rattle.pgm_plates.specs.declared.header.Header.{Header}
use Rattle.pgm_plates.specs.Planes.{plate_of}
use Rattle.pgm_plates.specs.Plates.{raster, sample_bytes, spelled_header}
use Rattle.pgm_plates.specs.Rows.{HasWritten, plane_with, spelled_so_far}
use Rattle.plate_rows.specs.Images.{part_at}
use Rattle.plate_rows.specs.Racks.{rack_at}
use Rattle.plate_rows.specs.Trays.{name_at}
use Rattle.plate_rows.proofs.WriteLemmas.{writing_grows}
use Rattle.sheet_stream.specs.Growing.{new_rows}
use Rattle.sheet_stream.specs.Writing.{PartStands, RowIsWritten}
use Rattle.sheet_stream.proofs.GrowLemmas.{grow}

pub row_written : RowIsWritten
row_written outputs header count rows sheet line start before after wrote row writes =
    let more = writing_grows outputs header count (λ c. new_rows sheet c rows) (part_at (width sheet) line) start before after wrote writes in
    record {
      each = λ k l. subst (λ (tints : List ℕ). HasWritten (name_at outputs k) header tints (rack_at start k) (rack_at after k)) (ap (λ (t : List ℕ). new_rows sheet k rows ++ t) (row k l) ∙ grow sheet k rows) (more.each k l);
      others = more.others;
    }

-- a plate's bytes as far as some tints, and those of the tints after them
spelled_more : (header : Header) (tints rest : List ℕ) → spelled_so_far header (tints ++ rest) ≡ spelled_so_far header tints ++ raster header.maxval (map (λ (t : ℕ). header.maxval - t) rest)
spelled_more header tints rest =
    let turn : ℕ → ℕ = λ t. header.maxval - t in
    let head = spelled_header (plate_of (plane_with header [])) in
    ap (λ (samples : List ℕ). head ++ raster header.maxval samples) (map-append turn tints rest)
    ∙ ap (λ (bytes : List ℕ). head ++ bytes) (flat_map-append (sample_bytes header.maxval) (map turn tints) (map turn rest))
    ∙ sym (append_assoc head (raster header.maxval (map turn tints)) (raster header.maxval (map turn rest)))

pub part_stands : PartStands
part_stands name header tints rest before after wrote =
    let created = wrote.created in
    let creates = wrote.creates in
    let writes = wrote.writes in
    let bytes = spelled_so_far header tints in
    record {
      keeps = kept_then before created after creates.keeps writes.keeps;
      asked = subst (λ o. Asks before.asked o (name ∷ [])) (sym writes.asked) creates.asked;
      reported = λ tells. writes.reported (reported_on before created creates.keeps tells) ∙ creates.reported tells;
      finished = writes.finished ∙ creates.finished;
      is_open = wrote.is_open;
      part = λ tells.
          let here : IsTrue created.tells = creates.keeps.tells ∙ tells in
          let named = creates.current tells in
          let grown = writes.files here [] before.file (creates.files tells ∙ ap (λ (n : List ℕ). put n [] before.file) (sym named)) in
          let whole : take (length bytes) (spelled_so_far header (tints ++ rest)) ≡ bytes =
          ap (take (length bytes)) (spelled_more header tints rest) ∙ take_at bytes (raster header.maxval (map (λ (t : ℕ). header.maxval - t) rest)) (length bytes) refl in
          (length bytes, grown ∙ ap (λ (n : List ℕ). put n bytes before.file) named ∙ ap (λ (b : List ℕ). put name b before.file) (sym whole));
      well = writes.well ∙ creates.fails.well;
    }
