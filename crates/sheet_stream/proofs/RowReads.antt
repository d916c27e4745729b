-- The rows of the next strip are read.
use Rattle.std.proofs.Common.{◌≡◌, ℕ, ◌+◌, ◌-◌, ◌*◌, ◌<◌, ◌≤◌, List, [], ◌∷◌, ◌++◌, length, Ok, Err, inl, inr, refl, sym, ap, ◌∙◌, subst, arith}
use Rattle.std.proofs.Math.Nat.{mul-le-mul}
use Rattle.std.proofs.lemmas.List.{length-map}
use Rattle.outside.specs.Tray.{TrayState}
use Rattle.page_model.specs.declared.parts.PageParts.{PageParts}
use Rattle.page_model.specs.Page.{height, maxval, plates, width}
use Rattle.page_model.specs.Planes.{tints_of}
use Rattle.pgm_plates.specs.declared.bounds.Bounds.TheVariants.{Sheet}
use Rattle.pgm_plates.specs.declared.header.Header.{Header}
use Rattle.pgm_plates.specs.declared.rows.OpenPlate.{OpenPlate}
use Rattle.pgm_plates.specs.Rows.{HasRead, samples_of}
use Rattle.plate_rows.specs.declared.rereading.NextRows.{NextRows}
use Rattle.plate_rows.specs.declared.error.RereadError.{RereadError}
use Rattle.plate_rows.specs.Laws.{header_of}
use Rattle.plate_rows.specs.Rereading.{HaveRead, IsReadTo, StopsBegun}
use Rattle.plate_rows.specs.Trays.{name_at, open_at, tray_at}
use Rattle.plate_rows.proofs.ErrorLemmas.{rows_error}
use Rattle.sheet_stream.specs.declared.rows.Progress.{Progress}
use Rattle.sheet_stream.specs.Going.{gone_on}
use Rattle.sheet_stream.specs.Reading.{HoldsTo, rows_then}
use Rattle.sheet_stream.specs.Holding.{HaveWorkspaceFor, HoldRowsFrom}
use Rattle.sheet_stream.specs.RowReading.{HaveHeader, HoldsRead, ReadsStrip, rows_after, tints_for}
use Rattle.sheet_stream.proofs.RowReadLemmas.{first_read, next_read}
use Rattle.sheet_geometry.specs.declared.spans.Span.{Span}

-- the samples of each plate go on
abbrev pub GoOnTo : ℕ → (ℕ → List ℕ) → (ℕ → List ℕ) → Type 0
GoOnTo count before after = (k : ℕ) → k < count → (more : List ℕ) × (after k ≡ before k ++ more)

none_long : (xs : List ℕ) → length xs ≡ 0 → xs ≡ []
none_long [] e = refl
none_long (x ∷ xs) e = absurd (omega (arith, e))

no_rows : (w : ℕ) → 0 * w ≡ 0
no_rows w = omega arith

sum_times : (a b w : ℕ) → (a + b) * w ≡ a * w + b * w
sum_times a b w = omega arith

module _ (outline : PageParts) (begun : List OpenPlate) (tall : ℕ) (p : Progress) (row : Span) (inputs : List (List ℕ)) (start before : List TrayState) (strip : PageParts) (headers : HaveHeader outline begun) (holds : HoldsTo inputs outline begun tall p start before strip) (wide : row.wide ≡ tall) (low : p.from ≤ row.from) (high : row.from ≤ p.read) (inside : row.from + row.wide ≤ height outline) (workspace : HaveWorkspaceFor outline tall strip.planes) where
  in_outline : (k : ℕ) → k < length begun → k < plates outline
  in_outline k l = (let e = headers.count in omega (arith, l, e))

  shortly : p.read ≤ p.from + tall
  shortly = elim holds.stored [ inl none ↦ omega (arith, none) | inr some ↦ (let e = some.0 in omega (arith, e)) ]

  kept_fits : (p.read - row.from) * width outline ≤ tall * width outline
  kept_fits = (let s = shortly in let l : p.read - row.from ≤ tall = omega (arith, low, s) in mul-le-mul l (omega arith))

  -- the rows that are gone and those that are kept are rows of the strip
  pub both_fit : (row.from - p.from) * width outline + (p.read - row.from) * width outline ≤ tall * width outline
  both_fit =
      let s = shortly in
      let l : (row.from - p.from) + (p.read - row.from) ≤ tall = omega (arith, low, high, s) in
      let m : ((row.from - p.from) + (p.read - row.from)) * width outline ≤ tall * width outline = mul-le-mul l (omega arith) in
      subst (λ (n : ℕ). n ≤ tall * width outline) (sum_times (row.from - p.from) (p.read - row.from) (width outline)) m

  parts : p.read * width outline ≡ row.from * width outline + (p.read - row.from) * width outline
  parts = (let e : p.read ≡ row.from + (p.read - row.from) = omega (arith, high) in ap (λ (n : ℕ). n * width outline) e ∙ sum_times row.from (p.read - row.from) (width outline))

  rest_fits : p.read * width outline + (tall * width outline - (p.read - row.from) * width outline) ≤ width outline * height outline
  rest_fits =
      let a = parts in
      let k = kept_fits in
      let within : row.from + tall ≤ height outline = omega (arith, wide, inside) in
      let b : (row.from + tall) * width outline ≤ height outline * width outline = mul-le-mul within (omega arith) in
      omega (arith, a, k, b)

  many : (k : ℕ) → k < length begun → samples_of (open_at begun k).header ≡ width outline * height outline
  many k l = ap (λ (h : Header). h.width * h.height) (headers.each k l)

  pub read_to : (k : ℕ) → k < length begun → IsReadTo (open_at begun k) (p.read * width outline) (length (tints_of strip.planes k) - (p.read - row.from) * width outline) (tray_at before k)
  read_to k l = record {
    name = name_at inputs k;
    start = tray_at start k;
    samples = holds.samples k;
    read = holds.read.each k l;
    count = holds.count k (in_outline k l);
    workspace = (let long = workspace.workspace k (in_outline k l) in let m = many k l in let r = rest_fits in omega (arith, long, m, r));
  }

  module _ (new : PageParts) (after : List TrayState) where
    in_strip : (c : ℕ) → c < plates outline → c < length strip.planes
    in_strip c l = (let e = workspace.count in omega (arith, l, e))

    -- .. where the reading stops
    pub stopped : (error : RereadError) → ReadsStrip begun (rows_then outline p row) ((row.from - p.from) * width outline) strip new before after (Err error) → StopsBegun inputs (header_of begun) (length begun) start after error
    stopped error reads = rows_error inputs begun holds.samples (rows_then outline p row) reads.copied new.planes start before after error holds.read
        (record {
          count = λ k l. holds.count k (in_outline k l);
          workspace = λ k l. (let long = (reads.common.each k (in_strip k (in_outline k l))).form.full in let r = workspace.workspace k (in_outline k l) in let m = many k l in let f = rest_fits in omega (arith, long, r, m, f));
        }) reads.read

    module _ (reads : ReadsStrip begun (rows_then outline p row) ((row.from - p.from) * width outline) strip new before after (Ok tt)) where
      -- the first strip
      from_none : p.read ≡ 0 → (now : HoldsRead inputs outline begun row.from tall start after new.planes) × GoOnTo (plates outline) holds.samples now.samples
      from_none none =
          let w = width outline in
          let top : row.from ≡ 0 = omega (arith, none, high) in
          let done : p.read * w ≡ 0 = ap (λ (n : ℕ). n * w) none ∙ no_rows w in
          let kept : (p.read - row.from) * w ≡ 0 = (let e : p.read - row.from ≡ 0 = omega (arith, none) in ap (λ (n : ℕ). n * w) e ∙ no_rows w) in
          let by : (row.from - p.from) * w ≡ 0 = (let e : row.from - p.from ≡ 0 = omega (arith, top) in ap (λ (n : ℕ). n * w) e ∙ no_rows w) in
          let next : ◌≡◌ {A = NextRows} (rows_then outline p row) (record { done = 0; kept = 0 }) = λ i. record { done = done i; kept = kept i } in
          let reads_first : ReadsStrip begun (record { done = 0; kept = 0 }) 0 strip new before after (Ok tt) =
          subst (λ (n : NextRows). ReadsStrip begun n 0 strip new before after (Ok tt)) next (subst (λ (n : ℕ). ReadsStrip begun (rows_then outline p row) n strip new before after (Ok tt)) by reads) in
          let empty : (k : ℕ) → k < plates outline → holds.samples k ≡ [] = λ k l. none_long (holds.samples k) (holds.count k l ∙ done) in
          let nothing : HaveRead inputs begun (length begun) (λ k. []) start before = record {
            each = λ k l. subst (λ (s : List ℕ). HasRead Sheet (name_at inputs k) (tray_at start k) (tray_at before k) (open_at begun k) s) (empty k (in_outline k l)) (holds.read.each k l);
            others = holds.read.others;
          } in
          let within : tall ≤ height outline = omega (arith, wide, inside) in
          let first : HoldsRead inputs outline begun 0 tall start after new.planes = first_read inputs outline begun tall start before after strip new headers nothing workspace within reads_first in
          let samples = first.samples in (
            record {
              samples = samples;
              read = first.read;
              stored = subst (λ (n : ℕ). HoldRowsFrom outline n tall (tints_for outline samples) new.planes) (sym top) first.stored;
            },
            λ k l. (samples k, ap (λ (s : List ℕ). s ++ samples k) (sym (empty k l))),
          )

      -- a later one
      from_some : p.read ≡ p.from + tall → HoldRowsFrom outline p.from tall (tints_for outline holds.samples) strip.planes → (now : HoldsRead inputs outline begun row.from tall start after new.planes) × GoOnTo (plates outline) holds.samples now.samples
      from_some some stored =
          let here : HoldsRead inputs outline begun p.from tall start before strip.planes = record { samples = holds.samples; read = holds.read; stored = stored } in
          let reads_next : ReadsStrip begun (rows_after outline p.from tall row.from) ((row.from - p.from) * width outline) strip new before after (Ok tt) =
          subst (λ (n : ℕ). ReadsStrip begun (record { done = n * width outline; kept = (n - row.from) * width outline }) ((row.from - p.from) * width outline) strip new before after (Ok tt)) some reads in
          let next = next_read inputs outline begun p.from row.from tall start before after strip new headers here low (omega (arith, some, high)) (omega (arith, wide, inside)) reads_next in
          (next.0, λ k l. next.1 k)

      pub read_on : (now : HoldsRead inputs outline begun row.from tall start after new.planes) × GoOnTo (plates outline) holds.samples now.samples
      read_on = elim holds.stored [ inl none ↦ from_none none | inr some ↦ from_some some.0 some.1 ]

-- what is held then, as the next step finds it
abbrev pub holds_on : (inputs : List (List ℕ)) (outline : PageParts) (begun : List OpenPlate) (tall : ℕ) (row : Span) (start now : List TrayState) (strip : PageParts) → row.wide ≡ tall → (stored : HoldsRead inputs outline begun row.from tall start now strip.planes) → HoldsTo inputs outline begun tall (gone_on row) start now strip
holds_on inputs outline begun tall row start now strip wide stored = record {
  samples = stored.samples;
  read = stored.read;
  count = λ k l. sym (length-map (stored.samples k) (λ (v : ℕ). maxval outline - v)) ∙ stored.stored.read k l ∙ ap (λ (n : ℕ). (row.from + n) * width outline) (sym wide);
  stored = inr (ap (λ (n : ℕ). row.from + n) wide, stored.stored);
}
