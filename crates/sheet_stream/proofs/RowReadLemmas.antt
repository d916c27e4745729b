-- The rows of the next strip are read behind those that are kept.
use Rattle.std.proofs.Common.{◌≡◌, ℕ, suc, ◌+◌, ◌-◌, ◌*◌, ◌<◌, ◌≤◌, List, [], ◌∷◌, ◌++◌, length, drop, Ok, refl, sym, ap, ◌∙◌, subst, arith, length-drop}
use Rattle.std.specs.List.{All}
use Rattle.std.proofs.Math.Nat.{mul-le-mul}
use Rattle.std.proofs.lemmas.List.{length-map, map-append}
use Rattle.outside.specs.Tray.{TrayState}
use Rattle.page_model.specs.declared.parts.PageParts.{PageParts}
use Rattle.page_model.specs.Page.{height, maxval, plates, width}
use Rattle.page_model.specs.Planes.{tints_of}
use Rattle.pgm_plates.specs.declared.header.Header.{Header}
use Rattle.pgm_plates.specs.declared.rows.OpenPlate.{OpenPlate}
use Rattle.plate_rows.specs.Laws.{AreReadTo}
use Rattle.plate_rows.specs.Rereading.{HaveRead, new_rows, turned, wanted}
use Rattle.plate_rows.specs.Trays.{open_at}
use Rattle.plate_rows.proofs.ErrorLemmas.{reading_grows}
use Rattle.sheet_stream.specs.Holding.{AreKept, HaveWorkspaceFor, HoldRowsFrom, behind}
use Rattle.sheet_stream.specs.RowReading.{GoOn, HaveHeader, HoldsRead, ReadsStrip, rows_after, tints_for}
use Rattle.sheet_stream.proofs.HoldLemmas.{next_stored, none_stored}

-- values that are turned and turned back
turned_back : (m : ℕ) (values : List ℕ) → All (λ v. v ≤ m) values → turned m (turned m values) ≡ values
turned_back m [] all = refl
turned_back m (v ∷ values) all =
    let first : v ≤ m = all 0 v (omega arith) in
    let back : m - (m - v) ≡ v = omega (arith, first) in
    (λ i. back i ∷ turned_back m values (λ k d l. all (suc k) d (omega (arith, l))) i)

module _ (inputs : List (List ℕ)) (outline : PageParts) (begun : List OpenPlate) (from next rows : ℕ) (start before after : List TrayState) (old new : PageParts) (header : HaveHeader outline begun) (holds : HoldsRead inputs outline begun from rows start before old.planes) (low : from ≤ next) (high : next ≤ from + rows) (inside : next + rows ≤ height outline) (reads : ReadsStrip begun (rows_after outline from rows next) ((next - from) * width outline) old new before after (Ok tt)) where
  abbrev kept : ℕ
  kept = (from + rows - next) * width outline

  in_outline : (k : ℕ) → k < length begun → k < plates outline
  in_outline k l = (let e = header.count in omega (arith, l, e))

  in_begun : (k : ℕ) → k < plates outline → k < length begun
  in_begun k l = (let e = header.count in omega (arith, l, e))

  in_old : (k : ℕ) → k < plates outline → k < length old.planes
  in_old k l = (let e = holds.stored.count in omega (arith, l, e))

  samples_long : (k : ℕ) → k < plates outline → length (holds.samples k) ≡ (from + rows) * width outline
  samples_long k l = sym (length-map (holds.samples k) (λ (v : ℕ). maxval outline - v)) ∙ holds.stored.read k l

  old_long : (k : ℕ) → k < plates outline → length (tints_of reads.copied k) ≡ rows * width outline
  old_long k l =
      let e = ap length (holds.stored.stored k l) in
      let d = length-drop (from * width outline) (tints_for outline holds.samples k) in
      let r = holds.stored.read k l in
      (reads.common.each k (in_old k l)).form.full ∙ (let long : length (tints_of old.planes k) ≡ rows * width outline = omega (arith, e, d, r) in long)

  -- how many tints are kept, and how many are read
  parts : (next - from) * width outline + kept ≡ rows * width outline
  parts = (let e : (next - from) + (from + rows - next) ≡ rows = omega (arith, low, high) in let m : ((next - from) + (from + rows - next)) * width outline ≡ rows * width outline = ap (λ (n : ℕ). n * width outline) e in omega (arith, m))

  later : from * width outline + (next - from) * width outline ≡ next * width outline
  later = (let e : from + (next - from) ≡ next = omega (arith, low) in let m : (from + (next - from)) * width outline ≡ next * width outline = ap (λ (n : ℕ). n * width outline) e in omega (arith, m))

  are_read : AreReadTo begun holds.samples ((from + rows) * width outline) (wanted kept reads.copied)
  are_read = record {
    count = λ k l. samples_long k (in_outline k l);
    workspace = λ k l. (let long = old_long k (in_outline k l) in
        let h = ap (λ (h : Header). h.width * h.height) (header.each k l) in
        let m : (next + rows) * width outline ≤ height outline * width outline = mul-le-mul inside (omega arith) in
        let p = parts in let q = later in omega (arith, long, h, m, p, q));
  }

  read_on : HaveRead inputs begun (length begun) (λ k. holds.samples k ++ new_rows begun kept new.planes k) start after
  read_on = reading_grows inputs begun holds.samples (rows_after outline from rows next) reads.copied new.planes start before after holds.read are_read reads.read

  in_copied : (c : ℕ) → c < length reads.copied → c < length begun
  in_copied c l = (let e = reads.common.count in let f = holds.stored.count in let g = header.count in omega (arith, l, e, f, g))

  are_kept : AreKept kept reads.copied new.planes
  are_kept = record {
    count = reads.count ∙ sym reads.common.count;
    form = λ c l. (let filled = reads.read.0 c (in_copied c l) in record {
      width = filled.width;
      height = filled.height;
      maxval = filled.maxval;
      full = filled.tints.full;
    });
    first = λ c l. (reads.read.0 c (in_copied c l)).tints.first;
  }

  deep : (k : ℕ) → k < length begun → (open_at begun k).header.maxval ≡ maxval outline
  deep k l = ap (λ (h : Header). h.maxval) (header.each k l)

  -- the tints of the samples that were read are those that stand behind
  tints_on : (k : ℕ) → k < plates outline → tints_for outline (λ j. holds.samples j ++ new_rows begun kept new.planes j) k ≡ tints_for outline holds.samples k ++ behind kept new.planes k
  tints_on k l =
      let here = in_begun k l in
      let m = maxval outline in
      let below : All (λ (v : ℕ). v ≤ m) (drop kept (tints_of new.planes k)) = subst (λ (n : ℕ). All (λ (v : ℕ). v ≤ n) (drop kept (tints_of new.planes k))) (deep k here) (reads.read.0 k here).tints.below in
      map-append (λ (v : ℕ). m - v) (holds.samples k) (new_rows begun kept new.planes k)
      ∙ ap (λ (t : List ℕ). turned m (holds.samples k) ++ t) (ap (λ (n : ℕ). turned m (turned n (drop kept (tints_of new.planes k)))) (deep k here) ∙ turned_back m (drop kept (tints_of new.planes k)) below)

  stored_next : HoldRowsFrom outline next rows (λ c. tints_for outline holds.samples c ++ behind kept new.planes c) new.planes
  stored_next = next_stored outline from next rows (tints_for outline holds.samples) old.planes reads.copied new.planes holds.stored low high reads.common are_kept

  pub next_read : (now : HoldsRead inputs outline begun next rows start after new.planes) × GoOn holds.samples now.samples
  next_read = (
    record {
      samples = λ k. holds.samples k ++ new_rows begun kept new.planes k;
      read = read_on;
      stored = record {
        count = stored_next.count;
        read = λ c l. ap length (tints_on c l) ∙ stored_next.read c l;
        wide = stored_next.wide;
        tall = stored_next.tall;
        deep = stored_next.deep;
        stored = λ c l. stored_next.stored c l ∙ ap (drop (next * width outline)) (sym (tints_on c l));
      };
    },
    λ k. (new_rows begun kept new.planes k, refl),
  )

module _ (inputs : List (List ℕ)) (outline : PageParts) (begun : List OpenPlate) (rows : ℕ) (start before after : List TrayState) (old new : PageParts) (header : HaveHeader outline begun) (none : HaveRead inputs begun (length begun) (λ k. []) start before) (workspace : HaveWorkspaceFor outline rows old.planes) (inside : rows ≤ height outline) (reads : ReadsStrip begun (record { done = 0; kept = 0 }) 0 old new before after (Ok tt)) where
  first_old : (k : ℕ) → k < plates outline → k < length old.planes
  first_old k l = (let e = workspace.count in omega (arith, l, e))

  first_begun : (k : ℕ) → k < plates outline → k < length begun
  first_begun k l = (let e = header.count in omega (arith, l, e))

  first_outline : (k : ℕ) → k < length begun → k < plates outline
  first_outline k l = (let e = header.count in omega (arith, l, e))

  first_workspace : HaveWorkspaceFor outline rows reads.copied
  first_workspace = record {
    count = reads.common.count ∙ workspace.count;
    wide = λ c l. (reads.common.each c (first_old c l)).form.width ∙ workspace.wide c l;
    tall = λ c l. (reads.common.each c (first_old c l)).form.height ∙ workspace.tall c l;
    deep = λ c l. (reads.common.each c (first_old c l)).form.maxval ∙ workspace.deep c l;
    workspace = λ c l. (reads.common.each c (first_old c l)).form.full ∙ workspace.workspace c l;
  }

  first_are_read : AreReadTo begun (λ k. []) 0 (wanted 0 reads.copied)
  first_are_read = record {
    count = λ k l. refl;
    workspace = λ k l. (let long = first_workspace.workspace k (first_outline k l) in
        let h = ap (λ (h : Header). h.width * h.height) (header.each k l) in
        let m : rows * width outline ≤ height outline * width outline = mul-le-mul inside (omega arith) in
        omega (arith, long, h, m));
  }

  first_read_on : HaveRead inputs begun (length begun) (λ k. [] ++ new_rows begun 0 new.planes k) start after
  first_read_on = reading_grows inputs begun (λ k. []) (record { done = 0; kept = 0 }) reads.copied new.planes start before after none first_are_read reads.read

  first_copied : (c : ℕ) → c < length reads.copied → c < length begun
  first_copied c l = (let e = reads.common.count in let f = workspace.count in let g = header.count in omega (arith, l, e, f, g))

  first_kept : AreKept 0 reads.copied new.planes
  first_kept = record {
    count = reads.count ∙ sym reads.common.count;
    form = λ c l. (let filled = reads.read.0 c (first_copied c l) in record {
      width = filled.width;
      height = filled.height;
      maxval = filled.maxval;
      full = filled.tints.full;
    });
    first = λ c l. (reads.read.0 c (first_copied c l)).tints.first;
  }

  first_tints : (k : ℕ) → k < plates outline → tints_for outline (λ j. [] ++ new_rows begun 0 new.planes j) k ≡ behind 0 new.planes k
  first_tints k l =
      let here = first_begun k l in
      let deep = ap (λ (h : Header). h.maxval) (header.each k here) in
      let below : All (λ (v : ℕ). v ≤ maxval outline) (drop 0 (tints_of new.planes k)) = subst (λ (n : ℕ). All (λ (v : ℕ). v ≤ n) (drop 0 (tints_of new.planes k))) deep (reads.read.0 k here).tints.below in
      ap (λ (n : ℕ). turned (maxval outline) (turned n (drop 0 (tints_of new.planes k)))) deep ∙ turned_back (maxval outline) (drop 0 (tints_of new.planes k)) below

  first_stored : HoldRowsFrom outline 0 rows (behind 0 new.planes) new.planes
  first_stored = none_stored outline rows reads.copied new.planes first_workspace first_kept

  pub first_read : HoldsRead inputs outline begun 0 rows start after new.planes
  first_read = record {
    samples = λ k. [] ++ new_rows begun 0 new.planes k;
    read = first_read_on;
    stored = record {
      count = first_stored.count;
      read = λ c l. ap length (first_tints c l) ∙ first_stored.read c l;
      wide = first_stored.wide;
      tall = first_stored.tall;
      deep = first_stored.deep;
      stored = λ c l. first_stored.stored c l ∙ ap (drop (0 * width outline)) (sym (first_tints c l));
    };
  }
