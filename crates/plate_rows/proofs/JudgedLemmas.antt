-- Plates of the headers that were judged.
use Rattle.std.proofs.Common.{◌≡◌, ◌⊎◌, ℕ, zero, suc, ◌+◌, ◌<◌, ◌≤◌, List, [], ◌∷◌, ◌++◌, length, Ok, Err, inl, inr, refl, sym, ap, ◌∙◌, subst, arith, below_more}
use Rattle.std.proofs.Math.Seq.{get_or-append_seam}
use Rattle.std.proofs.lemmas.Bool.{cases_lt}
use Rattle.std.proofs.lemmas.List.{get_or_append_left, length-append, map-append, take_more}
use Rattle.std.proofs.lemmas.List.Elements.{All-append, All-cons}
use Rattle.outside.specs.Tray.{TrayState}
use Rattle.pgm_plates.specs.declared.bounds.Bounds.TheVariants.{Sheet}
use Rattle.pgm_plates.specs.declared.header.Header.{Header}
use Rattle.pgm_plates.specs.declared.plate.Plate.{Plate as PlateRead}
use Rattle.pgm_plates.specs.Laws.{FilePlateWithin}
use Rattle.pgm_plates.specs.Plates.{IsPlateWithin}
use Rattle.pgm_plates.specs.Rows.{plate_with}
use Rattle.plate_rows.specs.Judged.{ArePlates, JudgingEnds, JudgingStops, Tells, no_plate, plate_at}
use Rattle.plate_rows.specs.Judging.{Judges, MayJudge}
use Rattle.plate_rows.specs.Trays.{IsCalm, MayTakeFile, header_at, header_in, name_at, no_header, tray_at}
use Rattle.plate_rows.proofs.ErrorLemmas.{Went, taken_to, taken_whole, went_whole}

module _ (law : FilePlateWithin Sheet) (names : List (List ℕ)) (headers : List Header) (a b : List TrayState) where
  Plates : ℕ → Type 0
  Plates count = (plates : List PlateRead) × ArePlates names headers count a plates

  none : Plates 0
  unfolding Plates
  none = (
    [],
    record {
      all = refl;
      in_range = λ k d less. absurd (omega arith);
      same = refl;
      reported = λ k less. absurd (omega arith);
    },
  )

  one_more : (k : ℕ) → k < length headers → Plates k → Judges names headers k (tray_at a k) (tray_at b k) → Plates (k + 1)
  unfolding Plates
  one_more k stored so_far judges =
      let ps = so_far.0 in
      let plate = plate_with (header_at headers k) judges.0 in
      let more = ps ++ plate ∷ [] in
      let here : plate_at more k ≡ plate = ap (λ (n : ℕ). plate_at more n) (sym so_far.1.all) ∙ get_or-append_seam ps plate [] no_plate in (
        more,
        record {
          all = length-append ps (plate ∷ []) ∙ ap (λ (n : ℕ). n + 1) so_far.1.all;
          in_range = All-append (IsPlateWithin Sheet) ps (plate ∷ []) so_far.1.in_range (All-cons (IsPlateWithin Sheet) plate [] judges.1.answer.1.plate_ok (λ j d less. absurd (omega arith)));
          same = map-append header_in ps (plate ∷ []) ∙ ap (λ (l : List Header). l ++ header_at headers k ∷ []) so_far.1.same ∙ sym (take_more headers k no_header stored);
          reported = below_more (λ (j : ℕ). Tells (name_at names j) (tray_at a j) (plate_at more j)) k
              (λ j less. let lt : j < length ps = omega (arith, so_far.1.all) in subst (Tells (name_at names j) (tray_at a j)) (sym (get_or_append_left ps (plate ∷ []) no_plate j lt)) (so_far.1.reported j less))
              (subst (Tells (name_at names k) (tray_at a k)) (sym here) (law (name_at names k) (tray_at a k) (tray_at b k) plate judges.1));
        },
      )

  plates_to : (count : ℕ) → count ≤ length headers → ((k : ℕ) → k < count → Judges names headers k (tray_at a k) (tray_at b k)) → Plates count
  plates_to zero within judges = none
  plates_to (suc n) within judges = subst Plates (omega arith) (one_more n (omega arith) (plates_to n (omega arith) (λ k less. judges k (omega arith))) (judges n (omega arith)))

  went : (k : ℕ) → Judges names headers k (tray_at a k) (tray_at b k) → Went (name_at names k) (tray_at a k) (tray_at b k)
  went k judges = went_whole (name_at names k) (tray_at a k) (tray_at b k) (plate_with (header_at headers k) judges.0) judges.1

pub judging_ends : FilePlateWithin Sheet → JudgingEnds
unfolding Plates
judging_ends law names headers a b many judged =
    let plates = plates_to law names headers a b (length names) many judged.each in
    record {
      plates = plates.0;
      are_plates = plates.1;
      takes = record { each = λ k less. (went law names headers a b k (judged.each k less)).takes; others = judged.others };
      calm = λ k. calm_at k (less_or_more k);
    } where
      less_or_more : (k : ℕ) → (k < length names) ⊎ (length names ≤ k)
      less_or_more k = elim (cases_lt k (length names)) [ inl less ↦ inl less | inr more ↦ inr (omega arith) ]

      calm_at : (k : ℕ) → (k < length names) ⊎ (length names ≤ k) → IsCalm a b k
      calm_at k (inl less) = (went law names headers a b k (judged.each k less)).calm
      calm_at k (inr more) = ap (λ (t : TrayState). t.faults) (judged.others k more)

-- what may have been taken of a later file
may_take : (name : List ℕ) (a b : TrayState) → MayJudge name a b → MayTakeFile name a b
may_take name a b (inl same) = inl same
may_take name a b (inr (Ok header, judges)) = inr (taken_whole name a b (Ok (plate_with header judges.0)) judges.1)
may_take name a b (inr (Err common_error, judges)) = inr (taken_whole name a b (Err common_error) judges)

pub judging_stops : FilePlateWithin Sheet → JudgingStops
unfolding Plates
judging_stops law names headers k common_error a b many first =
    let known = first.known in
    let plates = plates_to law names headers a b k (omega arith) first.each in
    let went_to : (j : ℕ) → j < k → Went (name_at names j) (tray_at a j) (tray_at b j) = λ j less. went law names headers a b j (first.each j less) in
    record {
      known = first.known;
      plates = plates.0;
      are_plates = plates.1;
      takes = λ j least. taken_to names k a b went_to (taken_whole (name_at names k) (tray_at a k) (tray_at b k) (Err common_error) first.here) j (omega arith);
      later = λ j past less. may_take (name_at names j) (tray_at a j) (tray_at b j) (first.later j past less);
      others = first.others;
      calm = λ j less. (went_to j less).calm;
    }
