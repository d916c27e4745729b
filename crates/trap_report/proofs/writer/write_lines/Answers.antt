-- What `write_lines` has to show: each part stands after those before it, and where one fails the rest is not added.
use Rattle.std.proofs.lemmas.Result.{err_from_is_err_and}
use Rattle.std.proofs.Common.{◌≡◌, ◌++◌, ◌∙◌, ℕ, List, Err, Ok, ap, codes, length, subst}
use Rattle.page_model.specs.Page.{maxval, plates}
use Rattle.common_errors.specs.Lines.{line}
use Rattle.trap_report.specs.Report.{edges_line, head_line, plate_lines, title_line, zone_lines}
use Rattle.trap_report.proofs.writer.write_lines.Goals as goal

pub returns-in_err-write_head-clause-added : goal.returns-in_err-write_head-clause-added
returns-in_err-write_head-clause-added g c =
    let p = err_from_is_err_and c.from_residual.result c.from_residual.ensures.1 in
    rw p.1 (
    let page = g.P.Reported.parts c.args.page.now in
    let head = c.args.head.now in
    let counts = c.args.counts.now in
    let first = title_line ++ head_line head.width head.height (maxval page) (plates page) in
    let zones = zone_lines counts (length page.zones) in
    let edges = edges_line counts.edges in
    let inks = plate_lines page counts (plates page) in
    let end = line (codes "end") in
    let begun = c.args.sink.now in
    let firsts : ◌≡◌ {A = List ℕ} (title_line ++ head_line head.width head.height head.maxval head.plates) first = λ i. title_line ++ head_line head.width head.height (c.requires.maxval i) (c.requires.plates i) in
    let failed = c.in_err-write_head.field-0.0 in
    (g.met.S.Sink.stopped (first ++ zones ++ edges ++ inks) end begun c.write_head.new.sink failed (g.met.S.Sink.stopped (first ++ zones ++ edges) inks begun c.write_head.new.sink failed (g.met.S.Sink.stopped (first ++ zones) edges begun c.write_head.new.sink failed (g.met.S.Sink.stopped first zones begun c.write_head.new.sink failed (subst (λ (text : List ℕ). g.S.Sink.adds text begun c.write_head.new.sink (Err failed)) firsts c.in_err-write_head.ensures.added)))))
    )

pub returns-in_err-write_zones-clause-added : goal.returns-in_err-write_zones-clause-added
returns-in_err-write_zones-clause-added g c =
    let p = err_from_is_err_and c.from_residual-in_err-write_zones.result c.from_residual-in_err-write_zones.ensures.1 in
    rw p.1 (
    let page = g.P.Reported.parts c.args.page.now in
    let head = c.args.head.now in
    let counts = c.args.counts.now in
    let first = title_line ++ head_line head.width head.height (maxval page) (plates page) in
    let zones = zone_lines counts (length page.zones) in
    let edges = edges_line counts.edges in
    let inks = plate_lines page counts (plates page) in
    let end = line (codes "end") in
    let begun = c.args.sink.now in
    let firsts : ◌≡◌ {A = List ℕ} (title_line ++ head_line head.width head.height head.maxval head.plates) first = λ i. title_line ++ head_line head.width head.height (c.requires.maxval i) (c.requires.plates i) in
    let zoned : zone_lines counts c.zone_count.result ≡ zones = ap (zone_lines counts) c.zone_count.ensures in
    let one = subst (λ (text : List ℕ). g.S.Sink.adds text begun c.write_head.new.sink (Ok tt)) firsts c.in_ok-write_head.ensures.added in
    let failed = c.in_err-write_zones.field-0.0 in
    (g.met.S.Sink.stopped (first ++ zones ++ edges ++ inks) end begun c.write_zones.new.sink failed (g.met.S.Sink.stopped (first ++ zones ++ edges) inks begun c.write_zones.new.sink failed (g.met.S.Sink.stopped (first ++ zones) edges begun c.write_zones.new.sink failed (g.met.S.Sink.then first zones begun c.write_head.new.sink c.write_zones.new.sink (Err failed) one (subst (λ (text : List ℕ). g.S.Sink.adds text c.write_head.new.sink c.write_zones.new.sink (Err failed)) zoned c.in_err-write_zones.ensures.added)))))
    )

pub returns-in_err-add-clause-added : goal.returns-in_err-add-clause-added
returns-in_err-add-clause-added g c =
    let p = err_from_is_err_and c.from_residual-in_err-add.result c.from_residual-in_err-add.ensures.1 in
    rw p.1 (
    let page = g.P.Reported.parts c.args.page.now in
    let head = c.args.head.now in
    let counts = c.args.counts.now in
    let first = title_line ++ head_line head.width head.height (maxval page) (plates page) in
    let zones = zone_lines counts (length page.zones) in
    let edges = edges_line counts.edges in
    let inks = plate_lines page counts (plates page) in
    let end = line (codes "end") in
    let begun = c.args.sink.now in
    let firsts : ◌≡◌ {A = List ℕ} (title_line ++ head_line head.width head.height head.maxval head.plates) first = λ i. title_line ++ head_line head.width head.height (c.requires.maxval i) (c.requires.plates i) in
    let zoned : zone_lines counts c.zone_count.result ≡ zones = ap (zone_lines counts) c.zone_count.ensures in
    let told : c.as_slice.result.now ≡ edges = c.as_slice.ensures ∙ c.edges_of-edges.ensures in
    let one = subst (λ (text : List ℕ). g.S.Sink.adds text begun c.write_head.new.sink (Ok tt)) firsts c.in_ok-write_head.ensures.added in
    let two = g.met.S.Sink.then first zones begun c.write_head.new.sink c.write_zones.new.sink (Ok tt) one (subst (λ (text : List ℕ). g.S.Sink.adds text c.write_head.new.sink c.write_zones.new.sink (Ok tt)) zoned c.in_ok-write_zones.ensures.added) in
    let failed = c.in_err-add.field-0.0 in
    (g.met.S.Sink.stopped (first ++ zones ++ edges ++ inks) end begun c.add.new.self failed (g.met.S.Sink.stopped (first ++ zones ++ edges) inks begun c.add.new.self failed (g.met.S.Sink.then (first ++ zones) edges begun c.write_zones.new.sink c.add.new.self (Err failed) two (subst (λ (text : List ℕ). g.S.Sink.adds text c.write_zones.new.sink c.add.new.self (Err failed)) told c.in_err-add.ensures.added))))
    )

pub returns-in_err-write_plates-clause-added : goal.returns-in_err-write_plates-clause-added
returns-in_err-write_plates-clause-added g c =
    let p = err_from_is_err_and c.from_residual-in_err-write_plates.result c.from_residual-in_err-write_plates.ensures.1 in
    rw p.1 (
    let page = g.P.Reported.parts c.args.page.now in
    let head = c.args.head.now in
    let counts = c.args.counts.now in
    let first = title_line ++ head_line head.width head.height (maxval page) (plates page) in
    let zones = zone_lines counts (length page.zones) in
    let edges = edges_line counts.edges in
    let inks = plate_lines page counts (plates page) in
    let end = line (codes "end") in
    let begun = c.args.sink.now in
    let firsts : ◌≡◌ {A = List ℕ} (title_line ++ head_line head.width head.height head.maxval head.plates) first = λ i. title_line ++ head_line head.width head.height (c.requires.maxval i) (c.requires.plates i) in
    let zoned : zone_lines counts c.zone_count.result ≡ zones = ap (zone_lines counts) c.zone_count.ensures in
    let told : c.as_slice.result.now ≡ edges = c.as_slice.ensures ∙ c.edges_of-edges.ensures in
    let one = subst (λ (text : List ℕ). g.S.Sink.adds text begun c.write_head.new.sink (Ok tt)) firsts c.in_ok-write_head.ensures.added in
    let two = g.met.S.Sink.then first zones begun c.write_head.new.sink c.write_zones.new.sink (Ok tt) one (subst (λ (text : List ℕ). g.S.Sink.adds text c.write_head.new.sink c.write_zones.new.sink (Ok tt)) zoned c.in_ok-write_zones.ensures.added) in
    let three = g.met.S.Sink.then (first ++ zones) edges begun c.write_zones.new.sink c.add.new.self (Ok tt) two (subst (λ (text : List ℕ). g.S.Sink.adds text c.write_zones.new.sink c.add.new.self (Ok tt)) told c.in_ok-add.ensures.added) in
    let failed = c.in_err-write_plates.field-0.0 in
    (g.met.S.Sink.stopped (first ++ zones ++ edges ++ inks) end begun c.write_plates.new.sink failed (g.met.S.Sink.then (first ++ zones ++ edges) inks begun c.add.new.self c.write_plates.new.sink (Err failed) three c.in_err-write_plates.ensures.added))
    )

pub returns-clause-added : goal.returns-clause-added
returns-clause-added g c =
    let page = g.P.Reported.parts c.args.page.now in
    let head = c.args.head.now in
    let counts = c.args.counts.now in
    let first = title_line ++ head_line head.width head.height (maxval page) (plates page) in
    let zones = zone_lines counts (length page.zones) in
    let edges = edges_line counts.edges in
    let inks = plate_lines page counts (plates page) in
    let end = line (codes "end") in
    let begun = c.args.sink.now in
    let firsts : ◌≡◌ {A = List ℕ} (title_line ++ head_line head.width head.height head.maxval head.plates) first = λ i. title_line ++ head_line head.width head.height (c.requires.maxval i) (c.requires.plates i) in
    let zoned : zone_lines counts c.zone_count.result ≡ zones = ap (zone_lines counts) c.zone_count.ensures in
    let told : c.as_slice.result.now ≡ edges = c.as_slice.ensures ∙ c.edges_of-edges.ensures in
    let one = subst (λ (text : List ℕ). g.S.Sink.adds text begun c.write_head.new.sink (Ok tt)) firsts c.in_ok-write_head.ensures.added in
    let two = g.met.S.Sink.then first zones begun c.write_head.new.sink c.write_zones.new.sink (Ok tt) one (subst (λ (text : List ℕ). g.S.Sink.adds text c.write_head.new.sink c.write_zones.new.sink (Ok tt)) zoned c.in_ok-write_zones.ensures.added) in
    let three = g.met.S.Sink.then (first ++ zones) edges begun c.write_zones.new.sink c.add.new.self (Ok tt) two (subst (λ (text : List ℕ). g.S.Sink.adds text c.write_zones.new.sink c.add.new.self (Ok tt)) told c.in_ok-add.ensures.added) in
    let four = g.met.S.Sink.then (first ++ zones ++ edges) inks begun c.add.new.self c.write_plates.new.sink (Ok tt) three c.in_ok-write_plates.ensures.added in
    g.met.S.Sink.then (first ++ zones ++ edges ++ inks) end begun c.write_plates.new.sink c.add-2.new.self c.add-2.result four c.add-2.ensures.added
