-- note_blocks: notes the falls and the rises block by block.
use Rattle.std.proofs.Common.{◌≡◌, ◌+◌, ◌-◌, ◌<◌, ◌≤◌, ◌∙◌, arith, drop, length, length-drop, take}
use Rattle.std.proofs.lemmas.List.{length-take-le}
use borrow.Rule.Slice.PartMut.{same_len_mid}
use Rattle.edge_rule.proofs.BlockLemmas.{after, falls_noted}
use Rattle.edge_rule.proofs.pairs.note_blocks.Goals as goal

pub loop-at-preserved : goal.loop-at-preserved
loop-at-preserved c =
    let here = c.args.here.now in
    let there = c.args.there.now in
    let fallen = c.loop-at.fallen in
    let risen = c.loop-at.risen in
    let a = c.loop-at.at in
    let e = a + c.min.result in
    let keeps = c.loop-at.invariant in
    let noted = c.note_block.ensures in
    let within : e ≤ length here = omega (arith, c.min.ensures) in
    let more : a < e = omega (arith, c.min.ensures, c.loop-at-test.true) in
    let wide : length (take (e - a) (drop a here)) ≡ e - a = length-take-le (e - a) (drop a here) (omega (arith, length-drop a here, within)) in
    let f_all : length fallen ≡ length here = omega (arith, keeps.fallen_len, c.requires.fallen) in
    let r_all : length risen ≡ length here = omega (arith, keeps.risen_len, c.requires.risen) in
    let f_part : length (take (e - a) (drop a fallen)) ≡ e - a = length-take-le (e - a) (drop a fallen) (omega (arith, length-drop a fallen, within, f_all)) in
    let r_part : length (take (e - a) (drop a risen)) ≡ e - a = length-take-le (e - a) (drop a risen) (omega (arith, length-drop a risen, within, r_all)) in
    record {
      inside = within;
      fallen_len = same_len_mid a (e - a) fallen c.note_block.new.fallen noted.fallen_len ∙ keeps.fallen_len;
      risen_len = same_len_mid a (e - a) risen c.note_block.new.risen noted.risen_len ∙ keeps.risen_len;
      fallen = falls_noted c.args.step here there c.args.fallen.now fallen c.note_block.new.fallen a e (omega (arith, more)) (omega (arith, within, f_all)) (noted.fallen_len ∙ f_part) keeps.fallen (λ j low high. keeps.fallen_rest j low (omega (arith, high, f_all))) (λ i l. noted.fallen i (omega (arith, l, wide)));
      risen = falls_noted c.args.step there here c.args.risen.now risen c.note_block.new.risen a e (omega (arith, more)) (omega (arith, within, r_all)) (noted.risen_len ∙ r_part) keeps.risen (λ j low high. keeps.risen_rest j low (omega (arith, high, r_all))) (λ i l. noted.risen i (omega (arith, l, wide)));
      fallen_rest = λ j low high. after fallen c.note_block.new.fallen a (e - a) j (omega (arith, more, within, f_all)) (noted.fallen_len ∙ f_part) (omega (arith, more, low)) ∙ keeps.fallen_rest j (omega (arith, more, low)) high;
      risen_rest = λ j low high. after risen c.note_block.new.risen a (e - a) j (omega (arith, more, within, r_all)) (noted.risen_len ∙ r_part) (omega (arith, more, low)) ∙ keeps.risen_rest j (omega (arith, more, low)) high;
    }
