-- counts_of: all that is counted of a page whose rows are all taken in.
use Rattle.std.proofs.Common.{◌≡◌, ◌∙◌}
use Rattle.page_tally.proofs.OutcomeLemmas.{counts_whole}
use Rattle.trap_pool.proofs.at_station.counts_of.Goals as goal

pub returns : goal.returns
returns c =
    let outcome = c.args.outcome.now in
    let first : c.in_ok-copied_counts.field-0 ≡ outcome.zone_samples.items = c.in_ok-copied_counts.ensures ∙ c.as_slice.ensures.value in
    let second : c.in_ok-copied_counts-2.field-0 ≡ outcome.zone_changed.items = c.in_ok-copied_counts-2.ensures ∙ c.as_slice-2.ensures.value in
    let third : c.in_ok-copied_counts-3.field-0 ≡ outcome.plate_changed.items = c.in_ok-copied_counts-3.ensures ∙ c.as_slice-3.ensures.value in
    rw (first, second, third) (counts_whole c.args.page.now outcome.zone_samples.items outcome.zone_changed.items outcome.plate_changed.items outcome.edges c.plates-valid.ensures.valid c.requires.zone_samples c.requires.zone_changed c.requires.edges c.requires.plate_changed)
