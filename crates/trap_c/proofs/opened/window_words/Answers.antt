-- window_words: an open job is the one that its bytes spell.
use Rattle.trap_c.proofs.OpenLemmas.{is_read}
use Rattle.trap_c.proofs.opened.window_words.Goals as goal

pub trap_window_words-requires : goal.trap_window_words-requires
trap_window_words-requires c = is_read c.args.stored.now c.as_slice.result.now c.as_slice.ensures.value
