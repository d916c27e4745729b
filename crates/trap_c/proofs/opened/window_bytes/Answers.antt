-- window_bytes: an open job is the one that its bytes spell.
use Rattle.trap_c.proofs.OpenLemmas.{is_read}
use Rattle.trap_c.proofs.opened.window_bytes.Goals as goal

pub trap_window_bytes-requires : goal.trap_window_bytes-requires
trap_window_bytes-requires c = is_read c.args.stored.now c.as_slice.result.now c.as_slice.ensures.value
