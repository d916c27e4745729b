-- reads_written: whether a file that is read is one that is written is what the words say.
use Rattle.trapsheet_cli.proofs.words.reads_written.Goals as goal

pub returns : goal.returns
returns c = c.reads_written.ensures
