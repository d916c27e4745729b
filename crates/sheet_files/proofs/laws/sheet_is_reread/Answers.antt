-- sheet_is_reread: whatever was read of a sheet's plates a second time, a sheet begins with it.
use Rattle.sheet_files.proofs.RereadLemmas.{reread_of}
use Rattle.sheet_files.proofs.laws.sheet_is_reread.Goals as goal

pub returns : goal.returns
returns c = λ source budget judged plates samples before between after takes is reread. reread_of c.top_of_file_within.ensures source budget judged plates samples before between after takes is reread
