-- write_rows: writes the samples of the next tints of a plane, row by row from the top, by pieces
-- of as many bytes as there is room for in `bytes`.
use Rattle.pgm_plates.proofs.WrittenRows.{rows_written}
use Rattle.pgm_plates.proofs.writing.write_rows.Goals as goal

pub returns-clause-rows : goal.returns-clause-rows
returns-clause-rows g c = rows_written c.args.header c.args.tints.now (g.R.Rack.state c.args.rack.now) (g.R.Rack.state c.write_values.new.rack) c.write_values.result c.write_values.ensures
