use Rattle.xs_rawfile.proofs.Scanning.{bytes_from}
use Rattle.xs_rawfile.proofs.Faults.{holds_raw}
use Rattle.xs_rawfile.proofs.level.holds_a_drawing.Goals as goal

pub returns : goal.returns
returns c = holds_raw c.args.kind c.args.file.now (bytes_from 21 _ c.type_inv.file) c.requires
