use Rattle.xs_rawfile.proofs.Faults.{file_holds_raw}
use Rattle.xs_rawfile.proofs.laws.files_without_fault_hold_drawings.Goals as goal

pub returns : goal.returns
returns c = file_holds_raw
