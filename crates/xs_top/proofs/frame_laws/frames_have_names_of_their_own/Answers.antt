use Rattle.xs_top.proofs.FrameNames.{name_of_one_row}
use Rattle.xs_top.proofs.frame_laws.frames_have_names_of_their_own.Goals as goal

pub returns : goal.returns
returns c = name_of_one_row
