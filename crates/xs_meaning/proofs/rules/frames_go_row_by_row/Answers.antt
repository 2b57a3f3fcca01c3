use Rattle.xs_meaning.proofs.FrameOrder.{length-frame_of, frame_of-at}
use Rattle.xs_meaning.proofs.rules.frames_go_row_by_row.Goals as goal

pub returns : goal.returns
returns c = record { count = length-frame_of; order = frame_of-at }
