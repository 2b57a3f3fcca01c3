use Rattle.xs_demand.proofs.ShownJobs.{ports-shown, rects-shown, clear-by_job, drawing-by_job}
use Rattle.xs_demand.proofs.shown.shown_jobs_ask_for_their_inputs.Goals as goal

pub returns : goal.returns
returns c = record { ports = ports-shown; rects = rects-shown; clear = clear-by_job; drawing = drawing-by_job }
