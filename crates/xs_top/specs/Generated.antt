-- The frames of a generated scene, and its line
use Rattle.std.specs.Prelude.{ℕ, List, ◌++◌, codes, decimal, sum_by}
use Rattle.xs_base.specs.Sections.{rows_of}
use Rattle.xs_levels.specs.Films.{Files}
use Rattle.xs_make.specs.Files.{files_from}
use Rattle.xs_make.specs.Scenes.{scene_from}
use Rattle.xs_outside.specs.declared.object.Object.{Object}
use Rattle.xs_outside.specs.Files.{file_in}
use Rattle.xs_plan.specs.Record.{PlanRecord}
use Rattle.xs_top.specs.Demand.{totals_line}
use Rattle.xs_top.specs.Finished.{frames_of}
use Rattle.xs_top.specs.Trace.{pixel_sum}

-- the files of a seed, by their names
abbrev pub made_files : ℕ → Files
made_files seed = file_in (files_from seed)

-- with what the names of the frames begin
abbrev pub made_base : List ℕ
made_base = codes "make"

-- the frames of the rows, and the sum of all bytes of their pixels
unfoldable pub made_frames : (seed rows : ℕ) → List Object
made_frames seed rows = frames_of (made_files seed) (scene_from seed rows) made_base (rows_of 1 rows)

abbrev pub made_sum : (seed rows : ℕ) → ℕ
made_sum seed rows = sum_by (λ frame. pixel_sum frame.bytes) (made_frames seed rows)

-- how many rows, aliases and reads there are, and that sum
unfoldable pub made_line : (seed : ℕ) → PlanRecord → (total : ℕ) → List ℕ
made_line seed p total = codes "made seed " ++ decimal seed ++ codes ", " ++ totals_line p ++ codes ", sum " ++ decimal total
