-- A plan as a record
use Rattle.std.specs.Prelude.{ℕ, ◌+◌, ◌*◌, pos, Bool, true, false, Option, Some, None, List, [], ◌∷◌, length, slice_index_or}
use Rattle.xs_pixel.specs.Channels.{Channels}
use Rattle.xs_rect.specs.Area.{Area, area, grown}
use Rattle.xs_plan.specs.declared.job.Job.{Job}
use Rattle.xs_plan.specs.declared.job.Job.TheVariants as job

-- an alias: what it is made of, its rectangle, and the numbers of the aliases that it reads, port 0 first
pub record Entry : Type 0 where
  pub job : Job
  pub rect : Area
  pub inputs : List ℕ

-- the inputs of an alias, of which there are none, one or two
abbrev pub inputs_from : Option ℕ → Option ℕ → List ℕ
inputs_from None b = []
inputs_from (Some a) None = a ∷ []
inputs_from (Some a) (Some b) = a ∷ b ∷ []

-- what a range of rows demands: the tiles of a frame; the aliases by their numbers; the alias of each row
-- and tile, row by row; how many aliases there are after each row; the pixels of each tint's styles; and how
-- many drawings there are
pub record PlanRecord : Type 0 where
  pub tiles : List Area
  pub entries : List Entry
  pub roots : List ℕ
  pub ends : List ℕ
  pub tints : List (List Channels)
  pub drawings : ℕ

abbrev pub no_entry : Entry
no_entry = record { job = job.Clear; rect = area (pos 0) (pos 0) 0 0; inputs = [] }

-- the alias with a number
abbrev pub entry_at : List Entry → ℕ → Entry
entry_at entries k = slice_index_or entries k no_entry

-- the place of a row and tile among the roots; rows and tiles count from 0
abbrev pub root_place : PlanRecord → ℕ → ℕ → ℕ
root_place p row tile = row * length p.tiles + tile

-- the alias of a row and tile
abbrev pub root_at : PlanRecord → ℕ → ℕ → ℕ
root_at p row tile = slice_index_or p.roots (root_place p row tile) 0

-- how many rows there are
abbrev pub rows_in : PlanRecord → ℕ
rows_in p = length p.ends

-- ---- what a job asks for

-- how many aliases a job reads
abbrev pub ports_of : Job → ℕ
ports_of job.Clear = 0
ports_of (job.Leaf drawing dx dy) = 0
ports_of (job.Tinted drawing dx dy tint) = 0
ports_of (job.Card pixel) = 0
ports_of (job.Pair op) = 2
ports_of (job.Blur radius) = 1

-- the rectangle on which a job reads its inputs: its own, or the one grown by the radius of a blur
abbrev pub input_rect : Job → Area → Area
input_rect (job.Blur radius) rect = grown rect radius
input_rect _ rect = rect

-- the drawing that a job needs
abbrev pub drawing_of : Job → Option ℕ
drawing_of (job.Leaf drawing dx dy) = Some drawing
drawing_of (job.Tinted drawing dx dy tint) = Some drawing
drawing_of _ = None

abbrev pub is_clear_job : Job → Bool
is_clear_job job.Clear = true
is_clear_job _ = false
