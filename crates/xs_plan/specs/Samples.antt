-- Small plans for the examples
use Rattle.std.specs.Prelude.{ℕ, Some, pos, List, [], ◌∷◌, ◌++◌, replicate}
use Rattle.xs_pixel.specs.Picture.{Pictures, Pixels}
use Rattle.xs_pixel.specs.declared.operation.Op.TheVariants as op
use Rattle.xs_rect.specs.Area.{Area, area}
use Rattle.xs_plan.specs.declared.job.Job.{Job}
use Rattle.xs_plan.specs.declared.job.Job.TheVariants as job
use Rattle.xs_plan.specs.Record.{Entry, PlanRecord}

-- the tile of a frame that has one
abbrev pub one_tile : Area
one_tile = area (pos 0) (pos 0) 64 64

abbrev pub alias : Job → List ℕ → Entry
alias job inputs = record { job = job; rect = one_tile; inputs = inputs }

-- a drawing moved right
abbrev pub leaf : ℕ → ℕ → Entry
leaf drawing dx = alias (job.Leaf drawing (pos dx) (pos 0)) []

-- so many drawings, of rows of one tile with these aliases; so many aliases are there after each
abbrev pub plan : ℕ → List Entry → List ℕ → List ℕ → PlanRecord
plan drawings entries roots ends =
    record { tiles = one_tile ∷ []; entries = entries; roots = roots; ends = ends; tints = []; drawings = drawings }

-- a drawing multiplied with itself
abbrev pub square : PlanRecord
square = plan 1 (leaf 0 0 ∷ alias (job.Pair op.Mult) (0 ∷ 0 ∷ []) ∷ []) (1 ∷ []) (2 ∷ [])

-- nothing for seven rows, and a drawing for two
abbrev pub late : PlanRecord
late = plan 1 (alias job.Clear [] ∷ leaf 0 0 ∷ []) (replicate 7 0 ++ replicate 2 1) (replicate 7 1 ++ replicate 2 2)

-- a drawing, another one for fifteen rows, and the first again at another place
abbrev pub again : PlanRecord
again = plan 2 (leaf 0 0 ∷ leaf 1 0 ∷ leaf 0 1 ∷ []) (0 ∷ replicate 15 1 ++ 2 ∷ []) (1 ∷ replicate 15 2 ++ 3 ∷ [])

-- each drawing has three points by two
abbrev pub three_by_two : Pictures
three_by_two d = Some (record { x0 = pos 0; y0 = pos 0; w = 3; h = 2; content = Pixels []; coloured = [] })
