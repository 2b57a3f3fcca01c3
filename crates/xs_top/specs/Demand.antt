-- The lines of a demand
use Rattle.std.specs.Prelude.{ℕ, Option, List, [], ◌∷◌, ◌++◌, length, map, codes, decimal}
use Rattle.xs_base.specs.Sections.{rows_of}
use Rattle.xs_rect.specs.Area.{Area}
use Rattle.xs_rect.specs.Tiles.{tile_areas}
use Rattle.xs_scene.specs.Records.{SceneRecord}
use Rattle.xs_meaning.specs.Expressions.{Expr, root_of}
use Rattle.xs_check.specs.Good.{files_of}
use Rattle.xs_plan.specs.Record.{PlanRecord, rows_in}
use Rattle.xs_plan.specs.Reads.{reads_in}
use Rattle.xs_demand.specs.Limits.{Limit, first_limit}
use Rattle.xs_demand.specs.Shown.{plan_of}
use Rattle.xs_lines.specs.Lines.{alias_lines}

-- how many rows, aliases and reads there are
abbrev pub totals_line : PlanRecord → List ℕ
totals_line p =
    decimal (rows_in p) ++ codes " rows, " ++ decimal (length p.entries) ++ codes " aliases, " ++ decimal (reads_in p) ++ codes " reads"

-- a line for each alias, and one for all
abbrev pub demand_lines : PlanRecord → List (List ℕ)
demand_lines p = alias_lines p 0 (length p.entries) ++ totals_line p ∷ []

-- ---- of rows of a scene

-- the tiles of its frames, the roots of the rows, and the limit that these pass first
abbrev pub tiles_of : SceneRecord → List Area
tiles_of s = tile_areas s.camera.w s.camera.h

abbrev pub roots_in : SceneRecord → (from to : ℕ) → List Expr
roots_in s from to = map (root_of s) (rows_of from to)

abbrev pub limit_in : SceneRecord → (from to : ℕ) → Option Limit
limit_in s from to = first_limit (tiles_of s) (roots_in s from to)

-- the plan of the rows
abbrev pub plan_in : SceneRecord → (from to : ℕ) → PlanRecord
plan_in s from to = plan_of (tiles_of s) (roots_in s from to) (length (files_of s.levels))
