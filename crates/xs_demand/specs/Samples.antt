-- Small scenes and what their rows demand, for the examples
use Rattle.std.specs.Prelude.{ℕ, Option, Some, None, pos, List, [], ◌∷◌, length, map, sum_by}
use Rattle.xs_base.specs.Sections.{rows_of}
use Rattle.xs_rect.specs.Area.{Area, area}
use Rattle.xs_rect.specs.Tiles.{tile_areas}
use Rattle.xs_scene.specs.declared.node.Node.{Node}
use Rattle.xs_scene.specs.declared.node.Node.TheVariants.{Shuffle}
use Rattle.xs_scene.specs.declared.node.Ref.TheVariants.{Column as ToColumn, Node as ToNode}
use Rattle.xs_scene.specs.Records.{SceneRecord}
use Rattle.xs_meaning.specs.Expressions.{root_of}
use Rattle.xs_meaning.specs.Samples.{hold_at, root_peg, column, column_on, columns_alone, shows, scene_of, sheet}
use Rattle.xs_plan.specs.declared.job.Job.{Job}
use Rattle.xs_plan.specs.Record.{Entry, PlanRecord}
use Rattle.xs_demand.specs.Shown.{plan_of}
use Rattle.xs_demand.specs.Limits.{Limit, first_limit}

-- what rows of a scene demand
abbrev pub planned : SceneRecord → ℕ → ℕ → PlanRecord
planned s from to =
    plan_of (tile_areas s.camera.w s.camera.h) (map (root_of s) (rows_of from to))
    (sum_by (λ l. length l.drawings) s.levels)

abbrev pub limited : SceneRecord → ℕ → ℕ → Option Limit
limited s from to = first_limit (tile_areas s.camera.w s.camera.h) (map (root_of s) (rows_of from to))

-- an alias of one pixel at (x, y), and of a rectangle
abbrev pub entry_on : Area → Job → List ℕ → Entry
entry_on rect job inputs = record { job = job; rect = rect; inputs = inputs }

abbrev pub at_origin : Job → List ℕ → Entry
at_origin = entry_on (area (pos 0) (pos 0) 1 1)

-- drawing 0 is held over rows
abbrev pub held_over : ℕ → ℕ → SceneRecord
held_over from to = scene_of (columns_alone (column (shows from to 0 ∷ []) ∷ []))

-- a frame that is one pixel wider than a tile
abbrev pub two_tiles : SceneRecord
two_tiles = record (held_over 1 1) { camera = record { w = 65; h = 1; peg = None } }

-- one drawing is shown, and one node is all that is rendered
abbrev pub through_node : Node → SceneRecord
through_node node = scene_of (sheet [] (column (shows 1 1 0 ∷ []) ∷ []) (node ∷ []) (Some (ToNode 0 ∷ [])))

-- the column moves at row 2, and is shown twice as it is at row 1
abbrev pub shuffled_back : SceneRecord
shuffled_back =
    scene_of
    (sheet (root_peg (hold_at 1 (pos 0) (pos 0) ∷ hold_at 2 (pos 5) (pos 0) ∷ []) ∷ [])
    (column_on 0 (shows 1 3 0 ∷ []) ∷ []) (Shuffle (ToColumn 0) (1 ∷ 1 ∷ []) ∷ []) (Some (ToNode 0 ∷ [])))

-- drawing 0 is shown at row 1, drawing 1 at row 2, and drawing 0 again at row 17, moved by one pixel
abbrev pub shown_again : SceneRecord
shown_again =
    scene_of
    (sheet (root_peg (hold_at 1 (pos 0) (pos 0) ∷ hold_at 17 (pos 1) (pos 0) ∷ []) ∷ [])
    (column_on 0 (shows 1 1 0 ∷ shows 2 2 1 ∷ shows 17 17 0 ∷ []) ∷ []) [] None)
