-- A plan that is being built
use Rattle.std.specs.Prelude.{◌≡◌, ◌<◌, ◌≤◌, ◌+◌, ◌*◌, ◌%◌, ◌==◌, ℕ, Option, None, List, [], ◌∷◌, ◌++◌, length, slice_index_or, if◌then◌else◌}
use Rattle.xs_pixel.specs.Channels.{Channels}
use Rattle.xs_rect.specs.Area.{Area}
use Rattle.xs_plan.specs.Record.{Entry, PlanRecord}
use Rattle.xs_plan.specs.Needed.{last_section_of}
use Rattle.xs_plan.specs.Valid.{Reaches}

-- what there is of a plan; for how many rows it will be; and how many aliases there were when the last root
-- was given
pub record Draft : Type 0 where
  pub plan : PlanRecord
  pub rows : ℕ
  pub rooted : ℕ

-- nothing is there but the tiles
abbrev pub empty_draft : List Area → ℕ → Draft
empty_draft tiles rows =
    record {
      plan = record { tiles = tiles; entries = []; roots = []; ends = []; tints = []; drawings = 0 };
      rows = rows;
      rooted = 0;
    }

-- an alias is added
abbrev pub with_entry : Draft → Entry → Draft
with_entry d e = record d { plan = record d.plan { entries = d.plan.entries ++ e ∷ [] } }

-- a tint is added
abbrev pub with_tint : Draft → List Channels → Draft
with_tint d tint = record d { plan = record d.plan { tints = d.plan.tints ++ tint ∷ [] } }

-- the ends of rows after so many roots, of which the last may be that of a row's last tile
abbrev pub ends_after : PlanRecord → ℕ → List ℕ
ends_after p roots = if roots % length p.tiles == 0 then p.ends ++ length p.entries ∷ [] else p.ends

-- the next row and tile gets its alias
abbrev pub with_root : Draft → ℕ → Draft
with_root d k =
    record d {
      plan = record d.plan { roots = d.plan.roots ++ k ∷ []; ends = ends_after d.plan (length d.plan.roots + 1) };
      rooted = length d.plan.entries;
    }

-- a row and tile has no alias yet
abbrev pub LacksRoots : Draft → Type 0
LacksRoots d = length d.plan.roots < d.rows * length d.plan.tiles

-- each has
abbrev pub HasRoots : Draft → Type 0
HasRoots d = length d.plan.roots ≡ d.rows * length d.plan.tiles

-- the number of the tile that gets the next alias
abbrev pub next_tile : Draft → ℕ
next_tile d = length d.plan.roots % length d.plan.tiles

-- an alias reaches each one that was added since the last root was given
abbrev pub ReachesNew : Draft → ℕ → Type 0
ReachesNew d k = (j : ℕ) → d.rooted ≤ j → j < length d.plan.entries → Reaches d.plan.entries k j

-- a list tells of each drawing the last section that needs it; no section needs one past its end
abbrev pub AreLast : PlanRecord → List (Option ℕ) → Type 0
AreLast p last = (drawing : ℕ) → slice_index_or last drawing None ≡ last_section_of p drawing

-- the plan is finished, with so many drawings
abbrev pub finished : Draft → ℕ → PlanRecord
finished d drawings = record d.plan { drawings = drawings }
