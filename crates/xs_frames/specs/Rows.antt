-- The reads of a row's tiles
use Rattle.std.specs.Prelude.{◌≡◌, ◌<◌, ◌≤◌, ℕ, true, List, [], length, map}
use Rattle.std.specs.List.{range_with_len}
use Rattle.xs_plan.specs.Record.{PlanRecord, root_at}
use Rattle.xs_plan.specs.Reads.{root_read_of}
use Rattle.xs_core.specs.Views.{Signed, signed, DeskView, entries, Knows}
use Rattle.xs_core.specs.Calls.{Adds}

-- the reads of a row's first tiles, as the chief enters them
abbrev pub root_reads : PlanRecord → ℕ → ℕ → List Signed
root_reads p row tiles = map (λ tile. signed 0 (root_read_of p row tile)) (range_with_len 0 tiles)

-- the seat is the chief and alone, knows the aliases of a row's tiles to be ready, and has served no read of them by the row
pub record MayGather (p : PlanRecord) (row : ℕ) (v : DeskView) : Type 0 where
  pub chief : v.number ≡ 0
  pub alone : v.solo ≡ true
  pub known : (tile : ℕ) → tile < length p.tiles → Knows v (root_at p row tile)
  pub unserved : (tile : ℕ) → tile < length p.tiles → entries (root_read_of p row tile) v.served ≡ 0

-- the reads of a row's first tiles were served, each once, and nothing else was added to the lists
abbrev pub Serves : PlanRecord → ℕ → ℕ → DeskView → DeskView → Type 0
Serves p row tiles v w = Adds v w [] [] [] (root_reads p row tiles)

-- so it was for some of them
pub record ServesSome (p : PlanRecord) (row : ℕ) (v w : DeskView) : Type 0 where
  pub tiles : ℕ
  pub few : tiles ≤ length p.tiles
  pub serves : Serves p row tiles v w
