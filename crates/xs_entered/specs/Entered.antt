-- What is asked of expressions that were entered
use Rattle.std.specs.Prelude.{◌≡◌, ◌<◌, ◌≤◌, ℕ, Option, Some, None, List, map, length, slice_get, slice_index_or}
use Rattle.xs_pixel.specs.Channels.{Channels}
use Rattle.xs_meaning.specs.Expressions.{Clear}
use Rattle.xs_demand.specs.Blocks.{Spread, spread, inputs_under}
use Rattle.xs_demand.specs.Shown.{tints_in}

-- the expression with a number, and by how much its tiles are grown
abbrev pub spread_at : List Spread → ℕ → Spread
spread_at l n = slice_index_or l n (spread Clear 0)

-- the tints of expressions, in the order in which they were entered first
abbrev pub tints_entered : List Spread → List (List Channels)
tints_entered l = tints_in (map (λ x. x.expr) l)

-- the number of an input: it was entered earlier; none where the expression has no such input
abbrev pub IsInputAt : List Spread → ℕ → ℕ → Option ℕ → Type 0
IsInputAt l n port None = length (inputs_under (spread_at l n).expr (spread_at l n).growth) ≤ port
IsInputAt l n port (Some j) =
    (j < n) × (slice_get (inputs_under (spread_at l n).expr (spread_at l n).growth) port ≡ Some (spread_at l j))
