-- The numbers of the aliases of what rows enter
use Rattle.std.specs.Prelude.{◌≡◌, ◌<◌, ◌+◌, ◌*◌, ℕ, List, [], length, slice_index}
use Rattle.xs_meaning.specs.Expressions.{Expr}
use Rattle.xs_demand.specs.Blocks.{enter_rows, number_on}

-- of each expression that rows enter: the number of its alias on tile 0, and how many numbers further on the alias
-- of each next tile stands, where each row has so many tiles
pub record AreNumbers (tiles : ℕ) (roots : List Expr) (firsts strides : List ℕ) : Type 0 where
  pub firsts_many : length firsts ≡ length (enter_rows roots [])
  pub strides_many : length strides ≡ length (enter_rows roots [])
  pub number : (j t : ℕ) → j < length firsts → slice_index firsts j + t * slice_index strides j ≡ number_on tiles roots [] j t
