-- The aliases of rows as blocks: all tiles of a row gain the same expressions
use Rattle.std.specs.Prelude.{◌≡◌, ℕ, ◌+◌, ◌-◌, ◌*◌, ◌==◌, nat_lt, Bool, true, false, ◌&&◌, ◌||◌, Some, List, [], ◌∷◌, ◌++◌, Contains, length, map, flat_map, sum_by, drop, slice_get, if◌then◌else◌}
use Rattle.std.specs.List.{list_any}
use Rattle.xs_rect.specs.Area.{Area, grown}
use Rattle.xs_meaning.specs.Expressions.{Expr, Clear, Leaf, Tinted, Card, Pair, Blur}
use Rattle.xs_demand.specs.Same.{same_expr}
use Rattle.xs_demand.specs.Aliases.{Alias, alias}

-- an expression, and by how much the tiles are grown on which it is visited
pub record Spread : Type 0 where
  pub expr : Expr
  pub growth : ℕ

abbrev pub spread : Expr → ℕ → Spread
spread expr growth = record { expr = expr; growth = growth }

abbrev pub same_spread : Spread → Spread → Bool
same_spread x y = same_expr x.expr y.expr && x.growth == y.growth

abbrev pub entering : Spread → (before entered : List Spread) → List Spread
entering x before entered = if list_any (same_spread x) before then before else entered ++ x ∷ []

-- a visit without its tile
unfoldable pub enter : Expr → ℕ → List Spread → List Spread
enter Clear g l = entering (spread Clear g) l l
enter (Leaf d at) g l = entering (spread (Leaf d at) g) l l
enter (Tinted d at tint) g l = entering (spread (Tinted d at tint) g) l l
enter (Card pixel) g l = entering (spread (Card pixel) g) l l
enter (Pair op a b) g l = entering (spread (Pair op a b) g) l (enter b g (enter a g l))
enter (Blur n a) g l = entering (spread (Blur n a) g) l (enter a (g + n) l)

-- after the roots of rows
abbrev pub enter_rows : List Expr → List Spread → List Spread
enter_rows [] l = l
enter_rows (e ∷ roots) l = enter_rows roots (enter e 0 l)

-- what a row is the first to have, after others
abbrev pub new_of : Expr → List Spread → List Spread
new_of e l = drop (length l) (enter e 0 l)

-- expressions on a tile
abbrev pub alias_on : Area → Spread → Alias
alias_on tile x = alias x.expr (grown tile x.growth)

-- the block of a row: its new expressions on each tile in order
abbrev pub block : List Area → List Spread → List Alias
block tiles new = flat_map (λ tile. map (alias_on tile) new) tiles

-- the blocks of rows in order, after others
abbrev pub blocks : List Area → List Expr → List Spread → List Alias
blocks tiles [] l = []
blocks tiles (e ∷ roots) l = block tiles (new_of e l) ++ blocks tiles roots (enter e 0 l)

-- the number of an expression on a tile, where it has place j among all that rows enter: behind the blocks of
-- the rows before it, and in its own row's block behind the tiles before its own
abbrev pub number_on : ℕ → List Expr → List Spread → ℕ → ℕ → ℕ
number_on tiles [] l j tile = 0
number_on tiles (e ∷ roots) l j tile =
    if nat_lt j (length (enter e 0 l))
    then tile * length (new_of e l) + (j - length l)
    else tiles * length (new_of e l) + number_on tiles roots (enter e 0 l) j tile

-- the inputs of an expression, with the growth at which they are visited
abbrev pub inputs_under : Expr → ℕ → List Spread
inputs_under (Pair op a b) g = spread a g ∷ spread b g ∷ []
inputs_under (Blur n a) g = spread a (g + n) ∷ []
inputs_under _ g = []

-- how many inputs some expressions have, which are their reads on one tile
abbrev pub inputs_entered : List Spread → ℕ
inputs_entered l = sum_by (λ x. length (inputs_under x.expr x.growth)) l

-- a list has the inputs of each expression that it has
abbrev pub IsClosed : List Spread → Type 0
IsClosed l = (x input : Spread) → Contains l x → Contains (inputs_under x.expr x.growth) input → Contains l input

-- an expression put last where it is not there
abbrev pub put : Spread → List Spread → List Spread
put x l = entering x l l

-- whether an expression has a blur
abbrev pub has_blur : Expr → Bool
has_blur Clear = false
has_blur (Leaf d at) = false
has_blur (Tinted d at tint) = false
has_blur (Card pixel) = false
has_blur (Pair op a b) = has_blur a || has_blur b
has_blur (Blur n a) = true

-- tiles, grown by any numbers, are equal only where tile and growth are
abbrev pub GrowApart : List Area → Type 0
GrowApart tiles =
    (j k : ℕ) (a b : Area) (g h : ℕ) → slice_get tiles j ≡ Some a → slice_get tiles k ≡ Some b
    → grown a g ≡ grown b h → (j ≡ k) × (g ≡ h)

-- an expression was entered, and has this place
pub record Puts (old new : List Spread) (x : Spread) (n : ℕ) : Type 0 where
  pub now : new ≡ put x old
  pub at : slice_get new n ≡ Some x

-- so was one with all that it is made of
pub record Enters (old new : List Spread) (e : Expr) (g n : ℕ) : Type 0 where
  pub now : new ≡ enter e g old
  pub at : slice_get new n ≡ Some (spread e g)
