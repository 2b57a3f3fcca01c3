-- Expressions that are laid over one another, and in what order they are entered
use Rattle.std.specs.Prelude.{ℕ, not, List, [], ◌∷◌, ◌++◌, filter}
use Rattle.xs_pixel.specs.declared.operation.Op.TheVariants.{Over}
use Rattle.xs_meaning.specs.Expressions.{Expr, Clear, Pair, is_clear, pair_of}
use Rattle.xs_demand.specs.Blocks.{Spread, spread, enter, put}

-- expressions from the topmost one down, each over all below it. Clear ones vanish
abbrev pub stacked : List Expr → Expr
stacked [] = Clear
stacked (e ∷ es) = pair_of Over e (stacked es)

-- those that are not clear of some expressions from the bottom up, the topmost one first
abbrev pub seen_down : List Expr → List Expr
seen_down [] = []
seen_down (e ∷ es) = seen_down es ++ filter (λ e. not (is_clear e)) (e ∷ [])

-- expressions from the topmost one down over a lowest one
abbrev pub laid_over : List Expr → Expr → Expr
laid_over [] lowest = lowest
laid_over (e ∷ es) lowest = Pair Over e (laid_over es lowest)

-- after expressions were entered one after another
abbrev pub enter_each : List Expr → ℕ → List Spread → List Spread
enter_each [] g l = l
enter_each (e ∷ es) g l = enter_each es g (enter e g l)

-- after expressions from the topmost one down were put over a lowest one, from the bottom up
abbrev pub put_over : List Expr → Expr → ℕ → List Spread → List Spread
put_over [] lowest g l = l
put_over (e ∷ es) lowest g l = put (spread (Pair Over e (laid_over es lowest)) g) (put_over es lowest g l)
