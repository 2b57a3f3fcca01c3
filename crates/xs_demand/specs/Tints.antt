-- The tints of an expression
use Rattle.std.specs.Prelude.{◌≡◌, List, [], ◌∷◌, ◌++◌}
use Rattle.xs_pixel.specs.Channels.{Channels}
use Rattle.xs_meaning.specs.Expressions.{Expr, Clear, Leaf, Tinted, Card, Pair, Blur}
use Rattle.xs_tint.specs.Tints.{tint_of}

-- those of its drawings, as a walk meets them
abbrev pub tints_within : Expr → List (List Channels)
tints_within Clear = []
tints_within (Leaf d at) = []
tints_within (Tinted d at tint) = tint ∷ []
tints_within (Card pixel) = []
tints_within (Pair op a b) = tints_within a ++ tints_within b
tints_within (Blur n a) = tints_within a

-- a tint is its own canonical form
abbrev pub IsCanonical : List Channels → Type 0
IsCanonical tint = tint_of tint ≡ tint
