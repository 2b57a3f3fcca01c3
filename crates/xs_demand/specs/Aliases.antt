-- The aliases of a list of roots
use Rattle.std.specs.Prelude.{◌≡◌, ◌+◌, ℕ, zero, suc, Bool, ◌&&◌, List, [], ◌∷◌, ◌++◌, Contains, length, map, sum_by, if◌then◌else◌}
use Rattle.std.specs.List.{list_any}
use Rattle.xs_rect.specs.Area.{Area, grown}
use Rattle.xs_meaning.specs.Expressions.{Expr, Clear, Leaf, Tinted, Card, Pair, Blur}
use Rattle.xs_demand.specs.Same.{same_rect, same_expr}

-- an expression on a rectangle
pub record Alias : Type 0 where
  pub expr : Expr
  pub rect : Area

abbrev pub alias : Expr → Area → Alias
alias expr rect = record { expr = expr; rect = rect }

abbrev pub same_alias : Alias → Alias → Bool
same_alias x y = same_expr x.expr y.expr && same_rect x.rect y.rect

abbrev pub stands_in : List Alias → Alias → Bool
stands_in l x = list_any (same_alias x) l

-- the inputs of an expression on a rectangle: those of a pair on the same one, the first before the second;
-- that of a blur on the rectangle grown by its radius
abbrev pub inputs_on : Expr → Area → List Alias
inputs_on (Pair op a b) rect = alias a rect ∷ alias b rect ∷ []
inputs_on (Blur n a) rect = alias a (grown rect n) ∷ []
inputs_on _ rect = []

abbrev pub inputs_of : Alias → List Alias
inputs_of x = inputs_on x.expr x.rect

-- ---- visits

-- an alias that stands in the list changes nothing; else it is appended to what its inputs' visits made
abbrev pub visiting : Alias → (before visited : List Alias) → List Alias
visiting x before visited = if stands_in before x then before else visited ++ x ∷ []

-- the list after an expression was visited on a rectangle
unfoldable pub visit : Expr → Area → List Alias → List Alias
visit Clear rect l = visiting (alias Clear rect) l l
visit (Leaf d at) rect l = visiting (alias (Leaf d at) rect) l l
visit (Tinted d at tint) rect l = visiting (alias (Tinted d at tint) rect) l l
visit (Card pixel) rect l = visiting (alias (Card pixel) rect) l l
visit (Pair op a b) rect l = visiting (alias (Pair op a b) rect) l (visit b rect (visit a rect l))
visit (Blur n a) rect l = visiting (alias (Blur n a) rect) l (visit a (grown rect n) l)

-- after a row's root was visited on tiles in order
abbrev pub visit_tiles : Expr → List Area → List Alias → List Alias
visit_tiles e [] l = l
visit_tiles e (tile ∷ tiles) l = visit_tiles e tiles (visit e tile l)

-- after the roots of rows were visited in order, each on all tiles
abbrev pub visit_rows : List Area → List Expr → List Alias → List Alias
visit_rows tiles [] l = l
visit_rows tiles (e ∷ roots) l = visit_rows tiles roots (visit_tiles e tiles l)

-- the aliases of the roots of rows on the tiles of a frame; the number of an alias is its place
unfoldable pub aliases_of : List Area → List Expr → List Alias
aliases_of tiles roots = visit_rows tiles roots []

-- the aliases of the rows and tiles themselves, row by row
abbrev pub on_tiles : List Area → Expr → List Alias
on_tiles tiles e = map (alias e) tiles

-- how many inputs some aliases have: each is one read
abbrev pub inputs_in : List Alias → ℕ
inputs_in l = sum_by (λ x. length (inputs_of x)) l

-- ---- what an alias reaches

-- a way of so many steps leads from an alias along inputs to another
unfoldable pub Leads : ℕ → Alias → Alias → Type 0
Leads zero x y = x ≡ y
Leads (suc steps) x y = (input : Alias) × Contains (inputs_of x) input × Leads steps input y

-- an alias reaches itself, and what its inputs reach
pub record Reaches (x y : Alias) : Type 0 where
  pub steps : ℕ
  pub way : Leads steps x y

-- a root reaches what it reaches on one of the tiles
pub record RootReaches (tiles : List Area) (root : Expr) (y : Alias) : Type 0 where
  pub tile : Area
  pub among : Contains tiles tile
  pub reaches : Reaches (alias root tile) y

-- ---- sizes

-- how many expressions a root is made of, each as often as it is used
abbrev pub size_of : Expr → ℕ
size_of Clear = 1
size_of (Leaf d at) = 1
size_of (Tinted d at tint) = 1
size_of (Card pixel) = 1
size_of (Pair op a b) = 1 + (size_of a + size_of b)
size_of (Blur n a) = 1 + size_of a
