-- How a row of lists stands in arrays: each list is a ring of its members and one node of its own.
use Rattle.std.specs.Prelude.{◌≡◌, ◌+◌, ◌<◌, ◌==◌, ℕ, zero, suc, nat_lt, Bool, true, false, Option, Some, None, List, [], ◌∷◌, length, map, drop, slice_index_or, if◌then◌else◌}
use Rattle.xs_base.specs.Listed.{is_listed}
use Rattle.xs_chain.specs.Row.{Once}

abbrev pub node_at : List ℕ → ℕ → ℕ
node_at nodes a = slice_index_or nodes a 0

-- the members that follow from a node on, until a node that is no member
unfoldable pub walk : List ℕ → ℕ → ℕ → ℕ → List ℕ
walk nexts members zero a = []
walk nexts members (suc steps) a =
    if nat_lt a members then a ∷ walk nexts members steps (node_at nexts a) else []

-- the lists that the arrays show: the nodes after the members are those of the lists
unfoldable pub shown : ℕ → List ℕ → List (List ℕ)
shown members nexts = map (walk nexts members members) (drop members nexts)

-- nodes stand between two others, each linked to the next one and the one before
abbrev pub Linked : (ℕ → ℕ) → (ℕ → ℕ) → ℕ → List ℕ → ℕ → Type 0
Linked next before a [] z = (next a ≡ z) × (before z ≡ a)
Linked next before a (x ∷ xs) z = (next a ≡ x) × (before x ≡ a) × Linked next before x xs z

-- whether an owner is this list
abbrev pub is_owner : Option ℕ → ℕ → Bool
is_owner None list = false
is_owner (Some owner) list = owner == list

abbrev pub owner_at : List (Option ℕ) → ℕ → Option ℕ
owner_at owners m = slice_index_or owners m None

-- the arrays hold these lists
pub record Holds (members : ℕ) (nexts befores : List ℕ) (owners : List (Option ℕ)) (lists : List (List ℕ)) : Type 0 where
  pub nexts_long : length nexts ≡ members + length lists
  pub befores_long : length befores ≡ members + length lists
  pub owners_long : length owners ≡ members
  pub nexts_inside : (a : ℕ) → a < members + length lists → node_at nexts a < members + length lists
  pub befores_inside : (a : ℕ) → a < members + length lists → node_at befores a < members + length lists
  pub owned : (l x : ℕ) → l < length lists → x < members → is_listed (slice_index_or lists l []) x ≡ is_owner (owner_at owners x) l
  pub owner_exists : (l x : ℕ) → x < members → owner_at owners x ≡ Some l → l < length lists
  pub below : (l x : ℕ) → l < length lists → is_listed (slice_index_or lists l []) x ≡ true → x < members
  pub once : (l : ℕ) → l < length lists → Once (slice_index_or lists l [])
  pub linked : (l : ℕ) → l < length lists
      → Linked (node_at nexts) (node_at befores) (members + l) (slice_index_or lists l []) (members + l)

-- the arrays hold the lists that they show
abbrev pub IsRing : ℕ → List ℕ → List ℕ → List (Option ℕ) → Type 0
IsRing members nexts befores owners = Holds members nexts befores owners (shown members nexts)

-- a node as a member, if it is one
abbrev pub member_of : ℕ → ℕ → Option ℕ
member_of members node = if nat_lt node members then Some node else None

-- so many nodes, each linked to itself
pub record IsEachAlone (nodes : ℕ) (links : List ℕ) : Type 0 where
  pub long : length links ≡ nodes
  pub alone : (a : ℕ) → a < nodes → node_at links a ≡ a
