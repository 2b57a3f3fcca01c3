-- Labels of nodes.
use Rattle.std.specs.Prelude.{◌<◌, ◌≤◌, ℕ, List, Option, IfSome, All, length, slice_index}
use Rattle.xs_base.specs.First.{IsFirstWithout}
use Rattle.xs_graph.specs.Paths.{Links, successors, LiesOnCycle}
use Rattle.xs_graph.specs.declared.labels.ByLabels.{ByLabels}
use Rattle.xs_graph.specs.declared.labels.ByLabels.TheVariants.{First, Nothing}

-- no node links to one with a greater label
abbrev pub NeverRise : Links → List ℕ → Type 0
NeverRise links labels =
    (a : ℕ) → a < length links → All (λ c. slice_index labels c ≤ slice_index labels a) (successors links a)

-- a node links only to nodes with smaller labels
abbrev pub Falls : Links → List ℕ → ℕ → Type 0
Falls links labels a = All (λ c. slice_index labels c < slice_index labels a) (successors links a)

-- labels show which node is the first on a cycle where they never rise and the first node that does not only
-- link to nodes with smaller labels lies on a cycle
abbrev pub AreConclusive : Links → List ℕ → Type 0
AreConclusive links labels =
    NeverRise links labels
    × ((first : Option ℕ) → IsFirstWithout (Falls links labels) (length links) first → IfSome first (LiesOnCycle links))

-- the first node on a cycle; nothing only where labels do not show it
abbrev pub IsToldBy : Links → List ℕ → ByLabels → Type 0
IsToldBy links labels (First first) = IsFirstWithout (λ a. LiesOnCycle links a → ⊥) (length links) first
IsToldBy links labels Nothing = AreConclusive links labels → ⊥
