-- Cells and keys stand apart where they share no row.
use Rattle.std.specs.Prelude.{◌≡◌, ◌≢◌, ◌≤◌, ℕ}
use Rattle.xs_scene.specs.Records.{ExposureRecord, PegKeyRecord, StyleKeyRecord}

-- no row lies in both exposures
abbrev pub AreApart : ExposureRecord → ExposureRecord → Type 0
AreApart a b = (row : ℕ) → a.from ≤ row → row ≤ a.to → b.from ≤ row → row ≤ b.to → ⊥

abbrev pub DifferInRow : PegKeyRecord → PegKeyRecord → Type 0
DifferInRow a b = a.row ≢ b.row

-- two palette keys of one style differ in row
abbrev pub DifferInRowOrStyle : StyleKeyRecord → StyleKeyRecord → Type 0
DifferInRowOrStyle a b = a.style ≡ b.style → a.row ≢ b.row

-- no row lies in both, from the first to the last of each, if they are of one group
unfoldable pub ShareNoRow : {A : Type 0} → (A → ℕ) → (A → ℕ) → (A → ℕ) → A → A → Type 0
ShareNoRow group first last a b =
    group a ≡ group b → (row : ℕ) → first a ≤ row → row ≤ last a → first b ≤ row → row ≤ last b → ⊥
