use Rattle.std.specs.Prelude.{◌≡◌, ℕ, ◌≤◌, ◌<◌, true, List, All, Contains}
use Rattle.xs_scene.specs.Records.{ColumnRecord, ExposureRecord, PegKeyRecord, StyleKeyRecord}
use Rattle.xs_meaning.specs.Cells.{covers}

-- an exposure is the only one of a column whose rows contain a row
pub record IsOnlyAt (column : ColumnRecord) (row : ℕ) (e : ExposureRecord) : Type 0 where
  pub among : Contains column.cells e
  pub at_row : covers row e ≡ true
  pub only : All (λ other. covers row other ≡ true → other ≡ e) column.cells

-- a is the last of the keys at or before a row
pub record IsKeyInForce (keys : List PegKeyRecord) (row : ℕ) (a : PegKeyRecord) : Type 0 where
  pub among : Contains keys a
  pub begun : a.row ≤ row
  pub last : All (λ k. k.row ≤ row → k.row ≤ a.row) keys

-- b is the first of the keys after a row
pub record IsKeyAfter (keys : List PegKeyRecord) (row : ℕ) (b : PegKeyRecord) : Type 0 where
  pub among : Contains keys b
  pub later : row < b.row
  pub first : All (λ k. row < k.row → b.row ≤ k.row) keys

-- no two keys of a list have the same row
abbrev pub HasDistinctRows : List PegKeyRecord → Type 0
HasDistinctRows keys =
    (k other : PegKeyRecord) → Contains keys k → Contains keys other → k.row ≡ other.row → k ≡ other

-- a is the last of the keys of a style at or before a row
pub record IsStyleKeyInForce (keys : List StyleKeyRecord) (row style : ℕ) (a : StyleKeyRecord) : Type 0 where
  pub among : Contains keys a
  pub of_style : a.style ≡ style
  pub begun : a.row ≤ row
  pub last : All (λ k. k.style ≡ style → k.row ≤ row → k.row ≤ a.row) keys
