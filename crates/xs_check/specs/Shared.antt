-- The first item that shares a row with an earlier one of its group.
use Rattle.std.specs.Prelude.{◌≡◌, ◌<◌, ◌+◌, ◌⊎◌, ℕ, List, Option, Some, None, All, AllPairs, length, take}
use Rattle.xs_index.specs.Apart.{AreApart, DifferInRow, DifferInRowOrStyle}
use Rattle.xs_index.specs.Order.{IsInOrder}
use Rattle.xs_index.specs.declared.index.SheetIndex.{SheetIndex}
use Rattle.xs_index.specs.declared.index.Index.{Index}

-- the first is of an earlier group, or ends before the second begins
abbrev pub EndsBefore : {A : Type 0} → (A → ℕ) → (A → ℕ) → (A → ℕ) → A → A → Type 0
EndsBefore group first last a b = (group a < group b) ⊎ ((group a ≡ group b) × (last a < first b))

-- so many stand apart, and one more does not
pub record IsFront {A : Type 0} (Apart : A → A → Type 0) (xs : List A) (i : ℕ) : Type 0 where
  pub inside : i < length xs
  pub apart : AllPairs Apart (take i xs)
  pub shared : AllPairs Apart (take (i + 1) xs) → ⊥

-- the first that does not stand apart from each earlier one, or none
abbrev pub IsFirstShared : {A : Type 0} → (A → A → Type 0) → List A → Option ℕ → Type 0
IsFirstShared Apart xs None = AllPairs Apart xs
IsFirstShared Apart xs (Some i) = IsFront Apart xs i

-- each list of an index is in order
pub record IsSheetInOrder (lists : SheetIndex) : Type 0 where
  pub cells : All (IsInOrder (λ e. 0) (λ e. e.from)) lists.columns
  pub keys : All (IsInOrder (λ k. 0) (λ k. k.row)) lists.pegs

pub record IsIndexInOrder (index : Index) : Type 0 where
  pub palettes : All (IsInOrder (λ k. k.style) (λ k. k.row)) index.palettes
  pub sheets : All IsSheetInOrder index.sheets

-- no two items of a list of an index share a row
pub record IsSheetApart (lists : SheetIndex) : Type 0 where
  pub cells : All (AllPairs AreApart) lists.columns
  pub keys : All (AllPairs DifferInRow) lists.pegs

pub record IsIndexApart (index : Index) : Type 0 where
  pub palettes : All (AllPairs DifferInRowOrStyle) index.palettes
  pub sheets : All IsSheetApart index.sheets
