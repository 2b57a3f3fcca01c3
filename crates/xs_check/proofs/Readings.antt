-- What is told of the lists of a checked scene holds also of those that it lacks
use Rattle.std.proofs.Common.{◌≡◌, ◌-◌, ℕ, Option, Some, None, All, AllPairs, Contains, MatchOption, sym, subst, arith}
use Rattle.std.proofs.lemmas.List.Elements.{All-contains}
use Rattle.xs_scene.specs.declared.column.Shown.{Shown}
use Rattle.xs_scene.specs.declared.column.Shown.TheVariants.{Drawing, Sheet}
use Rattle.xs_scene.specs.declared.seen.Seen.TheVariants.{Empty}
use Rattle.xs_scene.specs.Records.{SceneRecord, SheetRecord, ColumnRecord, ExposureRecord}
use Rattle.xs_scene.specs.Ranges.{IsExposure, IsShown}
use Rattle.xs_meaning.specs.Cells.{cell_at, shown_after}
use Rattle.xs_meaning.specs.Walk.{no_sheet, no_column, sheet_at, column_at}
use Rattle.xs_meaning.proofs.Lists.{All-slice_index_or}
use Rattle.xs_index.specs.Apart.{AreApart}
use Rattle.xs_check.specs.Good.{IsGood, IsThere}
use Rattle.xs_check.specs.Readers.{IsSeen}

-- ---- what is seen is there

abbrev Shows : SceneRecord → ExposureRecord → Type 0
Shows s e = IsThere s e.shown × IsExposure e

shows : (s : SceneRecord) (rows : ℕ) (shown : Shown) → IsThere s shown → IsShown shown → IsSeen s (shown_after rows shown)
shows s rows (Drawing level index) there range = there
shows s rows (Sheet sheet start) there range = (there, omega (arith, range.1.0))

-- what a column shows at a row by one of its cells, or by none
abbrev IsOwn : ColumnRecord → ℕ → Option ExposureRecord → Type 0
IsOwn column row found =
    MatchOption found (cell_at column row ≡ Empty)
    (λ e. Contains column.cells e × (cell_at column row ≡ shown_after (row - e.from) e.shown))

column_there : (s : SceneRecord) (column : ColumnRecord) (row : ℕ) → All (Shows s) column.cells
    → (found : Option ExposureRecord) → IsOwn column row found → IsSeen s (cell_at column row)
column_there s column row all None nothing = subst (IsSeen s) (sym nothing) tt
column_there s column row all (Some e) (among, is) =
    let has = All-contains (Shows s) column.cells e all among in
    subst (IsSeen s) (sym is) (shows s (row - e.from) e.shown has.0 has.1.shown)

-- ---- of each list by its number

module _ (s : SceneRecord) (good : IsGood s) where
  of_column : (P : ColumnRecord → Type 0) → P no_column
      → All (λ (k : SheetRecord). All P k.columns) s.sheets → (k c : ℕ) → P (column_at (sheet_at s.sheets k) c)
  of_column P none all k c =
      All-slice_index_or P (sheet_at s.sheets k).columns c no_column none
      (All-slice_index_or (λ (k : SheetRecord). All P k.columns) s.sheets k no_sheet (λ i d below. absurd (omega arith)) all)

  pub cell_there : (k c row : ℕ) (found : Option ExposureRecord) → IsOwn (column_at (sheet_at s.sheets k) c) row found
      → IsSeen s (cell_at (column_at (sheet_at s.sheets k) c) row)
  cell_there k c row found own =
      column_there s (column_at (sheet_at s.sheets k) c) row
      (of_column (λ column. All (Shows s) column.cells) (λ i d below. absurd (omega arith))
      (λ i d below j column inside m e within. (
        ((good.sheets i d below).columns j column inside).shown m e within,
        ((good.ranges.sheets i d below).columns j column inside).cells m e within,
      )) k c)
      found own

  pub cells_apart : (k c : ℕ) → AllPairs AreApart (column_at (sheet_at s.sheets k) c).cells
  cells_apart =
      of_column (λ column. AllPairs AreApart column.cells) (λ i j d less below. absurd (omega arith))
      (λ i d below j column inside. ((good.sheets i d below).columns j column inside).apart)
