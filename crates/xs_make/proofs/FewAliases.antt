-- The rows of a generated scene demand few aliases
use Rattle.std.proofs.Common.{◌≡◌, ℕ, zero, suc, ◌+◌, ◌*◌, ◌-◌, ◌≤◌, ◌<◌, ◌↔◌, Bool, true, false, if◌then◌else◌, Option, Some, None, List, [], ◌∷◌, All, length, map, find, get_or, refl, ap, arith}
use Rattle.std.specs.List.{range_with_len}
use Rattle.std.specs.Option.{option_map_or}
use Rattle.std.proofs.lemmas.List.{length-append}
use Rattle.std.proofs.lemmas.List.Elements.{All-map}
use Rattle.std.proofs.lemmas.List.FromFn.{length-map-range_with_len}
use Rattle.xs_base.specs.declared.limits.TheConstants.{MOST_GENERATED_ROWS}
use Rattle.xs_base.specs.Sections.{rows_of}
use Rattle.xs_pixel.specs.Channels.{Channels}
use Rattle.xs_pixel.specs.Points.{Point, opposite, plus}
use Rattle.xs_pixel.specs.declared.operation.Op.{Op}
use Rattle.xs_pixel.specs.declared.operation.Op.TheVariants.{Over, MatteIn}
use Rattle.xs_rect.specs.Area.{Area}
use Rattle.xs_rect.specs.Tiles.{tile_areas}
use Rattle.xs_scene.specs.declared.seen.Seen.{Seen}
use Rattle.xs_scene.specs.declared.seen.Seen.TheVariants.{Empty, Drawing, Row}
use Rattle.xs_scene.specs.declared.column.Shown.TheVariants.{Drawing as Shows}
use Rattle.xs_scene.specs.Records.{SceneRecord, SheetRecord, ColoursRecord, ExposureRecord}
use Rattle.xs_meaning.specs.Cells.{cell_at, covers, shown_after}
use Rattle.xs_meaning.specs.Drawings.{colours_of, number_of}
use Rattle.xs_meaning.specs.Expressions.{Expr, Clear, Card, Pair, Blur, drawings_of, Leaf, Tinted, Staying, Both, First, Second, Neither, is_clear, staying, pair_staying, pair_of, leaf_by, by_offsets, root_of, reach_of}
use Rattle.xs_meaning.specs.Palettes.{Dropped, none_dropped}
use Rattle.xs_meaning.specs.RowValues.{camera_at}
use Rattle.xs_meaning.specs.Places.{place_of}
use Rattle.xs_meaning.specs.Walk.{RowAnswers, depth_of, column_at, column_by, row_by, row_walk, seen_by, terminals_of, walk}
use Rattle.xs_plan.specs.declared.limits.TheConstants.{MOST_ALIASES, MOST_READS, FARTHEST_REACH}
use Rattle.xs_demand.specs.Aliases.{Alias, aliases_of, inputs_in, size_of, visit_rows, visit_tiles}
use Rattle.xs_demand.specs.Limits.{first_limit}
use Rattle.xs_make.specs.Draws.{state_after}
use Rattle.xs_make.specs.Scenes.{keys_of, column_from, exposure_from, exposures_of, held_column, scene_from, sheet_from, sheet_state}

-- ---- expressions of few parts that look no further than their tile

abbrev pub IsSmall : ℕ → Expr → Type 0
IsSmall n e = (size_of e ≤ n) × (reach_of e ≡ 0)

stays_small :
    (which : Staying) (op : Op) (a b : Expr) (m n : ℕ) → IsSmall m a → IsSmall n b → IsSmall (1 + (m + n)) (pair_staying which op a b)
stays_small Both op a b m n first second = (omega arith, omega arith)
stays_small First op a b m n first second = (omega arith, omega arith)
stays_small Second op a b m n first second = (omega arith, omega arith)
stays_small Neither op a b m n first second = (omega arith, omega arith)

pair_small : (op : Op) (a b : Expr) (m n : ℕ) → IsSmall m a → IsSmall n b → IsSmall (1 + (m + n)) (pair_of op a b)
pair_small op a b m n = stays_small (staying op (is_clear a) (is_clear b)) op a b m n

drawn_small : (as_written : Bool) (d : ℕ) (o : Point) (tint : List Channels) → IsSmall 1 (if as_written then Leaf d o else Tinted d o tint)
drawn_small true d o tint = (omega arith, refl)
drawn_small false d o tint = (omega arith, refl)

leaf_small : (colours : Option ColoursRecord) (d row : ℕ) (f : Dropped) (o : Point) → IsSmall 1 (leaf_by colours d row f o)
leaf_small None d row f o = (omega arith, refl)
leaf_small (Some c) d row f o = drawn_small _ d o _

-- ---- columns

-- a drawing is seen, or nothing
abbrev IsDrawn : Seen → Type 0
IsDrawn Empty = Unit {0}
IsDrawn (Drawing level index) = Unit {0}
IsDrawn (Row sheet inner) = ⊥

abbrev seen_in : ℕ → Option ExposureRecord → Seen
seen_in row found = option_map_or (λ e. shown_after (row - e.from) e.shown) found Empty

drawn_or :
    (covered : Bool) (row : ℕ) (e : ExposureRecord) (later : Option ExposureRecord) → IsDrawn (seen_in row (Some e))
    → IsDrawn (seen_in row later) → IsDrawn (seen_in row (if covered then Some e else later))
drawn_or true row e later here rest = here
drawn_or false row e later here rest = rest

cells_drawn :
    (x rows level row a n : ℕ) → IsDrawn (seen_in row (find (covers row) (map (exposure_from x rows level) (range_with_len a n))))
cells_drawn x rows level row a zero = tt
cells_drawn x rows level row a (suc n) =
    drawn_or (covers row (exposure_from x rows level a)) row (exposure_from x rows level a)
    (find (covers row) (map (exposure_from x rows level) (range_with_len (a + 1) n))) tt (cells_drawn x rows level row (a + 1) n)

column_drawn : (x rows level row : ℕ) (peg : Option ℕ) → IsDrawn (cell_at (column_from x rows level peg) row)
unfolding cell_at
column_drawn x rows level row peg = cells_drawn x rows level row 0 (exposures_of rows)

held_drawn : (rows row : ℕ) → IsDrawn (cell_at (held_column rows) row)
unfolding cell_at
held_drawn rows row =
    let e : ExposureRecord = record { from = 1; to = rows; shown = Shows 0 0 } in
    drawn_or (covers row e) row e None tt tt

module _ (s : SceneRecord) (below : RowAnswers (Point → Expr)) where
  seen_small : (seen : Seen) (row : ℕ) (f : Dropped) (o : Point) → IsDrawn seen → IsSmall 1 (seen_by (by_offsets s) below seen row f o)
  unfolding by_offsets
  seen_small Empty row f o drawn = (omega arith, refl)
  seen_small (Drawing level index) row f o drawn =
      let d = number_of s.levels level index in leaf_small (colours_of s d) d row f o
  seen_small (Row sheet inner) row f o drawn = absurd drawn

  column_small :
      (k : SheetRecord) (c row : ℕ) (f : Dropped) (o : Point) → IsDrawn (cell_at (column_at k c) row)
      → IsSmall 1 (column_by (by_offsets s) below k c row f o)
  unfolding by_offsets
  column_small k c row f o drawn = seen_small (cell_at (column_at k c) row) row f (plus o (place_of k (column_at k c).peg row)) drawn

-- ---- the row of a generated scene

module _ (s : SceneRecord) (x rows : ℕ) where
  abbrev sheet : SheetRecord
  sheet = sheet_from x rows

  abbrev shown : RowAnswers (Point → Expr) → ℕ → ℕ → Dropped → Point → Expr
  shown below c row f o = column_by (by_offsets s) below sheet c row f o

  -- the first cell of the first column of words is drawn here
  abbrev first_cell : ℕ
  first_cell = state_after x (2 * keys_of rows)

  sheet_small :
      (below : RowAnswers (Point → Expr)) (row : ℕ) (f : Dropped) (o : Point)
      → IsSmall 9 (row_by (by_offsets s) (walk (by_offsets s) below sheet (depth_of sheet)) sheet row f o)
  unfolding walk terminals_of by_offsets
  sheet_small below row f o =
      let n = exposures_of rows in
      let zeroth = column_small s below sheet 0 row f o (held_drawn rows row) in
      let first = column_small s below sheet 1 row f o (column_drawn first_cell rows 1 row None) in
      let second = column_small s below sheet 2 row f o (column_drawn (state_after first_cell n) rows 2 row (Some 0)) in
      let third = column_small s below sheet 3 row f o (column_drawn (state_after first_cell (2 * n)) rows 3 row None) in
      let node = pair_small MatteIn (shown below 2 row f o) (shown below 1 row f o) 1 1 second first in
      let lower = pair_small Over (shown below 1 row f o) (shown below 0 row f o) 1 1 first zeroth in
      let upper = pair_small Over _ _ 3 3 node lower in
      pair_small Over (shown below 3 row f o) _ 1 7 third upper

  walk_small : (d row : ℕ) (f : Dropped) (o : Point) → IsSmall 9 (row_walk (by_offsets s) (sheet ∷ []) (suc d) 0 row f o)
  unfolding row_walk
  walk_small d row f o = sheet_small (row_walk (by_offsets s) (sheet ∷ []) d) row f o

root_small : (seed rows row : ℕ) → IsSmall 9 (root_of (scene_from seed rows) row)
root_small seed rows row =
    let s = scene_from seed rows in walk_small s (sheet_state seed) rows 15 row none_dropped (opposite (camera_at s row))

-- an expression has no more drawings than parts
drawings_few : (e : Expr) → length (drawings_of e) ≤ size_of e
drawings_few Clear = omega arith
drawings_few (Leaf d at) = omega arith
drawings_few (Tinted d at tint) = omega arith
drawings_few (Card pixel) = omega arith
drawings_few (Pair op a b) =
    let first = drawings_few a in
    let second = drawings_few b in
    let all = length-append (drawings_of a) (drawings_of b) in
    omega (arith, first, second, all)
drawings_few (Blur n a) = let rest = drawings_few a in omega (arith, rest)

pub root_drawings : (seed rows row : ℕ) → length (drawings_of (root_of (scene_from seed rows) row)) ≤ 9
root_drawings seed rows row =
    let few = drawings_few (root_of (scene_from seed rows) row) in
    let small = (root_small seed rows row).0 in
    omega (arith, few, small)

-- ---- all rows together

-- a row adds few aliases and inputs on each tile
abbrev pub RowsAddFew : Type 0
RowsAddFew =
    (e : Expr) (tiles : List Area) (l : List Alias)
    → (length (visit_tiles e tiles l) ≤ length l + length tiles * size_of e)
    × (inputs_in (visit_tiles e tiles l) + length tiles ≤ inputs_in l + length tiles * size_of e)

module _ (few : RowsAddFew) (f : ℕ → Expr) (small : (k : ℕ) → size_of (f k) ≤ 9) (tiles : List Area) (six : length tiles ≡ 6) where
  few_aliases :
      (a n : ℕ) (l : List Alias)
      → (length (visit_rows tiles (map f (range_with_len a n)) l) ≤ length l + 54 * n)
      × (inputs_in (visit_rows tiles (map f (range_with_len a n)) l) + 6 * n ≤ inputs_in l + 54 * n)
  few_aliases a zero l = (omega arith, omega arith)
  few_aliases a (suc n) l =
      let here = few (f a) tiles l in
      let parts : length tiles * size_of (f a) ≡ 6 * size_of (f a) = ap (λ t. t * size_of (f a)) six in
      let most = small a in
      let rest = few_aliases (a + 1) n (visit_tiles (f a) tiles l) in
      (omega arith, omega arith)

-- what passes no limit
abbrev pub FitsWhere : Type 0
FitsWhere =
    (tiles : List Area) (roots : List Expr) → 0 < length tiles
    → first_limit tiles roots ≡ None
    ↔ (All (λ e. reach_of e ≤ FARTHEST_REACH) roots
    × (length (aliases_of tiles roots) ≤ MOST_ALIASES)
    × (inputs_in (aliases_of tiles roots) + length roots * length tiles ≤ MOST_READS))

pub no_limit :
    RowsAddFew → FitsWhere → (seed rows : ℕ) → rows ≤ MOST_GENERATED_ROWS
    → first_limit (tile_areas 192 128) (map (root_of (scene_from seed rows)) (rows_of 1 rows)) ≡ None
unfolding aliases_of
no_limit few fits seed rows most =
    let f = λ (k : ℕ). root_of (scene_from seed rows) k in
    let n = rows + 1 - 1 in
    let roots = map f (range_with_len 1 n) in
    let many : length roots ≡ n = length-map-range_with_len f 1 n in
    let sums = few_aliases few f (λ k. (root_small seed rows k).0) (tile_areas 192 128) refl 1 n [] in
    (fits (tile_areas 192 128) roots (omega arith)).1 (
      All-map (λ e. reach_of e ≤ FARTHEST_REACH) f (range_with_len 1 n)
          (λ i d within. let near = (root_small seed rows (get_or (range_with_len 1 n) i d)).1 in omega arith),
      omega arith,
      omega arith,
    )
