-- Lemmas on the targets of a section
use Rattle.std.proofs.Common.{◌≡◌, ◌<◌, ◌≤◌, ◌+◌, ◌-◌, ◌*◌, min, ℕ, zero, suc, List, [], ◌∷◌, ◌++◌, length, map, refl, sym, ap, subst, ◌∙◌, inl, inr, arith}
use Rattle.std.specs.List.{Contains, range_with_len, flat_map}
use Rattle.std.proofs.lemmas.Bool.{cases_lt}
use Rattle.std.proofs.lemmas.Grind.{flat_map-append}
use Rattle.std.proofs.lemmas.List.{append-nil}
use Rattle.std.proofs.lemmas.List.Elements.{Contains-append_left, Contains-append_right, Contains-append_cases}
use Rattle.std.proofs.lemmas.List.FromFn.{map-range_with_len_more, length-map-range_with_len, get_or-map-range_with_len}
use Rattle.std.proofs.lemmas.Nat.{div-mul-add}
use Rattle.xs_base.specs.declared.limits.TheConstants.{SECTION_ROWS}
use Rattle.xs_plan.specs.Record.{PlanRecord, root_at, rows_in}
use Rattle.xs_worker.specs.Sections.{IsRootOf, AreRoots, column, section_roots}

pub column_more : (p : PlanRecord) (tile first n : ℕ) → column p tile first (n + 1) ≡ column p tile first n ++ root_at p (first + n) tile ∷ []
column_more p tile first n = map-range_with_len_more (λ row. root_at p row tile) first n (first + n) refl

map_same : (xs : List ℕ) → map (λ x. x) xs ≡ xs
map_same [] = refl
map_same (x ∷ xs) = ap (λ l. x ∷ l) (map_same xs)

pub roots_more : (p : PlanRecord) (first rows tiles : ℕ)
    → flat_map (λ tile. column p tile first rows) (range_with_len 0 (tiles + 1))
    ≡ flat_map (λ tile. column p tile first rows) (range_with_len 0 tiles) ++ column p tiles first rows
roots_more p first rows tiles =
    let more = sym (map_same (range_with_len 0 (tiles + 1))) ∙ map-range_with_len_more (λ x. x) 0 tiles tiles (omega arith)
    ∙ ap (λ l. l ++ tiles ∷ []) (map_same (range_with_len 0 tiles)) in
    ap (λ l. flat_map (λ tile. column p tile first rows) l) more
    ∙ flat_map-append (λ tile. column p tile first rows) (range_with_len 0 tiles) (tiles ∷ []) ∙ one
  where
    one : flat_map (λ tile. column p tile first rows) (range_with_len 0 tiles) ++ flat_map (λ tile. column p tile first rows) (tiles ∷ [])
        ≡ flat_map (λ tile. column p tile first rows) (range_with_len 0 tiles) ++ column p tiles first rows
    one = ap (λ l. flat_map (λ tile. column p tile first rows) (range_with_len 0 tiles) ++ l) (append-nil (column p tiles first rows))

-- ---- which aliases they are

-- a place of so many rows from one on and so many tiles, and the alias that stands there
record IsAt (p : PlanRecord) (first rows tiles k : ℕ) : Type 0 where
  row : ℕ
  tile : ℕ
  row_there : row < rows
  tile_there : tile < tiles
  is : k ≡ root_at p (first + row) tile

abbrev columns : PlanRecord → ℕ → ℕ → ℕ → List ℕ
columns p first rows tiles = flat_map (λ tile. column p tile first rows) (range_with_len 0 tiles)

columns_next : (p : PlanRecord) (first rows tiles : ℕ) → columns p first rows (suc tiles) ≡ columns p first rows tiles ++ column p tiles first rows
columns_next p first rows tiles = let next : suc tiles ≡ tiles + 1 = omega arith in
    ap (λ n. columns p first rows n) next ∙ roots_more p first rows tiles

column_to : (p : PlanRecord) (tile first rows k : ℕ) → Contains (column p tile first rows) k
    → (row : ℕ) × (row < rows) × (k ≡ root_at p (first + row) tile)
column_to p tile first rows k has =
    let there : has.0 < rows = omega (arith, has.1, length-map-range_with_len (λ row. root_at p row tile) first rows) in (
      has.0,
      there,
      sym has.2 ∙ get_or-map-range_with_len (λ row. root_at p row tile) first rows has.0 (first + has.0) k there refl,
    )

column_from : (p : PlanRecord) (tile first rows row k : ℕ) → row < rows → k ≡ root_at p (first + row) tile → Contains (column p tile first rows) k
column_from p tile first rows row k there is = (
  row,
  omega (arith, there, length-map-range_with_len (λ row. root_at p row tile) first rows),
  get_or-map-range_with_len (λ row. root_at p row tile) first rows row (first + row) k there refl ∙ sym is,
)

columns_to : (p : PlanRecord) (first rows tiles k : ℕ) → Contains (columns p first rows tiles) k → IsAt p first rows tiles k
columns_to p first rows zero k has = absurd (omega (arith, has.1))
columns_to p first rows (suc tiles) k has =
    elim (Contains-append_cases (columns p first rows tiles) (column p tiles first rows) k
    (subst (λ (l : List ℕ). Contains l k) (columns_next p first rows tiles) has)) [
      | inl before ↦
          let at = columns_to p first rows tiles k before in
          record { row = at.row; tile = at.tile; row_there = at.row_there; tile_there = omega (arith, at.tile_there); is = at.is }
      | inr last ↦
          let at = column_to p tiles first rows k last in
          record { row = at.0; tile = tiles; row_there = at.1; tile_there = omega arith; is = at.2 }
    ]

columns_from : (p : PlanRecord) (first rows tiles k : ℕ) → IsAt p first rows tiles k → Contains (columns p first rows tiles) k
columns_from p first rows zero k at = absurd (omega (arith, at.tile_there))
columns_from p first rows (suc tiles) k at = subst (λ (l : List ℕ). Contains l k) (sym (columns_next p first rows tiles)) (elim (cases_lt at.tile tiles) [
  | inl less ↦
      Contains-append_left (columns p first rows tiles) (column p tiles first rows) k (columns_from p first rows tiles k
      (record { row = at.row; tile = at.tile; row_there = at.row_there; tile_there = less; is = at.is }))
  | inr last ↦
      let same : at.tile ≡ tiles = omega (arith, at.tile_there, last) in
      Contains-append_right (columns p first rows tiles) (column p tiles first rows) k
      (column_from p tiles first rows at.row k at.row_there (at.is ∙ ap (λ t. root_at p (first + at.row) t) same))
])

pub section_roots_are : (p : PlanRecord) (s : ℕ) → AreRoots p s (section_roots p s)
section_roots_are p s = record { only = only; all = all }
  where
    only : (k : ℕ) → Contains (section_roots p s) k → IsRootOf p s k
    only k has =
        let at = columns_to p (s * SECTION_ROWS) (min SECTION_ROWS (rows_in p - s * SECTION_ROWS)) (length p.tiles) k has in
        record {
          row = s * SECTION_ROWS + at.row;
          tile = at.tile;
          row_there = omega (arith, at.row_there);
          row_in = div-mul-add s SECTION_ROWS at.row (omega (arith, at.row_there));
          tile_there = at.tile_there;
          is = at.is;
        }

    all : (k : ℕ) → IsRootOf p s k → Contains (section_roots p s) k
    all k at =
        let start : s * SECTION_ROWS ≤ at.row = omega (arith, at.row_in) in
        let place : s * SECTION_ROWS + (at.row - s * SECTION_ROWS) ≡ at.row = omega (arith, start) in
        columns_from p (s * SECTION_ROWS) (min SECTION_ROWS (rows_in p - s * SECTION_ROWS)) (length p.tiles) k (record {
          row = at.row - s * SECTION_ROWS;
          tile = at.tile;
          row_there = omega (arith, at.row_in, at.row_there);
          tile_there = at.tile_there;
          is = at.is ∙ ap (λ r. root_at p r at.tile) (sym place);
        })
