-- No check finds a fault in a scene of a seed
use Rattle.std.proofs.Common.{◌≡◌, ℕ, zero, suc, ◌+◌, ◌*◌, ◌<◌, ◌≤◌, Bool, true, ltb, ◌&&◌, Option, Some, None, List, [], ◌∷◌, length, map, flat_map, take, min, max, refl, ap, ap₂, ◌∙◌, arith}
use Rattle.std.specs.Fmt.{digits}
use Rattle.std.specs.List.{range_with_len, list_all}
use Rattle.std.proofs.lemmas.Bool.{lt-ltb}
use Rattle.std.proofs.lemmas.Bool.Decides.{nat_tests}
use Rattle.std.proofs.lemmas.List.FromFn.{take-map-range_with_len}
use Rattle.xs_fault.specs.declared.code.SceneCode.{SceneCode}
use Rattle.xs_fault.specs.declared.code.SceneCode.TheVariants as code
use Rattle.xs_fault.specs.declared.field.Field.TheVariants as field
use Rattle.xs_fault.specs.Paths.{index_at, path_of}
use Rattle.xs_graph.specs.Cycles.{leads_through}
use Rattle.xs_graph.specs.Paths.{has_chain}
use Rattle.xs_scene.specs.Records.{SceneRecord, SheetRecord, ExposureRecord}
use Rattle.xs_check.specs.Finding.{Finding, unless, or_else, each_from, if_there, in_list}
use Rattle.xs_check.specs.Good.{level_at}
use Rattle.xs_check.specs.Links.{parent_links, sheet_in, sheet_links, sheets_in}
use Rattle.xs_check.specs.Passes.{are_apart, apart_fault, cell_reference_fault, chain_fault, column_overlap_fault, column_reference_fault, cycle_fault, differ_in_row, file_fault, first_fault, level_reference_fault, long_chain_fault, naming_fault, node_cycle_fault, node_reference_fault, overlap_fault, palette_overlap_fault, peg_cycle_fault, peg_overlap_fault, reference_fault, sheet_cycle_fault, sheet_overlap_fault, sheet_reference_fault, sheets_at, size_fault}
use Rattle.xs_make.specs.Draws.{drawn, state_after}
use Rattle.xs_make.specs.Scenes.{cells_from, column_from, held_column, exposure_from, exposures_of, key_from, keys_of, made_levels, palette_from, scene_of, sheet_from}
use Rattle.xs_make.proofs.Drawn.{drawn_below}

-- ---- checks that find nothing

none_then : (first second : Finding) → first ≡ None → second ≡ None → or_else first second ≡ None
none_then first second none others = ap (λ (found : Finding). or_else found second) none ∙ others

unless_holds : (code : SceneCode) (at : List ℕ) (b : Bool) → b ≡ true → unless code at b ≡ None
unless_holds code at b holds = ap (unless code at) holds

-- of what numbers from one on give, where nothing is found at each
each_none :
    {A : Type 0} (F : ℕ → A → Finding) (f : ℕ → A) (a n : ℕ) → ((k : ℕ) → a ≤ k → k < a + n → F k (f k) ≡ None)
    → each_from F a (map f (range_with_len a n)) ≡ None
each_none F f a zero none = refl
each_none F f a (suc n) none =
    none_then (F a (f a)) (each_from F (a + 1) (map f (range_with_len (a + 1) n))) (none a (omega arith) (omega arith))
    (each_none F f (a + 1) n (λ k least below. none k (omega arith) (omega arith)))

all_hold :
    {A : Type 0} (test : A → Bool) (f : ℕ → A) (a n : ℕ) → ((k : ℕ) → a ≤ k → k < a + n → test (f k) ≡ true)
    → list_all test (map f (range_with_len a n)) ≡ true
all_hold test f a zero holds = refl
all_hold test f a (suc n) holds =
    ap₂ (λ b c. b && c) (holds a (omega arith) (omega arith))
    (all_hold test f (a + 1) n (λ k least below. holds k (omega arith) (omega arith)))

-- each stands apart from the earlier ones
apart_none :
    {A : Type 0} (test : A → A → Bool) (at : List ℕ) (f : ℕ → A) (n : ℕ) → ((j k : ℕ) → j < k → test (f j) (f k) ≡ true)
    → apart_fault test at (map f (range_with_len 0 n)) ≡ None
unfolding apart_fault
apart_none test at f n apart =
    each_none (λ i x. unless code.Overlap (index_at at i) (list_all (λ earlier. test earlier x) (take i (map f (range_with_len 0 n))))) f 0 n
    (λ k least below.
    unless_holds code.Overlap (index_at at k) (list_all (λ earlier. test earlier (f k)) (take k (map f (range_with_len 0 n))))
    (ap (list_all (λ earlier. test earlier (f k))) (take-map-range_with_len f 0 n k (omega arith))
    ∙ all_hold (λ earlier. test earlier (f k)) f 0 k (λ j low before. apart j k (omega arith))))

-- ---- numbers that name nothing

-- cells of a level with four drawings
cells_refer :
    (s : SceneRecord) (x rows level n : ℕ) (at : List ℕ) → ltb level (length s.levels) ≡ true → length (level_at s.levels level).drawings ≡ 4
    → in_list at (cell_reference_fault s) (cells_from x rows level n) ≡ None
unfolding in_list cell_reference_fault
cells_refer s x rows level n at there four =
    each_none (λ i e. cell_reference_fault s (index_at at i) e) (exposure_from x rows level) 0 n
    (λ k least below.
    none_then (unless code.NoSuchReference (path_of field.Level (index_at at k)) (ltb level (length s.levels)))
    (unless code.NoSuchReference (path_of field.Drawing (index_at at k)) (ltb (drawn x k 4) (length (level_at s.levels level).drawings)))
    (unless_holds code.NoSuchReference (path_of field.Level (index_at at k)) (ltb level (length s.levels)) there)
    (unless_holds code.NoSuchReference (path_of field.Drawing (index_at at k)) (ltb (drawn x k 4) (length (level_at s.levels level).drawings))
    (ap (ltb (drawn x k 4)) four ∙ lt-ltb (drawn x k 4) 4 (drawn_below x k 4 (omega arith)))))

-- ---- what stands twice

keys_apart : (x n : ℕ) (at : List ℕ) → apart_fault differ_in_row at (map (key_from x) (range_with_len 0 n)) ≡ None
keys_apart x n at = apart_none differ_in_row at (key_from x) n (λ j k less. grind (arith, nat_tests))

cells_apart : (x rows level n : ℕ) (at : List ℕ) → apart_fault are_apart at (cells_from x rows level n) ≡ None
cells_apart x rows level n at =
    apart_none are_apart at (exposure_from x rows level) n
    (λ j k less. lt-ltb (min (min (2 * j + 2) rows) (min (2 * k + 2) rows)) (max (2 * j + 1) (2 * k + 1)) (omega arith))

names_differ : file_fault made_levels ≡ None
unfolding file_fault digits
names_differ = refl

-- ---- links

no_sheets : (x rows level a n : ℕ) → flat_map (λ (e : ExposureRecord). sheet_in e.shown) (map (exposure_from x rows level) (range_with_len a n)) ≡ []
no_sheets x rows level a zero = refl
no_sheets x rows level a (suc n) = no_sheets x rows level (a + 1) n

no_sheets_in : (x rows : ℕ) → sheets_in (sheet_from x rows) ≡ []
no_sheets_in x rows =
    let n = exposures_of rows in
    let y = state_after x (2 * keys_of rows) in
    rw (no_sheets y rows 1 0 n, no_sheets (state_after y n) rows 2 0 n, no_sheets (state_after y (2 * n)) rows 3 0 n) refl

-- ---- the passes

-- four elements at which nothing is found
four_none :
    {A : Type 0} (F : List ℕ → A → Finding) (at : List ℕ) (a b c d : A) → F (index_at at 0) a ≡ None → F (index_at at 1) b ≡ None
    → F (index_at at 2) c ≡ None → F (index_at at 3) d ≡ None → in_list at F (a ∷ b ∷ c ∷ d ∷ []) ≡ None
unfolding in_list
four_none F at a b c d first second third fourth =
    none_then _ _ first (none_then _ _ second (none_then _ _ third (none_then _ _ fourth refl)))

module _ (seed x rows : ℕ) where
  abbrev sheet : SheetRecord
  sheet = sheet_from x rows

  abbrev scene : SceneRecord
  scene = scene_of (palette_from seed) sheet

  -- the draws of the columns begin here
  abbrev first_cell : ℕ
  first_cell = state_after x (2 * keys_of rows)

  column_refers :
      (y level : ℕ) (peg : Option ℕ) (at : List ℕ) → if_there (naming_fault (path_of field.Peg at) sheet.pegs) peg ≡ None
      → ltb level (length made_levels) ≡ true → length (level_at made_levels level).drawings ≡ 4
      → column_reference_fault scene sheet at (column_from y rows level peg) ≡ None
  column_refers y level peg at hangs there four =
      none_then _ _ hangs (cells_refer scene y rows level (exposures_of rows) (path_of field.Cells at) there four)

  sizes_fit : size_fault scene ≡ None
  unfolding in_list
  sizes_fit = refl

  held_refers : (at : List ℕ) → column_reference_fault scene sheet at (held_column rows) ≡ None
  unfolding in_list cell_reference_fault
  held_refers at = refl

  columns_refer : (at : List ℕ) → in_list at (column_reference_fault scene sheet) sheet.columns ≡ None
  columns_refer at =
      four_none (column_reference_fault scene sheet) at (held_column rows) (column_from first_cell rows 1 None)
      (column_from (state_after first_cell (exposures_of rows)) rows 2 (Some 0))
      (column_from (state_after first_cell (2 * exposures_of rows)) rows 3 None) (held_refers (index_at at 0))
      (column_refers first_cell 1 None (index_at at 1) refl refl refl)
      (column_refers (state_after first_cell (exposures_of rows)) 2 (Some 0) (index_at at 2) refl refl refl)
      (column_refers (state_after first_cell (2 * exposures_of rows)) 3 None (index_at at 3) refl refl refl)

  sheet_refers : (at : List ℕ) → sheet_reference_fault scene at sheet ≡ None
  unfolding in_list node_reference_fault
  sheet_refers at = none_then _ _ (columns_refer (path_of field.Columns at)) refl

  references_there : reference_fault scene ≡ None
  unfolding in_list level_reference_fault
  references_there = none_then _ _ (sheet_refers (index_at sheets_at 0)) refl

  held_apart : (at : List ℕ) → column_overlap_fault at (held_column rows) ≡ None
  unfolding apart_fault
  held_apart at = refl

  columns_apart : (at : List ℕ) → in_list at column_overlap_fault sheet.columns ≡ None
  columns_apart at =
      let n = exposures_of rows in
      four_none column_overlap_fault at (held_column rows) (column_from first_cell rows 1 None)
      (column_from (state_after first_cell n) rows 2 (Some 0)) (column_from (state_after first_cell (2 * n)) rows 3 None)
      (held_apart (index_at at 0)) (cells_apart first_cell rows 1 n (path_of field.Cells (index_at at 1)))
      (cells_apart (state_after first_cell n) rows 2 n (path_of field.Cells (index_at at 2)))
      (cells_apart (state_after first_cell (2 * n)) rows 3 n (path_of field.Cells (index_at at 3)))

  pegs_apart : (at : List ℕ) → in_list at peg_overlap_fault sheet.pegs ≡ None
  unfolding in_list
  pegs_apart at = none_then _ _ (keys_apart x (keys_of rows) (path_of field.Keys (index_at at 0))) refl

  sheet_apart : (at : List ℕ) → sheet_overlap_fault at sheet ≡ None
  sheet_apart at = none_then _ _ (pegs_apart (path_of field.Pegs at)) (columns_apart (path_of field.Columns at))

  palettes_apart : in_list (path_of field.Palettes []) palette_overlap_fault scene.palettes ≡ None
  unfolding in_list apart_fault
  palettes_apart = refl

  sheets_apart : in_list sheets_at sheet_overlap_fault scene.sheets ≡ None
  unfolding in_list
  sheets_apart = none_then _ _ (sheet_apart (index_at sheets_at 0)) refl

  all_apart : overlap_fault scene ≡ None
  all_apart = none_then _ _ palettes_apart (none_then _ _ names_differ sheets_apart)

  links_are : sheet_links scene.sheets ≡ [] ∷ []
  links_are = ap (λ (links : List ℕ). links ∷ []) (no_sheets_in x rows)

  no_long_chain : chain_fault (map parent_links scene.sheets) (sheet_links scene.sheets) ≡ None
  unfolding in_list long_chain_fault has_chain
  no_long_chain = ap (chain_fault (map parent_links scene.sheets)) links_are

  no_sheet_cycle : sheet_cycle_fault (sheet_links scene.sheets) ≡ None
  unfolding cycle_fault leads_through
  no_sheet_cycle = ap sheet_cycle_fault links_are

  no_node_cycle : node_cycle_fault scene ≡ None
  unfolding in_list cycle_fault leads_through
  no_node_cycle = refl

  no_peg_cycle : peg_cycle_fault (map parent_links scene.sheets) ≡ None
  unfolding in_list cycle_fault leads_through
  no_peg_cycle = refl

  pub no_fault : first_fault scene ≡ None
  no_fault =
      none_then _ _ sizes_fit
      (none_then _ _ references_there
      (none_then _ _ all_apart
      (none_then _ _ no_peg_cycle (none_then _ _ no_node_cycle (none_then _ _ no_sheet_cycle no_long_chain)))))
