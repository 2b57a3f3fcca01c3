-- A fault that a pass finds is told with the code of the pass, at the path of what is wrong.
use Rattle.std.proofs.Common.{◌≡◌, ◌<◌, ◌≤◌, ◌∙◌, ℕ, zero, suc, Bool, true, false, not, ltb, min, max, bytes_eq, eqb, ◌&&◌, List, [], ◌∷◌, Some, None, length, map, take, refl, sym, ap, subst, arith}
use Rattle.std.specs.List.{list_all}
use Rattle.std.proofs.lemmas.Bool.{ltb-false, eqb-true}
use Rattle.std.proofs.lemmas.Slice.Eq.{bytes_eq-Decides}
use Rattle.std.proofs.lemmas.List.{length-map}
use Rattle.std.specs.Option.{option_to_list}
use Rattle.xs_meaning.specs.Inputs.{inputs_of}
use Rattle.std.proofs.lemmas.Option.{slice_get-get_or, slice_get_within}
use Rattle.xs_base.specs.declared.limits.TheConstants.{MOST_STYLES, MOST_STYLE_KEYS, MOST_FILTER_STYLES, LONGEST_SHUFFLE, MOST_COLUMNS, MOST_NODES, MOST_TERMINALS, LONGEST_PEG_CHAIN, DEEPEST_NEST}
use Rattle.xs_fault.specs.Paths.{path_of, index_at}
use Rattle.xs_fault.specs.declared.field.Field.{Field}
use Rattle.xs_fault.specs.declared.field.Field.TheVariants as field
use Rattle.xs_fault.specs.declared.code.SceneCode.{SceneCode}
use Rattle.xs_fault.specs.declared.code.SceneCode.TheVariants as code
use Rattle.xs_scene.specs.declared.level.Kind.{Kind}
use Rattle.xs_scene.specs.declared.level.Kind.TheVariants.{Colour, Cm32}
use Rattle.xs_scene.specs.declared.column.Shown.{Shown}
use Rattle.xs_scene.specs.declared.column.Shown.TheVariants.{Drawing, Sheet}
use Rattle.xs_scene.specs.declared.node.Ref.{Ref}
use Rattle.xs_scene.specs.declared.node.Ref.TheVariants.{Column as ToColumn, Node as ToNode}
use Rattle.xs_scene.specs.declared.node.Node.{Node}
use Rattle.xs_scene.specs.declared.node.Node.TheVariants.{Pair, Card, Shuffle, Blur, Keep, Delete}
use Rattle.xs_scene.specs.Records.{SceneRecord, SheetRecord, ColoursRecord, StyleKeyRecord, LevelRecord, PegRecord, ColumnRecord, ExposureRecord}
use Rattle.xs_meaning.specs.Walk.{sheet_at}
use Rattle.xs_graph.specs.Paths.{Links, LiesOnCycle, HasChain, has_chain}
use Rattle.xs_graph.specs.Cycles.{lies_on_cycle}
use Rattle.xs_check.specs.Finding.{Finding, unless, or_else, each_from, in_list, if_there}
use Rattle.xs_check.specs.Good.{level_at, files_of, no_drawings}
use Rattle.xs_check.specs.Links.{parent_links, input_links, sheets_in, sheet_links}
use Rattle.xs_check.specs.Passes as pass
use Rattle.xs_check.specs.Passes.{level_reference_fault, cell_reference_fault, node_reference_fault, apart_fault, file_fault, cycle_fault, long_chain_fault}
use Rattle.xs_check.specs.Told as told
use Rattle.xs_check.specs.Told.{IsAt, IsTooLong, IsLacking, IsTaken, IsPegCycle, IsNodeCycle, IsSheetCycle, IsLongChain, Lacks, Takes, palette_path, level_path, sheet_path, peg_path, column_path, cell_path, node_path}
use Rattle.xs_check.proofs.Only.{Only, only_nothing, only_unless, only_then, only_else, only_each, only_in_list, only_if_there, only_long, only_lacking}
use Rattle.xs_check.proofs.Goods.{CyclesTold, ChainsTold, is_below}

-- ---- lists that are too long

module _ (s : SceneRecord) where
  abbrev Long : Finding → Type 0
  Long found = Only code.TooMany (IsTooLong s) found

  long_palette : (p : ℕ) (c : ColoursRecord) → IsAt s.palettes p c → Long (pass.palette_size_fault (palette_path p) c)
  long_palette p c is =
      only_else code.TooMany (IsTooLong s) (pass.length_fault MOST_STYLES (palette_path p) c.styles)
      (pass.length_fault MOST_STYLE_KEYS (path_of field.Keys (palette_path p)) c.keys)
      (only_long (IsTooLong s) MOST_STYLES _ c.styles (told.long_styles p c is))
      (only_long (IsTooLong s) MOST_STYLE_KEYS _ c.keys (told.long_style_keys p c is))

  long_node : (k : ℕ) (sheet : SheetRecord) → IsAt s.sheets k sheet → (n : ℕ) (node : Node) → IsAt sheet.nodes n node
      → Long (pass.node_size_fault (node_path k n) node)
  long_node k sheet is n (Shuffle input list) at = only_long (IsTooLong s) LONGEST_SHUFFLE _ list (told.long_shuffle k n sheet input list is at)
  long_node k sheet is n (Keep input list) at = only_long (IsTooLong s) MOST_FILTER_STYLES _ list (told.long_keep k n sheet input list is at)
  long_node k sheet is n (Delete input list) at = only_long (IsTooLong s) MOST_FILTER_STYLES _ list (told.long_delete k n sheet input list is at)
  long_node k sheet is n (Pair op first second) at = only_nothing code.TooMany (IsTooLong s)
  long_node k sheet is n (Card style) at = only_nothing code.TooMany (IsTooLong s)
  long_node k sheet is n (Blur input radius) at = only_nothing code.TooMany (IsTooLong s)

  long_sheet : (k : ℕ) (sheet : SheetRecord) → IsAt s.sheets k sheet → Long (pass.sheet_size_fault (sheet_path k) sheet)
  long_sheet k sheet is =
      only_else code.TooMany (IsTooLong s) (pass.length_fault MOST_COLUMNS (path_of field.Columns (sheet_path k)) sheet.columns) _
      (only_long (IsTooLong s) MOST_COLUMNS _ sheet.columns (told.long_columns k sheet is))
      (only_else code.TooMany (IsTooLong s) (pass.length_fault MOST_NODES (path_of field.Nodes (sheet_path k)) sheet.nodes) _
      (only_long (IsTooLong s) MOST_NODES _ sheet.nodes (told.long_nodes k sheet is))
      (only_else code.TooMany (IsTooLong s) (in_list (path_of field.Nodes (sheet_path k)) pass.node_size_fault sheet.nodes)
      (if_there (pass.length_fault MOST_TERMINALS (path_of field.Out (sheet_path k))) sheet.out)
      (only_in_list code.TooMany (IsTooLong s) pass.node_size_fault (path_of field.Nodes (sheet_path k)) sheet.nodes (long_node k sheet is))
      (only_if_there code.TooMany (IsTooLong s) (pass.length_fault MOST_TERMINALS (path_of field.Out (sheet_path k))) sheet.out
      (λ out there. only_long (IsTooLong s) MOST_TERMINALS _ out (told.long_out k sheet out is there)))))

  pub long_told : Long (pass.size_fault s)
  long_told =
      only_else code.TooMany (IsTooLong s) (in_list (path_of field.Palettes []) pass.palette_size_fault s.palettes)
      (in_list pass.sheets_at pass.sheet_size_fault s.sheets)
      (only_in_list code.TooMany (IsTooLong s) pass.palette_size_fault (path_of field.Palettes []) s.palettes long_palette)
      (only_in_list code.TooMany (IsTooLong s) pass.sheet_size_fault pass.sheets_at s.sheets long_sheet)

-- ---- numbers that name nothing

no_element : {A : Type 0} (xs : List A) → ltb 0 (length xs) ≡ false → xs ≡ []
no_element [] none = refl
no_element (x ∷ xs) none = absurd (let more = ltb-false 0 (length (x ∷ xs)) none in omega arith)

module _ (s : SceneRecord) where
  abbrev Lacking : Finding → Type 0
  Lacking found = Only code.NoSuchReference (IsLacking s) found

  -- the steps of a check
  abbrev then : (first second : Finding) → Lacking first → (first ≡ None → Lacking second) → Lacking (or_else first second)
  then = only_then code.NoSuchReference (IsLacking s)

  abbrev both : (first second : Finding) → Lacking first → Lacking second → Lacking (or_else first second)
  both = only_else code.NoSuchReference (IsLacking s)

  lacking_key : (p : ℕ) (c : ColoursRecord) → IsAt s.palettes p c → Lacking (pass.palette_reference_fault (palette_path p) c)
  lacking_key p c is =
      only_in_list code.NoSuchReference (IsLacking s) (λ at (key : StyleKeyRecord). pass.naming_fault (path_of field.Style at) c.styles key.style)
      (path_of field.Keys (palette_path p)) c.keys
      (λ j key at. only_lacking (IsLacking s) _ c.styles key.style (told.no_key_style p j c key is at))

  lacking_kind : (l : ℕ) (level : LevelRecord) → IsAt s.levels l level → (kind : Kind) → level.kind ≡ kind
      → Lacking (pass.kind_reference_fault s (level_path l) kind)
  lacking_kind l level is Colour of_kind = only_nothing code.NoSuchReference (IsLacking s)
  lacking_kind l level is (Cm32 palette) of_kind =
      only_lacking (IsLacking s) _ s.palettes palette (told.no_level_palette l palette level is of_kind)

  lacking_level : (l : ℕ) (level : LevelRecord) → IsAt s.levels l level → Lacking (level_reference_fault s (level_path l) level)
  unfolding level_reference_fault
  lacking_level l level is = lacking_kind l level is level.kind refl

  module _ (k : ℕ) (sheet : SheetRecord) (is : IsAt s.sheets k sheet) where
    lacking_shown : (c : ℕ) (column : ColumnRecord) → IsAt sheet.columns c column → (i : ℕ) (cell : ExposureRecord) → IsAt column.cells i cell
        → (shown : Shown) → cell.shown ≡ shown → Lacking (pass.shown_reference_fault s (cell_path k c i) shown)
    lacking_shown c column at i cell here (Drawing level index) shows =
        then (pass.naming_fault (path_of field.Level (cell_path k c i)) s.levels level)
        (pass.naming_fault (path_of field.Drawing (cell_path k c i)) (level_at s.levels level).drawings index)
        (only_lacking (IsLacking s) _ s.levels level (told.no_cell_level k c i level index sheet column cell is at here shows))
        (λ there.
        only_lacking (IsLacking s) _ (level_at s.levels level).drawings index
        (told.no_cell_drawing k c i level index sheet column cell (level_at s.levels level) is at here shows
        (slice_get-get_or s.levels level no_drawings (is_below _ _ _ _ there))))
    lacking_shown c column at i cell here (Sheet shown start) shows =
        only_lacking (IsLacking s) _ s.sheets shown (told.no_cell_sheet k c i shown start sheet column cell is at here shows)

    lacking_cell : (c : ℕ) (column : ColumnRecord) → IsAt sheet.columns c column → (i : ℕ) (cell : ExposureRecord) → IsAt column.cells i cell
        → Lacking (cell_reference_fault s (cell_path k c i) cell)
    unfolding cell_reference_fault
    lacking_cell c column at i cell here = lacking_shown c column at i cell here cell.shown refl

    lacking_column : (c : ℕ) (column : ColumnRecord) → IsAt sheet.columns c column → Lacking (pass.column_reference_fault s sheet (column_path k c) column)
    lacking_column c column at =
        both (if_there (pass.naming_fault (path_of field.Peg (column_path k c)) sheet.pegs) column.peg)
        (in_list (path_of field.Cells (column_path k c)) (cell_reference_fault s) column.cells)
        (only_if_there code.NoSuchReference (IsLacking s) (pass.naming_fault (path_of field.Peg (column_path k c)) sheet.pegs) column.peg
        (λ p there. only_lacking (IsLacking s) _ sheet.pegs p (told.no_column_peg k c p sheet column is at there)))
        (only_in_list code.NoSuchReference (IsLacking s) (cell_reference_fault s) (path_of field.Cells (column_path k c)) column.cells
        (lacking_cell c column at))

    lacking_peg : (i : ℕ) (peg : PegRecord) → IsAt sheet.pegs i peg → Lacking (pass.peg_reference_fault sheet (peg_path k i) peg)
    lacking_peg i peg at =
        only_if_there code.NoSuchReference (IsLacking s) (pass.naming_fault (path_of field.Parent (peg_path k i)) sheet.pegs) peg.parent
        (λ p there. only_lacking (IsLacking s) _ sheet.pegs p (told.no_peg_parent k i p sheet peg is at there))

    lacking_target : (path : List ℕ) (target : Ref) → ((named : Field) → Lacks sheet target named → IsLacking s (path_of named path))
        → Lacking (pass.target_fault sheet path target)
    lacking_target path (ToColumn c) wrong =
        only_lacking (IsLacking s) (path_of field.Column path) sheet.columns c (λ past. wrong field.Column (told.lacks_column c past))
    lacking_target path (ToNode n) wrong =
        only_lacking (IsLacking s) (path_of field.Node path) sheet.nodes n (λ past. wrong field.Node (told.lacks_node n past))

    lacking_input : (n : ℕ) (node : Node) → IsAt sheet.nodes n node → (input : Field) (target : Ref) → Takes node input target
        → Lacking (pass.target_fault sheet (path_of input (node_path k n)) target)
    lacking_input n node at input target takes =
        lacking_target (path_of input (node_path k n)) target
        (λ named lacks. told.no_node_input k n sheet node input named target is at takes lacks)

    lacking_node : (n : ℕ) (node : Node) → IsAt sheet.nodes n node → Lacking (node_reference_fault sheet (node_path k n) node)
    unfolding node_reference_fault
    lacking_node n (Pair op a b) at =
        both (pass.target_fault sheet (path_of field.First (node_path k n)) a) (pass.target_fault sheet (path_of field.Second (node_path k n)) b)
        (lacking_input n (Pair op a b) at field.First a (told.takes_first op a b))
        (lacking_input n (Pair op a b) at field.Second b (told.takes_second op a b))
    lacking_node n (Card style) at = only_nothing code.NoSuchReference (IsLacking s)
    lacking_node n (Shuffle input list) at = lacking_input n (Shuffle input list) at field.Input input (told.takes_shuffled input list)
    lacking_node n (Blur input radius) at = lacking_input n (Blur input radius) at field.Input input (told.takes_blurred input radius)
    lacking_node n (Keep input list) at = lacking_input n (Keep input list) at field.Input input (told.takes_kept input list)
    lacking_node n (Delete input list) at = lacking_input n (Delete input list) at field.Input input (told.takes_deleted input list)

    lacking_out : Lacking (if_there (in_list (path_of field.Out (sheet_path k)) (pass.target_fault sheet)) sheet.out)
    lacking_out =
        only_if_there code.NoSuchReference (IsLacking s) (in_list (path_of field.Out (sheet_path k)) (pass.target_fault sheet)) sheet.out
        (λ out there.
        only_in_list code.NoSuchReference (IsLacking s) (pass.target_fault sheet) (path_of field.Out (sheet_path k)) out
        (λ i target at. lacking_target _ target (λ named lacks. told.no_terminal k i sheet out named target is there at lacks)))

    lacking_sheet : Lacking (pass.sheet_reference_fault s (sheet_path k) sheet)
    lacking_sheet =
        both (in_list (path_of field.Pegs (sheet_path k)) (pass.peg_reference_fault sheet) sheet.pegs) _
        (only_in_list code.NoSuchReference (IsLacking s) (pass.peg_reference_fault sheet) (path_of field.Pegs (sheet_path k)) sheet.pegs lacking_peg)
        (both (in_list (path_of field.Columns (sheet_path k)) (pass.column_reference_fault s sheet) sheet.columns) _
        (only_in_list code.NoSuchReference (IsLacking s) (pass.column_reference_fault s sheet) (path_of field.Columns (sheet_path k)) sheet.columns
        lacking_column)
        (both (in_list (path_of field.Nodes (sheet_path k)) (node_reference_fault sheet) sheet.nodes)
        (if_there (in_list (path_of field.Out (sheet_path k)) (pass.target_fault sheet)) sheet.out)
        (only_in_list code.NoSuchReference (IsLacking s) (node_reference_fault sheet) (path_of field.Nodes (sheet_path k)) sheet.nodes lacking_node)
        lacking_out))

  pub lacking_told : Lacking (pass.reference_fault s)
  lacking_told =
      both (pass.camera_reference_fault s) _
      (only_if_there code.NoSuchReference (IsLacking s) (pass.naming_fault (path_of field.Peg (path_of field.Camera [])) (sheet_at s.sheets 0).pegs)
      s.camera.peg (λ p there. only_lacking (IsLacking s) _ (sheet_at s.sheets 0).pegs p (told.no_camera_peg p there)))
      (both (in_list (path_of field.Palettes []) pass.palette_reference_fault s.palettes) _
      (only_in_list code.NoSuchReference (IsLacking s) pass.palette_reference_fault (path_of field.Palettes []) s.palettes lacking_key)
      (both (in_list (path_of field.Levels []) (level_reference_fault s) s.levels) _
      (only_in_list code.NoSuchReference (IsLacking s) (level_reference_fault s) (path_of field.Levels []) s.levels lacking_level)
      (both (unless code.NoSuchReference (path_of field.Sheets []) (ltb 0 (length s.sheets)))
      (in_list pass.sheets_at (pass.sheet_reference_fault s) s.sheets)
      (only_unless code.NoSuchReference (IsLacking s) (path_of field.Sheets []) (ltb 0 (length s.sheets))
      (λ none. told.no_sheet (no_element s.sheets none)))
      (only_in_list code.NoSuchReference (IsLacking s) (pass.sheet_reference_fault s) pass.sheets_at s.sheets lacking_sheet))))

-- ---- what stands where an earlier thing stands

is_so : (b : Bool) → not b ≡ false → b ≡ true
is_so true failed = refl
is_so false failed = absurd (cc)

-- an element that fails a test is among those of which not all pass it
Fails : {A : Type 0} → (A → Bool) → List A → ℕ → Type 0
Fails {A} test xs n = (i : ℕ) × (a : A) × (i < n) × IsAt xs i a × (test a ≡ false)

fails_first : {A : Type 0} (test : A → Bool) (x : A) (xs : List A) (n : ℕ) (b : Bool) → test x ≡ b → (b && list_all test (take n xs)) ≡ false
    → (list_all test (take n xs) ≡ false → Fails test xs n) → Fails test (x ∷ xs) (suc n)
unfolding Fails
fails_first test x xs n false is failed rest = (0, x, omega arith, refl, is)
fails_first test x xs n true is failed rest =
    let (i, a, early, at, fails) = rest failed in
    (suc i, a, omega arith, at, fails)

not_all : {A : Type 0} (test : A → Bool) (xs : List A) (n : ℕ) → list_all test (take n xs) ≡ false → Fails test xs n
not_all test [] zero failed = absurd (cc)
not_all test [] (suc n) failed = absurd (cc)
not_all test (x ∷ xs) zero failed = absurd (cc)
not_all test (x ∷ xs) (suc n) failed = fails_first test x xs n (test x) refl failed (not_all test xs n)

only_later : {A : Type 0} (Wrong : List ℕ → Type 0) (apart : A → A → Bool) (path : ℕ → List ℕ) (xs : List A)
    → ((i j : ℕ) (a b : A) → IsAt xs i a → IsAt xs j b → i < j → apart a b ≡ false → Wrong (path j))
    → Only code.Overlap Wrong (each_from (λ i x. unless code.Overlap (path i) (list_all (λ earlier. apart earlier x) (take i xs))) 0 xs)
unfolding Fails
only_later Wrong apart path xs wrong =
    only_each code.Overlap Wrong (λ i x. unless code.Overlap (path i) (list_all (λ earlier. apart earlier x) (take i xs))) xs 0
    (λ n j b is at.
    let same : j ≡ n = omega arith in
    only_unless code.Overlap Wrong (path n) (list_all (λ earlier. apart earlier b) (take n xs))
    (λ failed.
    let (i, a, early, here, fails) = not_all (λ earlier. apart earlier b) xs n failed in
    wrong i n a b here (subst (λ (m : ℕ). IsAt xs m b) same at) early fails))

only_apart : {A : Type 0} (Wrong : List ℕ → Type 0) (apart : A → A → Bool) (at : List ℕ) (xs : List A)
    → ((i j : ℕ) (a b : A) → IsAt xs i a → IsAt xs j b → i < j → apart a b ≡ false → Wrong (index_at at j))
    → Only code.Overlap Wrong (apart_fault apart at xs)
unfolding apart_fault
only_apart Wrong apart at xs wrong = only_later Wrong apart (index_at at) xs wrong

both_same : (x y : Bool) → not (x && y) ≡ false → (x ≡ true) × (y ≡ true)
both_same true y failed = (refl, is_so y failed)
both_same false y failed = absurd (cc)

module _ (s : SceneRecord) where
  abbrev Taken : Finding → Type 0
  Taken found = Only code.Overlap (IsTaken s) found

  taken_palette : (p : ℕ) (c : ColoursRecord) → IsAt s.palettes p c → Taken (pass.palette_overlap_fault (palette_path p) c)
  taken_palette p c is =
      only_apart (IsTaken s) pass.differ_in_row_or_style (path_of field.Keys (palette_path p)) c.keys
      (λ i j a b first second early failed.
      let same = both_same (eqb a.style b.style) (eqb a.row b.row) failed in
      told.taken_style_key p i j c a b is first second early (eqb-true a.style b.style same.0) (eqb-true a.row b.row same.1))

  taken_files : Taken (file_fault s.levels)
  unfolding file_fault
  taken_files =
      only_later (IsTaken s) (λ a b. not (bytes_eq a b)) (pass.file_path 0 s.levels) (files_of s.levels)
      (λ d e a b first second early failed.
      told.taken_drawing d e b (first ∙ ap (λ (name : List ℕ). Some name) ((bytes_eq-Decides a b).0 (is_so (bytes_eq a b) failed))) second early)

  module _ (k : ℕ) (sheet : SheetRecord) (is : IsAt s.sheets k sheet) where
    taken_peg : (n : ℕ) (peg : PegRecord) → IsAt sheet.pegs n peg → Taken (pass.peg_overlap_fault (peg_path k n) peg)
    taken_peg n peg at =
        only_apart (IsTaken s) pass.differ_in_row (path_of field.Keys (peg_path k n)) peg.keys
        (λ i j a b first second early failed.
        told.taken_peg_key k n i j sheet peg a b is at first second early (eqb-true a.row b.row (is_so (eqb a.row b.row) failed)))

    taken_column : (c : ℕ) (column : ColumnRecord) → IsAt sheet.columns c column → Taken (pass.column_overlap_fault (column_path k c) column)
    taken_column c column at =
        only_apart (IsTaken s) pass.are_apart (path_of field.Cells (column_path k c)) column.cells
        (λ i j a b first second early failed.
        let shared : max a.from b.from ≤ min a.to b.to = ltb-false (min a.to b.to) (max a.from b.from) failed in
        told.taken_cell k c i j (max a.from b.from) sheet column a b is at first second early (omega arith) (omega arith) (omega arith) (omega arith))

    taken_sheet : Taken (pass.sheet_overlap_fault (sheet_path k) sheet)
    taken_sheet =
        only_else code.Overlap (IsTaken s) (in_list (path_of field.Pegs (sheet_path k)) pass.peg_overlap_fault sheet.pegs)
        (in_list (path_of field.Columns (sheet_path k)) pass.column_overlap_fault sheet.columns)
        (only_in_list code.Overlap (IsTaken s) pass.peg_overlap_fault (path_of field.Pegs (sheet_path k)) sheet.pegs taken_peg)
        (only_in_list code.Overlap (IsTaken s) pass.column_overlap_fault (path_of field.Columns (sheet_path k)) sheet.columns taken_column)

  pub taken_told : Taken (pass.overlap_fault s)
  taken_told =
      only_else code.Overlap (IsTaken s) (in_list (path_of field.Palettes []) pass.palette_overlap_fault s.palettes)
      (or_else (file_fault s.levels) (in_list pass.sheets_at pass.sheet_overlap_fault s.sheets))
      (only_in_list code.Overlap (IsTaken s) pass.palette_overlap_fault (path_of field.Palettes []) s.palettes taken_palette)
      (only_else code.Overlap (IsTaken s) (file_fault s.levels) (in_list pass.sheets_at pass.sheet_overlap_fault s.sheets) taken_files
      (only_in_list code.Overlap (IsTaken s) pass.sheet_overlap_fault pass.sheets_at s.sheets taken_sheet))

-- ---- cycles and chains

-- an element of a list of what each element of another one has
pub had : {A B : Type 0} (v : A → B) (xs : List A) (k : ℕ) (y : B) → IsAt (map v xs) k y → (x : A) × IsAt xs k x × (v x ≡ y)
had v [] k y at = absurd (cc)
had v (x ∷ xs) zero y at = (x, refl, cc)
had v (x ∷ xs) (suc k) y at = had v xs k y at

only_on_cycle : CyclesTold → (code : SceneCode) (Wrong : List ℕ → Type 0) (links : Links) (at : List ℕ)
    → ((i : ℕ) → i < length links → LiesOnCycle links i → Wrong (index_at at i)) → Only code Wrong (cycle_fault code links at)
unfolding cycle_fault
only_on_cycle told code Wrong links at wrong =
    only_each code Wrong (λ i (targets : List ℕ). unless code (index_at at i) (not (lies_on_cycle links i))) links 0
    (λ n i targets is here.
    let below = slice_get_within links i targets here in
    only_unless code Wrong (index_at at n) (not (lies_on_cycle links n))
    (λ failed. wrong n (omega arith) ((told links n).0 (is_so (lies_on_cycle links n) failed))))

only_too_long : ChainsTold → (Wrong : List ℕ → Type 0) (most : ℕ) (links : Links) (at : List ℕ)
    → ((i : ℕ) → i < length links → HasChain links most i → Wrong (index_at at i)) → Only code.TooMany Wrong (long_chain_fault most links at)
unfolding long_chain_fault
only_too_long told Wrong most links at wrong =
    only_each code.TooMany Wrong (λ i (targets : List ℕ). unless code.TooMany (index_at at i) (not (has_chain links most i))) links 0
    (λ n i targets is here.
    let below = slice_get_within links i targets here in
    only_unless code.TooMany Wrong (index_at at n) (not (has_chain links most n))
    (λ failed. wrong n (omega arith) ((told links most n).0 (is_so (has_chain links most n) failed))))

pub parents_length : (sheet : SheetRecord) → length (parent_links sheet) ≡ length sheet.pegs
parents_length sheet = length-map sheet.pegs (λ (peg : PegRecord). option_to_list peg.parent)

module _ (cycles : CyclesTold) (chains : ChainsTold) (s : SceneRecord) where
  pub pegs_told : Only code.PegCycle (IsPegCycle s) (pass.peg_cycle_fault (map parent_links s.sheets))
  pegs_told =
      only_in_list code.PegCycle (IsPegCycle s) pass.sheet_peg_cycle_fault pass.sheets_at (map parent_links s.sheets)
      (λ k links at.
      let (sheet, is, same) = had parent_links s.sheets k links at in
      only_on_cycle cycles code.PegCycle (IsPegCycle s) links (path_of field.Pegs (sheet_path k))
      (λ i below cycle.
      told.peg_on_cycle k i sheet is (rw (← parents_length sheet, same) below) (subst (λ (l : Links). LiesOnCycle l i) (sym same) cycle)))

  pub nodes_told : Only code.NodeCycle (IsNodeCycle s) (pass.node_cycle_fault s)
  nodes_told =
      only_in_list code.NodeCycle (IsNodeCycle s) pass.sheet_node_cycle_fault pass.sheets_at s.sheets
      (λ k sheet at.
      only_on_cycle cycles code.NodeCycle (IsNodeCycle s) (input_links sheet) (path_of field.Nodes (sheet_path k))
      (λ n below cycle. told.node_on_cycle k n sheet at (rw (← length-map sheet.nodes inputs_of) below) cycle))

  pub sheets_told : Only code.SheetCycle (IsSheetCycle s) (pass.sheet_cycle_fault (sheet_links s.sheets))
  sheets_told =
      only_on_cycle cycles code.SheetCycle (IsSheetCycle s) (sheet_links s.sheets) pass.sheets_at
      (λ k below cycle. told.sheet_on_cycle k (rw (← length-map s.sheets sheets_in) below) cycle)

  pub chains_told : Only code.TooMany (IsLongChain s) (pass.chain_fault (map parent_links s.sheets) (sheet_links s.sheets))
  chains_told =
      only_else code.TooMany (IsLongChain s) (in_list pass.sheets_at pass.sheet_chain_fault (map parent_links s.sheets))
      (long_chain_fault DEEPEST_NEST (sheet_links s.sheets) pass.sheets_at)
      (only_in_list code.TooMany (IsLongChain s) pass.sheet_chain_fault pass.sheets_at (map parent_links s.sheets)
      (λ k links at.
      let (sheet, is, same) = had parent_links s.sheets k links at in
      only_too_long chains (IsLongChain s) LONGEST_PEG_CHAIN links (path_of field.Pegs (sheet_path k))
      (λ i below chain.
      told.long_peg_chain k i sheet is (rw (← parents_length sheet, same) below)
      (subst (λ (l : Links). HasChain l LONGEST_PEG_CHAIN i) (sym same) chain))))
      (only_too_long chains (IsLongChain s) DEEPEST_NEST (sheet_links s.sheets) pass.sheets_at
      (λ k below chain. told.long_nest k (rw (← length-map s.sheets sheets_in) below) chain))
