-- Where a pass finds nothing, nothing of its kind is wrong.
use Rattle.std.proofs.Common.{◌≡◌, ◌≢◌, ◌<◌, ◌≤◌, ◌∙◌, ℕ, ltb, option_map, List, [], Option, Some, None, AllPairs, length, map, get_or, refl, sym, ap, subst, arith}
use Rattle.std.proofs.lemmas.Bool.{false≢true}
use Rattle.std.proofs.lemmas.Option.{slice_get_within, get_or_from_slice_get, slice_get-map}
use Rattle.std.proofs.lemmas.List.{length-map}
use Rattle.xs_base.specs.declared.limits.TheConstants.{MOST_STYLES, MOST_STYLE_KEYS, MOST_FILTER_STYLES, LONGEST_SHUFFLE, MOST_COLUMNS, MOST_NODES, MOST_TERMINALS, LONGEST_PEG_CHAIN, DEEPEST_NEST}
use Rattle.xs_fault.specs.Paths.{path_of, index_at}
use Rattle.xs_fault.specs.declared.field.Field.{Field}
use Rattle.xs_fault.specs.declared.field.Field.TheVariants as field
use Rattle.xs_fault.specs.declared.code.SceneCode.TheVariants as code
use Rattle.xs_scene.specs.declared.level.Kind.{Kind}
use Rattle.xs_scene.specs.declared.level.Kind.TheVariants.{Cm32}
use Rattle.xs_scene.specs.declared.column.Shown.{Shown}
use Rattle.xs_scene.specs.declared.column.Shown.TheVariants.{Drawing, Sheet}
use Rattle.xs_scene.specs.declared.node.Ref.{Ref}
use Rattle.xs_scene.specs.declared.node.Node.{Node}
use Rattle.xs_scene.specs.declared.node.Node.TheVariants.{Shuffle, Keep, Delete}
use Rattle.xs_scene.specs.Records.{SceneRecord, SheetRecord, ColoursRecord, StyleKeyRecord, LevelRecord, ColumnRecord, ExposureRecord}
use Rattle.xs_meaning.specs.Walk.{sheet_at}
use Rattle.xs_meaning.specs.Inputs.{inputs_of}
use Rattle.xs_graph.specs.Paths.{Links, HasChain}
use Rattle.xs_check.specs.Finding.{Finding, unless, or_else, in_list, if_there}
use Rattle.xs_check.specs.Good.{level_at, no_drawings, IsThere, files_of}
use Rattle.xs_check.specs.Links.{parent_links, input_links, sheets_in, sheet_links}
use Rattle.xs_check.specs.Passes as pass
use Rattle.xs_check.specs.Passes.{level_reference_fault, cell_reference_fault, node_reference_fault, file_fault, cycle_fault, long_chain_fault}
use Rattle.xs_check.specs.Told.{IsAt, IsTooLong, IsLacking, IsTaken, IsPegCycle, IsNodeCycle, IsSheetCycle, IsLongChain, Lacks, Takes, palette_path, level_path, sheet_path, peg_path, column_path, cell_path, node_path}
use Rattle.xs_check.specs.Told.{long_styles, long_style_keys, long_columns, long_nodes, long_shuffle, long_keep, long_delete, long_out}
use Rattle.xs_check.specs.Told.{lacks_column, lacks_node, takes_first, takes_second, takes_shuffled, takes_blurred, takes_kept, takes_deleted}
use Rattle.xs_check.specs.Told.{no_camera_peg, no_key_style, no_level_palette, no_sheet, no_peg_parent, no_column_peg, no_cell_level, no_cell_drawing, no_cell_sheet, no_node_input, no_terminal}
use Rattle.xs_check.specs.Told.{taken_style_key, taken_drawing, taken_peg_key, taken_cell, peg_on_cycle, node_on_cycle, sheet_on_cycle, long_peg_chain, long_nest}
use Rattle.xs_index.specs.Apart.{AreApart, DifferInRow, DifferInRowOrStyle}
use Rattle.xs_check.proofs.Goods.{CyclesTold, ChainsTold, both_none, is_below, is_at_most, at_index, not_cyclic, not_long, shown_there, each_apart_pairs, files_pairs}
use Rattle.xs_check.proofs.Telling.{parents_length}
use Rattle.xs_check.proofs.Tests.{cells_decided, rows_decided, keys_decided}

-- ---- an element of a list

at_item : {A : Type 0} (F : List ℕ → A → Finding) (at : List ℕ) (xs : List A) → in_list at F xs ≡ None → (i : ℕ) (x : A) → IsAt xs i x
    → F (index_at at i) x ≡ None
at_item F at xs none i x here =
    subst (λ (y : _). F (index_at at i) y ≡ None) (get_or_from_slice_get xs i x x here) (at_index F at xs none i x (slice_get_within xs i x here))

if_item : {A : Type 0} (F : A → Finding) (o : Option A) (x : A) → if_there F o ≡ None → o ≡ Some x → F x ≡ None
if_item F o x none is = sym (ap (λ (o : Option _). if_there F o) is) ∙ none

within : {A : Type 0} (limit : ℕ) (at : List ℕ) (xs : List A) → pass.length_fault limit at xs ≡ None → limit < length xs → ⊥
within limit at xs none more = let few = is_at_most code.TooMany at (length xs) limit none in omega arith

named : {A : Type 0} (at : List ℕ) (things : List A) (number : ℕ) → pass.naming_fault at things number ≡ None → length things ≤ number → ⊥
named at things number none past = let there = is_below code.NoSuchReference at number (length things) none in omega arith

-- ---- lists that are too long

module _ (s : SceneRecord) (none : pass.size_fault s ≡ None) where
  short_lists : (in_list (path_of field.Palettes []) pass.palette_size_fault s.palettes ≡ None) × (in_list pass.sheets_at pass.sheet_size_fault s.sheets ≡ None)
  short_lists = both_none _ _ none

  short_palette : (p : ℕ) (c : ColoursRecord) → IsAt s.palettes p c
      → (pass.length_fault MOST_STYLES (palette_path p) c.styles ≡ None)
      × (pass.length_fault MOST_STYLE_KEYS (path_of field.Keys (palette_path p)) c.keys ≡ None)
  short_palette p c is =
      both_none (pass.length_fault MOST_STYLES (palette_path p) c.styles) _
      (at_item pass.palette_size_fault (path_of field.Palettes []) s.palettes short_lists.0 p c is)

  -- what is looked at in a sheet
  record ShortSheet (k : ℕ) (sheet : SheetRecord) : Type 0 where
    few_columns : pass.length_fault MOST_COLUMNS (path_of field.Columns (sheet_path k)) sheet.columns ≡ None
    few_nodes : pass.length_fault MOST_NODES (path_of field.Nodes (sheet_path k)) sheet.nodes ≡ None
    entries : in_list (path_of field.Nodes (sheet_path k)) pass.node_size_fault sheet.nodes ≡ None
    few_out : if_there (pass.length_fault MOST_TERMINALS (path_of field.Out (sheet_path k))) sheet.out ≡ None

  short_sheet : (k : ℕ) (sheet : SheetRecord) → IsAt s.sheets k sheet → ShortSheet k sheet
  short_sheet k sheet is =
      let sizes = at_item pass.sheet_size_fault pass.sheets_at s.sheets short_lists.1 k sheet is in
      let columns = both_none (pass.length_fault MOST_COLUMNS (path_of field.Columns (sheet_path k)) sheet.columns) _ sizes in
      let nodes = both_none (pass.length_fault MOST_NODES (path_of field.Nodes (sheet_path k)) sheet.nodes) _ columns.1 in
      let entries = both_none (in_list (path_of field.Nodes (sheet_path k)) pass.node_size_fault sheet.nodes) _ nodes.1 in
      record { few_columns = columns.0; few_nodes = nodes.0; entries = entries.0; few_out = entries.1 }

  short_node : (k : ℕ) (sheet : SheetRecord) → IsAt s.sheets k sheet → (n : ℕ) (node : Node) → IsAt sheet.nodes n node
      → pass.node_size_fault (node_path k n) node ≡ None
  short_node k sheet is n node at =
      at_item pass.node_size_fault (path_of field.Nodes (sheet_path k)) sheet.nodes (short_sheet k sheet is).entries n node at

  pub none_too_long : (at : List ℕ) → IsTooLong s at → ⊥
  none_too_long at (long_styles p c is more) = within MOST_STYLES _ c.styles (short_palette p c is).0 more
  none_too_long at (long_style_keys p c is more) = within MOST_STYLE_KEYS _ c.keys (short_palette p c is).1 more
  none_too_long at (long_columns k sheet is more) = within MOST_COLUMNS _ sheet.columns (short_sheet k sheet is).few_columns more
  none_too_long at (long_nodes k sheet is more) = within MOST_NODES _ sheet.nodes (short_sheet k sheet is).few_nodes more
  none_too_long at (long_shuffle k n sheet input list is here more) =
      within LONGEST_SHUFFLE _ list (short_node k sheet is n (Shuffle input list) here) more
  none_too_long at (long_keep k n sheet input list is here more) =
      within MOST_FILTER_STYLES _ list (short_node k sheet is n (Keep input list) here) more
  none_too_long at (long_delete k n sheet input list is here more) =
      within MOST_FILTER_STYLES _ list (short_node k sheet is n (Delete input list) here) more
  none_too_long at (long_out k sheet out is there more) =
      within MOST_TERMINALS _ out (if_item _ sheet.out out (short_sheet k sheet is).few_out there) more

-- ---- numbers that name nothing

lacks_none : (sheet : SheetRecord) (path : List ℕ) (target : Ref) (named : Field) → pass.target_fault sheet path target ≡ None → Lacks sheet target named → ⊥
lacks_none sheet path target field none (lacks_column c past) = named _ sheet.columns c none past
lacks_none sheet path target field none (lacks_node n past) = named _ sheet.nodes n none past

takes_none : (sheet : SheetRecord) (path : List ℕ) (node : Node) (key : Field) (target : Ref) → node_reference_fault sheet path node ≡ None → Takes node key target
    → pass.target_fault sheet (path_of key path) target ≡ None
unfolding node_reference_fault
takes_none sheet path node key target none (takes_first op a b) =
    (both_none (pass.target_fault sheet (path_of field.First path) a) (pass.target_fault sheet (path_of field.Second path) b) none).0
takes_none sheet path node key target none (takes_second op a b) =
    (both_none (pass.target_fault sheet (path_of field.First path) a) (pass.target_fault sheet (path_of field.Second path) b) none).1
takes_none sheet path node key target none (takes_shuffled from list) = none
takes_none sheet path node key target none (takes_blurred from radius) = none
takes_none sheet path node key target none (takes_kept from list) = none
takes_none sheet path node key target none (takes_deleted from list) = none

shown_none : (s : SceneRecord) (path : List ℕ) (cell : ExposureRecord) (shown : Shown) → cell_reference_fault s path cell ≡ None → cell.shown ≡ shown
    → pass.shown_reference_fault s path shown ≡ None
unfolding cell_reference_fault
shown_none s path cell shown none is = sym (ap (λ (shown : Shown). pass.shown_reference_fault s path shown) is) ∙ none

kind_none : (s : SceneRecord) (path : List ℕ) (level : LevelRecord) (kind : Kind) → level_reference_fault s path level ≡ None → level.kind ≡ kind
    → pass.kind_reference_fault s path kind ≡ None
unfolding level_reference_fault
kind_none s path level kind none is = sym (ap (λ (kind : Kind). pass.kind_reference_fault s path kind) is) ∙ none

module _ (s : SceneRecord) (none : pass.reference_fault s ≡ None) where
  -- what is looked at in a scene
  record Referring : Type 0 where
    camera : pass.camera_reference_fault s ≡ None
    palettes : in_list (path_of field.Palettes []) pass.palette_reference_fault s.palettes ≡ None
    levels : in_list (path_of field.Levels []) (level_reference_fault s) s.levels ≡ None
    sheet : unless code.NoSuchReference (path_of field.Sheets []) (ltb 0 (length s.sheets)) ≡ None
    sheets : in_list pass.sheets_at (pass.sheet_reference_fault s) s.sheets ≡ None

  referring : Referring
  referring =
      let camera = both_none (pass.camera_reference_fault s) _ none in
      let palettes = both_none (in_list (path_of field.Palettes []) pass.palette_reference_fault s.palettes) _ camera.1 in
      let levels = both_none (in_list (path_of field.Levels []) (level_reference_fault s) s.levels) _ palettes.1 in
      let sheet = both_none (unless code.NoSuchReference (path_of field.Sheets []) (ltb 0 (length s.sheets))) _ levels.1 in
      record { camera = camera.0; palettes = palettes.0; levels = levels.0; sheet = sheet.0; sheets = sheet.1 }

  -- and in a sheet
  record ReferringSheet (k : ℕ) (sheet : SheetRecord) : Type 0 where
    pegs : in_list (path_of field.Pegs (sheet_path k)) (pass.peg_reference_fault sheet) sheet.pegs ≡ None
    columns : in_list (path_of field.Columns (sheet_path k)) (pass.column_reference_fault s sheet) sheet.columns ≡ None
    nodes : in_list (path_of field.Nodes (sheet_path k)) (node_reference_fault sheet) sheet.nodes ≡ None
    out : if_there (in_list (path_of field.Out (sheet_path k)) (pass.target_fault sheet)) sheet.out ≡ None

  referring_sheet : (k : ℕ) (sheet : SheetRecord) → IsAt s.sheets k sheet → ReferringSheet k sheet
  referring_sheet k sheet is =
      let parts = at_item (pass.sheet_reference_fault s) pass.sheets_at s.sheets referring.sheets k sheet is in
      let pegs = both_none (in_list (path_of field.Pegs (sheet_path k)) (pass.peg_reference_fault sheet) sheet.pegs) _ parts in
      let columns = both_none (in_list (path_of field.Columns (sheet_path k)) (pass.column_reference_fault s sheet) sheet.columns) _ pegs.1 in
      let nodes = both_none (in_list (path_of field.Nodes (sheet_path k)) (node_reference_fault sheet) sheet.nodes) _ columns.1 in
      record { pegs = pegs.0; columns = columns.0; nodes = nodes.0; out = nodes.1 }

  column_parts : (k : ℕ) (sheet : SheetRecord) → IsAt s.sheets k sheet → (c : ℕ) (column : ColumnRecord) → IsAt sheet.columns c column
      → (if_there (pass.naming_fault (path_of field.Peg (column_path k c)) sheet.pegs) column.peg ≡ None)
      × (in_list (path_of field.Cells (column_path k c)) (cell_reference_fault s) column.cells ≡ None)
  column_parts k sheet is c column here =
      both_none (if_there (pass.naming_fault (path_of field.Peg (column_path k c)) sheet.pegs) column.peg) _
      (at_item (pass.column_reference_fault s sheet) (path_of field.Columns (sheet_path k)) sheet.columns (referring_sheet k sheet is).columns c column here)

  shown_at : (k : ℕ) (sheet : SheetRecord) → IsAt s.sheets k sheet → (c : ℕ) (column : ColumnRecord) → IsAt sheet.columns c column
      → (i : ℕ) (cell : ExposureRecord) → IsAt column.cells i cell → (shown : Shown) → cell.shown ≡ shown → IsThere s shown
  shown_at k sheet is c column here i cell at shown shows =
      shown_there s (cell_path k c i) shown
      (shown_none s (cell_path k c i) cell shown
      (at_item (cell_reference_fault s) (path_of field.Cells (column_path k c)) column.cells (column_parts k sheet is c column here).1 i cell at) shows)

  pub none_lacking : (at : List ℕ) → IsLacking s at → ⊥
  none_lacking at (no_camera_peg p there past) =
      named _ (sheet_at s.sheets 0).pegs p
      (if_item (pass.naming_fault (path_of field.Peg (path_of field.Camera [])) (sheet_at s.sheets 0).pegs) s.camera.peg p referring.camera there) past
  none_lacking at (no_key_style p j c key is here past) =
      named _ c.styles key.style
      (at_item (λ at (key : StyleKeyRecord). pass.naming_fault (path_of field.Style at) c.styles key.style) (path_of field.Keys (palette_path p)) c.keys
      (at_item pass.palette_reference_fault (path_of field.Palettes []) s.palettes referring.palettes p c is) j key here)
      past
  none_lacking at (no_level_palette l p level is of_kind past) =
      named _ s.palettes p
      (kind_none s (level_path l) level (Cm32 p)
      (at_item (level_reference_fault s) (path_of field.Levels []) s.levels referring.levels l level is) of_kind)
      past
  none_lacking at (no_sheet none) =
      let there = is_below code.NoSuchReference (path_of field.Sheets []) 0 (length s.sheets) referring.sheet in
      let empty : length s.sheets ≡ 0 = rw none refl in
      omega arith
  none_lacking at (no_peg_parent k i p sheet peg is here there past) =
      named _ sheet.pegs p
      (if_item (pass.naming_fault (path_of field.Parent (peg_path k i)) sheet.pegs) peg.parent p
      (at_item (pass.peg_reference_fault sheet) (path_of field.Pegs (sheet_path k)) sheet.pegs (referring_sheet k sheet is).pegs i peg here) there)
      past
  none_lacking at (no_column_peg k c p sheet column is here there past) =
      named _ sheet.pegs p
      (if_item (pass.naming_fault (path_of field.Peg (column_path k c)) sheet.pegs) column.peg p (column_parts k sheet is c column here).0 there) past
  none_lacking at (no_cell_level k c i level index sheet column cell is here at_cell shows past) =
      let there = shown_at k sheet is c column here i cell at_cell (Drawing level index) shows in
      let inside = there.0 in
      omega arith
  none_lacking at (no_cell_drawing k c i level index sheet column cell owner is here at_cell shows owned past) =
      let there = shown_at k sheet is c column here i cell at_cell (Drawing level index) shows in
      let inside = there.1 in
      let same : length (level_at s.levels level).drawings ≡ length owner.drawings =
      ap (λ (l : LevelRecord). length l.drawings) (get_or_from_slice_get s.levels level owner no_drawings owned) in
      omega arith
  none_lacking at (no_cell_sheet k c i shown start sheet column cell is here at_cell shows past) =
      let inside = shown_at k sheet is c column here i cell at_cell (Sheet shown start) shows in
      omega arith
  none_lacking at (no_node_input k n sheet node input name target is here takes lacks) =
      lacks_none sheet (path_of input (node_path k n)) target name
      (takes_none sheet (node_path k n) node input target
      (at_item (node_reference_fault sheet) (path_of field.Nodes (sheet_path k)) sheet.nodes (referring_sheet k sheet is).nodes n node here) takes)
      lacks
  none_lacking at (no_terminal k i sheet out name target is there here lacks) =
      lacks_none sheet (index_at (path_of field.Out (sheet_path k)) i) target name
      (at_item (pass.target_fault sheet) (path_of field.Out (sheet_path k)) out
      (if_item (in_list (path_of field.Out (sheet_path k)) (pass.target_fault sheet)) sheet.out out (referring_sheet k sheet is).out there) i target here)
      lacks

-- ---- what stands where an earlier thing stands

pairs_at : {A : Type 0} (Apart : A → A → Type 0) (xs : List A) (i j : ℕ) (a b : A) → AllPairs Apart xs → IsAt xs i a → IsAt xs j b → i < j → Apart a b
pairs_at Apart xs i j a b pairs first second less =
    subst (λ (y : _). Apart y b) (get_or_from_slice_get xs i a b first)
    (subst (λ (y : _). Apart (get_or xs i b) y) (get_or_from_slice_get xs j b b second) (pairs i j b less (slice_get_within xs j b second)))

module _ (s : SceneRecord) (none : pass.overlap_fault s ≡ None) where
  apart_parts : (in_list (path_of field.Palettes []) pass.palette_overlap_fault s.palettes ≡ None)
      × (or_else (file_fault s.levels) (in_list pass.sheets_at pass.sheet_overlap_fault s.sheets) ≡ None)
  apart_parts = both_none _ _ none

  file_parts : (file_fault s.levels ≡ None) × (in_list pass.sheets_at pass.sheet_overlap_fault s.sheets ≡ None)
  file_parts = both_none (file_fault s.levels) (in_list pass.sheets_at pass.sheet_overlap_fault s.sheets) apart_parts.1

  sheet_parts : (k : ℕ) (sheet : SheetRecord) → IsAt s.sheets k sheet
      → (in_list (path_of field.Pegs (sheet_path k)) pass.peg_overlap_fault sheet.pegs ≡ None)
      × (in_list (path_of field.Columns (sheet_path k)) pass.column_overlap_fault sheet.columns ≡ None)
  sheet_parts k sheet is =
      both_none (in_list (path_of field.Pegs (sheet_path k)) pass.peg_overlap_fault sheet.pegs) _
      (at_item pass.sheet_overlap_fault pass.sheets_at s.sheets file_parts.1 k sheet is)

  pub none_taken : (at : List ℕ) → IsTaken s at → ⊥
  none_taken at (taken_style_key p i j c a b is first second early style row) =
      pairs_at DifferInRowOrStyle c.keys i j a b
      (each_apart_pairs DifferInRowOrStyle pass.differ_in_row_or_style keys_decided (path_of field.Keys (palette_path p)) c.keys
      (at_item pass.palette_overlap_fault (path_of field.Palettes []) s.palettes apart_parts.0 p c is))
      first second early style row
  none_taken at (taken_drawing d e name first second early) =
      pairs_at (λ (a : List ℕ) (b : List ℕ). a ≢ b) (files_of s.levels) d e name name (files_pairs s.levels file_parts.0) first second early refl
  none_taken at (taken_peg_key k n i j sheet peg a b is here first second early row) =
      pairs_at DifferInRow peg.keys i j a b
      (each_apart_pairs DifferInRow pass.differ_in_row rows_decided (path_of field.Keys (peg_path k n)) peg.keys
      (at_item pass.peg_overlap_fault (path_of field.Pegs (sheet_path k)) sheet.pegs (sheet_parts k sheet is).0 n peg here))
      first second early row
  none_taken at (taken_cell k c i j row sheet column a b is here first second early from_a to_a from_b to_b) =
      pairs_at AreApart column.cells i j a b
      (each_apart_pairs AreApart pass.are_apart cells_decided (path_of field.Cells (column_path k c)) column.cells
      (at_item pass.column_overlap_fault (path_of field.Columns (sheet_path k)) sheet.columns (sheet_parts k sheet is).1 c column here))
      first second early row from_a to_a from_b to_b

-- ---- cycles and chains

mapped_item : {A B : Type 0} (v : A → B) (F : List ℕ → B → Finding) (at : List ℕ) (xs : List A) → in_list at F (map v xs) ≡ None → (i : ℕ) (x : A)
    → IsAt xs i x → F (index_at at i) (v x) ≡ None
mapped_item v F at xs none i x here = at_item F at (map v xs) none i (v x) (slice_get-map v xs i ∙ ap (λ (o : Option _). option_map v o) here)

module _ (cycles : CyclesTold) (s : SceneRecord) where
  pub none_peg_cycle : pass.peg_cycle_fault (map parent_links s.sheets) ≡ None → (at : List ℕ) → IsPegCycle s at → ⊥
  none_peg_cycle none at (peg_on_cycle k i sheet is below cycle) =
      not_cyclic cycles code.PegCycle (parent_links sheet) (path_of field.Pegs (sheet_path k))
      (mapped_item parent_links pass.sheet_peg_cycle_fault pass.sheets_at s.sheets none k sheet is) i (rw (parents_length sheet) below) cycle

  pub none_node_cycle : pass.node_cycle_fault s ≡ None → (at : List ℕ) → IsNodeCycle s at → ⊥
  none_node_cycle none at (node_on_cycle k n sheet is below cycle) =
      not_cyclic cycles code.NodeCycle (input_links sheet) (path_of field.Nodes (sheet_path k))
      (at_item pass.sheet_node_cycle_fault pass.sheets_at s.sheets none k sheet is) n (rw (length-map sheet.nodes inputs_of) below) cycle

  pub none_sheet_cycle : pass.sheet_cycle_fault (sheet_links s.sheets) ≡ None → (at : List ℕ) → IsSheetCycle s at → ⊥
  none_sheet_cycle none at (sheet_on_cycle k below cycle) =
      not_cyclic cycles code.SheetCycle (sheet_links s.sheets) pass.sheets_at none k (rw (length-map s.sheets sheets_in) below) cycle

chain_none : ChainsTold → (most : ℕ) (links : Links) (at : List ℕ) → long_chain_fault most links at ≡ None → (k : ℕ) → k < length links
    → HasChain links most k → ⊥
chain_none told most links at none k below chain = false≢true (sym (not_long most links at none k below) ∙ (told links most k).1 chain)

pub none_long_chain : ChainsTold → (s : SceneRecord) → pass.chain_fault (map parent_links s.sheets) (sheet_links s.sheets) ≡ None
    → (at : List ℕ) → IsLongChain s at → ⊥
none_long_chain told s none at (long_peg_chain k i sheet is below chain) =
    let parts = both_none (in_list pass.sheets_at pass.sheet_chain_fault (map parent_links s.sheets)) _ none in
    chain_none told LONGEST_PEG_CHAIN (parent_links sheet) (path_of field.Pegs (sheet_path k))
    (mapped_item parent_links pass.sheet_chain_fault pass.sheets_at s.sheets parts.0 k sheet is) i (rw (parents_length sheet) below) chain
none_long_chain told s none at (long_nest k below chain) =
    let parts = both_none (in_list pass.sheets_at pass.sheet_chain_fault (map parent_links s.sheets)) _ none in
    chain_none told DEEPEST_NEST (sheet_links s.sheets) pass.sheets_at parts.1 k (rw (length-map s.sheets sheets_in) below) chain
