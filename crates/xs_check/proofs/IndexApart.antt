-- Where no two items of a list of an index share a row, no cells or keys of its scene do.
use Rattle.std.proofs.Common.{◌≡◌, ◌<◌, ◌∙◌, ℕ, Bool, List, [], Some, None, Ok, All, AllPairs, Decides, length, get_or, refl, ap, subst, arith}
use Rattle.std.proofs.lemmas.List.{get_or_default}
use Rattle.xs_fault.specs.Paths.{path_of}
use Rattle.xs_fault.specs.Paths.{index_at}
use Rattle.xs_fault.specs.declared.field.Field.TheVariants as field
use Rattle.xs_scene.specs.Records.{SceneRecord, SheetRecord, ColumnRecord, PegRecord, ColoursRecord, ExposureRecord, PegKeyRecord, StyleKeyRecord}
use Rattle.xs_meaning.specs.Drawings.{no_colours}
use Rattle.xs_meaning.specs.Places.{no_peg}
use Rattle.xs_meaning.specs.Walk.{no_sheet, no_column, sheet_at}
use Rattle.xs_meaning.proofs.Lists.{All-slice_index_or}
use Rattle.xs_index.specs.Apart.{AreApart, DifferInRow, DifferInRowOrStyle}
use Rattle.xs_index.specs.ApartTold.{peg_keys_told, style_keys_told, cells_told}
use Rattle.xs_index.specs.Index.{IsSheetIndex, IsIndexOf, no_lists}
use Rattle.xs_index.specs.Order.{IsInOrder}
use Rattle.xs_index.specs.declared.index.SheetIndex.{SheetIndex}
use Rattle.xs_index.specs.declared.index.Index.{Index}
use Rattle.xs_check.specs.Finding.{Finding, or_else, in_list}
use Rattle.xs_check.specs.Passes.{are_apart, differ_in_row, differ_in_row_or_style, apart_fault, file_fault, palette_overlap_fault, peg_overlap_fault, column_overlap_fault, sheet_overlap_fault, overlap_fault, sheets_at}
use Rattle.xs_check.specs.Shared.{IsSheetInOrder, IsIndexInOrder, IsSheetApart, IsIndexApart}
use Rattle.xs_check.proofs.FirstShared.{shared_told}
use Rattle.xs_check.proofs.Neighbours.{apart_as_in_order}
use Rattle.xs_check.proofs.Findings.{each_none}
use Rattle.xs_check.proofs.Tests.{cells_decided, rows_decided, keys_decided}

-- ---- the lists of an index are in order

each_list : {X : Type 0} (P : List X → Type 0) (lists : List (List X)) → ((c : ℕ) → P (get_or lists c [])) → All P lists
each_list P lists each c d below = subst P (get_or_default lists c [] d below) (each c)

sheet_in_order : (k : SheetRecord) (lists : SheetIndex) → IsSheetIndex k lists → IsSheetInOrder lists
sheet_in_order k lists is =
    record {
      cells = each_list (IsInOrder (λ (e : ExposureRecord). 0) (λ e. e.from)) lists.columns (λ c. (is.cells c).order);
      keys = each_list (IsInOrder (λ (k : PegKeyRecord). 0) (λ k. k.row)) lists.pegs (λ i. (is.keys i).order);
    }

pub index_in_order : (s : SceneRecord) (index : Index) → IsIndexOf s index → IsIndexInOrder index
index_in_order s index is =
    record {
      palettes = each_list (IsInOrder (λ (k : StyleKeyRecord). k.style) (λ k. k.row)) index.palettes (λ p. (is.palettes p).order);
      sheets =
          λ k d below.
          subst IsSheetInOrder (get_or_default index.sheets k no_lists d below)
          (sheet_in_order (sheet_at s.sheets k) (get_or index.sheets k no_lists) (is.sheets k));
    }

-- ---- nothing is found

both_none : (first second : Finding) → first ≡ None → second ≡ None → or_else first second ≡ None
both_none first second a b = ap (λ (f : Finding). or_else f second) a ∙ b

in_list_none : {A : Type 0} (F : List ℕ → A → Finding) (at : List ℕ) (xs : List A)
    → ((at : List ℕ) (i : ℕ) (d : A) → i < length xs → F at (get_or xs i d) ≡ None) → in_list at F xs ≡ None
unfolding in_list
in_list_none F at xs none = each_none (λ i x. F (index_at at i) x) xs 0 (λ n i d is below. none (index_at at n) i d below)

apart_none : {A : Type 0} (Apart : A → A → Type 0) (apart : A → A → Bool) → ((a b : A) → Decides (apart a b) (Apart a b))
    → (at : List ℕ) (xs : List A) → AllPairs Apart xs → apart_fault apart at xs ≡ None
apart_none Apart apart decides at xs pairs = shared_told Apart apart decides at xs None (Ok tt) pairs refl

no_pairs : {A : Type 0} (Apart : A → A → Type 0) → AllPairs Apart []
no_pairs Apart i j d less below = absurd (omega arith)

-- where each list stands apart, so does the one with a number, or none
list_apart : {A : Type 0} (Apart : A → A → Type 0) (lists : List (List A)) (c : ℕ) → All (AllPairs Apart) lists → AllPairs Apart (get_or lists c [])
list_apart Apart lists c all = All-slice_index_or (AllPairs Apart) lists c [] (no_pairs Apart) all

sheet_none : (at : List ℕ) (k : SheetRecord) (lists : SheetIndex) → IsSheetIndex k lists → IsSheetApart lists → sheet_overlap_fault at k ≡ None
sheet_none at k lists is apart =
    both_none _ _
    (in_list_none peg_overlap_fault (path_of field.Pegs at) k.pegs
    (λ at i d below.
    subst (λ (peg : PegRecord). peg_overlap_fault at peg ≡ None) (get_or_default k.pegs i no_peg d below)
    (apart_none DifferInRow differ_in_row rows_decided (path_of field.Keys at) (get_or k.pegs i no_peg).keys
    (apart_as_in_order (λ (k : PegKeyRecord). 0) (λ k. k.row) (λ k. k.row) DifferInRow peg_keys_told (get_or k.pegs i no_peg).keys
    (get_or lists.pegs i []) (is.keys i) (list_apart DifferInRow lists.pegs i apart.keys)))))
    (in_list_none column_overlap_fault (path_of field.Columns at) k.columns
    (λ at c d below.
    subst (λ (column : ColumnRecord). column_overlap_fault at column ≡ None) (get_or_default k.columns c no_column d below)
    (apart_none AreApart are_apart cells_decided (path_of field.Cells at) (get_or k.columns c no_column).cells
    (apart_as_in_order (λ (e : ExposureRecord). 0) (λ e. e.from) (λ e. e.to) AreApart cells_told (get_or k.columns c no_column).cells
    (get_or lists.columns c []) (is.cells c) (list_apart AreApart lists.columns c apart.cells)))))

no_lists_apart : IsSheetApart no_lists
no_lists_apart = record { cells = λ c d below. absurd (omega arith); keys = λ i d below. absurd (omega arith) }

or_nothing : (found : Finding) → or_else found None ≡ found
or_nothing None = refl
or_nothing (Some fault) = refl

module _ (s : SceneRecord) (index : Index) (is : IsIndexOf s index) (apart : IsIndexApart index) where
  palettes_none : in_list (path_of field.Palettes []) palette_overlap_fault s.palettes ≡ None
  palettes_none =
      in_list_none palette_overlap_fault (path_of field.Palettes []) s.palettes
      (λ at p d below.
      subst (λ (palette : ColoursRecord). palette_overlap_fault at palette ≡ None) (get_or_default s.palettes p no_colours d below)
      (apart_none DifferInRowOrStyle differ_in_row_or_style keys_decided (path_of field.Keys at) (get_or s.palettes p no_colours).keys
      (apart_as_in_order (λ (k : StyleKeyRecord). k.style) (λ k. k.row) (λ k. k.row) DifferInRowOrStyle style_keys_told
      (get_or s.palettes p no_colours).keys (get_or index.palettes p []) (is.palettes p)
      (list_apart DifferInRowOrStyle index.palettes p apart.palettes))))

  sheets_none : in_list sheets_at sheet_overlap_fault s.sheets ≡ None
  sheets_none =
      in_list_none sheet_overlap_fault sheets_at s.sheets
      (λ at k d below.
      subst (λ (sheet : SheetRecord). sheet_overlap_fault at sheet ≡ None) (get_or_default s.sheets k no_sheet d below)
      (sheet_none at (sheet_at s.sheets k) (get_or index.sheets k no_lists) (is.sheets k)
      (All-slice_index_or IsSheetApart index.sheets k no_lists no_lists_apart apart.sheets)))

  -- then only file names are left to be compared
  pub overlaps_are_files : overlap_fault s ≡ file_fault s.levels
  overlaps_are_files =
      ap (λ (f : Finding). or_else f (or_else (file_fault s.levels) (in_list sheets_at sheet_overlap_fault s.sheets))) palettes_none
      ∙ ap (λ (f : Finding). or_else (file_fault s.levels) f) sheets_none ∙ or_nothing (file_fault s.levels)
