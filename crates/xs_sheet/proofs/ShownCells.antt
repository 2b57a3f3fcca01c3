-- What a column shows at a row, where its exposures are gone through
use Rattle.std.proofs.Common.{◌≡◌, ℕ, zero, suc, ◌+◌, ◌-◌, ◌<◌, ◌≤◌, subst, Bool, true, cond, length, drop, get_or, List, [], ◌∷◌, Some, None, find, refl, sym, ap, ◌∙◌, arith}
use Rattle.std.proofs.lemmas.List.{drop_more, get_or_past}
use Rattle.std.specs.Option.{option_map_or}
use Rattle.xs_scene.specs.declared.seen.Seen.TheVariants.{Empty}
use Rattle.xs_scene.specs.Records.{ColumnRecord, ExposureRecord, SheetRecord}
use Rattle.xs_meaning.specs.Cells.{cell_at, covers, shown_after}
use Rattle.xs_meaning.specs.Walk.{column_at, no_column}

-- the first element that passes a test, from a place on
pub find_here :
    {K : Type 0} (p : K → Bool) (xs : List K) (i : ℕ) (x : K) → i < length xs → x ≡ get_or xs i x → p x ≡ true
    → find p (drop i xs) ≡ Some x
find_here p xs i x within is passes =
    ap (find p) (drop_more xs i x within ∙ ap (λ k. k ∷ drop (i + 1) xs) (sym is))
    ∙ ap (λ b. cond b (Some x) (find p (drop (i + 1) xs))) passes

-- what a column shows by the exposure that contains the row, and where none does
pub cell_at-found :
    (column : ColumnRecord) (row : ℕ) (e : ExposureRecord) → find (covers row) column.cells ≡ Some e
    → shown_after (row - e.from) e.shown ≡ cell_at column row
unfolding cell_at
cell_at-found column row e found =
    sym (ap (λ o. option_map_or (λ e. shown_after (row - e.from) e.shown) o Empty) found)

pub cell_at-none :
    (column : ColumnRecord) (row : ℕ) → find (covers row) column.cells ≡ None → Empty ≡ cell_at column row
unfolding cell_at
cell_at-none column row none =
    sym (ap (λ o. option_map_or (λ e. shown_after (row - e.from) e.shown) o Empty) none)

-- a column that the sheet lacks shows nothing
pub cell_at-no_column : (k : SheetRecord) (c row : ℕ) → length k.columns ≤ c → Empty ≡ cell_at (column_at k c) row
cell_at-no_column k c row past =
    subst (λ column. Empty ≡ cell_at column row) (sym (get_or_past k.columns c no_column past)) (cell_at-none no_column row refl)

pub find_past : {K : Type 0} (p : K → Bool) (xs : List K) (i : ℕ) → length xs ≤ i → find p (drop i xs) ≡ None
find_past p [] zero past = refl
find_past p [] (suc i) past = refl
find_past p (x ∷ xs) zero past = absurd (omega arith)
find_past p (x ∷ xs) (suc i) past = find_past p xs i (omega arith)
