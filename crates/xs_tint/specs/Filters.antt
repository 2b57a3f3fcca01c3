use Rattle.std.specs.Prelude.{Bool, false, not, ◌||◌, List, ℕ, slice_index_or, if◌then◌else◌}
use Rattle.xs_meaning.specs.Palettes.{Dropped, keeping, deleting}

-- the styles that a list of flags drops, one flag for each style from 0 on
abbrev pub dropped_by : List Bool → Dropped
dropped_by flags style = slice_index_or flags style false

-- what a filter of these styles drops besides: those that are not listed if it keeps the listed ones,
-- else the listed ones
abbrev pub filtering : Bool → List ℕ → Dropped → Dropped
filtering keep styles f = if keep then keeping styles f else deleting styles f

-- whether a filter leaves a style dropped: it was dropped, or the filter drops it since it is listed
-- or since it is not
abbrev pub drops : Bool → (was listed : Bool) → Bool
drops keep was listed = was || (if keep then not listed else listed)
