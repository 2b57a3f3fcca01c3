use Rattle.std.specs.Prelude.{◌≡◌, ℕ, ◌<◌, nat_le, nat_lt, ◌&&◌, Bool, List, length, slice_index_or, slice_index}
use Rattle.std.specs.Option.{option_map_or}
use Rattle.xs_pixel.specs.declared.style.Style.{Style}
use Rattle.xs_scene.specs.Records.{StyleKeyRecord}
use Rattle.xs_meaning.specs.Palettes.{key_among, keyed}

-- some keys of a palette have been taken: each style is as these set it, beside the row of the key
-- that did, or 0
pub record AreTaken (written : List Style) (keys : List StyleKeyRecord) (row : ℕ) (styles : List Style) (rows : List ℕ) : Type 0 where
  pub styles_length : length styles ≡ length written
  pub rows_length : length rows ≡ length written
  pub set :
      (k : ℕ) (d : Style) → k < length written
      → slice_index_or styles k d ≡ keyed (key_among keys row k) (slice_index_or written k d)
  pub set_by :
      (k : ℕ) → k < length written
      → slice_index rows k ≡ option_map_or (λ key. key.row) (key_among keys row k) 0

-- whether a key sets its style at a row, over those whose rows are known
abbrev pub sets : StyleKeyRecord → ℕ → List ℕ → Bool
sets key row rows =
    nat_le key.row row && (nat_lt key.style (length rows) && nat_lt (slice_index rows key.style) key.row)
