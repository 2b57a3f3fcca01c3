use Rattle.std.specs.Prelude.{◌≡◌, List, All, map, length}
use Rattle.std.specs.List.{range_with_len}
use Rattle.xs_pixel.specs.Channels.{Channels}
use Rattle.xs_palette.specs.Styles.{style_of}
use Rattle.xs_meaning.specs.Palettes.{without_clear_end}

-- the tint of a palette: the pixels of its styles from 0 on, without the clear ones at the end. Palettes
-- that give every style the same pixel have one tint
abbrev pub tint_of : List Channels → List Channels
tint_of palette = without_clear_end (map (style_of palette) (range_with_len 0 (length palette)))

-- each palette stands under its tint
abbrev pub AreUnderTints : {K : Type 0} → List (K × List Channels) → (K → List Channels) → Type 0
AreUnderTints entries pixels = All (λ e. pixels e.0 ≡ tint_of e.1) entries
