use Rattle.std.specs.Prelude.{ℕ, zero, suc, min, List, [], ◌∷◌, slice_index_or}
use Rattle.xs_pixel.specs.Channels.{Channels, clear}
use Rattle.xs_cm32.specs.Word.{mixed}

-- the pixel of a style in a table whose last pixel is for every number past the palette's last style
abbrev pub looked_up : List Channels → ℕ → ℕ → Channels
looked_up table last id = slice_index_or table (min id last) clear

-- the tone of each word of a row of bytes, in all four of its bytes
abbrev pub tones_of : List ℕ → List ℕ
tones_of (t ∷ b ∷ c ∷ d ∷ rest) = t ∷ t ∷ t ∷ t ∷ tones_of rest
tones_of _ = []

-- the mixes of inks and paints, lane by lane
abbrev pub mixes_of : List ℕ → List ℕ → List ℕ → List ℕ
mixes_of (t ∷ tones) (i ∷ inks) (p ∷ paints) = mixed t i p ∷ mixes_of tones inks paints
mixes_of _ _ _ = []

-- the greatest byte for each colour of n pixels, and 0 for their mattes
abbrev pub colour_lanes : ℕ → List ℕ
colour_lanes zero = []
colour_lanes (suc n) = 255 ∷ 255 ∷ 255 ∷ 0 ∷ colour_lanes n
