use Rattle.std.specs.Prelude.{ℕ, List, [], ◌∷◌}
use Rattle.xs_pixel.specs.Channels.{Channels}

-- a row of bytes as a list of pixels: each four bytes are red, green, blue and matte
abbrev pub pixels : List ℕ → List Channels
pixels (r ∷ g ∷ b ∷ m ∷ rest) = record { r = r; g = g; b = b; m = m } ∷ pixels rest
pixels _ = []

-- the matte of each pixel of a row of bytes in all four of its bytes
abbrev pub mattes_of : List ℕ → List ℕ
mattes_of (r ∷ g ∷ b ∷ m ∷ rest) = m ∷ m ∷ m ∷ m ∷ mattes_of rest
mattes_of _ = []
