use Rattle.std.specs.Prelude.{ℕ, List, map, All, Option, Some, None, IsSome, option_map}
use Rattle.xs_pixel.specs.Channels.{Channels, clear}
use Rattle.xs_pixel.specs.Picture.{at_point, pixel_at}
use Rattle.xs_cm32.specs.Word.{colour_under}
use Rattle.xs_pixel.specs.Picture.{Pictures}
use Rattle.xs_meaning.specs.Palettes.{Colouring}
use Rattle.xs_pixel.specs.Points.{Point}
use Rattle.xs_rawfile.specs.Held.{Held, slot_in, picture_of, plain_picture, words_of}
use Rattle.xs_rawfile.specs.Raw.{Raw}

-- the pictures of the drawings that are held
unfoldable pub pictures_in : Held → Pictures
pictures_in h d = option_map (λ slot. picture_of h.palettes slot.0 slot.1) (slot_in h d)

-- each of these drawings is held
abbrev pub AreHeld : Held → List ℕ → Type 0
AreHeld h drawings = All (λ d. IsSome (slot_in h d)) drawings

-- the pixel of a drawing at a point: those of its file, or its words under a colouring. It is clear where
-- its file is of the other kind
abbrev pub shown_pixel : Option Colouring → Raw → Point → Channels
shown_pixel None g p = pixel_at (plain_picture g) p.x p.y
shown_pixel (Some colouring) g p =
    at_point (plain_picture g) (map (colour_under colouring) (words_of g)) clear p.x p.y
