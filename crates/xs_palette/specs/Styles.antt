use Rattle.std.specs.Prelude.{ℕ, zero, suc, List, map, slice_index_or}
use Rattle.xs_pixel.specs.Channels.{Channels, clear}
use Rattle.xs_pixel.specs.Operations.{premultiplied}
use Rattle.xs_pixel.specs.declared.style.Style.{Style}

-- the premultiplied pixels of styles as they are written
abbrev pub written : List Style → List Channels
written styles = map (λ s. premultiplied s.r s.g s.b s.a) styles

-- the pixel of a style of a palette with these pixels: clear for style 0 and for a number past the last
abbrev pub style_of : List Channels → ℕ → Channels
style_of styles zero = clear
style_of styles (suc id) = slice_index_or styles (suc id) clear
