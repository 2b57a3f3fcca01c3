use Rattle.std.specs.Prelude.{ℕ, ◌+◌, ◌-◌, ◌*◌, ◌/◌, ◌%◌, ◌^◌}
use Rattle.xs_pixel.specs.Channels.{Channels}

-- the number of the ink style: the high 12 bits of a word
abbrev pub ink_of : ℕ → ℕ
ink_of w = w / 2 ^ 20

-- the number of the paint style: the next 12 bits
abbrev pub paint_of : ℕ → ℕ
paint_of w = w / 2 ^ 8 % 2 ^ 12

-- the tone: the low 8 bits
abbrev pub tone_of : ℕ → ℕ
tone_of w = w % 2 ^ 8

-- the word of an ink, a paint and a tone
abbrev pub word_of : ℕ → ℕ → ℕ → ℕ
word_of ink paint tone = ink * 2 ^ 20 + paint * 2 ^ 8 + tone

-- a channel between that of the ink (tone 0) and that of the paint (tone 255), rounded down
unfoldable pub mixed : ℕ → ℕ → ℕ → ℕ
mixed tone ink paint = (ink * (255 - tone) + paint * tone) / 255

-- the colour of a word with these pixels of its ink and its paint
abbrev pub colour_of : ℕ → Channels → Channels → Channels
colour_of w ink paint =
    record
    { r = mixed (tone_of w) ink.r paint.r; g = mixed (tone_of w) ink.g paint.g; b = mixed (tone_of w) ink.b paint.b; m = mixed (tone_of w) ink.m paint.m }

-- the colour of a word under a palette, which gives each style number its pixel
abbrev pub colour_under : (ℕ → Channels) → ℕ → Channels
colour_under style w = colour_of w (style (ink_of w)) (style (paint_of w))
