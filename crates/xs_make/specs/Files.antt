-- The level files of a seed: the background, and twelve drawings of words. What is drawn from a state x on is told by x
use Rattle.std.specs.Prelude.{ℕ, ◌+◌, ◌*◌, ◌/◌, ◌%◌, List, [], ◌∷◌, ◌++◌, flat_map, map, pos, codes, decimal}
use Rattle.std.specs.List.{range_with_len}
use Rattle.xs_cm32.specs.Word.{word_of}
use Rattle.xs_outside.specs.declared.object.Object.{Object}
use Rattle.xs_rawfile.specs.declared.drawing.RawKind.TheVariants.{Colour, Cm32}
use Rattle.xs_rawfile.specs.Raw.{Raw, raw}
use Rattle.xs_rawfile.specs.Level.{level_bytes, four_bytes}
use Rattle.xs_make.specs.Draws.{drawn, state_after}

-- the draws of the background begin behind those of seven styles, of which each takes three
abbrev pub background_state : ℕ → ℕ
background_state seed = state_after seed 21

-- ---- the background: 192 by 128 grey pixels, in file order

abbrev pub grey : ℕ → List ℕ
grey v = v ∷ v ∷ v ∷ 255 ∷ []

unfoldable pub grey_bytes : (x pixels : ℕ) → List ℕ
grey_bytes x pixels = flat_map (λ k. grey (drawn x k 256)) (range_with_len 0 pixels)

abbrev pub background_from : ℕ → Raw
background_from x = raw (pos 0) (pos 0) 192 128 Colour (grey_bytes x 24576)

-- ---- a drawing of 64 by 64 words, in file order

abbrev pub word_at : (x k : ℕ) → ℕ
word_at x k = word_of (drawn x (3 * k) 8) (drawn x (3 * k + 1) 8) (drawn x (3 * k + 2) 256)

unfoldable pub word_bytes : (x words : ℕ) → List ℕ
word_bytes x words = flat_map (λ k. four_bytes (word_at x k)) (range_with_len 0 words)

abbrev pub cel_from : ℕ → Raw
cel_from x = raw (pos (drawn x 0 64)) (pos (drawn x 1 32)) 64 64 Cm32 (word_bytes (state_after x 2) 4096)

-- ---- their files

-- `bg.xrl`
abbrev pub background_name : List ℕ
background_name = codes "bg.xrl"

-- `cL.000J.xrl`, with L from 1 to 3 and J from 1 to 4
abbrev pub cel_name : ℕ → List ℕ
cel_name m = codes "c" ++ decimal (m / 4 + 1) ++ codes ".000" ++ decimal (m % 4 + 1) ++ codes ".xrl"

abbrev pub file_of : List ℕ → Raw → Object
file_of name drawing = record { name = name; bytes = level_bytes drawing }

-- the file of a drawing of words. The draws of the background begin at x, and those of the drawings behind them; each
-- takes two for its place and three for each of its words
abbrev pub cel_file : (x m : ℕ) → Object
cel_file x m = file_of (cel_name m) (cel_from (state_after x (24576 + 12290 * m)))

-- the files: the background, and the drawings level by level
abbrev pub files_drawn : ℕ → List Object
files_drawn x = file_of background_name (background_from x) ∷ map (cel_file x) (range_with_len 0 12)

abbrev pub files_from : ℕ → List Object
files_from seed = files_drawn (background_state seed)
