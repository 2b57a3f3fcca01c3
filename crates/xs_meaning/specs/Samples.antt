-- Small scenes and pictures for the examples
use Rattle.std.specs.Prelude.{ℕ, ◌+◌, true, false, Option, Some, None, ℤ, pos, negsuc, List, [], ◌∷◌, slice_get}
use Rattle.xs_pixel.specs.Channels.{Channels, channels}
use Rattle.xs_pixel.specs.Picture.{Picture, Pixels, Words}
use Rattle.xs_pixel.specs.declared.operation.Op.TheVariants.{Over}
use Rattle.xs_pixel.specs.declared.style.Style.{Style}
use Rattle.xs_scene.specs.declared.column.Shown.TheVariants.{Drawing, Sheet}
use Rattle.xs_scene.specs.declared.level.Kind.TheVariants.{Colour, Cm32}
use Rattle.xs_scene.specs.declared.node.Ref.{Ref}
use Rattle.xs_scene.specs.declared.node.Ref.TheVariants.{Column as ToColumn, Node as ToNode}
use Rattle.xs_scene.specs.declared.node.Node.{Node}
use Rattle.xs_scene.specs.declared.node.Node.TheVariants.{Pair, Card, Shuffle, Blur, Keep, Delete}
use Rattle.xs_scene.specs.Records.{StyleKeyRecord, PegKeyRecord, PegRecord, ExposureRecord, ColumnRecord, SheetRecord, SceneRecord}
use Rattle.xs_pixel.specs.Picture.{Pictures}
use Rattle.xs_meaning.specs.Drawings.{no_colours}

abbrev pub style : ℕ → ℕ → ℕ → ℕ → Style
style r g b a = record { r = r; g = g; b = b; a = a }

-- pictures of one pixel or word at the point (0, 0), by drawing number

abbrev pub one_pixel : Channels → Picture
one_pixel p = record { x0 = pos 0; y0 = pos 0; w = 1; h = 1; content = Pixels (p ∷ []); coloured = p ∷ [] }

abbrev pub one_word : ℕ → Picture
one_word w = record { x0 = pos 0; y0 = pos 0; w = 1; h = 1; content = Words (w ∷ []); coloured = [] }

-- drawing 0 is opaque, drawing 1 half clear, drawing 2 opaque; there is no other
abbrev pub dark : Channels
dark = channels 10 20 30 255

abbrev pub half_red : Channels
half_red = channels 128 0 0 128

abbrev pub blue : Channels
blue = channels 0 0 255 255

abbrev pub three_pixels : Pictures
three_pixels d = slice_get (one_pixel dark ∷ one_pixel half_red ∷ one_pixel blue ∷ []) d

-- drawing 0 has one word of ink 1, paint 2 and tone 100
abbrev pub mixed_word : Pictures
mixed_word d = slice_get (one_word 0x00100264 ∷ []) d

-- drawing 0 has one word of ink 0
abbrev pub no_ink : Pictures
no_ink d = slice_get (one_word 0x00000200 ∷ []) d

-- drawing 0 has one word of ink 5, which no palette here has
abbrev pub lacking_ink : Pictures
lacking_ink d = slice_get (one_word 0x00500200 ∷ []) d

-- drawing 0 has two pixels, the left one at (4, 7)
abbrev pub wide : Pictures
wide d =
    slice_get
    (record { x0 = pos 4; y0 = pos 7; w = 2; h = 1; content = Pixels (dark ∷ blue ∷ []); coloured = [] } ∷ []) d

-- drawings 0 and 1 have a pixel, drawing 2 a word
abbrev pub mixed_kinds : Pictures
mixed_kinds d = slice_get (one_pixel dark ∷ one_pixel blue ∷ one_word 0x00100264 ∷ []) d

-- exposures of a drawing of level 0, and of a sheet

abbrev pub shows : ℕ → ℕ → ℕ → ExposureRecord
shows from to drawing = record { from = from; to = to; shown = Drawing 0 drawing }

abbrev pub shows_sheet : ℕ → ℕ → ℕ → ℕ → ExposureRecord
shows_sheet from to sheet start = record { from = from; to = to; shown = Sheet sheet start }

abbrev pub column : List ExposureRecord → ColumnRecord
column cells = record { peg = None; off = false; cells = cells }

abbrev pub column_on : ℕ → List ExposureRecord → ColumnRecord
column_on peg cells = record { peg = Some peg; off = false; cells = cells }

abbrev pub off_column : List ExposureRecord → ColumnRecord
off_column cells = record { peg = None; off = true; cells = cells }

-- keys that hold and keys that move in a line, by row and offset

abbrev pub hold_at : ℕ → ℤ → ℤ → PegKeyRecord
hold_at row x y = record { row = row; x = x; y = y; line = false }

abbrev pub line_at : ℕ → ℤ → ℤ → PegKeyRecord
line_at row x y = record { row = row; x = x; y = y; line = true }

abbrev pub root_peg : List PegKeyRecord → PegRecord
root_peg keys = record { parent = None; keys = keys }

abbrev pub child_peg : ℕ → List PegKeyRecord → PegRecord
child_peg parent keys = record { parent = Some parent; keys = keys }

abbrev pub sheet : List PegRecord → List ColumnRecord → List Node → Option (List Ref) → SheetRecord
sheet pegs columns nodes out = record { pegs = pegs; columns = columns; nodes = nodes; out = out }

abbrev pub columns_alone : List ColumnRecord → SheetRecord
columns_alone columns = sheet [] columns [] None

-- a scene of one colour level of three drawings
abbrev pub scene : Option ℕ → List SheetRecord → SceneRecord
scene peg sheets =
    record {
      format = 2;
      camera = record { w = 1; h = 1; peg = peg };
      palettes = [];
      levels = record { kind = Colour; drawings = [] ∷ [] ∷ [] ∷ [] } ∷ [];
      sheets = sheets;
    }

abbrev pub scene_of : SheetRecord → SceneRecord
scene_of sheet = scene None (sheet ∷ [])

-- a scene of one CM32 level of one drawing, whose palette has red as style 1, blue as
-- style 2, and an entry 0, which counts for nothing
abbrev pub painted : List StyleKeyRecord → List SheetRecord → SceneRecord
painted keys sheets =
    record {
      format = 2;
      camera = record { w = 1; h = 1; peg = None };
      palettes =
          record {
            styles = style 9 9 9 255 ∷ style 255 0 0 255 ∷ style 0 0 255 255 ∷ [];
            keys = keys;
          }
          ∷ [];
      levels = record { kind = Cm32 0; drawings = [] ∷ [] } ∷ [];
      sheets = sheets;
    }

-- one column that holds the drawing on rows 1 and 2
abbrev pub held : List ColumnRecord
held = column (shows 1 2 0 ∷ []) ∷ []

-- the node with number 0 is all that is rendered
abbrev pub through : Node → SheetRecord
through node = sheet [] held (node ∷ []) (Some (ToNode 0 ∷ []))

-- style 1 becomes green at row 2
abbrev pub green_at_two : List StyleKeyRecord
green_at_two = record { row = 2; style = 1; to = style 0 255 0 255 } ∷ []

-- two exposures with a gap between them
abbrev pub held_twice : SceneRecord
held_twice = scene_of (columns_alone (column (shows 2 3 0 ∷ shows 5 6 1 ∷ []) ∷ []))

-- the first sheet shows the second one from its row 2 on, on a peg at (3, 0). The inner column moves
-- to the right by its row
abbrev pub nested : SceneRecord
nested =
    scene None
    (sheet (root_peg (hold_at 1 (pos 3) (pos 0) ∷ []) ∷ []) (column_on 0 (shows_sheet 5 8 1 2 ∷ []) ∷ []) [] None
    ∷ sheet
    (root_peg (hold_at 2 (pos 20) (pos 0) ∷ hold_at 3 (pos 30) (pos 0) ∷ hold_at 5 (pos 50) (pos 0) ∷ []) ∷ [])
    (column_on 0 (shows 1 2 0 ∷ shows 3 4 1 ∷ []) ∷ []) [] None
    ∷ [])

-- a peg at (3, 0) outside and one at (-3, 0) inside
abbrev pub nested_back : SceneRecord
nested_back =
    scene None
    (sheet (root_peg (hold_at 1 (pos 3) (pos 0) ∷ []) ∷ []) (column_on 0 (shows_sheet 1 1 1 1 ∷ []) ∷ []) [] None
    ∷ sheet (root_peg (hold_at 1 (negsuc 2) (pos 0) ∷ []) ∷ []) (column_on 0 (shows_sheet 1 1 2 1 ∷ []) ∷ []) [] None
    ∷ columns_alone (column (shows 1 1 0 ∷ []) ∷ [])
    ∷ [])

-- a moving column, shown at row 1 by rows 1 and 2, and past the list from row 3 on
abbrev pub shuffled : SceneRecord
shuffled =
    scene_of
    (sheet (root_peg (hold_at 1 (pos 0) (pos 0) ∷ hold_at 2 (pos 5) (pos 0) ∷ []) ∷ [])
    (column_on 0 (shows 1 1 1 ∷ shows 2 3 0 ∷ []) ∷ []) (Shuffle (ToColumn 0) (2 ∷ 1 ∷ []) ∷ [])
    (Some (ToNode 0 ∷ [])))

-- peg 0 moves in a line from row 1 to row 4, stays until row 9 and has a line key there without a next one,
-- peg 1 has the first two keys in the other order, peg 2 holds, and peg 3 hangs on peg 2
abbrev pub pegs : SheetRecord
pegs =
    sheet
    (root_peg (line_at 1 (pos 0) (pos 0) ∷ hold_at 4 (negsuc 4) (pos 10) ∷ line_at 9 (pos 50) (pos 50) ∷ [])
    ∷ root_peg (hold_at 4 (negsuc 4) (pos 10) ∷ line_at 1 (pos 0) (pos 0) ∷ [])
    ∷ root_peg (hold_at 2 (pos 1) (pos 2) ∷ hold_at 4 (negsuc 4) (pos 10) ∷ [])
    ∷ child_peg 2 (hold_at 3 (pos 100) (pos 100) ∷ [])
    ∷ [])
    [] [] None

-- the camera at (2, 0), and from row 2 on at (0, 7)
abbrev pub filmed : SceneRecord
filmed =
    scene (Some 0)
    (sheet (root_peg (hold_at 1 (pos 2) (pos 0) ∷ hold_at 2 (pos 0) (pos 7) ∷ []) ∷ [])
    (column (shows 1 2 0 ∷ []) ∷ []) [] None
    ∷ [])

-- a half clear drawing to the right of an opaque one
abbrev pub two_columns : Option (List Ref) → SceneRecord
two_columns out = scene_of (sheet [] (column (shows 1 1 2 ∷ []) ∷ column (shows 1 1 1 ∷ []) ∷ []) [] out)

-- the same, and the right one is off
abbrev pub one_off : Option (List Ref) → SceneRecord
one_off out = scene_of (sheet [] (column (shows 1 1 2 ∷ []) ∷ off_column (shows 1 1 1 ∷ []) ∷ []) [] out)

-- a column that shows a drawing, and right of it one that shows nothing
abbrev pub beside_empty : SceneRecord
beside_empty = scene_of (columns_alone (column (shows 1 1 0 ∷ []) ∷ column [] ∷ []))

-- the same columns, and one node that is all that is rendered
abbrev pub with_empty : Node → SceneRecord
with_empty node =
    scene_of (sheet [] (column (shows 1 1 0 ∷ []) ∷ column [] ∷ []) (node ∷ []) (Some (ToNode 0 ∷ [])))

-- blurs of these radii, the first of a drawing, each next one of the one before
abbrev pub blurs_from : ℕ → List ℕ → List Node
blurs_from n [] = []
blurs_from n (radius ∷ radii) = Blur (ToNode n) radius ∷ blurs_from (n + 1) radii

abbrev pub blurs : ℕ → List ℕ → SceneRecord
blurs last radii =
    scene_of
    (sheet [] (column (shows 1 1 0 ∷ []) ∷ []) (Blur (ToColumn 0) 1 ∷ blurs_from 0 radii) (Some (ToNode last ∷ [])))

-- a filter over a nested sheet whose row 2 is shown at row 1
abbrev pub filtered_nested : Node → List StyleKeyRecord → SceneRecord
filtered_nested node keys =
    painted keys
    (sheet [] (column (shows_sheet 1 1 1 2 ∷ []) ∷ []) (node ∷ []) (Some (ToNode 0 ∷ [])) ∷ columns_alone held ∷ [])

-- a colour level of two drawings before a CM32 level, whose first drawing is shown, and a palette without
-- styles before the one of that level
abbrev pub two_levels : SceneRecord
two_levels =
    record (painted [] (columns_alone (column (record { from = 1; to = 1; shown = Drawing 1 0 } ∷ []) ∷ []) ∷ [])) {
      palettes = no_colours ∷ (painted [] []).palettes;
      levels = record { kind = Colour; drawings = [] ∷ [] ∷ [] } ∷ record { kind = Cm32 1; drawings = [] ∷ [] } ∷ [];
    }

-- every kind of node, on two sheets, with a peg that has a parent
abbrev pub every_kind : List SheetRecord
every_kind =
    sheet
    (root_peg (hold_at 1 (pos 1) (pos 0) ∷ []) ∷ child_peg 0 [] ∷ [])
    (column_on 1 (shows_sheet 1 9 1 1 ∷ []) ∷ column (shows 1 9 0 ∷ []) ∷ [])
    (Pair Over (ToColumn 0) (ToNode 1)
    ∷ Blur (ToNode 2) 1
    ∷ Shuffle (ToNode 3) (1 ∷ 2 ∷ [])
    ∷ Keep (ToNode 4) (1 ∷ [])
    ∷ Delete (ToColumn 1) (2 ∷ [])
    ∷ Card (style 255 0 0 255)
    ∷ [])
    (Some (ToNode 5 ∷ ToNode 0 ∷ []))
    ∷ columns_alone (column (shows 1 9 1 ∷ []) ∷ [])
    ∷ []
