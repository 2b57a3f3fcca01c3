-- What a scene text says, object by object: for each its keys and those that it needs, and then the
-- rule of each value, in the order in which they are looked at.
use Rattle.std.specs.Prelude.{ℕ, ◌-◌, List, [], ◌∷◌, Bool, true, false, ◌&&◌, ◌==◌, not, if◌then◌else◌, Option, Some, None, is_some, bytes_eq, codes, Ok}
use Rattle.xs_base.specs.declared.limits.TheConstants.{LONGEST_CAMERA_SIDE, LAST_ROW, GREATEST_RADIUS, STYLE_NUMBERS}
use Rattle.std.specs.Str.{is_utf8}
use Rattle.serde_json.specs.Data.{Data, Items, Members}
use Rattle.serde_json.specs.Events.{items_len}
use Rattle.serde_json.specs.Find.{as_object, at as item_at}
use Rattle.serde_json.specs.Read.{read}
use Rattle.xs_pixel.specs.declared.style.Style.{Style}
use Rattle.xs_pixel.specs.declared.operation.Op.{Op}
use Rattle.xs_pixel.specs.declared.operation.Op.TheVariants as op
use Rattle.xs_fault.specs.declared.code.SceneCode.TheVariants as code
use Rattle.xs_fault.specs.declared.field.Field.{Field}
use Rattle.xs_fault.specs.declared.field.Field.TheVariants as f
use Rattle.xs_fault.specs.Paths.{index_at}
use Rattle.xs_json.specs.Parsing.{Parsed, ◌>>=◌, fault, or_fault}
use Rattle.xs_json.specs.Objects.{has, object_at, text_at, list_at, flag_at}
use Rattle.xs_scene.specs.Names.{is_name}
use Rattle.xs_scene.specs.Records.{StyleKeyRecord, ColoursRecord, CameraRecord, LevelRecord, PegKeyRecord, PegRecord, ExposureRecord, ColumnRecord, SheetRecord, SceneRecord}
use Rattle.xs_scene.specs.declared.level.Kind.{Kind}
use Rattle.xs_scene.specs.declared.level.Kind.TheVariants as kind
use Rattle.xs_scene.specs.declared.column.Shown.{Shown}
use Rattle.xs_scene.specs.declared.column.Shown.TheVariants as shown
use Rattle.xs_scene.specs.declared.node.Ref.{Ref}
use Rattle.xs_scene.specs.declared.node.Ref.TheVariants as target
use Rattle.xs_scene.specs.declared.node.Node.{Node}
use Rattle.xs_scene.specs.declared.node.Node.TheVariants as node
use Rattle.xs_scene_text.specs.declared.work.Work.{Work}
use Rattle.xs_scene_text.specs.declared.work.Work.TheVariants as work
use Rattle.xs_scene_text.specs.Fields.{field, optional_field, field_or, none_of, form_at, list_of, number_at, row_at, reference_at, offset_at}

-- format 2 has more keys and more nodes than format 1
abbrev pub is_newer : ℕ → Bool
is_newer format = format == 2

-- ---- the camera

unfoldable pub camera_at : List ℕ → Data → Parsed CameraRecord
camera_at at d = do
  ms ← object_at (f.W ∷ f.H ∷ f.Peg ∷ []) (f.W ∷ f.H ∷ []) at d
  w ← field f.W (number_at 1 LONGEST_CAMERA_SIDE) at ms
  h ← field f.H (number_at 1 LONGEST_CAMERA_SIDE) at ms
  peg ← optional_field f.Peg reference_at at ms
  Ok (record { w = w; h = h; peg = peg })

-- ---- palettes

-- a list of four elements
abbrev pub four_at : List ℕ → Data → Parsed Items
four_at at d = do
  ds ← list_at at d
  if items_len ds == 4 then Ok ds else fault code.OutOfRange at

-- one channel of a style
abbrev pub channel_at : ℕ → List ℕ → Data → Parsed ℕ
channel_at i at d = do
  channel ← or_fault (item_at i d) code.OutOfRange at
  number_at 0 255 (index_at at i) channel

-- a style: its red, green, blue and matte
unfoldable pub style_at : List ℕ → Data → Parsed Style
style_at at d = do
  four ← four_at at d
  r ← channel_at 0 at d
  g ← channel_at 1 at d
  b ← channel_at 2 at d
  a ← channel_at 3 at d
  Ok (record { r = r; g = g; b = b; a = a })

unfoldable pub style_key_at : List ℕ → Data → Parsed StyleKeyRecord
style_key_at at d = do
  ms ← object_at (f.Row ∷ f.Style ∷ f.Rgba ∷ []) (f.Row ∷ f.Style ∷ f.Rgba ∷ []) at d
  row ← field f.Row row_at at ms
  style ← field f.Style reference_at at ms
  to ← field f.Rgba style_at at ms
  Ok (record { row = row; style = style; to = to })

-- a palette without keys: the list of its styles
unfoldable pub plain_palette_at : List ℕ → Data → Parsed ColoursRecord
plain_palette_at at d = do
  styles ← list_of style_at at d
  Ok (record { styles = styles; keys = [] })

-- a palette as an object, which may have keys
unfoldable pub keyed_palette_at : List ℕ → Data → Parsed ColoursRecord
keyed_palette_at at d = do
  ms ← object_at (f.Styles ∷ f.Keys ∷ []) (f.Styles ∷ []) at d
  styles ← field f.Styles (list_of style_at) at ms
  keys ← field_or [] f.Keys (list_of style_key_at) at ms
  Ok (record { styles = styles; keys = keys })

abbrev pub palette_at : ℕ → List ℕ → Data → Parsed ColoursRecord
palette_at format at d =
    if is_newer format && is_some (as_object d) then keyed_palette_at at d else plain_palette_at at d

-- ---- levels

unfoldable pub name_at : List ℕ → Data → Parsed (List ℕ)
name_at at d = do
  text ← text_at at d
  if is_name text then Ok text else fault code.OutOfRange at

-- whether the level's drawings are CM32, by the word at its kind
abbrev pub is_cm32 : List ℕ → Option Bool
is_cm32 word = if bytes_eq word (codes "colour") then Some false else (if bytes_eq word (codes "cm32") then Some true else None)

abbrev pub is_cm32_at : List ℕ → Data → Parsed Bool
is_cm32_at at d = do
  word ← text_at at d
  or_fault (is_cm32 word) code.OutOfRange at

-- a CM32 level has a palette, a colour level has none
abbrev pub kind_of : Bool → List ℕ → Members → Parsed Kind
kind_of true at ms = do
  palette ← field f.Palette reference_at at ms
  Ok (kind.Cm32 palette)
kind_of false at ms = do
  bare ← none_of code.UnknownKey (f.Palette ∷ []) at ms
  Ok kind.Colour

unfoldable pub level_at : List ℕ → Data → Parsed LevelRecord
level_at at d = do
  ms ← object_at (f.Kind ∷ f.Palette ∷ f.Drawings ∷ []) (f.Kind ∷ f.Drawings ∷ []) at d
  cm32 ← field f.Kind is_cm32_at at ms
  kind ← kind_of cm32 at ms
  drawings ← field f.Drawings (list_of name_at) at ms
  Ok (record { kind = kind; drawings = drawings })

-- ---- pegs

-- keys by which a peg key would turn, scale or shear
abbrev pub placements : List Field
placements = f.Angle ∷ f.Scale ∷ f.ScaleX ∷ f.ScaleY ∷ f.ShearX ∷ f.ShearY ∷ []

abbrev pub peg_key_fields : ℕ → List Field
peg_key_fields format = if is_newer format then f.Row ∷ f.X ∷ f.Y ∷ f.Line ∷ [] else f.Row ∷ f.X ∷ f.Y ∷ []

-- an object that only moves
abbrev pub moves_only : List ℕ → Data → Parsed Members
moves_only at d = do
  ms ← or_fault (as_object d) code.WrongKind at
  none_of code.Placement placements at ms

-- whether the peg moves on in a line, which format 1 does not know
abbrev pub line_at : ℕ → List ℕ → Members → Parsed Bool
line_at format at ms = if is_newer format then field_or false f.Line flag_at at ms else Ok false

unfoldable pub peg_key_at : ℕ → List ℕ → Data → Parsed PegKeyRecord
peg_key_at format at d = do
  moving ← moves_only at d
  ms ← object_at (peg_key_fields format) (f.Row ∷ f.X ∷ f.Y ∷ []) at d
  row ← field f.Row row_at at ms
  x ← field f.X offset_at at ms
  y ← field f.Y offset_at at ms
  line ← line_at format at ms
  Ok (record { row = row; x = x; y = y; line = line })

unfoldable pub peg_at : ℕ → List ℕ → Data → Parsed PegRecord
peg_at format at d = do
  ms ← object_at (f.Parent ∷ f.Keys ∷ []) [] at d
  parent ← optional_field f.Parent reference_at at ms
  keys ← field_or [] f.Keys (list_of (peg_key_at format)) at ms
  Ok (record { parent = parent; keys = keys })

-- ---- columns

unfoldable pub shown_sheet_at : List ℕ → Members → Parsed Shown
shown_sheet_at at ms = do
  form ← form_at (f.Level ∷ f.Drawing ∷ []) (f.Start ∷ []) at ms
  sheet ← field f.Sheet reference_at at ms
  start ← field f.Start row_at at ms
  Ok (shown.Sheet sheet start)

unfoldable pub shown_drawing_at : List ℕ → Members → Parsed Shown
shown_drawing_at at ms = do
  form ← form_at (f.Start ∷ []) (f.Level ∷ f.Drawing ∷ []) at ms
  level ← field f.Level reference_at at ms
  drawing ← field f.Drawing reference_at at ms
  Ok (shown.Drawing level drawing)

-- what a cell shows: rows of a sheet where that key is there, else a drawing
abbrev pub shown_at : List ℕ → Members → Parsed Shown
shown_at at ms = if has f.Sheet ms then shown_sheet_at at ms else shown_drawing_at at ms

unfoldable pub cell_at : List ℕ → Data → Parsed ExposureRecord
cell_at at d = do
  ms ← object_at (f.From ∷ f.To ∷ f.Level ∷ f.Drawing ∷ f.Sheet ∷ f.Start ∷ []) (f.From ∷ f.To ∷ []) at d
  from ← field f.From row_at at ms
  to ← field f.To (number_at from LAST_ROW) at ms
  shown ← shown_at at ms
  Ok (record { from = from; to = to; shown = shown })

unfoldable pub column_at : List ℕ → Data → Parsed ColumnRecord
column_at at d = do
  ms ← object_at (f.Peg ∷ f.Off ∷ f.Cells ∷ []) (f.Cells ∷ []) at d
  peg ← optional_field f.Peg reference_at at ms
  off ← field_or false f.Off flag_at at ms
  cells ← field f.Cells (list_of cell_at) at ms
  Ok (record { peg = peg; off = off; cells = cells })

-- ---- nodes

unfoldable pub node_number_at : List ℕ → Members → Parsed Ref
node_number_at at ms = do
  alone ← none_of code.UnknownKey (f.Column ∷ []) at ms
  number ← field f.Node reference_at at ms
  Ok (target.Node number)

unfoldable pub column_number_at : List ℕ → Members → Parsed Ref
column_number_at at ms = do
  number ← field f.Column reference_at at ms
  Ok (target.Column number)

-- exactly one of two keys
abbrev pub target_at : List ℕ → Members → Parsed Ref
target_at at ms = if has f.Node ms then node_number_at at ms else column_number_at at ms

unfoldable pub ref_at : List ℕ → Data → Parsed Ref
ref_at at d = do
  ms ← object_at (f.Column ∷ f.Node ∷ []) [] at d
  target_at at ms

unfoldable pub pair_at : Op → List ℕ → Data → Parsed Node
pair_at op at d = do
  ms ← object_at (f.Op ∷ f.First ∷ f.Second ∷ []) (f.Op ∷ f.First ∷ f.Second ∷ []) at d
  first ← field f.First ref_at at ms
  second ← field f.Second ref_at at ms
  Ok (node.Pair op first second)

unfoldable pub card_at : List ℕ → Data → Parsed Node
card_at at d = do
  ms ← object_at (f.Op ∷ f.Rgba ∷ []) (f.Op ∷ f.Rgba ∷ []) at d
  style ← field f.Rgba style_at at ms
  Ok (node.Card style)

unfoldable pub shuffle_at : List ℕ → Data → Parsed Node
shuffle_at at d = do
  ms ← object_at (f.Op ∷ f.Input ∷ f.List ∷ []) (f.Op ∷ f.Input ∷ f.List ∷ []) at d
  input ← field f.Input ref_at at ms
  rows ← field f.List (list_of row_at) at ms
  Ok (node.Shuffle input rows)

unfoldable pub blur_at : List ℕ → Data → Parsed Node
blur_at at d = do
  ms ← object_at (f.Op ∷ f.Input ∷ f.Radius ∷ []) (f.Op ∷ f.Input ∷ f.Radius ∷ []) at d
  input ← field f.Input ref_at at ms
  radius ← field f.Radius (number_at 1 GREATEST_RADIUS) at ms
  Ok (node.Blur input radius)

-- the input of a filter and the styles that it names
unfoldable pub filter_at : List ℕ → Data → Parsed (Ref × List ℕ)
filter_at at d = do
  ms ← object_at (f.Op ∷ f.Input ∷ f.Styles ∷ []) (f.Op ∷ f.Input ∷ f.Styles ∷ []) at d
  input ← field f.Input ref_at at ms
  styles ← field f.Styles (list_of (number_at 0 (STYLE_NUMBERS - 1))) at ms
  Ok (input, styles)

unfoldable pub keep_at : List ℕ → Data → Parsed Node
keep_at at d = do
  filter ← filter_at at d
  Ok (node.Keep filter.0 filter.1)

unfoldable pub delete_at : List ℕ → Data → Parsed Node
delete_at at d = do
  filter ← filter_at at d
  Ok (node.Delete filter.0 filter.1)

-- the node's work, by the word at op
abbrev pub work_of : ℕ → List ℕ → Option Work
work_of format word =
    if bytes_eq word (codes "over") then Some (work.Pair op.Over) else (
    if bytes_eq word (codes "add") then Some (work.Pair op.Add) else (
    if bytes_eq word (codes "sub") then Some (work.Pair op.Sub) else (
    if bytes_eq word (codes "mult") then Some (work.Pair op.Mult) else (
    if bytes_eq word (codes "min") then Some (work.Pair op.Min) else (
    if bytes_eq word (codes "max") then Some (work.Pair op.Max) else (
    if bytes_eq word (codes "in") then Some (work.Pair op.MatteIn) else (
    if bytes_eq word (codes "out") then Some (work.Pair op.MatteOut) else (
    if bytes_eq word (codes "card") then Some work.Card else (
    if bytes_eq word (codes "shuffle") then Some work.Shuffle else (
    if not (is_newer format) then None else (
    if bytes_eq word (codes "blur") then Some work.Blur else (
    if bytes_eq word (codes "keep") then Some work.Keep else (
    if bytes_eq word (codes "delete") then Some work.Delete else None)))))))))))))

-- a work that format 1 knows
abbrev pub IsOldWork : Work → Type 0
IsOldWork work.Blur = ⊥
IsOldWork work.Keep = ⊥
IsOldWork work.Delete = ⊥
IsOldWork _ = Unit {0}

abbrev pub work_at : ℕ → List ℕ → Data → Parsed Work
work_at format at d = do
  word ← text_at at d
  or_fault (work_of format word) code.OutOfRange at

abbrev pub node_of : Work → List ℕ → Data → Parsed Node
node_of (work.Pair op) at d = pair_at op at d
node_of work.Card at d = card_at at d
node_of work.Shuffle at d = shuffle_at at d
node_of work.Blur at d = blur_at at d
node_of work.Keep at d = keep_at at d
node_of work.Delete at d = delete_at at d

unfoldable pub node_at : ℕ → List ℕ → Data → Parsed Node
node_at format at d = do
  ms ← or_fault (as_object d) code.WrongKind at
  work ← field f.Op (work_at format) at ms
  node_of work at d

-- ---- sheets and the scene

unfoldable pub sheet_at : ℕ → List ℕ → Data → Parsed SheetRecord
sheet_at format at d = do
  ms ← object_at (f.Pegs ∷ f.Columns ∷ f.Nodes ∷ f.Out ∷ []) (f.Columns ∷ []) at d
  pegs ← field_or [] f.Pegs (list_of (peg_at format)) at ms
  columns ← field f.Columns (list_of column_at) at ms
  nodes ← field_or [] f.Nodes (list_of (node_at format)) at ms
  out ← optional_field f.Out (list_of ref_at) at ms
  Ok (record { pegs = pegs; columns = columns; nodes = nodes; out = out })

-- the keys of the whole, all needed
abbrev pub scene_fields : List Field
scene_fields = f.Format ∷ f.Camera ∷ f.Palettes ∷ f.Levels ∷ f.Sheets ∷ []

unfoldable pub scene_at : List ℕ → Data → Parsed SceneRecord
scene_at at d = do
  ms ← object_at scene_fields scene_fields at d
  format ← field f.Format (number_at 1 2) at ms
  camera ← field f.Camera camera_at at ms
  palettes ← field f.Palettes (list_of (palette_at format)) at ms
  levels ← field f.Levels (list_of level_at) at ms
  sheets ← field f.Sheets (list_of (sheet_at format)) at ms
  Ok (record { format = format; camera = camera; palettes = palettes; levels = levels; sheets = sheets })

-- the value of a JSON text
abbrev pub json_of : List ℕ → Option Data
json_of bytes = if is_utf8 bytes then read bytes else None

-- the scene that the bytes of a file say, or the first fault
unfoldable pub scene_of : List ℕ → Parsed SceneRecord
scene_of bytes = do
  d ← or_fault (json_of bytes) code.NotJson []
  scene_at [] d
