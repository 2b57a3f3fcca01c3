-- What is written for a scene, object by object. A member stands at its place in the order of the keys,
-- and what goes without saying is left out.
use Rattle.std.specs.Prelude.{◌≡◌, ℕ, ℤ, List, [], ◌∷◌, map, Bool, true, false, Option, Some, None, Ok, codes}
use Rattle.serde_json.specs.Data.{Data, boolean, number, string, array, object, unsigned, Members, no_members, put}
use Rattle.serde_json.specs.Find.{of_integer}
use Rattle.serde_json.specs.View.{items_of}
use Rattle.xs_pixel.specs.declared.style.Style.{Style}
use Rattle.xs_pixel.specs.declared.operation.Op.{Op}
use Rattle.xs_pixel.specs.declared.operation.Op.TheVariants as op
use Rattle.xs_fault.specs.declared.field.Field.{Field}
use Rattle.xs_fault.specs.declared.field.Field.TheVariants as f
use Rattle.xs_fault.specs.Fields.{field_text}
use Rattle.xs_json.specs.Parsing.{Parsed}
use Rattle.xs_scene.specs.Records.{StyleKeyRecord, ColoursRecord, CameraRecord, LevelRecord, PegKeyRecord, PegRecord, ExposureRecord, ColumnRecord, SheetRecord, SceneRecord}
use Rattle.xs_scene.specs.declared.level.Kind.{Kind}
use Rattle.xs_scene.specs.declared.level.Kind.TheVariants as kind
use Rattle.xs_scene.specs.declared.column.Shown.{Shown}
use Rattle.xs_scene.specs.declared.column.Shown.TheVariants as shown
use Rattle.xs_scene.specs.declared.node.Ref.{Ref}
use Rattle.xs_scene.specs.declared.node.Ref.TheVariants as target
use Rattle.xs_scene.specs.declared.node.Node.{Node}
use Rattle.xs_scene.specs.declared.node.Node.TheVariants as node

-- ---- values

abbrev pub number_data : ℕ → Data
number_data n = number (unsigned n)

abbrev pub offset_data : ℤ → Data
offset_data z = number (of_integer z)

abbrev pub list_data : {A : Type 0} → (A → Data) → List A → Data
list_data written xs = array (items_of (map written xs))

-- what is written for x is read as x, wherever it stands
abbrev pub IsReadAgain : {A : Type 0} → (List ℕ → Data → Parsed A) → (A → Data) → A → Type 0
IsReadAgain reading written x = (at : List ℕ) → reading at (written x) ≡ Ok x

-- ---- members

-- the members, and then one more
infixl 10 ◌▷◌
abbrev pub ◌▷◌ : Members → (Members → Members) → Members
ms ▷ more = more ms

abbrev pub with_field : Field → Data → Members → Members
with_field k d ms = put (field_text k) d ms

-- a field that is left out where there is none
abbrev pub with_some : {A : Type 0} → Field → (A → Data) → Option A → Members → Members
with_some k written None ms = ms
with_some k written (Some x) ms = with_field k (written x) ms

-- a list that is left out where it is empty
abbrev pub with_list : {A : Type 0} → Field → (A → Data) → List A → Members → Members
with_list k written [] ms = ms
with_list k written (x ∷ xs) ms = with_field k (list_data written (x ∷ xs)) ms

-- a flag that is left out where it is false
abbrev pub with_true : Field → Bool → Members → Members
with_true k true ms = with_field k (boolean true) ms
with_true k false ms = ms

-- ---- the camera and palettes

unfoldable pub camera_data : CameraRecord → Data
camera_data camera = object (no_members
    ▷ with_field f.W (number_data camera.w)
    ▷ with_field f.H (number_data camera.h)
    ▷ with_some f.Peg number_data camera.peg)

unfoldable pub style_data : Style → Data
style_data style = list_data number_data (style.r ∷ style.g ∷ style.b ∷ style.a ∷ [])

unfoldable pub style_key_data : StyleKeyRecord → Data
style_key_data key = object (no_members
    ▷ with_field f.Row (number_data key.row)
    ▷ with_field f.Style (number_data key.style)
    ▷ with_field f.Rgba (style_data key.to))

-- a palette is written as the list of its styles where it has no keys
abbrev pub palette_value : List Style → List StyleKeyRecord → Data
palette_value styles [] = list_data style_data styles
palette_value styles (key ∷ keys) = object (no_members
    ▷ with_field f.Styles (list_data style_data styles)
    ▷ with_field f.Keys (list_data style_key_data (key ∷ keys)))

unfoldable pub palette_data : ColoursRecord → Data
palette_data palette = palette_value palette.styles palette.keys

-- ---- levels

abbrev pub with_kind : Kind → Members → Members
with_kind kind.Colour ms = ms ▷ with_field f.Kind (string (codes "colour"))
with_kind (kind.Cm32 palette) ms = ms
    ▷ with_field f.Kind (string (codes "cm32"))
    ▷ with_field f.Palette (number_data palette)

unfoldable pub level_data : LevelRecord → Data
level_data level = object (no_members
    ▷ with_kind level.kind
    ▷ with_field f.Drawings (list_data string level.drawings))

-- ---- pegs

unfoldable pub peg_key_data : PegKeyRecord → Data
peg_key_data key = object (no_members
    ▷ with_field f.Row (number_data key.row)
    ▷ with_field f.X (offset_data key.x)
    ▷ with_field f.Y (offset_data key.y)
    ▷ with_true f.Line key.line)

unfoldable pub peg_data : PegRecord → Data
peg_data peg = object (no_members
    ▷ with_some f.Parent number_data peg.parent
    ▷ with_list f.Keys peg_key_data peg.keys)

-- ---- columns

abbrev pub with_shown : Shown → Members → Members
with_shown (shown.Drawing level index) ms = ms
    ▷ with_field f.Level (number_data level)
    ▷ with_field f.Drawing (number_data index)
with_shown (shown.Sheet sheet start) ms = ms
    ▷ with_field f.Sheet (number_data sheet)
    ▷ with_field f.Start (number_data start)

unfoldable pub cell_data : ExposureRecord → Data
cell_data cell = object (no_members
    ▷ with_field f.From (number_data cell.from)
    ▷ with_field f.To (number_data cell.to)
    ▷ with_shown cell.shown)

unfoldable pub column_data : ColumnRecord → Data
column_data column = object (no_members
    ▷ with_some f.Peg number_data column.peg
    ▷ with_true f.Off column.off
    ▷ with_field f.Cells (list_data cell_data column.cells))

-- ---- nodes

abbrev pub ref_data : Ref → Data
ref_data (target.Column column) = object (no_members ▷ with_field f.Column (number_data column))
ref_data (target.Node index) = object (no_members ▷ with_field f.Node (number_data index))

abbrev pub op_word : Op → List ℕ
op_word op.Over = codes "over"
op_word op.Add = codes "add"
op_word op.Sub = codes "sub"
op_word op.Mult = codes "mult"
op_word op.Min = codes "min"
op_word op.Max = codes "max"
op_word op.MatteIn = codes "in"
op_word op.MatteOut = codes "out"

-- a node with a word, an input and a list of numbers
abbrev pub listed_data : List ℕ → Ref → Field → List ℕ → Data
listed_data word input k numbers = object (no_members
    ▷ with_field f.Op (string word)
    ▷ with_field f.Input (ref_data input)
    ▷ with_field k (list_data number_data numbers))

abbrev pub node_data : Node → Data
node_data (node.Pair op first second) = object (no_members
    ▷ with_field f.Op (string (op_word op))
    ▷ with_field f.First (ref_data first)
    ▷ with_field f.Second (ref_data second))
node_data (node.Card style) = object (no_members
    ▷ with_field f.Op (string (codes "card"))
    ▷ with_field f.Rgba (style_data style))
node_data (node.Shuffle input rows) = listed_data (codes "shuffle") input f.List rows
node_data (node.Blur input radius) = object (no_members
    ▷ with_field f.Op (string (codes "blur"))
    ▷ with_field f.Input (ref_data input)
    ▷ with_field f.Radius (number_data radius))
node_data (node.Keep input styles) = listed_data (codes "keep") input f.Styles styles
node_data (node.Delete input styles) = listed_data (codes "delete") input f.Styles styles

-- ---- sheets and the scene

-- what is rendered is written where it is told, even if that is nothing
unfoldable pub sheet_data : SheetRecord → Data
sheet_data sheet = object (no_members
    ▷ with_list f.Pegs peg_data sheet.pegs
    ▷ with_field f.Columns (list_data column_data sheet.columns)
    ▷ with_list f.Nodes node_data sheet.nodes
    ▷ with_some f.Out (list_data ref_data) sheet.out)

unfoldable pub scene_data : SceneRecord → Data
scene_data scene = object (no_members
    ▷ with_field f.Format (number_data scene.format)
    ▷ with_field f.Camera (camera_data scene.camera)
    ▷ with_field f.Palettes (list_data palette_data scene.palettes)
    ▷ with_field f.Levels (list_data level_data scene.levels)
    ▷ with_field f.Sheets (list_data sheet_data scene.sheets))
