-- What is written for a scene has no fraction and nests a few levels deep, so its text is exact and reads
-- back.
use Rattle.std.proofs.Common.{◌≡◌, ℕ, suc, ◌≤◌, ℤ, pos, negsuc, List, [], ◌∷◌, map, Bool, true, false, Option, Some, None, Ordering, Less, Equal, Greater, nat_cmp, refl, arith}
use Rattle.std.proofs.lemmas.Bool.{or_parts}
use Rattle.std.specs.Ordering.{match_ordering}
use Rattle.std.specs.Cmp.Lexicographic.{slice_cmp}
use Rattle.serde_json.specs.Data.{Data, string, object, Items, Members, no_members, member, put, depth, members_depth, items_depth}
use Rattle.serde_json.specs.View.{items_of}
use Rattle.serde_json.specs.Written.{has_float, items_have_float, members_have_float}
use Rattle.xs_pixel.specs.declared.style.Style.{Style}
use Rattle.xs_fault.specs.declared.field.Field.{Field}
use Rattle.xs_fault.specs.declared.field.Field.TheVariants as f
use Rattle.xs_scene.specs.Records.{StyleKeyRecord, ColoursRecord, CameraRecord, LevelRecord, PegKeyRecord, PegRecord, ExposureRecord, ColumnRecord, SheetRecord, SceneRecord}
use Rattle.xs_scene.specs.declared.level.Kind.{Kind}
use Rattle.xs_scene.specs.declared.level.Kind.TheVariants as kind
use Rattle.xs_scene.specs.declared.column.Shown.{Shown}
use Rattle.xs_scene.specs.declared.column.Shown.TheVariants as shown
use Rattle.xs_scene.specs.declared.node.Ref.{Ref}
use Rattle.xs_scene.specs.declared.node.Ref.TheVariants as target
use Rattle.xs_scene.specs.declared.node.Node.{Node}
use Rattle.xs_scene.specs.declared.node.Node.TheVariants as node
use Rattle.xs_scene_text.specs.SceneData.{number_data, offset_data, list_data, with_field, with_some, with_list, with_true, with_kind, with_shown, op_word, camera_data, style_data, style_key_data, palette_value, palette_data, level_data, peg_key_data, peg_data, cell_data, column_data, ref_data, listed_data, node_data, sheet_data, scene_data}

-- at most so deep, and without a fraction
pub record IsShallow (k : ℕ) (d : Data) : Type 0 where
  pub no_float : has_float d ≡ false
  pub within : depth d ≤ k

record AreShallow (k : ℕ) (ms : Members) : Type 0 where
  no_float : members_have_float ms ≡ false
  within : members_depth ms ≤ k

-- ---- members

none_shallow : (k : ℕ) → AreShallow k no_members
none_shallow k = record { no_float = refl; within = omega arith }

member_shallow : {k : ℕ} {d : Data} {ms : Members} (name : List ℕ) → IsShallow k d → AreShallow k ms → AreShallow k (member name d ms)
member_shallow {k} {d} {ms} name first others = record {
  no_float = rw (first.no_float, others.no_float) refl;
  within = omega (arith, first.within, others.within);
}

first_shallow : {k : ℕ} (name : List ℕ) (d : Data) (ms : Members) → AreShallow k (member name d ms) → IsShallow k d
first_shallow name d ms all =
    record { no_float = (or_parts (has_float d) _ all.no_float).0; within = omega (arith, all.within) }

others_shallow : {k : ℕ} (name : List ℕ) (d : Data) (ms : Members) → AreShallow k (member name d ms) → AreShallow k ms
others_shallow name d ms all =
    record { no_float = (or_parts (has_float d) _ all.no_float).1; within = omega (arith, all.within) }

chosen_shallow : {k : ℕ} {a b c : Members} (o : Ordering) → AreShallow k a → AreShallow k b → AreShallow k c → AreShallow k (match_ordering o a b c)
chosen_shallow Less x y z = x
chosen_shallow Equal x y z = y
chosen_shallow Greater x y z = z

put_shallow : {k : ℕ} {d : Data} (name : List ℕ) (ms : Members) → IsShallow k d → AreShallow k ms → AreShallow k (put name d ms)
put_shallow name no_members value all = member_shallow name value all
put_shallow name (member other e ms) value all =
    chosen_shallow (slice_cmp nat_cmp name other) (member_shallow name value all) (member_shallow other value (others_shallow other e ms all))
    (member_shallow other (first_shallow other e ms all) (put_shallow name ms value (others_shallow other e ms all)))

field_shallow : {k : ℕ} {d : Data} {ms : Members} (key : Field) → AreShallow k ms → IsShallow k d → AreShallow k (with_field key d ms)
field_shallow {k} {d} {ms} key all value = put_shallow _ ms value all

some_shallow :
    {A : Type 0} {k : ℕ} {ms : Members} (key : Field) (written : A → Data) (o : Option A) → AreShallow k ms
    → ((x : A) → IsShallow k (written x)) → AreShallow k (with_some key written o ms)
some_shallow key written None all each = all
some_shallow key written (Some x) all each = field_shallow key all (each x)

true_shallow : {k : ℕ} {ms : Members} (key : Field) (b : Bool) → AreShallow k ms → AreShallow k (with_true key b ms)
true_shallow key true all = field_shallow key all (record { no_float = refl; within = omega arith })
true_shallow key false all = all

object_shallow : {k : ℕ} {ms : Members} → AreShallow k ms → IsShallow (suc k) (object ms)
object_shallow {k} {ms} all = record { no_float = all.no_float; within = omega (arith, all.within) }

-- ---- values

number_shallow : (k n : ℕ) → IsShallow k (number_data n)
number_shallow k n = record { no_float = refl; within = omega arith }

offset_shallow : (k : ℕ) (z : ℤ) → IsShallow k (offset_data z)
offset_shallow k (pos n) = record { no_float = refl; within = omega arith }
offset_shallow k (negsuc n) = record { no_float = refl; within = omega arith }

text_shallow : (k : ℕ) (text : List ℕ) → IsShallow k (string text)
text_shallow k text = record { no_float = refl; within = omega arith }

record AreItemsShallow (k : ℕ) (ds : Items) : Type 0 where
  no_float : items_have_float ds ≡ false
  within : items_depth ds ≤ k

items_shallow : {A : Type 0} {k : ℕ} (written : A → Data) (xs : List A) → ((x : A) → IsShallow k (written x)) → AreItemsShallow k (items_of (map written xs))
items_shallow written [] each = record { no_float = refl; within = omega arith }
items_shallow written (x ∷ xs) each =
    let others : _ = items_shallow written xs each in
    record { no_float = rw ((each x).no_float, others.no_float) refl; within = omega (arith, (each x).within, others.within) }

list_shallow : {A : Type 0} {k : ℕ} (written : A → Data) (xs : List A) → ((x : A) → IsShallow k (written x)) → IsShallow (suc k) (list_data written xs)
list_shallow written xs each =
    let all : _ = items_shallow written xs each in
    record { no_float = all.no_float; within = omega (arith, all.within) }

list_field_shallow :
    {A : Type 0} {k : ℕ} {ms : Members} (key : Field) (written : A → Data) (xs : List A)
    → AreShallow (suc k) ms → ((x : A) → IsShallow k (written x))
    → AreShallow (suc k) (with_list key written xs ms)
list_field_shallow key written [] all each = all
list_field_shallow key written (x ∷ xs) all each = field_shallow key all (list_shallow written (x ∷ xs) each)

-- ---- objects, each at any depth from its own on

camera_shallow : (k : ℕ) (camera : CameraRecord) → IsShallow (suc k) (camera_data camera)
unfolding camera_data
camera_shallow k camera =
    let w : _ = field_shallow f.W (none_shallow k) (number_shallow k camera.w) in
    let h : _ = field_shallow f.H w (number_shallow k camera.h) in
    object_shallow (some_shallow f.Peg number_data camera.peg h (number_shallow k))

style_shallow : (k : ℕ) (style : Style) → IsShallow (suc k) (style_data style)
unfolding style_data
style_shallow k style = list_shallow number_data (style.r ∷ style.g ∷ style.b ∷ style.a ∷ []) (number_shallow k)

style_key_shallow : (k : ℕ) (key : StyleKeyRecord) → IsShallow (suc (suc k)) (style_key_data key)
unfolding style_key_data
style_key_shallow k key =
    let row : _ = field_shallow f.Row (none_shallow (suc k)) (number_shallow (suc k) key.row) in
    let style : _ = field_shallow f.Style row (number_shallow (suc k) key.style) in
    object_shallow (field_shallow f.Rgba style (style_shallow k key.to))

palette_of_shallow : (k : ℕ) (styles : List Style) (keys : List StyleKeyRecord) → IsShallow (suc (suc (suc (suc k)))) (palette_value styles keys)
palette_of_shallow k styles [] = list_shallow style_data styles (style_shallow (suc (suc k)))
palette_of_shallow k styles (key ∷ keys) =
    let entries : _ = field_shallow f.Styles (none_shallow (suc (suc (suc k)))) (list_shallow style_data styles (style_shallow (suc k))) in
    object_shallow (field_shallow f.Keys entries (list_shallow style_key_data (key ∷ keys) (style_key_shallow k)))

palette_shallow : (k : ℕ) (palette : ColoursRecord) → IsShallow (suc (suc (suc (suc k)))) (palette_data palette)
unfolding palette_data
palette_shallow k palette = palette_of_shallow k palette.styles palette.keys

kind_shallow : (k : ℕ) (kind : Kind) → AreShallow k (with_kind kind no_members)
kind_shallow k kind.Colour = field_shallow f.Kind (none_shallow k) (text_shallow k _)
kind_shallow k (kind.Cm32 palette) = field_shallow f.Palette (field_shallow f.Kind (none_shallow k) (text_shallow k _)) (number_shallow k palette)

level_shallow : (k : ℕ) (level : LevelRecord) → IsShallow (suc (suc k)) (level_data level)
unfolding level_data
level_shallow k level = object_shallow (field_shallow f.Drawings (kind_shallow (suc k) level.kind) (list_shallow string level.drawings (text_shallow k)))

peg_key_shallow : (k : ℕ) (key : PegKeyRecord) → IsShallow (suc k) (peg_key_data key)
unfolding peg_key_data
peg_key_shallow k key =
    let row : _ = field_shallow f.Row (none_shallow k) (number_shallow k key.row) in
    let x : _ = field_shallow f.X row (offset_shallow k key.x) in
    let y : _ = field_shallow f.Y x (offset_shallow k key.y) in
    object_shallow (true_shallow f.Line key.line y)

peg_shallow : (k : ℕ) (peg : PegRecord) → IsShallow (suc (suc (suc k))) (peg_data peg)
unfolding peg_data
peg_shallow k peg =
    let parent : _ = some_shallow f.Parent number_data peg.parent (none_shallow (suc (suc k))) (number_shallow (suc (suc k))) in
    object_shallow (list_field_shallow f.Keys peg_key_data peg.keys parent (peg_key_shallow k))

shown_shallow : (k : ℕ) (ms : Members) (shown : Shown) → AreShallow k ms → AreShallow k (with_shown shown ms)
shown_shallow k ms (shown.Drawing level index) all = field_shallow f.Drawing (field_shallow f.Level all (number_shallow k level)) (number_shallow k index)
shown_shallow k ms (shown.Sheet sheet start) all = field_shallow f.Start (field_shallow f.Sheet all (number_shallow k sheet)) (number_shallow k start)

cell_shallow : (k : ℕ) (cell : ExposureRecord) → IsShallow (suc k) (cell_data cell)
unfolding cell_data
cell_shallow k cell =
    let from : _ = field_shallow f.From (none_shallow k) (number_shallow k cell.from) in
    let to : _ = field_shallow f.To from (number_shallow k cell.to) in
    object_shallow (shown_shallow k _ cell.shown to)

column_shallow : (k : ℕ) (column : ColumnRecord) → IsShallow (suc (suc (suc k))) (column_data column)
unfolding column_data
column_shallow k column =
    let peg : _ = some_shallow f.Peg number_data column.peg (none_shallow (suc (suc k))) (number_shallow (suc (suc k))) in
    object_shallow (field_shallow f.Cells (true_shallow f.Off column.off peg) (list_shallow cell_data column.cells (cell_shallow k)))

ref_shallow : (k : ℕ) (target : Ref) → IsShallow (suc k) (ref_data target)
ref_shallow k (target.Column column) = object_shallow (field_shallow f.Column (none_shallow k) (number_shallow k column))
ref_shallow k (target.Node index) = object_shallow (field_shallow f.Node (none_shallow k) (number_shallow k index))

-- the word of a node
word_shallow : (k : ℕ) (word : List ℕ) → AreShallow k (with_field f.Op (string word) no_members)
word_shallow k word = field_shallow f.Op (none_shallow k) (text_shallow k word)

listed_shallow : (k : ℕ) (word : List ℕ) (input : Ref) (key : Field) (numbers : List ℕ) → IsShallow (suc (suc k)) (listed_data word input key numbers)
listed_shallow k word input key numbers =
    object_shallow
    (field_shallow key (field_shallow f.Input (word_shallow (suc k) word) (ref_shallow k input)) (list_shallow number_data numbers (number_shallow k)))

node_shallow : (k : ℕ) (node : Node) → IsShallow (suc (suc k)) (node_data node)
node_shallow k (node.Pair op first second) =
    object_shallow (field_shallow f.Second (field_shallow f.First (word_shallow (suc k) (op_word op)) (ref_shallow k first)) (ref_shallow k second))
node_shallow k (node.Card style) = object_shallow (field_shallow f.Rgba (word_shallow (suc k) _) (style_shallow k style))
node_shallow k (node.Shuffle input rows) = listed_shallow k _ input f.List rows
node_shallow k (node.Blur input radius) =
    object_shallow (field_shallow f.Radius (field_shallow f.Input (word_shallow (suc k) _) (ref_shallow k input)) (number_shallow (suc k) radius))
node_shallow k (node.Keep input styles) = listed_shallow k _ input f.Styles styles
node_shallow k (node.Delete input styles) = listed_shallow k _ input f.Styles styles

sheet_shallow : (k : ℕ) (sheet : SheetRecord) → IsShallow (suc (suc (suc (suc (suc k))))) (sheet_data sheet)
unfolding sheet_data
sheet_shallow k sheet =
    let pegs : _ = list_field_shallow f.Pegs peg_data sheet.pegs (none_shallow (suc (suc (suc (suc k))))) (peg_shallow k) in
    let columns : _ = field_shallow f.Columns pegs (list_shallow column_data sheet.columns (column_shallow k)) in
    let nodes : _ = list_field_shallow f.Nodes node_data sheet.nodes columns (node_shallow (suc k)) in
    object_shallow (some_shallow f.Out (list_data ref_data) sheet.out nodes (λ out. list_shallow ref_data out (ref_shallow (suc (suc k)))))

pub scene_shallow : (s : SceneRecord) → IsShallow 7 (scene_data s)
unfolding scene_data
scene_shallow s =
    let format : _ = field_shallow f.Format (none_shallow 6) (number_shallow 6 s.format) in
    let camera : _ = field_shallow f.Camera format (camera_shallow 5 s.camera) in
    let palettes : _ = field_shallow f.Palettes camera (list_shallow palette_data s.palettes (palette_shallow 1)) in
    let levels : _ = field_shallow f.Levels palettes (list_shallow level_data s.levels (level_shallow 3)) in
    object_shallow (field_shallow f.Sheets levels (list_shallow sheet_data s.sheets (sheet_shallow 0)))
