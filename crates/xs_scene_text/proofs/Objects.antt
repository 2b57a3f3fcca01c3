-- What is written for each kind of object is read as that object.
use Rattle.std.proofs.Common.{◌≡◌, ℕ, ◌<◌, ◌≤◌, ◌^◌, ℤ, pos, negsuc, List, [], ◌∷◌, Bool, true, false, Option, Some, None, Ok, refl, arith, inl, inr}
use Rattle.std.specs.Prelude.{IfSome}
use Rattle.std.proofs.lemmas.Int.{ints}
use Rattle.std.proofs.lemmas.Bool.{cases_Bool, lt-ltb, le-ltb, true≢false}
use Rattle.serde_json.specs.Data.{string}
use Rattle.xs_pixel.specs.declared.style.Style.{Style}
use Rattle.xs_json.specs.Objects.{whole_at}
use Rattle.xs_scene.specs.Records.{StyleKeyRecord, ColoursRecord, CameraRecord, LevelRecord, PegKeyRecord, PegRecord, ExposureRecord, ColumnRecord}
use Rattle.xs_scene.specs.Names.{IsName}
use Rattle.xs_scene.specs.Ranges.{IsRow, IsReference, IsSide, IsOffset, IsCamera, IsKind, IsPegKey, IsShown, IsExposure, HasNoKey, HasNoLine}
use Rattle.xs_scene.specs.InRange.{IsStyle, StyleKeyInRange, ColoursInRange, LevelInRange, PegInRange, ColumnInRange}
use Rattle.xs_scene.specs.declared.level.Kind.{Kind}
use Rattle.xs_scene.specs.declared.level.Kind.TheVariants as kind
use Rattle.xs_scene.specs.declared.column.Shown.{Shown}
use Rattle.xs_scene.specs.declared.column.Shown.TheVariants as shown
use Rattle.xs_scene_text.specs.Fields.{number_at, row_at, reference_at, offset_at, list_of}
use Rattle.xs_scene_text.specs.SceneText.{is_newer, camera_at, style_at, style_key_at, plain_palette_at, keyed_palette_at, palette_at, name_at, level_at, peg_key_at, peg_at, shown_sheet_at, shown_drawing_at, cell_at, column_at}
use Rattle.xs_scene_text.specs.SceneData.{IsReadAgain, number_data, offset_data, list_data, camera_data, style_data, style_key_data, palette_data, level_data, peg_key_data, peg_data, cell_data, column_data}
use Rattle.xs_scene_text.proofs.Again.{list_again}

-- ---- numbers

pub number_again : (least most n : ℕ) (at : List ℕ) → least ≤ n → n ≤ most → n < 2 ^ 63 → number_at least most at (number_data n) ≡ Ok n
number_again least most n at above below fits = rw (lt-ltb n (2 ^ 63) fits, le-ltb n least above, le-ltb most n below) refl

row_again : (n : ℕ) (at : List ℕ) → IsRow n → row_at at (number_data n) ≡ Ok n
row_again n at is = number_again 1 9999 n at is.0 is.1 (omega arith)

pub reference_again : (n : ℕ) (at : List ℕ) → IsReference n → reference_at at (number_data n) ≡ Ok n
reference_again n at is = number_again 0 1000000000 n at (omega arith) is (omega arith)

side_again : (n : ℕ) (at : List ℕ) → IsSide n → number_at 1 4096 at (number_data n) ≡ Ok n
side_again n at is = number_again 1 4096 n at is.0 is.1 (omega arith)

channel_again : (n : ℕ) (at : List ℕ) → n ≤ 255 → number_at 0 255 at (number_data n) ≡ Ok n
channel_again n at is = number_again 0 255 n at (omega arith) is (omega arith)

right_again : (n : ℕ) (at : List ℕ) → n ≤ 65536 → n < 2 ^ 63 → whole_at (negsuc 65535) (pos 65536) at (offset_data (pos n)) ≡ Ok (pos n)
right_again n at small fits = rw (lt-ltb n (2 ^ 63) fits, le-ltb 65536 n small) refl

offset_again : (z : ℤ) (at : List ℕ) → IsOffset z → offset_at at (offset_data z) ≡ Ok z
unfolding offset_at
offset_again (pos n) at is =
    let small : n ≤ 65536 = omega (arith, ints, is.1) in
    let fits : n < 2 ^ 63 = omega arith in
    rw (lt-ltb n (2 ^ 63) fits) (right_again n at small fits)
offset_again (negsuc n) at is =
    let small : n ≤ 65535 = omega (arith, ints, is.0) in
    rw (le-ltb 65535 n small) refl

-- ---- the camera and palettes

camera_peg_again : (w h : ℕ) (peg : Option ℕ) (at : List ℕ) → IsSide w → IsSide h → IfSome peg IsReference
    → camera_at at (camera_data (record { w = w; h = h; peg = peg })) ≡ Ok (record { w = w; h = h; peg = peg })
unfolding camera_at camera_data
camera_peg_again w h None at is_w is_h is_peg = rw (side_again w _ is_w, side_again h _ is_h) refl
camera_peg_again w h (Some peg) at is_w is_h is_peg = rw (side_again w _ is_w, side_again h _ is_h, reference_again peg _ is_peg) refl

pub camera_again : (camera : CameraRecord) → IsCamera camera → IsReadAgain camera_at camera_data camera
camera_again camera is at = camera_peg_again camera.w camera.h camera.peg at is.w is.h is.peg

pub style_again : (style : Style) → IsStyle style → IsReadAgain style_at style_data style
unfolding style_at style_data
style_again style is at = rw (channel_again style.r _ is.r, channel_again style.g _ is.g, channel_again style.b _ is.b, channel_again style.a _ is.a) refl

style_key_again : (key : StyleKeyRecord) → StyleKeyInRange key → IsReadAgain style_key_at style_key_data key
unfolding style_key_at style_key_data
style_key_again key is at = rw (row_again key.row _ is.numbers.row, reference_again key.style _ is.numbers.style, style_again key.to is.to _) refl

palette_keys_again : (format : ℕ) (styles : List Style) (keys : List StyleKeyRecord) (at : List ℕ) → (is_newer format ≡ false → keys ≡ [])
    → IsReadAgain (list_of style_at) (list_data style_data) styles → IsReadAgain (list_of style_key_at) (list_data style_key_data) keys
    → palette_at format at (palette_data (record { styles = styles; keys = keys })) ≡ Ok (record { styles = styles; keys = keys })
unfolding palette_data plain_palette_at keyed_palette_at
palette_keys_again format styles [] at known styles_again keys_again = elim (cases_Bool (is_newer format)) [
  | inl newer ↦ rw (newer, styles_again at) refl
  | inr older ↦ rw (older, styles_again at) refl
]
palette_keys_again format styles (key ∷ keys) at known styles_again keys_again = elim (cases_Bool (is_newer format)) [
  | inl newer ↦ rw (newer, styles_again _, keys_again _) refl
  | inr older ↦ absurd (let none : key ∷ keys ≡ [] = known older in cc)
]

pub palette_again :
    (format : ℕ) (palette : ColoursRecord) → ColoursInRange palette
    → (is_newer format ≡ false → HasNoKey palette) → IsReadAgain (palette_at format) palette_data palette
palette_again format palette is known at =
    palette_keys_again format palette.styles palette.keys at known
    (list_again style_at style_data palette.styles (λ k d lt. style_again _ (is.styles k d lt)))
    (list_again style_key_at style_key_data palette.keys (λ k d lt. style_key_again _ (is.keys k d lt)))

-- ---- levels

name_again : (text : List ℕ) → IsName text → IsReadAgain name_at string text
unfolding name_at
name_again text is at = rw is refl

level_kind_again : (kind : Kind) (drawings : List (List ℕ)) (at : List ℕ) → IsKind kind → IsReadAgain (list_of name_at) (list_data string) drawings
    → level_at at (level_data (record { kind = kind; drawings = drawings })) ≡ Ok (record { kind = kind; drawings = drawings })
unfolding level_at level_data
level_kind_again kind.Colour drawings at is drawings_again = rw (drawings_again _) refl
level_kind_again (kind.Cm32 palette) drawings at is drawings_again = rw (reference_again palette _ is, drawings_again _) refl

pub level_again : (level : LevelRecord) → LevelInRange level → IsReadAgain level_at level_data level
level_again level is at =
    level_kind_again level.kind level.drawings at is.kind
    (list_again name_at string level.drawings (λ k d lt. name_again _ (is.drawings k d lt)))

-- ---- pegs

peg_key_line_again : (format row : ℕ) (x y : ℤ) (line : Bool) (at : List ℕ) → IsRow row → IsOffset x → IsOffset y → (is_newer format ≡ false → line ≡ false)
    → peg_key_at format at (peg_key_data (record { row = row; x = x; y = y; line = line })) ≡ Ok (record { row = row; x = x; y = y; line = line })
unfolding peg_key_at peg_key_data
peg_key_line_again format row x y false at is_row is_x is_y known = elim (cases_Bool (is_newer format)) [
  | inl newer ↦ rw (newer, row_again row _ is_row, offset_again x _ is_x, offset_again y _ is_y) refl
  | inr older ↦ rw (older, row_again row _ is_row, offset_again x _ is_x, offset_again y _ is_y) refl
]
peg_key_line_again format row x y true at is_row is_x is_y known = elim (cases_Bool (is_newer format)) [
  | inl newer ↦ rw (newer, row_again row _ is_row, offset_again x _ is_x, offset_again y _ is_y) refl
  | inr older ↦ absurd (true≢false (known older))
]

peg_key_again :
    (format : ℕ) (key : PegKeyRecord) → IsPegKey key → (is_newer format ≡ false → key.line ≡ false)
    → IsReadAgain (peg_key_at format) peg_key_data key
peg_key_again format key is known at = peg_key_line_again format key.row key.x key.y key.line at is.row is.x is.y known

peg_fields_again : (format : ℕ) (parent : Option ℕ) (keys : List PegKeyRecord) (at : List ℕ) → IfSome parent IsReference
    → IsReadAgain (list_of (peg_key_at format)) (list_data peg_key_data) keys
    → peg_at format at (peg_data (record { parent = parent; keys = keys })) ≡ Ok (record { parent = parent; keys = keys })
unfolding peg_at peg_data
peg_fields_again format None [] at is keys_again = refl
peg_fields_again format None (key ∷ keys) at is keys_again = rw (keys_again _) refl
peg_fields_again format (Some parent) [] at is keys_again = rw (reference_again parent _ is) refl
peg_fields_again format (Some parent) (key ∷ keys) at is keys_again = rw (reference_again parent _ is, keys_again _) refl

pub peg_again : (format : ℕ) (peg : PegRecord) → PegInRange peg → (is_newer format ≡ false → HasNoLine peg) → IsReadAgain (peg_at format) peg_data peg
unfolding HasNoLine
peg_again format peg is known at =
    peg_fields_again format peg.parent peg.keys at is.parent
    (list_again (peg_key_at format) peg_key_data peg.keys (λ k d lt. peg_key_again format _ (is.keys k d lt) (λ older. known older k d lt)))

-- ---- columns

until_again : (from n : ℕ) (at : List ℕ) → from ≤ n → IsRow n → number_at from 9999 at (number_data n) ≡ Ok n
until_again from n at above is = number_again from 9999 n at above is.1 (omega arith)

cell_shown_again : (from to : ℕ) (shown : Shown) (at : List ℕ) → IsRow from → IsRow to → from ≤ to → IsShown shown
    → cell_at at (cell_data (record { from = from; to = to; shown = shown })) ≡ Ok (record { from = from; to = to; shown = shown })
unfolding cell_at cell_data shown_sheet_at shown_drawing_at
cell_shown_again from to (shown.Drawing level index) at is_from is_to rows is =
    rw (row_again from _ is_from, until_again from to _ rows is_to, reference_again level _ is.0, reference_again index _ is.1) refl
cell_shown_again from to (shown.Sheet sheet start) at is_from is_to rows is =
    rw (row_again from _ is_from, until_again from to _ rows is_to, reference_again sheet _ is.0, row_again start _ is.1) refl

cell_again : (cell : ExposureRecord) → IsExposure cell → IsReadAgain cell_at cell_data cell
cell_again cell is at = cell_shown_again cell.from cell.to cell.shown at is.from is.to is.rows is.shown

column_fields_again :
    (peg : Option ℕ) (off : Bool) (cells : List ExposureRecord) (at : List ℕ) → IfSome peg IsReference
    → IsReadAgain (list_of cell_at) (list_data cell_data) cells
    → column_at at (column_data (record { peg = peg; off = off; cells = cells })) ≡ Ok (record { peg = peg; off = off; cells = cells })
unfolding column_at column_data
column_fields_again None false cells at is cells_again = rw (cells_again _) refl
column_fields_again None true cells at is cells_again = rw (cells_again _) refl
column_fields_again (Some peg) false cells at is cells_again = rw (reference_again peg _ is, cells_again _) refl
column_fields_again (Some peg) true cells at is cells_again = rw (reference_again peg _ is, cells_again _) refl

pub column_again : (column : ColumnRecord) → ColumnInRange column → IsReadAgain column_at column_data column
column_again column is at =
    column_fields_again column.peg column.off column.cells at is.peg
    (list_again cell_at cell_data column.cells (λ k d lt. cell_again _ (is.cells k d lt)))
