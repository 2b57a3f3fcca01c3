use Rattle.std.specs.Prelude.{◌≡◌, ◌≤◌, ◌<◌, ◌≤ℤ◌, ℕ, ℤ, pos, neg_ℤ, false, List, [], Option, IfSome, All}
use Rattle.xs_base.specs.declared.limits.TheConstants.{LAST_ROW, GREATEST_REFERENCE, LONGEST_CAMERA_SIDE, FARTHEST_OFFSET, STYLE_NUMBERS, GREATEST_RADIUS}
use Rattle.xs_scene.specs.declared.level.Kind.{Kind}
use Rattle.xs_scene.specs.declared.level.Kind.TheVariants.{Colour, Cm32}
use Rattle.xs_scene.specs.declared.column.Shown.{Shown}
use Rattle.xs_scene.specs.declared.column.Shown.TheVariants.{Drawing, Sheet}
use Rattle.xs_scene.specs.declared.node.Ref.{Ref}
use Rattle.xs_scene.specs.declared.node.Ref.TheVariants as target
use Rattle.xs_scene.specs.declared.node.Node.{Node}
use Rattle.xs_scene.specs.declared.node.Node.TheVariants.{Pair, Card, Shuffle, Blur, Keep, Delete}
use Rattle.xs_scene.specs.Records.{StyleKeyRecord, ColoursRecord, CameraRecord, PegKeyRecord, PegRecord, ExposureRecord, SheetRecord}

-- a row of an exposure sheet; rows count from 1
abbrev pub IsRow : ℕ → Type 0
IsRow row = (1 ≤ row) × (row ≤ LAST_ROW)

-- the number of a thing of the scene, whether or not there is such a thing
abbrev pub IsReference : ℕ → Type 0
IsReference number = number ≤ GREATEST_REFERENCE

-- a side of the camera in pixels
abbrev pub IsSide : ℕ → Type 0
IsSide side = (1 ≤ side) × (side ≤ LONGEST_CAMERA_SIDE)

-- an offset of a peg in pixels
abbrev pub IsOffset : ℤ → Type 0
IsOffset offset = (neg_ℤ (pos FARTHEST_OFFSET) ≤ℤ offset) × (offset ≤ℤ pos FARTHEST_OFFSET)

pub record IsCamera (camera : CameraRecord) : Type 0 where
  pub w : IsSide camera.w
  pub h : IsSide camera.h
  pub peg : IfSome camera.peg IsReference

pub record IsStyleKey (key : StyleKeyRecord) : Type 0 where
  pub row : IsRow key.row
  pub style : IsReference key.style

-- a CM32 level has the number of its palette
abbrev pub IsKind : Kind → Type 0
IsKind Colour = Unit {0}
IsKind (Cm32 palette) = IsReference palette

pub record IsPegKey (key : PegKeyRecord) : Type 0 where
  pub row : IsRow key.row
  pub x : IsOffset key.x
  pub y : IsOffset key.y

abbrev pub IsShown : Shown → Type 0
IsShown (Drawing level index) = IsReference level × IsReference index
IsShown (Sheet sheet start) = IsReference sheet × IsRow start

-- an exposure covers the rows `from` to `to`
pub record IsExposure (cell : ExposureRecord) : Type 0 where
  pub from : IsRow cell.from
  pub to : IsRow cell.to
  pub rows : cell.from ≤ cell.to
  pub shown : IsShown cell.shown

abbrev pub IsRef : Ref → Type 0
IsRef (target.Column number) = IsReference number
IsRef (target.Node number) = IsReference number

-- a style that a palette filter can name
abbrev pub IsFiltered : ℕ → Type 0
IsFiltered style = style < STYLE_NUMBERS

abbrev pub IsNode : Node → Type 0
IsNode (Pair op first second) = IsRef first × IsRef second
IsNode (Card style) = Unit {0}
IsNode (Shuffle input rows) = IsRef input × All IsRow rows
IsNode (Blur input radius) = IsRef input × (1 ≤ radius) × (radius ≤ GREATEST_RADIUS)
IsNode (Keep input styles) = IsRef input × All IsFiltered styles
IsNode (Delete input styles) = IsRef input × All IsFiltered styles

pub record IsSheet (nodes : List Node) (out : Option (List Ref)) : Type 0 where
  pub are_nodes : All IsNode nodes
  pub are_refs : IfSome out (All IsRef)

-- a node that format 1 knows
abbrev pub IsOldNode : Node → Type 0
IsOldNode (Blur input radius) = ⊥
IsOldNode (Keep input styles) = ⊥
IsOldNode (Delete input styles) = ⊥
IsOldNode _ = Unit {0}

abbrev pub HasNoKey : ColoursRecord → Type 0
HasNoKey palette = palette.keys ≡ []

-- each key of the peg holds until the next
unfoldable pub HasNoLine : PegRecord → Type 0
HasNoLine peg = All (λ key. key.line ≡ false) peg.keys

unfoldable pub HasNoLines : SheetRecord → Type 0
HasNoLines sheet = All HasNoLine sheet.pegs

unfoldable pub HasOldNodes : SheetRecord → Type 0
HasOldNodes sheet = All IsOldNode sheet.nodes

-- nothing that came with format 2: no palette key, no peg key with a line, no newer node
pub record IsPlain (palettes : List ColoursRecord) (sheets : List SheetRecord) : Type 0 where
  pub no_keys : All HasNoKey palettes
  pub no_lines : All HasNoLines sheets
  pub old_nodes : All HasOldNodes sheets

-- the format is 1 or 2, and a scene of format 1 has nothing that came with format 2
pub record IsScene (format : ℕ) (palettes : List ColoursRecord) (sheets : List SheetRecord) : Type 0 where
  pub least : 1 ≤ format
  pub most : format ≤ 2
  pub plain : format ≡ 1 → IsPlain palettes sheets
