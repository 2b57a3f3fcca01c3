use Rattle.std.specs.Prelude.{◌≤◌, IfSome, All}
use Rattle.xs_pixel.specs.declared.style.Style.{Style}
use Rattle.xs_scene.specs.declared.node.Node.{Node}
use Rattle.xs_scene.specs.declared.node.Node.TheVariants.{Card}
use Rattle.xs_scene.specs.Names.{IsName}
use Rattle.xs_scene.specs.Ranges.{IsReference, IsCamera, IsStyleKey, IsKind, IsPegKey, IsExposure, IsNode, IsSheet, IsScene}
use Rattle.xs_scene.specs.Records.{StyleKeyRecord, ColoursRecord, LevelRecord, PegRecord, ColumnRecord, SheetRecord, SceneRecord}

-- the ranges of a whole scene. In a contract a scene is a record of plain numbers, so a fact that needs
-- its ranges has `IsInRange` as a premise

-- each channel of a style is a byte
pub record IsStyle (style : Style) : Type 0 where
  pub r : style.r ≤ 255
  pub g : style.g ≤ 255
  pub b : style.b ≤ 255
  pub a : style.a ≤ 255

pub record StyleKeyInRange (key : StyleKeyRecord) : Type 0 where
  pub numbers : IsStyleKey key
  pub to : IsStyle key.to

pub record ColoursInRange (palette : ColoursRecord) : Type 0 where
  pub styles : All IsStyle palette.styles
  pub keys : All StyleKeyInRange palette.keys

pub record LevelInRange (level : LevelRecord) : Type 0 where
  pub kind : IsKind level.kind
  pub drawings : All IsName level.drawings

pub record PegInRange (peg : PegRecord) : Type 0 where
  pub parent : IfSome peg.parent IsReference
  pub keys : All IsPegKey peg.keys

pub record ColumnInRange (column : ColumnRecord) : Type 0 where
  pub peg : IfSome column.peg IsReference
  pub cells : All IsExposure column.cells

abbrev pub HasCardInRange : Node → Type 0
HasCardInRange (Card style) = IsStyle style
HasCardInRange _ = Unit {0}

abbrev pub NodeInRange : Node → Type 0
NodeInRange node = IsNode node × HasCardInRange node

pub record SheetInRange (sheet : SheetRecord) : Type 0 where
  pub pegs : All PegInRange sheet.pegs
  pub columns : All ColumnInRange sheet.columns
  pub numbers : IsSheet sheet.nodes sheet.out
  pub cards : All HasCardInRange sheet.nodes

pub record IsInRange (scene : SceneRecord) : Type 0 where
  pub format : IsScene scene.format scene.palettes scene.sheets
  pub camera : IsCamera scene.camera
  pub palettes : All ColoursInRange scene.palettes
  pub levels : All LevelInRange scene.levels
  pub sheets : All SheetInRange scene.sheets
