use Rattle.std.specs.Prelude.{ℕ, ℤ, Bool, List, Option}
use Rattle.xs_pixel.specs.declared.style.Style.{Style}
use Rattle.xs_scene.specs.declared.level.Kind.{Kind}
use Rattle.xs_scene.specs.declared.column.Shown.{Shown}
use Rattle.xs_scene.specs.declared.node.Ref.{Ref}
use Rattle.xs_scene.specs.declared.node.Node.{Node}

-- the scene as contracts see it: each record has the fields of the struct of its name. Their ranges
-- are told in Ranges

-- from its row on, a style of the palette has another colour
pub record StyleKeyRecord : Type 0 where
  pub row : ℕ
  pub style : ℕ
  pub to : Style

pub record ColoursRecord : Type 0 where
  pub styles : List Style
  pub keys : List StyleKeyRecord

pub record CameraRecord : Type 0 where
  pub w : ℕ
  pub h : ℕ
  pub peg : Option ℕ

-- the drawings of a level by the bytes of their file names
pub record LevelRecord : Type 0 where
  pub kind : Kind
  pub drawings : List (List ℕ)

pub record PegKeyRecord : Type 0 where
  pub row : ℕ
  pub x : ℤ
  pub y : ℤ
  pub line : Bool

pub record PegRecord : Type 0 where
  pub parent : Option ℕ
  pub keys : List PegKeyRecord

pub record ExposureRecord : Type 0 where
  pub from : ℕ
  pub to : ℕ
  pub shown : Shown

pub record ColumnRecord : Type 0 where
  pub peg : Option ℕ
  pub off : Bool
  pub cells : List ExposureRecord

pub record SheetRecord : Type 0 where
  pub pegs : List PegRecord
  pub columns : List ColumnRecord
  pub nodes : List Node
  pub out : Option (List Ref)

pub record SceneRecord : Type 0 where
  pub format : ℕ
  pub camera : CameraRecord
  pub palettes : List ColoursRecord
  pub levels : List LevelRecord
  pub sheets : List SheetRecord
