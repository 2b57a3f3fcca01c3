-- Small scenes with several faults of one kind, for the order in which they are told.
use Rattle.std.specs.Prelude.{ℕ, false, List, [], ◌∷◌, Some, None, pos}
use Rattle.xs_pixel.specs.declared.style.Style.{Style}
use Rattle.xs_scene.specs.declared.column.Shown.TheVariants.{Drawing}
use Rattle.xs_scene.specs.declared.level.Kind.TheVariants.{Colour, Cm32}
use Rattle.xs_scene.specs.declared.node.Ref.{Ref}
use Rattle.xs_scene.specs.declared.node.Node.{Node}
use Rattle.xs_scene.specs.declared.node.Node.TheVariants.{Blur}
use Rattle.xs_scene.specs.Records.{SceneRecord, StyleKeyRecord, PegKeyRecord, ColumnRecord, ExposureRecord}

abbrev pub black : Style
black = record { r = 0; g = 0; b = 0; a = 255 }

abbrev pub style_key : ℕ → ℕ → StyleKeyRecord
style_key row style = record { row = row; style = style; to = black }

abbrev pub peg_key : ℕ → PegKeyRecord
peg_key row = record { row = row; x = pos 0; y = pos 0; line = false }

-- the first drawing of a level, in one row
abbrev pub shows : ℕ → ℕ → ExposureRecord
shows row level = record { from = row; to = row; shown = Drawing level 0 }

-- a scene with one thing of each kind, by what they name: the peg of the camera, the style of the key of the palette,
-- the palette of the level, and in the sheet the parent of the peg, the peg of the column, the level of its cell, the
-- input of the node and what is rendered. 0 is the only number that names something
abbrev pub naming : ℕ → ℕ → ℕ → ℕ → ℕ → ℕ → Ref → Ref → SceneRecord
naming camera style palette parent peg level input out =
    record {
      format = 2;
      camera = record { w = 1; h = 1; peg = Some camera };
      palettes = record { styles = black ∷ []; keys = style_key 1 style ∷ [] } ∷ [];
      levels = record { kind = Cm32 palette; drawings = (1 ∷ []) ∷ [] } ∷ [];
      sheets =
          record {
            pegs = record { parent = Some parent; keys = [] } ∷ [];
            columns = record { peg = Some peg; off = false; cells = shows 1 level ∷ [] } ∷ [];
            nodes = Blur input 1 ∷ [];
            out = Some (out ∷ []);
          } ∷ [];
    }

-- a scene with two keys of a palette, two drawings, two keys of a peg and two cells of a column: of each two the first
-- has row or name 1, and the second the one that is given
abbrev pub standing : ℕ → ℕ → ℕ → ℕ → SceneRecord
standing style_row file peg_row cell_row =
    record {
      format = 2;
      camera = record { w = 1; h = 1; peg = None };
      palettes = record { styles = black ∷ []; keys = style_key 1 0 ∷ style_key style_row 0 ∷ [] } ∷ [];
      levels = record { kind = Colour; drawings = (1 ∷ []) ∷ (file ∷ []) ∷ [] } ∷ [];
      sheets =
          record {
            pegs = record { parent = None; keys = peg_key 1 ∷ peg_key peg_row ∷ [] } ∷ [];
            columns = record { peg = None; off = false; cells = shows 1 0 ∷ shows cell_row 0 ∷ [] } ∷ [];
            nodes = [];
            out = None;
          } ∷ [];
    }

-- a scene with these lists
abbrev pub listing : List Style → List StyleKeyRecord → List ColumnRecord → List Node → List Ref → SceneRecord
listing styles keys columns nodes out =
    record {
      format = 2;
      camera = record { w = 1; h = 1; peg = None };
      palettes = record { styles = styles; keys = keys } ∷ [];
      levels = [];
      sheets = record { pegs = []; columns = columns; nodes = nodes; out = Some out } ∷ [];
    }
