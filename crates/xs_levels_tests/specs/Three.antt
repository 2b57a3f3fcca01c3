-- A table of three colour drawings
use Rattle.std.specs.Prelude.{[], ◌∷◌, codes}
use Rattle.xs_scene.specs.declared.level.Kind.TheVariants.{Colour}
use Rattle.xs_scene.specs.Records.{ColoursRecord}
use Rattle.xs_levels.specs.Table.{TableRecord}

-- a palette without a style
abbrev pub no_colours : ColoursRecord
no_colours = record { styles = []; keys = [] }

abbrev pub three : TableRecord
three = record {
  files = codes "d.xrl" ∷ codes "e.xrl" ∷ codes "f.xrl" ∷ [];
  kinds = Colour ∷ Colour ∷ Colour ∷ [];
  palettes = no_colours ∷ [];
}
