-- The palette of a drawing, by the kind of its level
use Rattle.std.proofs.Common.{◌≡◌, ℕ, Option, Some, None, List, ap, option_and_then}
use Rattle.std.specs.Option.{option_map}
use Rattle.xs_scene.specs.declared.level.Kind.{Kind}
use Rattle.xs_scene.specs.Records.{SceneRecord, LevelRecord, ColoursRecord}
use Rattle.xs_meaning.specs.Drawings.{colours_of, level_of, palette_of}

by_level :
    (palettes : List ColoursRecord) (level : Option LevelRecord) (kind : Kind) → option_map (λ l. l.kind) level ≡ Some kind
    → option_and_then (λ l. palette_of palettes l.kind) level ≡ palette_of palettes kind
by_level palettes None kind is = cc
by_level palettes (Some l) kind is = ap (palette_of palettes) (let same : l.kind ≡ kind = cc in same)

pub colours-by_kind :
    (s : SceneRecord) (d : ℕ) (kind : Kind) → option_map (λ l. l.kind) (level_of s.levels d) ≡ Some kind
    → colours_of s d ≡ palette_of s.palettes kind
unfolding colours_of
colours-by_kind s d kind is = by_level s.palettes (level_of s.levels d) kind is
