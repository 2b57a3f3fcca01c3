-- The expression of a drawing, by the kind of its level
use Rattle.std.proofs.Common.{◌≡◌, ℕ, Bool, true, false, cond, Option, Some, None, List, sym, ap, option_and_then}
use Rattle.std.specs.Option.{option_map}
use Rattle.xs_pixel.specs.Points.{Point}
use Rattle.xs_scene.specs.declared.level.Kind.{Kind}
use Rattle.xs_scene.specs.Records.{SceneRecord, LevelRecord, ColoursRecord}
use Rattle.xs_meaning.specs.Drawings.{colours_of, level_of, palette_of}
use Rattle.xs_meaning.specs.Expressions.{Leaf, Tinted, leaf_by}
use Rattle.xs_meaning.specs.Palettes.{Dropped, is_as_written, tint_at}

by_level :
    (palettes : List ColoursRecord) (level : Option LevelRecord) (kind : Kind) → option_map (λ l. l.kind) level ≡ Some kind
    → option_and_then (λ l. palette_of palettes l.kind) level ≡ palette_of palettes kind
by_level palettes None kind is = cc
by_level palettes (Some l) kind is = ap (palette_of palettes) (let same : l.kind ≡ kind = cc in same)

pub colours-by_kind :
    (s : SceneRecord) (d : ℕ) (kind : Kind) → option_map (λ l. l.kind) (level_of s.levels d) ≡ Some kind
    → colours_of s d ≡ palette_of s.palettes kind
unfolding colours_of
colours-by_kind s d kind is = by_level s.palettes (level_of s.levels d) kind is

pub plain-leaf :
    (c : ColoursRecord) (d row : ℕ) (f : Dropped) (o : Point) → is_as_written c row f ≡ true → Leaf d o ≡ leaf_by (Some c) d row f o
plain-leaf c d row f o is = ap (λ (b : Bool). cond b (Leaf d o) (Tinted d o (tint_at c row f))) (sym is)

pub tinted-leaf :
    (c : ColoursRecord) (d row : ℕ) (f : Dropped) (o : Point) → is_as_written c row f ≡ false
    → Tinted d o (tint_at c row f) ≡ leaf_by (Some c) d row f o
tinted-leaf c d row f o is = ap (λ (b : Bool). cond b (Leaf d o) (Tinted d o (tint_at c row f))) (sym is)
