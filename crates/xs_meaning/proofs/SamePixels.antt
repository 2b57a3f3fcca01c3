-- Filters and palette keys that leave every style its pixel change no expression
use Rattle.std.proofs.Common.{ℕ, ◌≡◌, ◌==◌, ◌||◌, ◌&&◌, not, nat_lt, refl, sym, ap, ap₂, ◌∙◌, Bool, true, false, cond, Option, Some, None, List, slice_get, slice_index_or, option_and_then, IfSome}
use mathlib.Core.Path.{fun_ext}
use Rattle.xs_pixel.specs.Channels.{Channels, clear}
use Rattle.xs_scene.specs.declared.level.Kind.{Kind}
use Rattle.xs_scene.specs.declared.level.Kind.TheVariants.{Colour, Cm32}
use Rattle.xs_scene.specs.declared.node.Ref.{Ref}
use Rattle.xs_scene.specs.Records.{SceneRecord, LevelRecord, ColoursRecord}
use Rattle.xs_meaning.specs.Agreement.{DropsAlike, PalettesAlike}
use Rattle.xs_meaning.specs.Drawings.{colours_of, level_of, palette_of, no_colours, number_of}
use Rattle.xs_meaning.specs.Expressions.{Expr, Leaf, Tinted, pair_of, blur_of, leaf_by, by_offsets, row_expr, input_expr}
use Rattle.xs_meaning.specs.Palettes.{Dropped, deleting, keeping, style_at, as_written, same_pixels, keyed_pixel, key_at}
use Rattle.xs_base.specs.Listed.{is_listed}
use Rattle.xs_pixel.specs.Points.{Point, plus}
use Rattle.xs_meaning.specs.Walk.{sheet_at}
use Rattle.xs_meaning.proofs.Agree.{Agrees, whole_row-agrees, whole_input-agrees, meets-any}
use Rattle.xs_meaning.proofs.Canonical.{tint_at-same, tint_by-written_same}

-- from two palettes that are alike at a row, one leaf
leaf_by-alike :
    (c other : ColoursRecord) (d row : ℕ) (f g : Dropped) (at : Point)
    → ((style : ℕ) → as_written c style ≡ as_written other style)
    → ((style : ℕ) → style_at c row f style ≡ style_at other row g style)
    → leaf_by (Some c) d row f at ≡ leaf_by (Some other) d row g at
leaf_by-alike c other d row f g at same_written same =
    ap₂ (λ tint plain. cond (same_pixels tint plain) (Leaf d at) (Tinted d at tint))
    (tint_at-same c other row row f g same) (tint_by-written_same c other same_written)

-- more dropped styles keep two sets alike
dropped_more :
    (zeroth first second listed : Bool) (pixel : Channels)
    → cond (zeroth || first) clear pixel ≡ cond (zeroth || second) clear pixel
    → cond (zeroth || (first || listed)) clear pixel ≡ cond (zeroth || (second || listed)) clear pixel
dropped_more true first second listed pixel same = refl
dropped_more false true true listed pixel same = refl
dropped_more false true false true pixel same = refl
dropped_more false true false false pixel same = same
dropped_more false false true true pixel same = refl
dropped_more false false true false pixel same = same
dropped_more false false false listed pixel same = refl

alike_with :
    (more : Dropped → Dropped) (listed : ℕ → Bool) → ((f : Dropped) (style : ℕ) → more f style ≡ (f style || listed style))
    → (s : SceneRecord) (f g : Dropped) → DropsAlike s f g → DropsAlike s (more f) (more g)
unfolding style_at
alike_with more listed is s f g alike d row style = through (colours_of s d) (alike d row style)
  where
    through : (c : Option ColoursRecord)
        → IfSome c (λ c. style_at c row f style ≡ style_at c row g style)
        → IfSome c (λ c. style_at c row (more f) style ≡ style_at c row (more g) style)
    through None same = tt
    through (Some c) same =
        ap (λ b. cond (style == 0 || b) clear (keyed_pixel (key_at c row style) (slice_get c.styles style))) (is f style)
        ∙ dropped_more (style == 0) (f style) (g style) (listed style) (keyed_pixel (key_at c row style) (slice_get c.styles style)) same
        ∙ ap (λ b. cond (style == 0 || b) clear (keyed_pixel (key_at c row style) (slice_get c.styles style))) (sym (is g style))

agrees_alike :
    (s : SceneRecord)
    → Agrees (by_offsets s) (by_offsets s) (λ d e other. e ≡ other) (DropsAlike s) (λ style. Unit {0}) (λ q. Unit {0})
unfolding by_offsets
agrees_alike s =
    record {
      nothing = λ d. refl;
      drawing = λ d level index row f g alike. fun_ext (same_leaf (number_of s.levels level index) row f g alike);
      moved = λ d q e other place same. ap (λ e o. e (plus o q)) same;
      card = λ d style bytes. refl;
      pair = λ d op x x' y y' first second. ap₂ (λ a b o. pair_of op (a o) (b o)) first second;
      blur = λ d n e other same. ap (λ a o. blur_of n (a o)) same;
      keep = λ styles f g alike.
          alike_with (keeping styles) (λ style. nat_lt style 4096 && not (is_listed styles style)) (λ f style. refl) s f g alike;
      delete = λ styles f g alike. alike_with (deleting styles) (is_listed styles) (λ f style. refl) s f g alike;
    }
  where
    same_leaf : (d row : ℕ) (f g : Dropped) → DropsAlike s f g
        → (o : Point) → leaf_by (colours_of s d) d row f o ≡ leaf_by (colours_of s d) d row g o
    same_leaf d row f g alike o = through (colours_of s d) (alike d row)
      where
        through : (c : Option ColoursRecord)
            → ((style : ℕ) → IfSome c (λ c. style_at c row f style ≡ style_at c row g style))
            → leaf_by c d row f o ≡ leaf_by c d row g o
        through None same = refl
        through (Some c) same = leaf_by-alike c c d row f g o (λ style. refl) same

pub input_expr-alike :
    (s : SceneRecord) (f g : Dropped) → DropsAlike s f g
    → (k : ℕ) (n : Ref) (row : ℕ) (o : Point) → input_expr s k n row f o ≡ input_expr s k n row g o
input_expr-alike s f g alike k n row o =
    ap (λ e. e o)
    (whole_input-agrees (by_offsets s) (by_offsets s) (λ d e other. e ≡ other) (DropsAlike s) (λ style. Unit {0})
    (λ q. Unit {0}) (agrees_alike s) s.sheets (λ j. meets-any (sheet_at s.sheets j)) k n row f g alike)

pub row_expr-alike :
    (s : SceneRecord) (f g : Dropped) → DropsAlike s f g
    → (k row : ℕ) (o : Point) → row_expr s k row f o ≡ row_expr s k row g o
row_expr-alike s f g alike k row o =
    ap (λ e. e o)
    (whole_row-agrees (by_offsets s) (by_offsets s) (λ d e other. e ≡ other) (DropsAlike s) (λ style. Unit {0})
    (λ q. Unit {0}) (agrees_alike s) s.sheets (λ j. meets-any (sheet_at s.sheets j)) k row f g alike)

-- palettes that are alike make the same leaves
agrees_palettes :
    (s : SceneRecord) (others : List ColoursRecord) → PalettesAlike s.palettes others
    → Agrees (by_offsets s) (by_offsets (record s { palettes = others })) (λ d e other. e ≡ other) (λ f g. f ≡ g)
    (λ style. Unit {0}) (λ q. Unit {0})
unfolding by_offsets colours_of
agrees_palettes s others alike =
    record {
      nothing = λ d. refl;
      drawing = λ d level index row f g same.
          fun_ext
          (λ o.
          let number = number_of s.levels level index in
          ap (λ g. leaf_of s.palettes number row f o) same ∙ same_leaf number row f o ∙ ap (λ g. leaf_of others number row g o) same);
      moved = λ d q e other place same. ap (λ e o. e (plus o q)) same;
      card = λ d style bytes. refl;
      pair = λ d op x x' y y' first second. ap₂ (λ a b o. pair_of op (a o) (b o)) first second;
      blur = λ d n e other same. ap (λ a o. blur_of n (a o)) same;
      keep = λ styles f g same. ap (keeping styles) same;
      delete = λ styles f g same. ap (deleting styles) same;
    }
  where
    leaf_of : List ColoursRecord → ℕ → ℕ → Dropped → Point → Expr
    leaf_of palettes d row f o =
        leaf_by (option_and_then (λ l. palette_of palettes l.kind) (level_of s.levels d)) d row f o

    same_leaf : (d row : ℕ) (f : Dropped) (o : Point) → leaf_of s.palettes d row f o ≡ leaf_of others d row f o
    same_leaf d row f o = by_level (level_of s.levels d)
      where
        by_kind : (kind : Kind) → leaf_by (palette_of s.palettes kind) d row f o ≡ leaf_by (palette_of others kind) d row f o
        by_kind Colour = refl
        by_kind (Cm32 palette) =
            leaf_by-alike (slice_index_or s.palettes palette no_colours) (slice_index_or others palette no_colours) d row f f o
            (alike palette).written ((alike palette).keyed row f)

        by_level : (level : Option LevelRecord)
            → leaf_by (option_and_then (λ l. palette_of s.palettes l.kind) level) d row f o
            ≡ leaf_by (option_and_then (λ l. palette_of others l.kind) level) d row f o
        by_level None = refl
        by_level (Some l) = by_kind l.kind

pub row_expr-palettes_alike :
    (s : SceneRecord) (others : List ColoursRecord) → PalettesAlike s.palettes others
    → (k row : ℕ) (f : Dropped) (o : Point)
    → row_expr s k row f o ≡ row_expr (record s { palettes = others }) k row f o
row_expr-palettes_alike s others alike k row f o =
    ap (λ e. e o)
    (whole_row-agrees (by_offsets s) (by_offsets (record s { palettes = others })) (λ d e other. e ≡ other)
    (λ f g. f ≡ g) (λ style. Unit {0}) (λ q. Unit {0}) (agrees_palettes s others alike) s.sheets
    (λ j. meets-any (sheet_at s.sheets j)) k row f f refl)
