-- The offsets of the drawings of an expression stay bounded
use Rattle.std.proofs.Common.{ℕ, suc, ◌+◌, ◌*◌, ◌^◌, ◌≡◌, refl, ap, subst, Option, Some, None, arith}
use Rattle.std.proofs.lemmas.Bool.{cond_both}
use Rattle.std.proofs.lemmas.Int.{ints}
use Rattle.xs_pixel.specs.declared.operation.Op.{Op}
use Rattle.xs_scene.specs.Records.{SceneRecord, ColoursRecord}
use Rattle.xs_meaning.specs.Bounds.{IsWithin, LeavesWithin}
use Rattle.xs_meaning.specs.Drawings.{colours_of, number_of}
use Rattle.xs_meaning.specs.Expressions.{Expr, Clear, Leaf, Tinted, Card, Pair, Blur, is_clear, Staying, Both, First, Second, Neither, staying, pair_staying, blur_of, leaf_by, by_offsets, row_expr, root_of}
use Rattle.xs_scene.specs.InRange.{IsInRange}
use Rattle.xs_meaning.specs.Palettes.{Dropped, none_dropped, keeping, deleting, is_as_written, is_clear_pixel, pixel_of, tint_at}
use Rattle.xs_pixel.specs.Points.{Point, plus, opposite}
use Rattle.xs_meaning.specs.RowValues.{camera_at}
use Rattle.xs_meaning.specs.Walk.{sheet_at, column_at}
use Rattle.xs_meaning.proofs.Agree.{Agrees, Meets, whole_row-agrees}
use Rattle.xs_meaning.proofs.SheetRanges.{sheet_at-in_range}
use Rattle.xs_meaning.proofs.Offsets.{plus-within, IsWithin-more, place_of-within}

-- an expression below d nested sheets: under an offset within b its drawings are as far away as d
-- places more
abbrev IsBounded : ℕ → (Point → Expr) → Type 0
IsBounded d e = (b : ℕ) (o : Point) → IsWithin b o → LeavesWithin (b + d * 2 ^ 22) (e o)

LeavesWithin-pair_staying :
    (n : ℕ) (stays : Staying) (op : Op) (a b : Expr) → LeavesWithin n a → LeavesWithin n b
    → LeavesWithin n (pair_staying stays op a b)
LeavesWithin-pair_staying n Both op a b first second = (first, second)
LeavesWithin-pair_staying n First op a b first second = first
LeavesWithin-pair_staying n Second op a b first second = second
LeavesWithin-pair_staying n Neither op a b first second = tt

LeavesWithin-blur_of : (n radius : ℕ) (a : Expr) → LeavesWithin n a → LeavesWithin n (blur_of radius a)
LeavesWithin-blur_of n radius Clear leaves = tt
LeavesWithin-blur_of n radius (Leaf d at) leaves = leaves
LeavesWithin-blur_of n radius (Tinted d at tint) leaves = leaves
LeavesWithin-blur_of n radius (Card pixel) leaves = leaves
LeavesWithin-blur_of n radius (Pair op a b) leaves = leaves
LeavesWithin-blur_of n radius (Blur m a) leaves = leaves

LeavesWithin-leaf_by :
    (n : ℕ) (c : Option ColoursRecord) (d row : ℕ) (f : Dropped) (at : Point) → IsWithin n at
    → LeavesWithin n (leaf_by c d row f at)
LeavesWithin-leaf_by n None d row f at here = here
LeavesWithin-leaf_by n (Some c) d row f at here =
    cond_both (is_as_written c row f) (Leaf d at) (Tinted d at (tint_at c row f)) (LeavesWithin n)
    (λ passes. here) (λ fails. here)

agrees :
    (s : SceneRecord)
    → Agrees (by_offsets s) (by_offsets s) (λ d e same. IsBounded d e) (λ f g. f ≡ g) (λ style. Unit {0})
    (IsWithin (2 ^ 22))
unfolding by_offsets
agrees s =
    record {
      nothing = λ d b o here. tt;
      drawing = λ d level index row f g same b o here.
          let number = number_of s.levels level index in
          LeavesWithin-leaf_by (b + d * 2 ^ 22) (colours_of s number) number row f o
          (IsWithin-more b (b + d * 2 ^ 22) o (omega arith) here);
      moved = λ d q e same place at b o here.
          subst (λ n. LeavesWithin n (e (plus o q)))
          (let sum : b + 2 ^ 22 + d * 2 ^ 22 ≡ b + suc d * 2 ^ 22 = omega arith in sum)
          (at (b + 2 ^ 22) (plus o q) (plus-within b (2 ^ 22) o q here place));
      card = λ d style bytes b o here.
          cond_both (is_clear_pixel (pixel_of style)) Clear (Card (pixel_of style)) (LeavesWithin (b + d * 2 ^ 22))
          (λ passes. tt) (λ fails. tt);
      pair = λ d op x x' y y' first second b o here.
          LeavesWithin-pair_staying (b + d * 2 ^ 22) (staying op (is_clear (x o)) (is_clear (x' o))) op (x o) (x' o)
          (first b o here) (second b o here);
      blur = λ d n e same at b o here. LeavesWithin-blur_of (b + d * 2 ^ 22) n (e o) (at b o here);
      keep = λ styles f g same. ap (keeping styles) same;
      delete = λ styles f g same. ap (deleting styles) same;
    }

meets : (s : SceneRecord) → IsInRange s → (k : ℕ) → Meets (λ style. Unit {0}) (IsWithin (2 ^ 22)) (sheet_at s.sheets k)
meets s range k =
    record {
      cards = λ n style is. tt;
      places = λ c row.
          place_of-within (sheet_at s.sheets k) (sheet_at-in_range s range k).pegs (column_at (sheet_at s.sheets k) c).peg row;
    }

-- 16 nested sheets of places, and an offset
pub LeavesWithin-row_expr :
    (s : SceneRecord) → IsInRange s → (k row : ℕ) (f : Dropped) (b : ℕ) (o : Point) → IsWithin b o
    → LeavesWithin (b + 2 ^ 26) (row_expr s k row f o)
LeavesWithin-row_expr s range k row f =
    whole_row-agrees (by_offsets s) (by_offsets s) (λ d e same. IsBounded d e) (λ f g. f ≡ g)
    (λ style. Unit {0}) (IsWithin (2 ^ 22)) (agrees s) s.sheets (meets s range) k row f f refl

opposite-within : (n : ℕ) (p : Point) → IsWithin n p → IsWithin n (opposite p)
opposite-within n p here =
    record {
      left = omega (arith, ints, here.right);
      right = omega (arith, ints, here.left);
      bottom = omega (arith, ints, here.top);
      top = omega (arith, ints, here.bottom);
    }

-- the camera adds one place
pub LeavesWithin-root_of :
    (s : SceneRecord) → IsInRange s → (row : ℕ) → LeavesWithin (2 ^ 22 + 2 ^ 26) (root_of s row)
LeavesWithin-root_of s range row =
    LeavesWithin-row_expr s range 0 row none_dropped (2 ^ 22) (opposite (camera_at s row))
    (opposite-within (2 ^ 22) (camera_at s row)
    (place_of-within (sheet_at s.sheets 0) (sheet_at-in_range s range 0).pegs s.camera.peg row))
