-- Whether two expressions, rectangles or aliases are the same
use Rattle.std.specs.Prelude.{ℕ, ◌==◌, Bool, true, false, ◌&&◌, ℤ, int_le}
use Rattle.xs_pixel.specs.declared.operation.Op.{Op}
use Rattle.xs_pixel.specs.declared.operation.Op.TheVariants.{Over, Add, Sub, Mult, Min, Max, MatteIn, MatteOut}
use Rattle.xs_pixel.specs.Points.{Point}
use Rattle.xs_rect.specs.Area.{Area}
use Rattle.xs_meaning.specs.Expressions.{Expr, Clear, Leaf, Tinted, Card, Pair, Blur}
use Rattle.xs_meaning.specs.Palettes.{same_pixel, same_pixels}

abbrev pub same_int : ℤ → ℤ → Bool
same_int x y = int_le x y && int_le y x

abbrev pub same_point : Point → Point → Bool
same_point p q = same_int p.x q.x && same_int p.y q.y

abbrev pub same_rect : Area → Area → Bool
same_rect a b = (same_int a.x b.x && same_int a.y b.y) && (a.w == b.w && a.h == b.h)

abbrev pub place_of_op : Op → ℕ
place_of_op Over = 0
place_of_op Add = 1
place_of_op Sub = 2
place_of_op Mult = 3
place_of_op Min = 4
place_of_op Max = 5
place_of_op MatteIn = 6
place_of_op MatteOut = 7

abbrev pub same_op : Op → Op → Bool
same_op op other = place_of_op op == place_of_op other

unfoldable pub same_expr : Expr → Expr → Bool
same_expr Clear Clear = true
same_expr (Leaf d at) (Leaf e to) = d == e && same_point at to
same_expr (Tinted d at tint) (Tinted e to other) = (d == e && same_point at to) && same_pixels tint other
same_expr (Card pixel) (Card other) = same_pixel pixel other
same_expr (Pair op a b) (Pair other c d) = same_op op other && (same_expr a c && same_expr b d)
same_expr (Blur n a) (Blur m b) = n == m && same_expr a b
same_expr _ _ = false
