-- The tests of sameness decide equality
use Rattle.std.proofs.Common.{◌≡◌, ℕ, ◌==◌, Bool, true, ◌&&◌, ℤ, List, [], ◌∷◌, Contains, Decides, refl, sym, ap, ap₂, subst, get_or, arith}
use Rattle.std.specs.List.{list_any}
use Rattle.std.specs.Prelude.{int_le}
use Rattle.std.proofs.lemmas.Bool.{and_parts, and_from, eqb-true, eq-eqb}
use Rattle.std.proofs.lemmas.Int.{ints}
use Rattle.std.proofs.lemmas.Map.Views.{Contains-from_any}
use Rattle.std.proofs.lemmas.List.Folds.{list_any_at}
use Rattle.xs_pixel.specs.Channels.{Channels, channels}
use Rattle.xs_pixel.specs.declared.operation.Op.{Op}
use Rattle.xs_pixel.specs.declared.operation.Op.TheVariants.{Over, Add, Sub, Mult, Min, Max, MatteIn, MatteOut}
use Rattle.xs_pixel.specs.Points.{Point, point}
use Rattle.xs_rect.specs.Area.{Area, area}
use Rattle.xs_meaning.specs.Expressions.{Expr, Clear, Leaf, Tinted, Card, Pair, Blur}
use Rattle.xs_meaning.specs.Palettes.{same_pixel, same_pixels}
use Rattle.xs_demand.specs.Same.{same_int, same_point, same_rect, place_of_op, same_op, same_expr}
use Rattle.xs_demand.specs.Aliases.{Alias, alias, same_alias, stands_in}
use Rattle.xs_demand.specs.Blocks.{Spread, spread, same_spread}

-- a test that is true of equal things alone decides equality
decides :
    {A : Type 0} (same : A → A → Bool) → ((x y : A) → same x y ≡ true → x ≡ y) → ((x : A) → same x x ≡ true)
    → (x y : A) → Decides (same x y) (x ≡ y)
decides same exact self x y = (exact x y, λ equal. subst (λ z. same x z ≡ true) equal (self x))

number_self : (n : ℕ) → (n == n) ≡ true
number_self n = eq-eqb n n refl

same_int_true : (x y : ℤ) → same_int x y ≡ true → x ≡ y
same_int_true x y same = let both = and_parts (int_le x y) (int_le y x) same in grind (arith, ints)

same_int_self : (x : ℤ) → same_int x x ≡ true
same_int_self x = and_from (int_le x x) (int_le x x) (grind (arith, ints)) (grind (arith, ints))

same_point_true : (p q : Point) → same_point p q ≡ true → p ≡ q
same_point_true p q same =
    let both = and_parts (same_int p.x q.x) (same_int p.y q.y) same in
    ap₂ point (same_int_true p.x q.x both.0) (same_int_true p.y q.y both.1)

same_point_self : (p : Point) → same_point p p ≡ true
same_point_self p = and_from (same_int p.x p.x) (same_int p.y p.y) (same_int_self p.x) (same_int_self p.y)

same_rect_true : (a b : Area) → same_rect a b ≡ true → a ≡ b
same_rect_true a b same =
    let parts = and_parts (same_int a.x b.x && same_int a.y b.y) (a.w == b.w && a.h == b.h) same in
    let corner = and_parts (same_int a.x b.x) (same_int a.y b.y) parts.0 in
    let sides = and_parts (a.w == b.w) (a.h == b.h) parts.1 in
    let across : a.x ≡ b.x = same_int_true a.x b.x corner.0 in
    let up : a.y ≡ b.y = same_int_true a.y b.y corner.1 in
    let wide : a.w ≡ b.w = eqb-true a.w b.w sides.0 in
    let high : a.h ≡ b.h = eqb-true a.h b.h sides.1 in
    λ i. area (across i) (up i) (wide i) (high i)

same_rect_self : (a : Area) → same_rect a a ≡ true
same_rect_self a =
    and_from (same_int a.x a.x && same_int a.y a.y) (a.w == a.w && a.h == a.h)
    (and_from (same_int a.x a.x) (same_int a.y a.y) (same_int_self a.x) (same_int_self a.y))
    (and_from (a.w == a.w) (a.h == a.h) (number_self a.w) (number_self a.h))

same_pixel_true : (p q : Channels) → same_pixel p q ≡ true → p ≡ q
same_pixel_true p q same =
    let parts = and_parts (p.r == q.r && p.g == q.g) (p.b == q.b && p.m == q.m) same in
    let first = and_parts (p.r == q.r) (p.g == q.g) parts.0 in
    let last = and_parts (p.b == q.b) (p.m == q.m) parts.1 in
    let red : p.r ≡ q.r = eqb-true p.r q.r first.0 in
    let green : p.g ≡ q.g = eqb-true p.g q.g first.1 in
    let blue : p.b ≡ q.b = eqb-true p.b q.b last.0 in
    let matte : p.m ≡ q.m = eqb-true p.m q.m last.1 in
    λ i. channels (red i) (green i) (blue i) (matte i)

same_pixel_self : (p : Channels) → same_pixel p p ≡ true
same_pixel_self p =
    and_from (p.r == p.r && p.g == p.g) (p.b == p.b && p.m == p.m)
    (and_from (p.r == p.r) (p.g == p.g) (number_self p.r) (number_self p.g))
    (and_from (p.b == p.b) (p.m == p.m) (number_self p.b) (number_self p.m))

same_pixels_true : (ps qs : List Channels) → same_pixels ps qs ≡ true → ps ≡ qs
same_pixels_true [] [] same = refl
same_pixels_true (p ∷ ps) (q ∷ qs) same =
    let both = and_parts (same_pixel p q) (same_pixels ps qs) same in
    ap₂ (λ x xs. x ∷ xs) (same_pixel_true p q both.0) (same_pixels_true ps qs both.1)
same_pixels_true ps qs same = cc

same_pixels_self : (ps : List Channels) → same_pixels ps ps ≡ true
same_pixels_self [] = refl
same_pixels_self (p ∷ ps) = and_from (same_pixel p p) (same_pixels ps ps) (same_pixel_self p) (same_pixels_self ps)

same_op_true : (op other : Op) → same_op op other ≡ true → op ≡ other
same_op_true Over Over same = refl
same_op_true Add Add same = refl
same_op_true Sub Sub same = refl
same_op_true Mult Mult same = refl
same_op_true Min Min same = refl
same_op_true Max Max same = refl
same_op_true MatteIn MatteIn same = refl
same_op_true MatteOut MatteOut same = refl
same_op_true op other same = cc

same_op_self : (op : Op) → same_op op op ≡ true
same_op_self op = number_self (place_of_op op)

same_expr_true : (x y : Expr) → same_expr x y ≡ true → x ≡ y
unfolding same_expr
same_expr_true Clear Clear same = refl
same_expr_true (Leaf d at) (Leaf e to) same =
    let both = and_parts (d == e) (same_point at to) same in
    ap₂ Leaf (eqb-true d e both.0) (same_point_true at to both.1)
same_expr_true (Tinted d at tint) (Tinted e to other) same =
    let parts = and_parts (d == e && same_point at to) (same_pixels tint other) same in
    let both = and_parts (d == e) (same_point at to) parts.0 in
    let drawing : d ≡ e = eqb-true d e both.0 in
    let place : at ≡ to = same_point_true at to both.1 in
    let under : tint ≡ other = same_pixels_true tint other parts.1 in
    λ i. Tinted (drawing i) (place i) (under i)
same_expr_true (Card pixel) (Card other) same = ap Card (same_pixel_true pixel other same)
same_expr_true (Pair op a b) (Pair other c d) same =
    let parts = and_parts (same_op op other) (same_expr a c && same_expr b d) same in
    let both = and_parts (same_expr a c) (same_expr b d) parts.1 in
    let by : op ≡ other = same_op_true op other parts.0 in
    let first : a ≡ c = same_expr_true a c both.0 in
    let second : b ≡ d = same_expr_true b d both.1 in
    λ i. Pair (by i) (first i) (second i)
same_expr_true (Blur n a) (Blur m b) same =
    let both = and_parts (n == m) (same_expr a b) same in
    ap₂ Blur (eqb-true n m both.0) (same_expr_true a b both.1)
same_expr_true x y same = cc

same_expr_self : (x : Expr) → same_expr x x ≡ true
unfolding same_expr
same_expr_self Clear = refl
same_expr_self (Leaf d at) = and_from (d == d) (same_point at at) (number_self d) (same_point_self at)
same_expr_self (Tinted d at tint) =
    and_from (d == d && same_point at at) (same_pixels tint tint)
    (and_from (d == d) (same_point at at) (number_self d) (same_point_self at)) (same_pixels_self tint)
same_expr_self (Card pixel) = same_pixel_self pixel
same_expr_self (Pair op a b) =
    and_from (same_op op op) (same_expr a a && same_expr b b) (same_op_self op)
    (and_from (same_expr a a) (same_expr b b) (same_expr_self a) (same_expr_self b))
same_expr_self (Blur n a) = and_from (n == n) (same_expr a a) (number_self n) (same_expr_self a)

same_alias_true : (x y : Alias) → same_alias x y ≡ true → x ≡ y
same_alias_true x y same =
    let both = and_parts (same_expr x.expr y.expr) (same_rect x.rect y.rect) same in
    ap₂ alias (same_expr_true x.expr y.expr both.0) (same_rect_true x.rect y.rect both.1)

same_alias_self : (x : Alias) → same_alias x x ≡ true
same_alias_self x =
    and_from (same_expr x.expr x.expr) (same_rect x.rect x.rect) (same_expr_self x.expr) (same_rect_self x.rect)

same_spread_true : (x y : Spread) → same_spread x y ≡ true → x ≡ y
same_spread_true x y same =
    let both = and_parts (same_expr x.expr y.expr) (x.growth == y.growth) same in
    ap₂ spread (same_expr_true x.expr y.expr both.0) (eqb-true x.growth y.growth both.1)

same_spread_self : (x : Spread) → same_spread x x ≡ true
same_spread_self x =
    and_from (same_expr x.expr x.expr) (x.growth == x.growth) (same_expr_self x.expr) (number_self x.growth)

pub Decides-same_rect : (a b : Area) → Decides (same_rect a b) (a ≡ b)
Decides-same_rect = decides same_rect same_rect_true same_rect_self

pub Decides-same_pixels : (ps qs : List Channels) → Decides (same_pixels ps qs) (ps ≡ qs)
Decides-same_pixels = decides same_pixels same_pixels_true same_pixels_self

pub Decides-same_expr : (x y : Expr) → Decides (same_expr x y) (x ≡ y)
Decides-same_expr = decides same_expr same_expr_true same_expr_self

pub Decides-same_alias : (x y : Alias) → Decides (same_alias x y) (x ≡ y)
Decides-same_alias = decides same_alias same_alias_true same_alias_self

pub Decides-same_spread : (x y : Spread) → Decides (same_spread x y) (x ≡ y)
Decides-same_spread = decides same_spread same_spread_true same_spread_self

-- a test of sameness finds in a list what the list contains
any_decides :
    {A : Type 0} (same : A → A → Bool) → ((x y : A) → Decides (same x y) (x ≡ y))
    → (l : List A) (x : A) → Decides (list_any (same x) l) (Contains l x)
any_decides same each l x = (
  Contains-from_any (λ y z. (each y z).0) x l,
  λ (there : Contains l x). list_any_at (same x) l there.0 x there.1 ((each x (get_or l there.0 x)).1 (sym there.2)),
)

-- an alias stands in a list where the list contains it
pub Decides-stands_in : (l : List Alias) (x : Alias) → Decides (stands_in l x) (Contains l x)
Decides-stands_in = any_decides same_alias Decides-same_alias

-- and a spread likewise
pub Decides-same_spread_in : (l : List Spread) (x : Spread) → Decides (list_any (same_spread x) l) (Contains l x)
Decides-same_spread_in = any_decides same_spread Decides-same_spread

-- and a tint
pub Decides-same_pixels_in : (l : List (List Channels)) (tint : List Channels) → Decides (list_any (same_pixels tint) l) (Contains l tint)
Decides-same_pixels_in = any_decides same_pixels Decides-same_pixels
