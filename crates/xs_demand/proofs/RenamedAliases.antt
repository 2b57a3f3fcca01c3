-- The aliases of roots with renamed drawings are the aliases of the roots, renamed
use Rattle.std.proofs.Common.{◌≡◌, ℕ, ◌<◌, Bool, true, false, cond, ◌||◌, ◌&&◌, List, [], ◌∷◌, ◌++◌, All, length, map, refl, sym, ap, ap₂, ◌∙◌, subst, arith}
use Rattle.std.proofs.lemmas.Bool.Decides.{same_from_decides, Decides-like}
use Rattle.std.proofs.lemmas.List.{map-append, take_at, drop_at}
use Rattle.std.proofs.lemmas.List.Elements.{All-head, All-tail, All-take, All-drop, All-push}
use Rattle.xs_rect.specs.Area.{Area, grown}
use Rattle.xs_meaning.specs.Expressions.{Expr, Clear, Leaf, Tinted, Card, Pair, Blur, drawings_of}
use Rattle.xs_demand.specs.Aliases.{Alias, alias, stands_in, visiting, visit, visit_tiles, visit_rows, aliases_of}
use Rattle.xs_demand.specs.Renamed.{renamed, renamed_alias, AreDistinct, HasBelow}
use Rattle.xs_demand.specs.Same.{same_expr, same_rect}
use Rattle.xs_demand.proofs.SameLemmas.{Decides-same_expr}

pub All-first : {X : Type 0} (P : X → Type 0) (xs ys : List X) → All P (xs ++ ys) → All P xs
All-first P xs ys all = subst (All P) (take_at xs ys (length xs) refl) (All-take P (length xs) (xs ++ ys) all)

pub All-last : {X : Type 0} (P : X → Type 0) (xs ys : List X) → All P (xs ++ ys) → All P ys
All-last P xs ys all = subst (All P) (drop_at xs ys (length xs) refl) (All-drop P (length xs) (xs ++ ys) all)

module _ (count : ℕ) (names : ℕ → ℕ) (distinct : AreDistinct count names) where
  abbrev IsBelow : ℕ → Type 0
  IsBelow d = d < count

  own_name : (d e : ℕ) → All IsBelow (d ∷ []) → All IsBelow (e ∷ []) → names d ≡ names e → d ≡ e
  own_name d e of_d of_e = distinct d e (All-head IsBelow d [] of_d) (All-head IsBelow e [] of_e)

  -- expressions that are equal under their new names are equal
  renamed-injective : (x y : Expr) → HasBelow count x → HasBelow count y → renamed names x ≡ renamed names y → x ≡ y
  renamed-injective Clear Clear of_x of_y same = refl
  renamed-injective (Leaf d at) (Leaf e to) of_x of_y same =
      let name : names d ≡ names e = cc in
      let drawing : d ≡ e = own_name d e of_x of_y name in
      let place : at ≡ to = cc in
      ap₂ Leaf drawing place
  renamed-injective (Tinted d at tint) (Tinted e to other) of_x of_y same =
      let name : names d ≡ names e = cc in
      let drawing : d ≡ e = own_name d e of_x of_y name in
      let place : at ≡ to = cc in
      let under : tint ≡ other = cc in
      λ i. Tinted (drawing i) (place i) (under i)
  renamed-injective (Card pixel) (Card other) of_x of_y same = same
  renamed-injective (Pair op a b) (Pair other c d) of_x of_y same =
      let by : op ≡ other = cc in
      let first : renamed names a ≡ renamed names c = cc in
      let second : renamed names b ≡ renamed names d = cc in
      let left : a ≡ c =
      renamed-injective a c (All-first IsBelow (drawings_of a) (drawings_of b) of_x) (All-first IsBelow (drawings_of c) (drawings_of d) of_y) first in
      let right : b ≡ d =
      renamed-injective b d (All-last IsBelow (drawings_of a) (drawings_of b) of_x) (All-last IsBelow (drawings_of c) (drawings_of d) of_y) second in
      λ i. Pair (by i) (left i) (right i)
  renamed-injective (Blur n a) (Blur m b) of_x of_y same =
      let radius : n ≡ m = cc in
      let input : renamed names a ≡ renamed names b = cc in
      ap₂ Blur radius (renamed-injective a b of_x of_y input)
  renamed-injective x y of_x of_y same = cc

  same-renamed :
      (x y : Expr) → HasBelow count x → HasBelow count y → same_expr (renamed names x) (renamed names y) ≡ same_expr x y
  same-renamed x y of_x of_y =
      same_from_decides (same_expr (renamed names x) (renamed names y)) (same_expr x y)
      (Decides-like (same_expr (renamed names x) (renamed names y)) (renamed-injective x y of_x of_y) (ap (renamed names))
      (Decides-same_expr (renamed names x) (renamed names y)))
      (Decides-same_expr x y)

  -- the aliases of a list have drawings below the number
  abbrev AreBelow : List Alias → Type 0
  AreBelow l = All (λ (x : Alias). HasBelow count x.expr) l

  stands_in-renamed :
      (x : Alias) (l : List Alias) → HasBelow count x.expr → AreBelow l
      → stands_in (map (renamed_alias names) l) (renamed_alias names x) ≡ stands_in l x
  stands_in-renamed x [] of_x of_l = refl
  stands_in-renamed x (y ∷ l) of_x of_l =
      ap₂ (λ a b. a || b)
      (ap (λ a. a && same_rect x.rect y.rect)
      (same-renamed x.expr y.expr of_x (All-head (λ (z : Alias). HasBelow count z.expr) y l of_l)))
      (stands_in-renamed x l of_x (All-tail (λ (z : Alias). HasBelow count z.expr) y l of_l))

  -- a visit under new names
  record IsRenamed (l m : List Alias) : Type 0 where
    below : AreBelow l
    is : m ≡ map (renamed_alias names) l

  visiting-renamed :
      (x : Alias) (l v w : List Alias) → HasBelow count x.expr → AreBelow l → IsRenamed v w
      → IsRenamed (visiting x l v) (visiting (renamed_alias names x) (map (renamed_alias names) l) w)
  visiting-renamed x l v w of_x of_l after =
      subst (λ b. IsRenamed (visiting x l v) (cond b (map (renamed_alias names) l) (w ++ renamed_alias names x ∷ [])))
      (sym (stands_in-renamed x l of_x of_l)) (both (stands_in l x))
    where
      both : (b : Bool)
          → IsRenamed (cond b l (v ++ x ∷ [])) (cond b (map (renamed_alias names) l) (w ++ renamed_alias names x ∷ []))
      both true = record { below = of_l; is = refl }
      both false =
          record {
            below = All-push (λ (z : Alias). HasBelow count z.expr) v x after.below of_x;
            is = ap (λ ys. ys ++ renamed_alias names x ∷ []) after.is ∙ sym (map-append (renamed_alias names) v (x ∷ []));
          }

  visit-renamed :
      (e : Expr) (rect : Area) (l : List Alias) → HasBelow count e → AreBelow l
      → IsRenamed (visit e rect l) (visit (renamed names e) rect (map (renamed_alias names) l))
  unfolding visit
  visit-renamed Clear rect l of_e of_l =
      visiting-renamed (alias Clear rect) l l (map (renamed_alias names) l) of_e of_l (record { below = of_l; is = refl })
  visit-renamed (Leaf d at) rect l of_e of_l =
      visiting-renamed (alias (Leaf d at) rect) l l (map (renamed_alias names) l) of_e of_l (record { below = of_l; is = refl })
  visit-renamed (Tinted d at tint) rect l of_e of_l =
      visiting-renamed (alias (Tinted d at tint) rect) l l (map (renamed_alias names) l) of_e of_l (record { below = of_l; is = refl })
  visit-renamed (Card pixel) rect l of_e of_l =
      visiting-renamed (alias (Card pixel) rect) l l (map (renamed_alias names) l) of_e of_l (record { below = of_l; is = refl })
  visit-renamed (Pair op a b) rect l of_e of_l =
      let first = visit-renamed a rect l (All-first IsBelow (drawings_of a) (drawings_of b) of_e) of_l in
      let second = visit-renamed b rect (visit a rect l) (All-last IsBelow (drawings_of a) (drawings_of b) of_e) first.below in
      visiting-renamed (alias (Pair op a b) rect) l (visit b rect (visit a rect l))
      (visit (renamed names b) rect (visit (renamed names a) rect (map (renamed_alias names) l))) of_e of_l
      (record { below = second.below; is = ap (visit (renamed names b) rect) first.is ∙ second.is })
  visit-renamed (Blur n a) rect l of_e of_l =
      visiting-renamed (alias (Blur n a) rect) l (visit a (grown rect n) l)
      (visit (renamed names a) (grown rect n) (map (renamed_alias names) l)) of_e of_l
      (visit-renamed a (grown rect n) l of_e of_l)

  tiles-renamed :
      (e : Expr) (tiles : List Area) (l : List Alias) → HasBelow count e → AreBelow l
      → IsRenamed (visit_tiles e tiles l) (visit_tiles (renamed names e) tiles (map (renamed_alias names) l))
  tiles-renamed e [] l of_e of_l = record { below = of_l; is = refl }
  tiles-renamed e (tile ∷ tiles) l of_e of_l =
      let first = visit-renamed e tile l of_e of_l in
      let rest = tiles-renamed e tiles (visit e tile l) of_e first.below in
      record { below = rest.below; is = ap (visit_tiles (renamed names e) tiles) first.is ∙ rest.is }

  rows-renamed :
      (tiles : List Area) (roots : List Expr) (l : List Alias) → All (HasBelow count) roots → AreBelow l
      → IsRenamed (visit_rows tiles roots l) (visit_rows tiles (map (renamed names) roots) (map (renamed_alias names) l))
  rows-renamed tiles [] l of_roots of_l = record { below = of_l; is = refl }
  rows-renamed tiles (e ∷ roots) l of_roots of_l =
      let first = tiles-renamed e tiles l (All-head (HasBelow count) e roots of_roots) of_l in
      let rest = rows-renamed tiles roots (visit_tiles e tiles l) (All-tail (HasBelow count) e roots of_roots) first.below in
      record { below = rest.below; is = ap (visit_rows tiles (map (renamed names) roots)) first.is ∙ rest.is }

  pub aliases-renamed :
      (tiles : List Area) (roots : List Expr) → All (HasBelow count) roots
      → aliases_of tiles (map (renamed names) roots) ≡ map (renamed_alias names) (aliases_of tiles roots)
  unfolding aliases_of
  aliases-renamed tiles roots of_roots = (rows-renamed tiles roots [] of_roots (λ k d lt. absurd (omega arith))).is
