-- Expressions over one another, with the clear ones gone, entered from the top down and put from the bottom up
use Rattle.std.proofs.Common.{◌≡◌, ℕ, Bool, false, List, [], ◌∷◌, ◌++◌, All, map, refl, sym, ap, ap₂, ◌∙◌}
use Rattle.std.proofs.lemmas.List.{map-append}
use Rattle.std.proofs.lemmas.List.Elements.{All-nil, All-cons, All-head, All-tail, All-append}
use Rattle.xs_pixel.specs.declared.operation.Op.{Op}
use Rattle.xs_pixel.specs.declared.operation.Op.TheVariants.{Over}
use Rattle.xs_pixel.specs.Points.{Point}
use Rattle.xs_scene.specs.Records.{SceneRecord}
use Rattle.xs_meaning.specs.Expressions.{Expr, Clear, Leaf, Tinted, Card, Pair, Blur, is_clear, Staying, Both, First, Second, Neither, staying, pair_staying, pair_of, by_offsets}
use Rattle.xs_meaning.specs.Walk.{composed_by, above_by}
use Rattle.xs_demand.specs.Blocks.{Spread, spread, enter, put, IsClosed}
use Rattle.xs_demand.specs.Renamed.{renamed}
use Rattle.xs_demand.proofs.ClosedLists.{enter-pair, enter_closed}
use Rattle.xs_demand.proofs.RenamedImages.{clear-renamed}
use Rattle.xs_build.specs.Stacks.{stacked, seen_down, laid_over, enter_each, put_over}

-- ---- pairs with clear inputs

over-clear_second : (e : Expr) → pair_of Over e Clear ≡ e
over-clear_second Clear = refl
over-clear_second (Leaf d at) = refl
over-clear_second (Tinted d at tint) = refl
over-clear_second (Card pixel) = refl
over-clear_second (Pair op a b) = refl
over-clear_second (Blur n a) = refl

pub pair-both :
    (op : Op) (a b : Expr) → is_clear a ≡ false → is_clear b ≡ false → pair_of op a b ≡ Pair op a b
pair-both op a b first second = ap₂ (λ (x y : Bool). pair_staying (staying op x y) op a b) first second

renamed-pair_staying :
    (names : ℕ → ℕ) (stays : Staying) (op : Op) (a b : Expr)
    → renamed names (pair_staying stays op a b) ≡ pair_staying stays op (renamed names a) (renamed names b)
renamed-pair_staying names Both op a b = refl
renamed-pair_staying names First op a b = refl
renamed-pair_staying names Second op a b = refl
renamed-pair_staying names Neither op a b = refl

pub renamed-pair_of :
    (names : ℕ → ℕ) (op : Op) (a b : Expr)
    → renamed names (pair_of op a b) ≡ pair_of op (renamed names a) (renamed names b)
renamed-pair_of names op a b =
    renamed-pair_staying names (staying op (is_clear a) (is_clear b)) op a b
    ∙ ap₂ (λ (x y : Bool). pair_staying (staying op x y) op (renamed names a) (renamed names b))
    (sym (clear-renamed names a)) (sym (clear-renamed names b))

-- ---- stacks

abbrev IsSeen : Expr → Type 0
IsSeen e = is_clear e ≡ false

abbrev stacked_on : List Expr → Expr → Expr
stacked_on [] was = was
stacked_on (e ∷ es) was = pair_of Over e (stacked_on es was)

stacked_on-append : (xs ys : List Expr) (was : Expr) → stacked_on (xs ++ ys) was ≡ stacked_on xs (stacked_on ys was)
stacked_on-append [] ys was = refl
stacked_on-append (x ∷ xs) ys was = ap (pair_of Over x) (stacked_on-append xs ys was)

stacked-on_clear : (es : List Expr) → stacked es ≡ stacked_on es Clear
stacked-on_clear [] = refl
stacked-on_clear (e ∷ es) = ap (pair_of Over e) (stacked-on_clear es)

stacked_on-one : (e was : Expr) → stacked_on (seen_down (e ∷ [])) was ≡ pair_of Over e was
stacked_on-one Clear was = refl
stacked_on-one (Leaf d at) was = refl
stacked_on-one (Tinted d at tint) was = refl
stacked_on-one (Card pixel) was = refl
stacked_on-one (Pair op a b) was = refl
stacked_on-one (Blur n a) was = refl

stacked_on-more :
    (e : Expr) (es : List Expr) (was : Expr)
    → stacked_on (seen_down (e ∷ es)) was ≡ stacked_on (seen_down es) (pair_of Over e was)
stacked_on-more e es was =
    stacked_on-append (seen_down es) (seen_down (e ∷ [])) was
    ∙ ap (stacked_on (seen_down es)) (stacked_on-one e was)

above-stacked :
    (s : SceneRecord) (es : List (Point → Expr)) (was : Point → Expr) (o : Point)
    → above_by (by_offsets s) was es o ≡ stacked_on (seen_down (map (λ (e : Point → Expr). e o) es)) (was o)
unfolding by_offsets
above-stacked s [] was o = refl
above-stacked s (e ∷ es) was o =
    above-stacked s es (λ p. pair_of Over (e p) (was p)) o
    ∙ sym (stacked_on-more (e o) (map (λ (e : Point → Expr). e o) es) (was o))

pub composed-stacked :
    (s : SceneRecord) (es : List (Point → Expr)) (o : Point)
    → composed_by (by_offsets s) es o ≡ stacked (seen_down (map (λ (e : Point → Expr). e o) es))
unfolding by_offsets
composed-stacked s [] o = refl
composed-stacked s (e ∷ es) o =
    let rest : List Expr = map (λ (e : Point → Expr). e o) es in
    above-stacked s es e o
    ∙ ap (stacked_on (seen_down rest)) (sym (over-clear_second (e o)))
    ∙ sym (stacked_on-more (e o) rest Clear)
    ∙ sym (stacked-on_clear (seen_down (e o ∷ rest)))

-- what is seen is not clear
seen-one : (e : Expr) → All IsSeen (seen_down (e ∷ []))
seen-one Clear = All-nil IsSeen
seen-one (Leaf d at) = All-cons IsSeen (Leaf d at) [] refl (All-nil IsSeen)
seen-one (Tinted d at tint) = All-cons IsSeen (Tinted d at tint) [] refl (All-nil IsSeen)
seen-one (Card pixel) = All-cons IsSeen (Card pixel) [] refl (All-nil IsSeen)
seen-one (Pair op a b) = All-cons IsSeen (Pair op a b) [] refl (All-nil IsSeen)
seen-one (Blur n a) = All-cons IsSeen (Blur n a) [] refl (All-nil IsSeen)

pub seen-seen_down : (es : List Expr) → All IsSeen (seen_down es)
seen-seen_down [] = All-nil IsSeen
seen-seen_down (e ∷ es) = All-append IsSeen (seen_down es) (seen_down (e ∷ [])) (seen-seen_down es) (seen-one e)

-- with renamed drawings
renamed-one : (names : ℕ → ℕ) (e : Expr) → map (renamed names) (seen_down (e ∷ [])) ≡ seen_down (renamed names e ∷ [])
renamed-one names Clear = refl
renamed-one names (Leaf d at) = refl
renamed-one names (Tinted d at tint) = refl
renamed-one names (Card pixel) = refl
renamed-one names (Pair op a b) = refl
renamed-one names (Blur n a) = refl

renamed-seen_down :
    (names : ℕ → ℕ) (es : List Expr) → map (renamed names) (seen_down es) ≡ seen_down (map (renamed names) es)
renamed-seen_down names [] = refl
renamed-seen_down names (e ∷ es) =
    map-append (renamed names) (seen_down es) (seen_down (e ∷ []))
    ∙ ap₂ (λ (xs ys : List Expr). xs ++ ys) (renamed-seen_down names es) (renamed-one names e)

renamed-stacked : (names : ℕ → ℕ) (es : List Expr) → renamed names (stacked es) ≡ stacked (map (renamed names) es)
renamed-stacked names [] = refl
renamed-stacked names (e ∷ es) =
    renamed-pair_of names Over e (stacked es) ∙ ap (pair_of Over (renamed names e)) (renamed-stacked names es)

pub renamed-seen :
    (names : ℕ → ℕ) (es : List Expr)
    → renamed names (stacked (seen_down es)) ≡ stacked (seen_down (map (renamed names) es))
renamed-seen names es = renamed-stacked names (seen_down es) ∙ ap stacked (renamed-seen_down names es)

-- ---- down and up

seen-laid_over : (es : List Expr) (lowest : Expr) → All IsSeen (es ++ lowest ∷ []) → IsSeen (laid_over es lowest)
seen-laid_over [] lowest seen = All-head IsSeen lowest [] seen
seen-laid_over (e ∷ es) lowest seen = refl

pub stacked-laid_over :
    (es : List Expr) (lowest : Expr) → All IsSeen (es ++ lowest ∷ []) → stacked (es ++ lowest ∷ []) ≡ laid_over es lowest
stacked-laid_over [] lowest seen = over-clear_second lowest
stacked-laid_over (e ∷ es) lowest seen =
    let rest = All-tail IsSeen e (es ++ lowest ∷ []) seen in
    ap (pair_of Over e) (stacked-laid_over es lowest rest)
    ∙ pair-both Over e (laid_over es lowest) (All-head IsSeen e (es ++ lowest ∷ []) seen) (seen-laid_over es lowest rest)

enter-laid_over :
    (es : List Expr) (lowest : Expr) (g : ℕ) (l : List Spread) → IsClosed l
    → enter (laid_over es lowest) g l ≡ put_over es lowest g (enter_each (es ++ lowest ∷ []) g l)
enter-laid_over [] lowest g l closed = refl
enter-laid_over (e ∷ es) lowest g l closed =
    enter-pair Over e (laid_over es lowest) g l closed
    ∙ ap (put (spread (Pair Over e (laid_over es lowest)) g))
    (enter-laid_over es lowest g (enter e g l) (enter_closed e g l closed))

pub enter-stacked :
    (es : List Expr) (lowest : Expr) (g : ℕ) (l : List Spread) → IsClosed l → All IsSeen (es ++ lowest ∷ [])
    → enter (stacked (es ++ lowest ∷ [])) g l ≡ put_over es lowest g (enter_each (es ++ lowest ∷ []) g l)
enter-stacked es lowest g l closed seen =
    ap (λ (e : Expr). enter e g l) (stacked-laid_over es lowest seen) ∙ enter-laid_over es lowest g l closed

-- the last of those over the lowest one is put first
pub laid_over-push :
    (es : List Expr) (e lowest : Expr) → laid_over (es ++ e ∷ []) lowest ≡ laid_over es (Pair Over e lowest)
laid_over-push [] e lowest = refl
laid_over-push (x ∷ es) e lowest = ap (Pair Over x) (laid_over-push es e lowest)

pub put_over-push :
    (es : List Expr) (e lowest : Expr) (g : ℕ) (l : List Spread)
    → put_over (es ++ e ∷ []) lowest g l ≡ put_over es (Pair Over e lowest) g (put (spread (Pair Over e lowest) g) l)
put_over-push [] e lowest g l = refl
put_over-push (x ∷ es) e lowest g l =
    ap₂ (λ (y : Expr) (l : List Spread). put (spread (Pair Over x y) g) l) (laid_over-push es e lowest)
    (put_over-push es e lowest g l)
