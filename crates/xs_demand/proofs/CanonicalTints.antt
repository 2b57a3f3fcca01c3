-- The tints of the rows of a scene are canonical
use Rattle.std.proofs.Common.{◌≡◌, ℕ, zero, suc, Option, Some, None, List, [], ◌∷◌, ◌++◌, All, Contains, map, length, filter_map, fold, get_or, refl, ap, ◌∙◌, subst}
use Rattle.std.specs.List.{list_any, cons_option, range_with_len}
use Rattle.std.proofs.lemmas.Bool.{cond_both}
use Rattle.std.proofs.lemmas.List.Elements.{All-nil, All-cons, All-head, All-tail, All-append, All-push, All-contains, All-map, Contains-get_or}
use Rattle.xs_pixel.specs.Channels.{Channels, clear}
use Rattle.xs_pixel.specs.declared.operation.Op.{Op}
use Rattle.xs_pixel.specs.Points.{Point, plus, opposite}
use Rattle.xs_palette.specs.Styles.{style_of}
use Rattle.xs_rect.specs.Area.{Area, grown}
use Rattle.xs_scene.specs.Records.{SceneRecord, ColoursRecord}
use Rattle.xs_meaning.specs.Drawings.{colours_of, number_of}
use Rattle.xs_meaning.specs.Expressions.{Expr, Clear, Leaf, Tinted, Card, Pair, Blur, is_clear, Staying, Both, First, Second, Neither, staying, pair_staying, blur_of, leaf_by, by_offsets, row_expr, root_of}
use Rattle.xs_meaning.specs.Palettes.{Dropped, none_dropped, keeping, deleting, is_as_written, is_clear_pixel, pixel_of, same_pixels, style_at, tint_at, tint_style, without_clear_end}
use Rattle.xs_meaning.specs.RowValues.{camera_at}
use Rattle.xs_meaning.specs.Walk.{sheet_at}
use Rattle.xs_meaning.proofs.Agree.{Agrees, meets-any, whole_row-agrees}
use Rattle.xs_demand.specs.Aliases.{Alias, alias, inputs_on, inputs_of, aliases_of, Leads}
use Rattle.xs_demand.specs.Shown.{tint_in, with_tint, tints_of}
use Rattle.xs_demand.specs.Tints.{tints_within, IsCanonical}
use Rattle.xs_demand.proofs.RenamedAliases.{All-first, All-last}
use Rattle.xs_demand.proofs.ReachLemmas.{reached_by_root}
use Rattle.xs_demand.proofs.TintedImages.{get_or-styles}

-- what the law of canonical tints says
pub record AreTints : Type 0 where
  pub pixels : (c : ColoursRecord) (row : ℕ) (f : Dropped) (style : ℕ) → tint_style (tint_at c row f) style ≡ style_at c row f style
  pub one :
      (c : ColoursRecord) (row : ℕ) (f : Dropped) (pixels : List Channels)
      → ((style : ℕ) → get_or pixels style clear ≡ style_at c row f style) → without_clear_end pixels ≡ tint_at c row f

-- the tint of a palette at a row
tint_at-canonical : AreTints → (c : ColoursRecord) (row : ℕ) (f : Dropped) → IsCanonical (tint_at c row f)
unfolding tint_style
tint_at-canonical are c row f =
    are.one c row f (map (style_of (tint_at c row f)) (range_with_len 0 (length (tint_at c row f))))
    (λ style. get_or-styles (tint_at c row f) style ∙ are.pixels c row f style)

-- each tint of an expression is canonical
abbrev HasCanonical : Expr → Type 0
HasCanonical Clear = Unit {0}
HasCanonical (Leaf d at) = Unit {0}
HasCanonical (Tinted d at tint) = IsCanonical tint
HasCanonical (Card pixel) = Unit {0}
HasCanonical (Pair op a b) = HasCanonical a × HasCanonical b
HasCanonical (Blur n a) = HasCanonical a

all_canonical : (e : Expr) → HasCanonical e → All IsCanonical (tints_within e)
all_canonical Clear has = All-nil IsCanonical
all_canonical (Leaf d at) has = All-nil IsCanonical
all_canonical (Tinted d at tint) has = All-cons IsCanonical tint [] has (All-nil IsCanonical)
all_canonical (Card pixel) has = All-nil IsCanonical
all_canonical (Pair op a b) has =
    All-append IsCanonical (tints_within a) (tints_within b) (all_canonical a has.0) (all_canonical b has.1)
all_canonical (Blur n a) has = all_canonical a has

has_canonical : (e : Expr) → All IsCanonical (tints_within e) → HasCanonical e
has_canonical Clear all = tt
has_canonical (Leaf d at) all = tt
has_canonical (Tinted d at tint) all = All-head IsCanonical tint [] all
has_canonical (Card pixel) all = tt
has_canonical (Pair op a b) all = (
  has_canonical a (All-first IsCanonical (tints_within a) (tints_within b) all),
  has_canonical b (All-last IsCanonical (tints_within a) (tints_within b) all),
)
has_canonical (Blur n a) all = has_canonical a all

-- ---- the walk through a scene

pair_staying-canonical :
    (stays : Staying) (op : Op) (a b : Expr) → HasCanonical a → HasCanonical b → HasCanonical (pair_staying stays op a b)
pair_staying-canonical Both op a b first second = (first, second)
pair_staying-canonical First op a b first second = first
pair_staying-canonical Second op a b first second = second
pair_staying-canonical Neither op a b first second = tt

blur_of-canonical : (n : ℕ) (a : Expr) → HasCanonical a → HasCanonical (blur_of n a)
blur_of-canonical n Clear has = tt
blur_of-canonical n (Leaf d at) has = has
blur_of-canonical n (Tinted d at tint) has = has
blur_of-canonical n (Card pixel) has = has
blur_of-canonical n (Pair op a b) has = has
blur_of-canonical n (Blur m a) has = has

leaf_by-canonical :
    AreTints → (c : Option ColoursRecord) (d row : ℕ) (f : Dropped) (at : Point) → HasCanonical (leaf_by c d row f at)
leaf_by-canonical are None d row f at = tt
leaf_by-canonical are (Some c) d row f at =
    cond_both (is_as_written c row f) (Leaf d at) (Tinted d at (tint_at c row f)) HasCanonical
    (λ passes. tt) (λ fails. tint_at-canonical are c row f)

agrees :
    AreTints → (s : SceneRecord)
    → Agrees (by_offsets s) (by_offsets s) (λ d e same. (o : Point) → HasCanonical (e o)) (λ f g. f ≡ g) (λ style. Unit {0})
    (λ q. Unit {0})
unfolding by_offsets
agrees are s =
    record {
      nothing = λ d o. tt;
      drawing = λ d level index row f g same o.
          let number = number_of s.levels level index in
          leaf_by-canonical are (colours_of s number) number row f o;
      moved = λ d q e same place has o. has (plus o q);
      card = λ d style is o.
          cond_both (is_clear_pixel (pixel_of style)) Clear (Card (pixel_of style)) HasCanonical (λ passes. tt) (λ fails. tt);
      pair = λ d op x x' y y' first second o.
          pair_staying-canonical (staying op (is_clear (x o)) (is_clear (x' o))) op (x o) (x' o) (first o) (second o);
      blur = λ d n e same has o. blur_of-canonical n (e o) (has o);
      keep = λ styles f g same. ap (keeping styles) same;
      delete = λ styles f g same. ap (deleting styles) same;
    }

row-canonical : AreTints → (s : SceneRecord) (k row : ℕ) (f : Dropped) (o : Point) → HasCanonical (row_expr s k row f o)
row-canonical are s k row f =
    whole_row-agrees (by_offsets s) (by_offsets s) (λ d e same. (o : Point) → HasCanonical (e o)) (λ f g. f ≡ g)
    (λ style. Unit {0}) (λ q. Unit {0}) (agrees are s) s.sheets (λ j. meets-any (sheet_at s.sheets j)) k row f f refl

root-canonical : AreTints → (s : SceneRecord) (row : ℕ) → HasCanonical (root_of s row)
root-canonical are s row = row-canonical are s 0 row none_dropped (opposite (camera_at s row))

pub tints_within-canonical : AreTints → (s : SceneRecord) (row : ℕ) → All IsCanonical (tints_within (root_of s row))
tints_within-canonical are s row = all_canonical (root_of s row) (root-canonical are s row)

-- ---- the aliases of rows

inputs-canonical : (e : Expr) (rect : Area) → HasCanonical e → All (λ (x : Alias). HasCanonical x.expr) (inputs_on e rect)
inputs-canonical Clear rect has = All-nil (λ (x : Alias). HasCanonical x.expr)
inputs-canonical (Leaf d at) rect has = All-nil (λ (x : Alias). HasCanonical x.expr)
inputs-canonical (Tinted d at tint) rect has = All-nil (λ (x : Alias). HasCanonical x.expr)
inputs-canonical (Card pixel) rect has = All-nil (λ (x : Alias). HasCanonical x.expr)
inputs-canonical (Pair op a b) rect has =
    let P : Alias → Type 0 = λ x. HasCanonical x.expr in
    All-cons P (alias a rect) (alias b rect ∷ []) has.0 (All-cons P (alias b rect) [] has.1 (All-nil P))
inputs-canonical (Blur n a) rect has =
    let P : Alias → Type 0 = λ x. HasCanonical x.expr in All-cons P (alias a (grown rect n)) [] has (All-nil P)

led-canonical : (steps : ℕ) (x y : Alias) → HasCanonical x.expr → Leads steps x y → HasCanonical y.expr
unfolding Leads
led-canonical zero x y has way = subst (λ (z : Alias). HasCanonical z.expr) way has
led-canonical (suc steps) x y has way =
    led-canonical steps way.0 y
    (All-contains (λ (z : Alias). HasCanonical z.expr) (inputs_of x) way.0 (inputs-canonical x.expr x.rect has) way.1) way.2

-- each tint of each root of a list is canonical
abbrev AreRoots : List Expr → Type 0
AreRoots roots = All (λ e. All IsCanonical (tints_within e)) roots

alias-canonical :
    (tiles : List Area) (roots : List Expr) (x : Alias) → AreRoots roots → Contains (aliases_of tiles roots) x → HasCanonical x.expr
alias-canonical tiles roots x are there =
    let by = reached_by_root tiles roots x there in
    led-canonical by.2.reaches.steps (alias by.0 by.2.tile) x
    (has_canonical by.0 (All-contains (λ e. All IsCanonical (tints_within e)) roots by.0 are by.1)) by.2.reaches.way

-- the tints of expressions are theirs
one-canonical : (e : Expr) (tints : List (List Channels)) → HasCanonical e → All IsCanonical tints → All IsCanonical (cons_option (tint_in e) tints)
one-canonical Clear tints has all = all
one-canonical (Leaf d at) tints has all = all
one-canonical (Tinted d at tint) tints has all = All-cons IsCanonical tint tints has all
one-canonical (Card pixel) tints has all = all
one-canonical (Pair op a b) tints has all = all
one-canonical (Blur n a) tints has all = all

own-canonical : (l : List Alias) → All (λ (x : Alias). HasCanonical x.expr) l → All IsCanonical (filter_map tint_in (map (λ x. x.expr) l))
own-canonical [] all = All-nil IsCanonical
own-canonical (x ∷ l) all =
    let P : Alias → Type 0 = λ y. HasCanonical y.expr in
    one-canonical x.expr (filter_map tint_in (map (λ y. y.expr) l)) (All-head P x l all) (own-canonical l (All-tail P x l all))

fold-canonical :
    (known tints : List (List Channels)) → All IsCanonical known → All IsCanonical tints → All IsCanonical (fold with_tint known tints)
fold-canonical known [] of_known all = of_known
fold-canonical known (tint ∷ tints) of_known all =
    fold-canonical (with_tint known tint) tints
    (cond_both (list_any (same_pixels tint) known) known (known ++ tint ∷ []) (All IsCanonical)
    (λ there. of_known)
    (λ new. All-push IsCanonical known tint of_known (All-head IsCanonical tint tints all)))
    (All-tail IsCanonical tint tints all)

pub tints_of-canonical :
    (tiles : List Area) (roots : List Expr) → All (λ e. All IsCanonical (tints_within e)) roots
    → All IsCanonical (tints_of (aliases_of tiles roots))
tints_of-canonical tiles roots are =
    let l = aliases_of tiles roots in
    fold-canonical [] (filter_map tint_in (map (λ x. x.expr) l)) (All-nil IsCanonical)
    (own-canonical l (λ k d lt. alias-canonical tiles roots (get_or l k d) are (Contains-get_or l k d lt)))

pub rows-canonical :
    AreTints → (s : SceneRecord) (rows : List ℕ) → All (λ e. All IsCanonical (tints_within e)) (map (root_of s) rows)
rows-canonical are s rows =
    All-map (λ e. All IsCanonical (tints_within e)) (root_of s) rows
    (λ k d lt. tints_within-canonical are s (get_or rows k d))
