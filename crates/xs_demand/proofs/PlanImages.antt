-- The images of the aliases of a plan that shows a list of roots
use Rattle.std.proofs.Common.{◌≡◌, ℕ, zero, suc, ◌+◌, ◌*◌, ◌<◌, pos, Some, List, [], ◌∷◌, ◌++◌, Contains, length, map, slice_get, get_or, refl, sym, ap, ap₂, ◌∙◌, subst, suc-mul, arith}
use Rattle.std.proofs.Math.Path.{fun_ext}
use Rattle.std.specs.List.{AllZip}
use Rattle.std.proofs.lemmas.List.{get_or_append_left, get_or_push, length_push, length-map}
use Rattle.std.proofs.lemmas.Option.{slice_get-map, slice_get-get_or, get_or_from_slice_get, same_Some}
use Rattle.std.specs.Option.{option_map}
use Rattle.xs_pixel.specs.Channels.{Channels}
use Rattle.xs_pixel.specs.Images.{Image, blurred}
use Rattle.xs_pixel.specs.Operations.{apply_of}
use Rattle.xs_pixel.specs.Picture.{Pictures}
use Rattle.xs_pixel.specs.Points.{Point, minus}
use Rattle.xs_rect.specs.Area.{Area, area, grown}
use Rattle.xs_meaning.specs.Expressions.{Expr, Clear, Leaf, Tinted, Card, Pair, Blur}
use Rattle.xs_tint.specs.Tints.{tint_of}
use Rattle.xs_plan.specs.declared.job.Job.{Job}
use Rattle.xs_plan.specs.declared.job.Job.TheVariants as job
use Rattle.xs_plan.specs.Record.{Entry, PlanRecord, root_at}
use Rattle.xs_plan.specs.Values.{tinted_pixel, no_image, image_at, input_at, image_of_job, image_of_entry, images_after, value_in}
use Rattle.xs_demand.specs.Aliases.{Alias, alias, inputs_of, on_tiles, aliases_of}
use Rattle.xs_demand.specs.Images.{image_of}
use Rattle.xs_demand.specs.Shown.{StandsAt, ShowsAlias, ShowsRoots, root_aliases, tints_shown}
use Rattle.xs_demand.proofs.PlaceLemmas.{place-append, place-behind, same_place}
use Rattle.xs_demand.proofs.ReachLemmas.{aliases_apart, aliases_founded}
use Rattle.xs_demand.proofs.TintedImages.{EndsTellNothing, tinted-by_tint_of}
use Rattle.xs_demand.proofs.VisitLemmas.{AreFounded, StandApart}

-- what a plan shows at a place
pub all_zip-at :
    {A B : Type 0} (R : A → B → Type 0) (xs : List A) (ys : List B) → AllZip R xs ys
    → (k : ℕ) (x : A) → slice_get xs k ≡ Some x → (y : B) × (slice_get ys k ≡ Some y) × R x y
all_zip-at R [] ys zip k x at = cc
all_zip-at R (z ∷ xs) [] zip k x at = absurd zip
all_zip-at R (z ∷ xs) (y ∷ ys) zip zero x at = (y, refl, subst (λ v. R v y) (same_Some z x at) zip.0)
all_zip-at R (z ∷ xs) (y ∷ ys) zip (suc k) x at = all_zip-at R xs ys zip.1 k x at

module _ (pictures : Pictures) (tints : List (List Channels)) where
  -- later aliases leave the images that there are
  image_at-kept :
      (images : List Image) (entries : List Entry) (n : ℕ) → n < length images
      → image_at (images_after pictures tints images entries) n ≡ image_at images n
  image_at-kept images [] n lt = refl
  image_at-kept images (e ∷ entries) n lt =
      image_at-kept (images ++ image_of_entry pictures tints images e ∷ []) entries n
      (omega (arith, length_push images (image_of_entry pictures tints images e)))
      ∙ get_or_append_left images (image_of_entry pictures tints images e ∷ []) no_image n lt

  -- the images over which that of an entry is made: they hold those of all earlier ones
  pub record IsMadeOver (images : List Image) (k : ℕ) (e : Entry) (earlier : List Image) : Type 0 where
    pub same : (n : ℕ) → n < k → image_at earlier n ≡ image_at images n
    pub made : image_at images k ≡ image_of_entry pictures tints earlier e

  pub made_over :
      (images : List Image) (entries : List Entry) (i k : ℕ) (e : Entry) → length images + i ≡ k → slice_get entries i ≡ Some e
      → (earlier : List Image) × IsMadeOver (images_after pictures tints images entries) k e earlier
  made_over images [] i k e sum at = cc
  made_over images (f ∷ entries) zero k e sum at =
      let image = image_of_entry pictures tints images f in
      let here : length images ≡ k = omega arith in (
        images,
        record {
          same = λ n lt.
              sym (image_at-kept (images ++ image ∷ []) entries n (omega (arith, length_push images image))
              ∙ get_or_append_left images (image ∷ []) no_image n (omega arith));
          made =
              image_at-kept (images ++ image ∷ []) entries k (omega (arith, length_push images image))
              ∙ get_or_push images image no_image k here
              ∙ ap (image_of_entry pictures tints images) (same_Some f e at);
        },
      )
  made_over images (f ∷ entries) (suc i) k e sum at =
      made_over (images ++ image_of_entry pictures tints images f ∷ []) entries i k e
      (omega (arith, length_push images (image_of_entry pictures tints images f))) at

earlier_input :
    (l : List Alias) → StandApart l → AreFounded l → (x : Alias) (k : ℕ) (input : Alias) (j : ℕ)
    → StandsAt l x k → Contains (inputs_of x) input → StandsAt l input j → j < k
earlier_input l apart founded x k input j at among there =
    let before = founded x k at input among in
    subst (λ n. n < k) (same_place l apart before.0 j input before.2 there) before.1

one_input :
    {A : Type 0} (R : A → ℕ → Type 0) (x : A) (ns : List ℕ) → AllZip R (x ∷ []) ns → R x (input_at ns 0)
one_input R x [] zip = absurd zip
one_input R x (n ∷ ns) zip = zip.0

two_inputs :
    {A : Type 0} (R : A → ℕ → Type 0) (x y : A) (ns : List ℕ) → AllZip R (x ∷ y ∷ []) ns
    → R x (input_at ns 0) × R y (input_at ns 1)
two_inputs R x y [] zip = absurd zip
two_inputs R x y (n ∷ []) zip = absurd zip.1
two_inputs R x y (n ∷ m ∷ ns) zip = (zip.0, zip.1.0)

-- the palette of a tint that is shown
shown_tint :
    (palettes : List (List Channels)) (t : ℕ) (tint : List Channels) → slice_get (map tint_of palettes) t ≡ Some tint
    → tint_of (get_or palettes t []) ≡ tint
shown_tint [] t tint at = cc
shown_tint (palette ∷ palettes) zero tint at = same_Some (tint_of palette) tint at
shown_tint (palette ∷ palettes) (suc t) tint at = shown_tint palettes t tint at

module _ (ends : EndsTellNothing) (pictures : Pictures) (l : List Alias) (p : PlanRecord)
    (apart : StandApart l) (founded : AreFounded l)
    (entries : AllZip (ShowsAlias l (tints_shown p)) l p.entries) where
  images : List Image
  images = images_after pictures p.tints [] p.entries

  -- an alias of the list, as the plan shows it
  record IsShown (x : Alias) (k : ℕ) : Type 0 where
    entry : Entry
    shows : ShowsAlias l (tints_shown p) x entry
    earlier : List Image
    over : IsMadeOver pictures p.tints images k entry earlier

  shown : (x : Alias) (k : ℕ) → StandsAt l x k → IsShown x k
  unfolding images
  shown x k at =
      let there = all_zip-at (ShowsAlias l (tints_shown p)) l p.entries entries k x at in
      let over = made_over pictures p.tints [] p.entries k k there.0 (omega arith) there.1 in
      record { entry = there.0; shows = there.2; earlier = over.0; over = over.1 }

  -- what it is made of
  made_by :
      (x : Alias) (k : ℕ) (s : IsShown x k) (j : Job) (q : Point) → s.entry.job ≡ j
      → image_at images k q
      ≡ image_of_job pictures p.tints j (image_at s.earlier (input_at s.entry.inputs 0)) (image_at s.earlier (input_at s.entry.inputs 1)) q
  made_by x k s j q is =
      ap (λ (image : Image). image q) s.over.made
      ∙ ap (λ job. image_of_job pictures p.tints job (image_at s.earlier (input_at s.entry.inputs 0)) (image_at s.earlier (input_at s.entry.inputs 1)) q) is

  -- the image of an input is there when its reader is made
  input_image :
      (x : Alias) (k : ℕ) (s : IsShown x k) (input : Alias) (n : ℕ) → StandsAt l x k → Contains (inputs_of x) input
      → StandsAt l input n → image_at s.earlier n ≡ image_at images n
  input_image x k s input n at among there = s.over.same n (earlier_input l apart founded x k input n at among there)

  image_is :
      (e : Expr) (rect : Area) (k : ℕ) → StandsAt l (alias e rect) k → (q : Point) → image_at images k q ≡ image_of pictures e q
  unfolding image_of
  image_is Clear rect k at q =
      let s = shown (alias Clear rect) k at in
      made_by (alias Clear rect) k s job.Clear q s.shows.job
  image_is (Leaf d to) rect k at q =
      let s = shown (alias (Leaf d to) rect) k at in
      made_by (alias (Leaf d to) rect) k s (job.Leaf d to.x to.y) q s.shows.job
  image_is (Tinted d to tint) rect k at q =
      let s = shown (alias (Tinted d to tint) rect) k at in
      made_by (alias (Tinted d to tint) rect) k s (job.Tinted d to.x to.y s.shows.job.0) q s.shows.job.1
      ∙ sym (tinted-by_tint_of ends (pictures d) (get_or p.tints s.shows.job.0 []) (minus q to))
      ∙ ap (λ t. tinted_pixel (pictures d) t (minus q to)) (shown_tint p.tints s.shows.job.0 tint s.shows.job.2)
  image_is (Card pixel) rect k at q =
      let s = shown (alias (Card pixel) rect) k at in
      made_by (alias (Card pixel) rect) k s (job.Card pixel) q s.shows.job
  image_is (Pair op a b) rect k at q =
      let x = alias (Pair op a b) rect in
      let s = shown x k at in
      let there = two_inputs (StandsAt l) (alias a rect) (alias b rect) s.entry.inputs s.shows.inputs in
      made_by x k s (job.Pair op) q s.shows.job
      ∙ ap₂ (apply_of op)
      (ap (λ (image : Image). image q)
      (input_image x k s (alias a rect) (input_at s.entry.inputs 0) at (0, omega arith, refl) there.0)
      ∙ image_is a rect (input_at s.entry.inputs 0) there.0 q)
      (ap (λ (image : Image). image q)
      (input_image x k s (alias b rect) (input_at s.entry.inputs 1) at (1, omega arith, refl) there.1)
      ∙ image_is b rect (input_at s.entry.inputs 1) there.1 q)
  image_is (Blur n a) rect k at q =
      let x = alias (Blur n a) rect in
      let s = shown x k at in
      let there = one_input (StandsAt l) (alias a (grown rect n)) s.entry.inputs s.shows.inputs in
      made_by x k s (job.Blur n) q s.shows.job
      ∙ ap (λ image. blurred n image q)
      (input_image x k s (alias a (grown rect n)) (input_at s.entry.inputs 0) at (0, omega arith, refl) there
      ∙ fun_ext (image_is a (grown rect n) (input_at s.entry.inputs 0) there))

  pub value-is_image :
      (x : Alias) (k : ℕ) → StandsAt l x k → (q : Point) → value_in pictures p k q ≡ image_of pictures x.expr q
  unfolding value_in images
  value-is_image x k = image_is x.expr x.rect k

-- an alias of a plan that shows roots has the image of its expression
pub shown-image :
    EndsTellNothing → (pictures : Pictures) (tiles : List Area) (roots : List Expr) (p : PlanRecord) → ShowsRoots tiles roots p
    → (x : Alias) (k : ℕ) → StandsAt (aliases_of tiles roots) x k → (q : Point) → value_in pictures p k q ≡ image_of pictures x.expr q
shown-image ends pictures tiles roots p shows =
    value-is_image ends pictures (aliases_of tiles roots) p (aliases_apart tiles roots) (aliases_founded tiles roots) shows.entries

-- ---- the aliases of rows and tiles

place-on_tiles :
    (tiles : List Area) (e : Expr) (tile : ℕ) (rect : Area) → slice_get tiles tile ≡ Some rect
    → slice_get (on_tiles tiles e) tile ≡ Some (alias e rect)
place-on_tiles tiles e tile rect at = slice_get-map (alias e) tiles tile ∙ ap (option_map (alias e)) at

place-root :
    (tiles : List Area) (roots : List Expr) (row tile : ℕ) (e : Expr) (rect : Area) → slice_get roots row ≡ Some e
    → slice_get tiles tile ≡ Some rect → slice_get (root_aliases tiles roots) (row * length tiles + tile) ≡ Some (alias e rect)
place-root tiles [] row tile e rect at on = cc
place-root tiles (f ∷ roots) zero tile e rect at on =
    ap (slice_get (root_aliases tiles (f ∷ roots))) (let sum : zero * length tiles + tile ≡ tile = omega arith in sum)
    ∙ place-append (on_tiles tiles f) (root_aliases tiles roots) tile (alias e rect)
    (place-on_tiles tiles f tile rect on ∙ ap (λ g. Some (alias g rect)) (same_Some f e at))
place-root tiles (f ∷ roots) (suc row) tile e rect at on =
    ap (slice_get (root_aliases tiles (f ∷ roots)))
    (let sum : suc row * length tiles + tile ≡ length (on_tiles tiles f) + (row * length tiles + tile) =
    omega (arith, suc-mul row (length tiles), length-map tiles (alias f)) in sum)
    ∙ place-behind (on_tiles tiles f) (root_aliases tiles roots) (row * length tiles + tile)
    ∙ place-root tiles roots row tile e rect at on

-- the alias of a row and tile has the image of the row's root
pub root-image :
    EndsTellNothing → (pictures : Pictures) (tiles : List Area) (roots : List Expr) (p : PlanRecord) → ShowsRoots tiles roots p
    → (row tile : ℕ) (e : Expr) → slice_get roots row ≡ Some e → tile < length tiles → (q : Point)
    → value_in pictures p (root_at p row tile) q ≡ image_of pictures e q
root-image ends pictures tiles roots p shows row tile e at on q =
    let rect = get_or tiles tile (area (pos 0) (pos 0) 0 0) in
    let x = alias e rect in
    let there =
    all_zip-at (StandsAt (aliases_of tiles roots)) (root_aliases tiles roots) p.roots shows.rows (row * length tiles + tile) x
    (place-root tiles roots row tile e rect at (slice_get-get_or tiles tile (area (pos 0) (pos 0) 0 0) on)) in
    ap (λ n. value_in pictures p n q)
    (ap (λ ts. get_or p.roots (row * length ts + tile) 0) shows.frame
    ∙ get_or_from_slice_get p.roots (row * length tiles + tile) there.0 0 there.1)
    ∙ shown-image ends pictures tiles roots p shows x there.0 there.2 q
