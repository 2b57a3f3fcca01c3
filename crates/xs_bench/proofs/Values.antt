-- The value of an alias, from the tiles of its inputs.
use Rattle.std.proofs.Common.{◌≡◌, ℕ, zero, suc, ◌+◌, ◌<◌, ℤ, Option, Some, List, [], ◌∷◌, ◌++◌, IfSome, length, slice_get, get_or, IsSome, refl, sym, ap, ap₂, ◌∙◌, subst, arith}
use Rattle.std.proofs.lemmas.List.{get_or_append_left, get_or_push, length_push}
use Rattle.std.proofs.lemmas.Option.{same_Some, slice_get-get_or}
use Rattle.xs_pixel.specs.Channels.{Channels}
use Rattle.xs_pixel.specs.Images.{Image, blurred}
use Rattle.xs_pixel.specs.Operations.{apply_of}
use Rattle.xs_pixel.specs.Picture.{Picture, Pictures}
use Rattle.xs_pixel.specs.Points.{point, minus}
use Rattle.xs_rect.specs.Area.{Area, Holds}
use Rattle.xs_raster.specs.Bitmap.{Bitmap}
use Rattle.xs_raster.specs.declared.tile.Tile.{Tile}
use Rattle.xs_rawfile.specs.Held.{Held, IsHeld, slot_in}
use Rattle.xs_plan.specs.declared.job.Job.{Job}
use Rattle.xs_plan.specs.declared.job.Job.TheVariants as job
use Rattle.xs_plan.specs.Record.{Entry, PlanRecord, entry_at, no_entry, drawing_of, input_rect, ports_of}
use Rattle.xs_plan.specs.Valid.{IsPlan}
use Rattle.xs_plan.specs.Values.{HoldsValue, image_at, image_of_entry, image_of_job, images_after, input_at, no_image, plain_pixel, tinted_pixel, value_in}
use Rattle.xs_bench.specs.Inputs.{HasDrawing, HoldInputs, held_pictures, made_image, raster_image, tile_image}
use Rattle.xs_bench.specs.Shows.{Shows}
use Rattle.xs_bench.proofs.Entries.{entry-valid, input-read}
use Rattle.xs_bench.proofs.Held.{held-told}
use Rattle.xs_bench.proofs.Images.{Agree, blurred-same, image_by}
use Rattle.xs_bench.proofs.Inputs.{port_shows}

-- ---- the value of an alias over those of the aliases that it reads

module _ (pictures : Pictures) (tints : List (List Channels)) where
  -- later aliases leave the images that there are
  image_at-kept :
      (images : List Image) (entries : List Entry) (n : ℕ) → n < length images
      → image_at (images_after pictures tints images entries) n ≡ image_at images n
  image_at-kept images [] n lt = refl
  image_at-kept images (e ∷ entries) n lt =
      image_at-kept (images ++ image_of_entry pictures tints images e ∷ []) entries n
      (omega (arith, length_push images (image_of_entry pictures tints images e)))
      ∙ get_or_append_left images (image_of_entry pictures tints images e ∷ []) no_image n lt

  -- the images over which that of an entry is made: they hold those of all earlier ones
  record IsMadeOver (images : List Image) (k : ℕ) (e : Entry) (earlier : List Image) : Type 0 where
    same : (n : ℕ) → n < k → image_at earlier n ≡ image_at images n
    made : image_at images k ≡ image_of_entry pictures tints earlier e

  made_over :
      (images : List Image) (entries : List Entry) (i k : ℕ) (e : Entry) → length images + i ≡ k → slice_get entries i ≡ Some e
      → (earlier : List Image) × IsMadeOver (images_after pictures tints images entries) k e earlier
  made_over images [] i k e sum at = cc
  made_over images (f ∷ entries) zero k e sum at =
      let image = image_of_entry pictures tints images f in
      let here : length images ≡ k = omega arith in (
        images,
        record {
          same = λ n lt.
              sym (image_at-kept (images ++ image ∷ []) entries n (omega (arith, length_push images image))
              ∙ get_or_append_left images (image ∷ []) no_image n (omega arith));
          made =
              image_at-kept (images ++ image ∷ []) entries k (omega (arith, length_push images image))
              ∙ get_or_push images image no_image k here
              ∙ ap (image_of_entry pictures tints images) (same_Some f e at);
        },
      )
  made_over images (f ∷ entries) (suc i) k e sum at =
      made_over (images ++ image_of_entry pictures tints images f ∷ []) entries i k e
      (omega (arith, length_push images (image_of_entry pictures tints images f))) at

-- the value of an alias is made over images that have, for each earlier alias, its value
value_over :
    (pictures : Pictures) (p : PlanRecord) (k : ℕ) → k < length p.entries
    → (earlier : List Image) × ((n : ℕ) → n < k → image_at earlier n ≡ value_in pictures p n)
    × (value_in pictures p k ≡ image_of_entry pictures p.tints earlier (entry_at p.entries k))
unfolding value_in
value_over pictures p k there =
    let over = made_over pictures p.tints [] p.entries k k (entry_at p.entries k) (omega arith) (slice_get-get_or p.entries k no_entry there) in
    (over.0, over.1.same, over.1.made)

-- ---- the image that is made of an alias is its value

module _ (told : Option Pictures) (pictures : Pictures) (h : Held) (p : PlanRecord) (k : ℕ) (a b : Option Tile)
    (valid : IsPlan p) (there : k < length p.entries) (tells : told ≡ Some pictures) (holds : IsHeld told h)
    (inputs : HoldInputs told p k a b) where
  abbrev e : Entry
  e = entry_at p.entries k

  -- an alias reads at the ports of its job
  has_port : (j : Job) (port : ℕ) → j ≡ e.job → port < ports_of j → port < length e.inputs
  has_port j port is below = omega (arith, (entry-valid p k valid there).ports, ap ports_of is)

  first_agrees :
      (j : Job) → j ≡ e.job → 0 < ports_of j → Agree (input_rect j e.rect) (tile_image a) (value_in pictures p (input_at e.inputs 0))
  first_agrees j is below x y held =
      port_shows told pictures p k 0 a valid there tells (has_port j 0 is below) inputs.first x y
      (subst (λ (j : Job). Holds (input_rect j e.rect) x y) is held)

  second_agrees :
      (j : Job) → j ≡ e.job → 1 < ports_of j → Agree (input_rect j e.rect) (tile_image b) (value_in pictures p (input_at e.inputs 1))
  second_agrees j is below x y held =
      port_shows told pictures p k 1 b valid there tells (has_port j 1 is below) inputs.second x y
      (subst (λ (j : Job). Holds (input_rect j e.rect) x y) is held)

  -- the images of earlier aliases
  abbrev AreEarlier : List Image → Type 0
  AreEarlier earlier = (n : ℕ) → n < k → image_at earlier n ≡ value_in pictures p n

  input_over :
      (earlier : List Image) (j : Job) (port : ℕ) → AreEarlier earlier → j ≡ e.job → port < ports_of j
      → value_in pictures p (input_at e.inputs port) ≡ image_at earlier (input_at e.inputs port)
  input_over earlier j port are is below =
      sym (are (input_at e.inputs port) (input-read p k port valid there (has_port j port is below)).earlier)

  same_job :
      (j : Job) → j ≡ e.job → IfSome (drawing_of j) (λ d. IsSome (slot_in h d)) → (earlier : List Image) → AreEarlier earlier
      → (x y : ℤ) → Holds e.rect x y
      → image_of_job (held_pictures h) p.tints j (tile_image a) (tile_image b) (point x y)
      ≡ image_of_job pictures p.tints j (image_at earlier (input_at e.inputs 0)) (image_at earlier (input_at e.inputs 1)) (point x y)
  same_job job.Clear is has earlier are x y held = refl
  same_job (job.Leaf d dx dy) is has earlier are x y held =
      ap (λ (pic : Option Picture). plain_pixel pic (minus (point x y) (point dx dy))) (held-told told h pictures d holds tells has)
  same_job (job.Tinted d dx dy t) is has earlier are x y held =
      ap (λ (pic : Option Picture). tinted_pixel pic (get_or p.tints t []) (minus (point x y) (point dx dy)))
      (held-told told h pictures d holds tells has)
  same_job (job.Card pixel) is has earlier are x y held = refl
  same_job (job.Pair op) is has earlier are x y held =
      ap₂ (apply_of op)
      (first_agrees (job.Pair op) is (omega arith) x y held
      ∙ ap (λ (f : Image). f (point x y)) (input_over earlier (job.Pair op) 0 are is (omega arith)))
      (second_agrees (job.Pair op) is (omega arith) x y held
      ∙ ap (λ (f : Image). f (point x y)) (input_over earlier (job.Pair op) 1 are is (omega arith)))
  same_job (job.Blur n) is has earlier are x y held =
      blurred-same n e.rect (tile_image a) (value_in pictures p (input_at e.inputs 0)) (first_agrees (job.Blur n) is (omega arith)) x y held
      ∙ ap (λ (f : Image). blurred n f (point x y)) (input_over earlier (job.Blur n) 0 are is (omega arith))

  made-value : HasDrawing h e.job → (x y : ℤ) → Holds e.rect x y → made_image h p k a b (point x y) ≡ value_in pictures p k (point x y)
  made-value has x y held =
      let over = value_over pictures p k there in
      sym (image_by h p k a b e.job (point x y) refl)
      ∙ same_job e.job refl has over.0 over.1 x y held
      ∙ ap (λ (f : Image). f (point x y)) (sym over.2)

raster_holds :
    (told : Option Pictures) (h : Held) (p : PlanRecord) (k : ℕ) (a b : Option Tile) (r : Bitmap) → IsPlan p → k < length p.entries
    → IsHeld told h → HasDrawing h (entry_at p.entries k).job → HoldInputs told p k a b
    → Shows (entry_at p.entries k).rect (made_image h p k a b) r → HoldsValue told p k k r.area (raster_image r)
raster_holds told h p k a b r valid there holds has inputs shows = record {
  alias_is = refl;
  area_is = shows.area_is;
  pixels_are = λ pictures tells x y held.
      let on = subst (λ (a : Area). Holds a x y) shows.area_is held in
      shows.pixels_are x y on ∙ made-value told pictures h p k a b valid there tells holds inputs has x y on;
}

-- a tile of an alias whose raster shows the image that is made of it holds the alias' value
pub holds_value :
    (told : Option Pictures) (h : Held) (p : PlanRecord) (k : ℕ) (a b : Option Tile) (r : Bitmap) (t : Tile) → IsPlan p
    → k < length p.entries → IsHeld told h → HasDrawing h (entry_at p.entries k).job → HoldInputs told p k a b
    → Shows (entry_at p.entries k).rect (made_image h p k a b) r → t.alias ≡ k → t.raster ≡ r
    → HoldsValue told p k t.alias t.raster.area (raster_image t.raster)
holds_value told h p k a b r t valid there holds has inputs shows alias raster =
    subst (λ (n : ℕ). HoldsValue told p k n t.raster.area (raster_image t.raster)) (sym alias)
    (subst (λ (b : Bitmap). HoldsValue told p k k b.area (raster_image b)) (sym raster)
    (raster_holds told h p k a b r valid there holds has inputs shows))
