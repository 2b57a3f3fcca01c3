-- The tiles of an alias' inputs.
use Rattle.std.proofs.Common.{◌≡◌, ℕ, ◌<◌, ℤ, Option, Some, None, IfSome, length, option_map, slice_get, sym, ap, ◌∙◌, subst, Bor, arith}
use Rattle.xs_pixel.specs.Picture.{Pictures}
use Rattle.xs_pixel.specs.Points.{point}
use Rattle.xs_rect.specs.Area.{Area, Holds, grown}
use Rattle.xs_raster.specs.Bitmap.{Bitmap}
use Rattle.xs_raster.specs.declared.tile.Tile.{Tile}
use Rattle.xs_plan.specs.declared.job.Job.{Job}
use Rattle.xs_plan.specs.declared.job.Job.TheVariants as job
use Rattle.xs_plan.specs.Record.{PlanRecord, entry_at, input_rect, ports_of}
use Rattle.xs_plan.specs.Valid.{IsPlan}
use Rattle.xs_plan.specs.Values.{input_at, value_in}
use Rattle.xs_bench.specs.Inputs.{HasInputs, HoldInputs, HoldsInput, IsOn, raster_image, tile_image}
use Rattle.xs_bench.proofs.Entries.{input-read, entry-valid}

-- a tile that is lent, as a value
abbrev pub lent : Option (Bor Tile) → Option Tile
lent tile = option_map (λ t. t.now) tile

-- the raster of a tile that is there
pub area_on : (on : Area) (tile : Option (Bor Tile)) (r : Bitmap) → IsOn on (lent tile) → IfSome tile (λ t. r ≡ t.now.raster) → r.area ≡ on
area_on on None r there is = absurd there
area_on on (Some t) r there is = ap (λ (b : Bitmap). b.area) is ∙ there

pub image_on :
    (on : Area) (tile : Option (Bor Tile)) (r : Bitmap) → IsOn on (lent tile) → IfSome tile (λ t. r ≡ t.now.raster)
    → raster_image r ≡ tile_image (lent tile)
image_on on None r there is = absurd there
image_on on (Some t) r there is = ap (λ (b : Bitmap). raster_image b) is

pub inputs_of_pair : (op : _) (j : Job) (rect : Area) (a b : Option Tile) → job.Pair op ≡ j → HasInputs j rect a b → IsOn rect a × IsOn rect b
inputs_of_pair op j rect a b is has = subst (λ (j : Job). HasInputs j rect a b) (sym is) has

pub input_of_blur : (n : ℕ) (j : Job) (rect : Area) (a b : Option Tile) → job.Blur n ≡ j → HasInputs j rect a b → IsOn (grown rect n) a
input_of_blur n j rect a b is has = subst (λ (j : Job). HasInputs j rect a b) (sym is) has

-- ---- tiles that hold the values of what is read

-- the tile at a port stands where the job asks
input_on :
    (told : Option Pictures) (p : PlanRecord) (read : Option ℕ) (input : ℕ) (on : Area) (tile : Option Tile) → read ≡ Some input
    → (entry_at p.entries input).rect ≡ on → HoldsInput told p read tile → IsOn on tile
input_on told p None input on tile at rect holds = absurd cc
input_on told p (Some i) input on None at rect holds = absurd holds
input_on told p (Some i) input on (Some t) at rect holds =
    let same : i ≡ input = cc in
    holds.area_is ∙ ap (λ (n : ℕ). (entry_at p.entries n).rect) same ∙ rect

-- and has the value there
input_shows :
    (told : Option Pictures) (pictures : Pictures) (p : PlanRecord) (read : Option ℕ) (input : ℕ) (tile : Option Tile) → told ≡ Some pictures
    → read ≡ Some input → HoldsInput told p read tile → (x y : ℤ) → Holds (entry_at p.entries input).rect x y
    → tile_image tile (point x y) ≡ value_in pictures p input (point x y)
input_shows told pictures p None input tile tells at holds x y held = absurd cc
input_shows told pictures p (Some i) input None tells at holds x y held = absurd holds
input_shows told pictures p (Some i) input (Some t) tells at holds x y held =
    let same : input ≡ i = cc in
    holds.pixels_are pictures tells x y
    (subst (λ (a : Area). Holds a x y) (sym holds.area_is) (subst (λ (n : ℕ). Holds (entry_at p.entries n).rect x y) same held))
    ∙ ap (λ (n : ℕ). value_in pictures p n (point x y)) (sym same)

-- ---- what a job finds

-- a job's tiles are there
pub has_inputs :
    (told : Option Pictures) (p : PlanRecord) (k : ℕ) (a b : Option Tile) → IsPlan p → k < length p.entries → HoldInputs told p k a b
    → HasInputs (entry_at p.entries k).job (entry_at p.entries k).rect a b
has_inputs told p k a b valid there holds =
    by_job (entry_at p.entries k).job (entry-valid p k valid there).ports
    (λ has. first_on has) (λ has. second_on has)
  where
    on : Area
    on = input_rect (entry_at p.entries k).job (entry_at p.entries k).rect

    first_on : 0 < length (entry_at p.entries k).inputs → IsOn on a
    first_on has =
        let read = input-read p k 0 valid there has in
        input_on told p (slice_get (entry_at p.entries k).inputs 0) (input_at (entry_at p.entries k).inputs 0) on a read.at read.rect holds.first

    second_on : 1 < length (entry_at p.entries k).inputs → IsOn on b
    second_on has =
        let read = input-read p k 1 valid there has in
        input_on told p (slice_get (entry_at p.entries k).inputs 1) (input_at (entry_at p.entries k).inputs 1) on b read.at read.rect holds.second

    by_job :
        (j : Job) → length (entry_at p.entries k).inputs ≡ ports_of j
        → (0 < length (entry_at p.entries k).inputs → IsOn (input_rect j (entry_at p.entries k).rect) a)
        → (1 < length (entry_at p.entries k).inputs → IsOn (input_rect j (entry_at p.entries k).rect) b)
        → HasInputs j (entry_at p.entries k).rect a b
    by_job job.Clear ports first second = tt
    by_job (job.Leaf d dx dy) ports first second = tt
    by_job (job.Tinted d dx dy t) ports first second = tt
    by_job (job.Card pixel) ports first second = tt
    by_job (job.Pair op) ports first second = (first (omega arith), second (omega arith))
    by_job (job.Blur n) ports first second = first (omega arith)

-- the tile at a port has the value of what is read there
pub port_shows :
    (told : Option Pictures) (pictures : Pictures) (p : PlanRecord) (k port : ℕ) (tile : Option Tile) → IsPlan p → k < length p.entries
    → told ≡ Some pictures → port < length (entry_at p.entries k).inputs
    → HoldsInput told p (slice_get (entry_at p.entries k).inputs port) tile
    → (x y : ℤ) → Holds (input_rect (entry_at p.entries k).job (entry_at p.entries k).rect) x y
    → tile_image tile (point x y) ≡ value_in pictures p (input_at (entry_at p.entries k).inputs port) (point x y)
port_shows told pictures p k port tile valid there tells has holds x y held =
    let read = input-read p k port valid there has in
    input_shows told pictures p (slice_get (entry_at p.entries k).inputs port) (input_at (entry_at p.entries k).inputs port) tile tells read.at holds x y
    (subst (λ (a : Area). Holds a x y) (sym read.rect) held)
