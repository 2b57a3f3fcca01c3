-- What an alias is computed from
use Rattle.std.specs.Prelude.{◌≡◌, ℕ, Option, Some, None, IsSome, IfSome, option_map, slice_get}
use Rattle.xs_pixel.specs.Images.{Image}
use Rattle.xs_pixel.specs.Picture.{Pictures}
use Rattle.xs_rect.specs.Area.{Area, grown}
use Rattle.xs_raster.specs.Bitmap.{Bitmap, pixel_of}
use Rattle.xs_raster.specs.declared.tile.Tile.{Tile}
use Rattle.xs_rawfile.specs.Held.{Held, slot_in, picture_of}
use Rattle.xs_plan.specs.declared.job.Job.{Job}
use Rattle.xs_plan.specs.declared.job.Job.TheVariants as job
use Rattle.xs_plan.specs.Record.{PlanRecord, entry_at, drawing_of}
use Rattle.xs_plan.specs.Values.{HoldsValue, no_image, image_of_job}

-- the image of a raster: at each point of its area, the pixel there
abbrev pub raster_image : Bitmap → Image
raster_image r q = pixel_of r q.x q.y

-- a tile holds the value of an alias
abbrev pub TileHolds : Option Pictures → PlanRecord → ℕ → Tile → Type 0
TileHolds told p k t = HoldsValue told p k t.alias t.raster.area (raster_image t.raster)

-- a tile is there exactly where an alias reads at a port, and holds the value of what it reads there
abbrev pub HoldsInput : Option Pictures → PlanRecord → Option ℕ → Option Tile → Type 0
HoldsInput told p (Some input) (Some t) = TileHolds told p input t
HoldsInput told p None None = Unit {0}
HoldsInput told p (Some input) None = ⊥
HoldsInput told p None (Some t) = ⊥

-- so are the tiles of both ports
pub record HoldInputs (told : Option Pictures) (p : PlanRecord) (k : ℕ) (a b : Option Tile) : Type 0 where
  pub first : HoldsInput told p (slice_get (entry_at p.entries k).inputs 0) a
  pub second : HoldsInput told p (slice_get (entry_at p.entries k).inputs 1) b

-- the picture of each drawing that is held
unfoldable pub held_pictures : Held → Pictures
held_pictures h d = option_map (λ slot. picture_of h.palettes slot.0 slot.1) (slot_in h d)

-- the drawing of a job, if it has one, is held
abbrev pub HasDrawing : Held → Job → Type 0
HasDrawing h job = IfSome (drawing_of job) (λ d. IsSome (slot_in h d))

-- ---- without a plan's values

-- a tile is there, and stands on an area
abbrev pub IsOn : Area → Option Tile → Type 0
IsOn on None = ⊥
IsOn on (Some t) = t.raster.area ≡ on

-- the tiles that a job reads are there, and stand on the areas that it asks for
abbrev pub HasInputs : Job → Area → (a b : Option Tile) → Type 0
HasInputs (job.Pair op) rect a b = IsOn rect a × IsOn rect b
HasInputs (job.Blur radius) rect a b = IsOn (grown rect radius) a
HasInputs _ rect a b = Unit {0}

abbrev pub tile_image : Option Tile → Image
tile_image None = no_image
tile_image (Some t) = raster_image t.raster

-- the image of an alias over the drawings that are held and the tiles of its inputs
unfoldable pub made_image : Held → PlanRecord → ℕ → (a b : Option Tile) → Image
made_image h p k a b =
    image_of_job (held_pictures h) p.tints (entry_at p.entries k).job (tile_image a) (tile_image b)
