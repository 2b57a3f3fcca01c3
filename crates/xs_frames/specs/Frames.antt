-- Frames that are painted tile by tile
use Rattle.std.specs.Prelude.{◌≡◌, ◌≢◌, ◌<◌, ℕ, ℤ, true, Option, Some, None, List, length, replicate, slice_index_or}
use Rattle.xs_pixel.specs.Picture.{Pictures}
use Rattle.xs_pixel.specs.Points.{point}
use Rattle.xs_rect.specs.Area.{Holds}
use Rattle.xs_rect.specs.Tiles.{IsCut, frame, nth}
use Rattle.xs_raster.specs.Bitmap.{Bitmap, bitmap, clear_pixels, pixel_of}
use Rattle.xs_plan.specs.Record.{PlanRecord, root_at, rows_in}
use Rattle.xs_plan.specs.Values.{value_in}

-- the plan of a frame, its pixels, and the alias that stands on each tile, if one does
pub record FrameRecord : Type 0 where
  pub plan : PlanRecord
  pub image : Bitmap
  pub there : List (Option ℕ)

abbrev pub frame_of : PlanRecord → Bitmap → List (Option ℕ) → FrameRecord
frame_of plan image there = record { plan = plan; image = image; there = there }

-- the frame of w by h on which nothing stands yet
abbrev pub clear_frame : PlanRecord → ℕ → ℕ → FrameRecord
clear_frame p w h = frame_of p (bitmap (frame w h) (clear_pixels (frame w h))) (replicate (length p.tiles) None)

abbrev pub alias_on : FrameRecord → ℕ → Option ℕ
alias_on f tile = slice_index_or f.there tile None

-- the pixels of a tile are those of an alias' value, where the pictures are told
abbrev pub Shows : Option Pictures → PlanRecord → Bitmap → ℕ → ℕ → Type 0
Shows told p image tile k =
    (pictures : Pictures) → told ≡ Some pictures
    → (x y : ℤ) → Holds (nth p.tiles tile) x y → pixel_of image x y ≡ value_in pictures p k (point x y)

-- each tile shows the alias of a row
abbrev pub ShowsRow : Option Pictures → PlanRecord → ℕ → Bitmap → Type 0
ShowsRow told p row image = (tile : ℕ) → tile < length p.tiles → Shows told p image tile (root_at p row tile)

-- the plan's tiles cut the frame
pub record IsPainted (p : PlanRecord) (image : Bitmap) : Type 0 where
  pub area : image.area ≡ frame image.area.w image.area.h
  pub cut : IsCut image.area.w image.area.h p.tiles

-- each tile shows the alias that stands there
pub record IsFrame (told : Option Pictures) (f : FrameRecord) : Type 0 where
  pub painted : IsPainted f.plan f.image
  pub many : length f.there ≡ length f.plan.tiles
  pub shows : (tile k : ℕ) → tile < length f.plan.tiles → alias_on f tile ≡ Some k → Shows told f.plan f.image tile k

-- an alias stands on a tile now, and the others have theirs as before
pub record Stands (old : FrameRecord) (tile k : ℕ) (new : FrameRecord) : Type 0 where
  pub plan : new.plan ≡ old.plan
  pub area : new.image.area ≡ old.image.area
  pub here : alias_on new tile ≡ Some k
  pub others : (other : ℕ) → other ≢ tile → alias_on new other ≡ alias_on old other

-- ---- one row alone

-- the plan, the row, and its pixels
pub record GatherRecord : Type 0 where
  pub plan : PlanRecord
  pub row : ℕ
  pub image : Bitmap

abbrev pub gather_of : PlanRecord → ℕ → Bitmap → GatherRecord
gather_of plan row image = record { plan = plan; row = row; image = image }

abbrev pub clear_gather : PlanRecord → ℕ → ℕ → ℕ → GatherRecord
clear_gather p w h row = gather_of p row (bitmap (frame w h) (clear_pixels (frame w h)))

-- the row is one of the plan, and tiles can be pasted
pub record IsGather (g : GatherRecord) : Type 0 where
  pub painted : IsPainted g.plan g.image
  pub bytes : g.image.has_bytes ≡ true
  pub within : g.row < rows_in g.plan

-- a tile shows the alias of the row now, and the others show what they showed
pub record Gains (told : Option Pictures) (old : GatherRecord) (tile : ℕ) (new : GatherRecord) : Type 0 where
  pub plan : new.plan ≡ old.plan
  pub row : new.row ≡ old.row
  pub area : new.image.area ≡ old.image.area
  pub here : Shows told old.plan new.image tile (root_at old.plan old.row tile)
  pub others : (j k : ℕ) → j < length old.plan.tiles → j ≢ tile → Shows told old.plan old.image j k → Shows told old.plan new.image j k
