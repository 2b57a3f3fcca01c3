-- The plan of a scene's rows, its pictures and its frames
use Rattle.std.specs.Prelude.{◌≡◌, ℕ, ◌*◌, map, length}
use Rattle.std.specs.List.{range_with_len}
use Rattle.xs_pixel.specs.Picture.{Pictures, ArePixels}
use Rattle.xs_rect.specs.Area.{Area}
use Rattle.xs_rect.specs.Tiles.{frame, tile_areas}
use Rattle.xs_raster.specs.Bitmap.{Bitmap}
use Rattle.xs_scene.specs.InRange.{IsInRange}
use Rattle.xs_scene.specs.Records.{SceneRecord}
use Rattle.xs_meaning.specs.Drawings.{AreColouredAsWritten}
use Rattle.xs_meaning.specs.Expressions.{root_of}
use Rattle.xs_plan.specs.Record.{PlanRecord}
use Rattle.xs_demand.specs.Shown.{ShowsRoots}
use Rattle.xs_frames.specs.Frames.{IsPainted}

-- the area of a scene's frames
abbrev pub area_of : SceneRecord → Area
area_of s = frame s.camera.w s.camera.h

-- a plan shows so many rows of a scene from one on, on the tiles of the scene's frames
abbrev pub ShowsScene : SceneRecord → ℕ → ℕ → PlanRecord → Type 0
ShowsScene s from rows p = ShowsRoots (tile_areas s.camera.w s.camera.h) (map (root_of s) (range_with_len from rows)) p

-- pictures are those of a scene, whose numbers are in their ranges: they are pixels, coloured as its palettes are written
pub record AreOf (s : SceneRecord) (pictures : Pictures) : Type 0 where
  pub range : IsInRange s
  pub pixels : ArePixels pictures
  pub written : AreColouredAsWritten s pictures

-- an image has a pixel for each point of a scene's frames, which the tiles of a plan cut
pub record IsFrameOf (s : SceneRecord) (p : PlanRecord) (image : Bitmap) : Type 0 where
  pub area : image.area ≡ area_of s
  pub painted : IsPainted p image
  pub whole : length image.pixels ≡ image.area.w * image.area.h
