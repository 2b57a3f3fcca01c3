-- How far spots may be moved
use Rattle.std.specs.Prelude.{ℕ, ◌+◌, ◌*◌, ◌≤◌}
use Rattle.xs_base.specs.declared.limits.TheConstants.{DEEPEST_NEST, FARTHEST_PLACE}
use Rattle.xs_pixel.specs.Points.{Point}
use Rattle.xs_scene.specs.Records.{SceneRecord}
use Rattle.xs_meaning.specs.Bounds.{IsWithin}
use Rattle.xs_meaning.specs.Ends.{SheetsEnd}

-- an offset under which a row of a sheet stands: the camera and each nested sheet on the way to it have moved it
-- by no more than a place
pub record HasRoom (s : SceneRecord) (sheet : ℕ) (o : Point) : Type 0 where
  -- so many nested sheets may still follow
  pub depth : ℕ
  pub ends : SheetsEnd s.sheets depth sheet
  pub far : ℕ
  pub near : IsWithin far o
  pub fits : far + FARTHEST_PLACE * depth ≤ FARTHEST_PLACE * (DEEPEST_NEST + 1)
