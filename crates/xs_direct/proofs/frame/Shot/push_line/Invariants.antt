use Rattle.std.proofs.Common.{◌≡◌, ◌++◌}
use Rattle.xs_raster.specs.Bitmap.{bytes_of}
use Rattle.xs_direct.specs.Frames.{frame_line}
use Rattle.xs_direct.specs.Pictures.{pictures_in}
use Rattle.xs_direct.proofs.frame.Shot.push_line.Given as goal

abbrev pub invariant-loop-x : goal.invariant-loop-x
invariant-loop-x g l =
    l.bytes.items ≡ l.initial.bytes.items ++ bytes_of (frame_line l.self.scene.now (pictures_in l.self.drawings.now) l.self.row l.y l.x)
