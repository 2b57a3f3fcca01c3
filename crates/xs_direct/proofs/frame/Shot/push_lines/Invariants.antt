use Rattle.std.proofs.Common.{◌≡◌, ◌++◌, flat_map}
use Rattle.std.specs.List.{range_with_len}
use Rattle.xs_raster.specs.Bitmap.{bytes_of}
use Rattle.xs_direct.specs.Frames.{frame_line}
use Rattle.xs_direct.specs.Pictures.{pictures_in}
use Rattle.xs_direct.proofs.frame.Shot.push_lines.Given as goal

abbrev pub invariant-loop-y : goal.invariant-loop-y
invariant-loop-y g l =
    l.bytes.items ≡ l.initial.bytes.items ++ bytes_of
    (flat_map (λ y. frame_line l.self.scene.now (pictures_in l.self.drawings.now) l.self.row y l.w) (range_with_len 0 l.y))
