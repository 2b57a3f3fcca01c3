use Rattle.std.proofs.Common.{ℕ, List}
use Rattle.xs_pixel.specs.Channels.{Channels}
use Rattle.xs_direct.specs.Frames.{frame_line}
use Rattle.xs_direct.specs.Pictures.{pictures_in}
use Rattle.xs_direct.proofs.FrameLemmas.{line_more}
use Rattle.xs_direct.proofs.frame.Shot.push_lines.Goals as goal

pub loop-y-preserved : goal.loop-y-preserved
loop-y-preserved g c =
    let line : ℕ → List Channels = λ y. frame_line c.args.self.now.scene.now (pictures_in c.args.self.now.drawings.now) c.args.self.now.row y c.args.w in
    line_more c.args.bytes.now.items c.loop-y.bytes.items c.push_line.new.bytes.items line c.loop-y.y c.loop-y.invariant c.in_ok-push_line.ensures
