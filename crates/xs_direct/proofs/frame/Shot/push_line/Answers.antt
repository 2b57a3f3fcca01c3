use Rattle.std.proofs.Common.{◌≡◌, ℕ, pos, length, ◌∙◌, rules, arith}
use Rattle.std.proofs.lemmas.Int.{ints}
use Rattle.xs_pixel.specs.Channels.{Channels}
use Rattle.xs_pixel.specs.Points.{point}
use Rattle.xs_meaning.specs.RowValues.{frame_pixel}
use Rattle.xs_direct.specs.Pictures.{pictures_in}
use Rattle.xs_direct.proofs.FrameLemmas.{pixel_more, framed}
use Rattle.xs_direct.proofs.frame.Shot.push_line.Goals as goal

pub loop-x-preserved : goal.loop-x-preserved
loop-x-preserved g c =
    let s = c.args.self.now.scene.now in
    let px = pictures_in c.args.self.now.drawings.now in
    let f : ℕ → Channels = λ x. frame_pixel s px c.args.self.now.row (point (pos x) (pos c.args.y)) in
    let four : length c.to_bytes.result ≡ 4 = search rules in
    pixel_more c.args.bytes.now.items c.loop-x.bytes.items c.extend_from_slice.new.self.items c.to_bytes.result f c.loop-x.x c.pixel_at-pixel.result
    c.loop-x.invariant
    c.in_ok-extend_from_slice.ensures.items four c.to_bytes.ensures.bytes
    (c.pixel_at-pixel.ensures ∙ framed s px c.args.self.now.row c.loop-x.x c.args.y c.args.self.now.corner.0 c.args.self.now.corner.1 _ _
    (omega (arith, ints)) (omega (arith, ints)) c.requires.camera)
