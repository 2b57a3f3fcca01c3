use Rattle.std.proofs.Common.{◌≡◌, ◌++◌, ap, ◌∙◌, rules}
use Rattle.xs_make.specs.Draws.{drawn, state_after}
use Rattle.xs_make.specs.Files.{grey, grey_bytes}
use Rattle.xs_make.proofs.Drawn.{drawn_next, flat_map_more, state_after_more}
use Rattle.xs_make.proofs.files.grey_bytes.Goals as goal

pub loop-pixel-preserved : goal.loop-pixel-preserved
unfolding grey_bytes
loop-pixel-preserved c =
    let x = c.args.draws.now in
    let n = c.loop-pixel._pixel in
    let v : c.draw-v.result ≡ drawn x n 256 =
    c.draw-v.ensures.number ∙ ap (λ s. drawn s 0 256) c.loop-pixel.invariant.draws ∙ drawn_next x n 256 in
    let bytes : c.extend_from_slice.new.self.items ≡ c.loop-pixel.bytes.items ++ grey c.draw-v.result = search rules in
    record {
      bytes = bytes ∙ flat_map_more (λ k. grey (drawn x k 256)) c.loop-pixel.bytes.items n (grey c.draw-v.result) c.loop-pixel.invariant.bytes (ap grey v);
      draws = c.draw-v.ensures.state ∙ ap (λ s. state_after s 1) c.loop-pixel.invariant.draws ∙ state_after_more x n 1;
    }
