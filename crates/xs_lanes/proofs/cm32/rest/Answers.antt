use Rattle.std.proofs.Common.{◌≡◌, ℕ, [], ◌∷◌, length, map, refl, ap, ◌∙◌, arith}
use Rattle.std.specs.Simd.Lanes.{chunk}
use Rattle.xs_pixel.specs.Channels.{Channels}
use Rattle.xs_pixel.specs.PixelRows.{pixels}
use Rattle.xs_cm32.specs.WordRows.{words}
use Rattle.xs_cm32.specs.Word.{ink_of, colour_of, colour_under}
use Rattle.xs_palette.specs.Styles.{style_of}
use Rattle.xs_lanes.proofs.Fours.{part_of_map}
use Rattle.xs_lanes.proofs.Lengths.{length-colours}
use Rattle.xs_lanes.proofs.Steps.{done_more, done_all}
use Rattle.xs_lanes.proofs.cm32.rest.Goals as goal

pub loop-at-preserved : goal.loop-at-preserved
loop-at-preserved c =
    let done = c.loop-at.invariant in
    let word = c.word_at-word.result in
    let style : ℕ → Channels = style_of c.args.p.now in
    let ink = c.style.ensures ∙ ap style c.ink.ensures.number in
    let paint = c.style-in-loop-at.ensures ∙ ap style c.paint.ensures.number in
    let shown : c.colour-pixel.result ≡ colour_under style word =
    c.colour-pixel.ensures ∙ (ap (λ s. colour_of word s c.style-in-loop-at.result) ink ∙ ap (λ s. colour_of word (style (ink_of word)) s) paint)
    in
    let one : pixels c.to_bytes.result ≡ map (colour_under style) (words (chunk c.loop-at.at 4 c.args.row.now)) =
    rw c.word_at-word.ensures (c.to_bytes.ensures.bytes ∙ ap (λ p. p ∷ []) shown)
    in
    let four : length c.to_bytes.result ≡ 4 = omega arith in
    let part = part_of_map (colour_under style) c.loop-at.at done.count 4 1 c.args.row.now done.whole refl in
    done_more _ _ _ _ 4 1 done refl (omega (arith, done.whole, done.within)) four (one ∙ part)

pub returns : goal.returns
returns c =
    let long = length-colours (colour_under (style_of c.args.p.now)) c.args.row.now c.requires.whole in
    done_all _ _ c.loop-at.at (omega (arith, long)) (omega arith) c.loop-at.invariant
