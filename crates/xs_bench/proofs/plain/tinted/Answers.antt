use Rattle.std.proofs.Common.{w32, sym, ◌∙◌, refl}
use Rattle.std.proofs.lemmas.Int.{to_z-of_z}
use Rattle.xs_pixel.specs.Points.{point}
use Rattle.xs_rawfile.specs.Held.{plain_picture, words_of}
use Rattle.xs_bench.proofs.Held.{tinted-held, tinted-not_held, word-pixel}
use Rattle.xs_bench.proofs.plain.tinted.Goals as goal

pub returns-in-Some : goal.returns-in-Some
returns-in-Some g c =
    let x = to_z-of_z w32 c.args.x c.ranges.x in
    let y = to_z-of_z w32 c.args.y c.ranges.y in
    let word = rw (x, y) at c.word.ensures in
    let drawing = c.in-Some.drawing.now in
    (rw word at c.word_pixel.ensures)
    ∙ word-pixel (plain_picture drawing) c.args.tint.now (words_of drawing) c.args.x c.args.y
    ∙ sym (tinted-held c.args.d.now c.args.drawing drawing c.args.tint.now (point c.args.x c.args.y) c.in-Some.ensures.value)

pub returns-in-None : goal.returns-in-None
returns-in-None g c =
    tinted-not_held c.args.d.now c.args.drawing c.args.tint.now (point c.args.x c.args.y) (c.in-None.ensures.none.0 refl)
