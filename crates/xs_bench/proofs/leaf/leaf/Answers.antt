use Rattle.std.proofs.Common.{Bor, refl, sym}
use Rattle.xs_palette.specs.declared.palette.Palette.{Palette}
use Rattle.xs_pixel.specs.Points.{minus, point}
use Rattle.xs_bench.specs.Cells.{pixel_image, word_image}
use Rattle.xs_bench.proofs.Blank.{shows_clear, shows_same}
use Rattle.xs_bench.proofs.Held.{plain-colour, plain-words, plain-unseen}
use Rattle.xs_bench.proofs.leaf.leaf.Goals as goal

pub returns-in-Colour-default : goal.returns-in-Colour-default
returns-in-Colour-default g c =
    let to = point c.args.to.x c.args.to.y in
    let drawing = c.in-Some.g.now in
    shows_same c.args.rect c.args.rect (pixel_image drawing to) _ c.pixels.result refl
    (λ q. sym (plain-colour c.args.d.now c.args.drawing drawing (minus q to) c.in-Some.ensures.value (sym c.in-Colour-default.ensures)))
    c.pixels.ensures

pub returns-in-Cm32-Some : goal.returns-in-Cm32-Some
returns-in-Cm32-Some g c =
    let to = point c.args.to.x c.args.to.y in
    let drawing = c.in-Some.g.now in
    let palette = c.in-Cm32-Some.palette.now in
    shows_same c.args.rect c.args.rect (word_image drawing palette to) _ c.words.result refl
    (λ q. sym (plain-words c.args.d.now c.args.drawing drawing c.in-Cm32-Some.palette palette (minus q to) c.in-Some.ensures.value
    (sym c.in-Cm32-Some.ensures) c.in-Cm32-Some.ensures'.none c.in-Cm32-Some.ensures'.value))
    c.words.ensures

pub returns-in-Cm32-None : goal.returns-in-Cm32-None
returns-in-Cm32-None g c =
    let to = point c.args.to.x c.args.to.y in
    let drawing = c.in-Some.g.now in
    shows_clear c.args.rect _ c.blank-in-Cm32-None.result c.blank-in-Cm32-None.ensures
    (λ x y held.
    plain-unseen (Bor Palette) c.args.d.now c.args.drawing drawing (minus (point x y) to) c.in-Some.ensures.value (sym c.in-Cm32-None.ensures)
    c.in-Cm32-None.ensures'.none)
