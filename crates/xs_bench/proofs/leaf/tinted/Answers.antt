use Rattle.std.proofs.Common.{refl, sym, ◌∙◌}
use Rattle.xs_pixel.specs.Points.{minus, point}
use Rattle.xs_bench.specs.Cells.{word_image}
use Rattle.xs_bench.proofs.Blank.{shows_clear, shows_same}
use Rattle.xs_bench.proofs.Held.{tinted-held, tinted-not_held, tinted-colour}
use Rattle.xs_bench.proofs.leaf.tinted.Goals as goal

pub returns-in_default : goal.returns-in_default
returns-in_default g c =
    let to = point c.args.to.x c.args.to.y in
    shows_clear c.args.rect _ c.blank.result c.blank.ensures
    (λ x y held. sym (tinted-not_held c.args.d.now c.args.drawing c.args.tint.now (minus (point x y) to) (c.in_default.ensures.none.0 refl)))

pub returns-in-Colour : goal.returns-in-Colour
returns-in-Colour g c =
    let to = point c.args.to.x c.args.to.y in
    let drawing = c.in-Some.g.now in
    shows_clear c.args.rect _ c.blank-in-Colour.result c.blank-in-Colour.ensures
    (λ x y held.
    tinted-held c.args.d.now c.args.drawing drawing c.args.tint.now (minus (point x y) to) c.in-Some.ensures.value
    ∙ tinted-colour drawing c.args.tint.now (minus (point x y) to) (sym c.in-Colour.ensures))

pub returns-in-Cm32 : goal.returns-in-Cm32
returns-in-Cm32 g c =
    let to = point c.args.to.x c.args.to.y in
    let drawing = c.in-Some.g.now in
    shows_same c.args.rect c.args.rect (word_image drawing c.args.tint.now to) _ c.words.result refl
    (λ q. sym (tinted-held c.args.d.now c.args.drawing drawing c.args.tint.now (minus q to) c.in-Some.ensures.value)) c.words.ensures
