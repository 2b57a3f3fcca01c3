use Rattle.std.proofs.Common.{ap, not, ◌∙◌}
use Rattle.xs_meaning.specs.Palettes.{is_clear_pixel, pixel_of}
use Rattle.xs_stays.proofs.Numbered.{found-card}
use Rattle.xs_stays.proofs.drawing.card_stay.Goals as goal

pub returns-in_ok-styles-clause-found : goal.returns-in_ok-styles-clause-found
returns-in_ok-styles-clause-found c =
    found-card c.number.new.self.sets.keys c.in_ok-styles.styles c.empty.result c.is_unclear.result (is_clear_pixel (pixel_of c.args.style))
    c.in_ok-styles.ensures.within c.in_ok-styles.ensures.styles c.empty.ensures c.if-is_unclear.true
    (c.is_unclear.ensures ∙ ap (λ p. not (is_clear_pixel p)) c.pixel.ensures)
