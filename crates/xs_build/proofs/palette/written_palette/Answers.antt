use Rattle.std.proofs.Common.{List, ap, ◌∙◌}
use Rattle.xs_pixel.specs.declared.style.Style.{Style}
use Rattle.xs_palette.specs.Styles.{written, style_of}
use Rattle.xs_scene.specs.Records.{ColoursRecord}
use Rattle.xs_build.proofs.OneTint.{tint-written}
use Rattle.xs_build.proofs.palette.written_palette.Goals as goal

pub returns-in-Ok : goal.returns-in-Ok
returns-in-Ok c =
    let law = c.clear_pixels_at_the_end_tell_nothing.ensures in
    tint-written law.pixels law.one c.args.c.now c.in-Ok.palette
    (c.in-Ok.ensures.styles ∙ ap (λ (styles : List Style). style_of (written styles)) (c.items.ensures ∙ ap (λ (r : ColoursRecord). r.styles) c.c.view_is))
