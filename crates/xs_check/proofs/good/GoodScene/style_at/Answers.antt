use Rattle.std.proofs.Common.{ap, sym, ◌∙◌, slice_index_or}
use Rattle.xs_meaning.specs.Drawings.{no_colours}
use Rattle.xs_meaning.specs.Palettes.{keyed, pixel_of}
use Rattle.xs_check.proofs.StyleKeys.{style_at-zero, style_at-lacks, style_at-has}
use Rattle.xs_check.proofs.good.GoodScene.style_at.Goals as goal

pub returns-then-style-eq0 : goal.returns-then-style-eq0
returns-then-style-eq0 c =
    style_at-zero (slice_index_or c.args.self.now.palettes c.args.palette no_colours) c.args.row c.args.style c.if-style-eq0.true

pub returns-in_default : goal.returns-in_default
returns-in_default c =
    style_at-lacks (slice_index_or c.args.self.now.palettes c.args.palette no_colours) c.args.row c.args.style (sym c.written.ensures ∙ c.in_default.is)

pub returns : goal.returns
returns c =
    let written = c.in-Some.written in
    c.pixel.ensures ∙ ap pixel_of (c.keyed.ensures ∙ ap (λ o. keyed o written) c.key.ensures)
    ∙ style_at-has (slice_index_or c.args.self.now.palettes c.args.palette no_colours) c.args.row c.args.style written c.if-style-eq0.false
    (sym c.written.ensures ∙ c.in-Some.is)
