use Rattle.std.proofs.Common.{◌∙◌, arith}
use Rattle.xs_palette.specs.Styles.{style_of}
use Rattle.xs_tint.proofs.ClearEnds.{shown_end, clear_end}
use Rattle.xs_tint.proofs.tints.styles_shown.Goals as goal

pub returns-then-ne : goal.returns-then-ne
returns-then-ne c =
    shown_end (style_of c.args.p.now) c.loop-count.count (omega arith) c.style.result c.style.ensures c.ne.result c.ne.ensures c.if-ne.true
    ∙ c.loop-count.invariant

pub loop-count-preserved : goal.loop-count-preserved
loop-count-preserved c =
    clear_end (style_of c.args.p.now) c.loop-count.count (omega arith) c.style.result c.style.ensures c.ne.result c.ne.ensures c.if-ne.false
    ∙ c.loop-count.invariant
