use Rattle.std.proofs.Common.{◌*◌, ◌∙◌, sym, arith}
use Rattle.std.proofs.lemmas.List.{take_rest}
use Rattle.xs_rawfile.proofs.Scanning.{search_step, search_found, search_end}
use Rattle.xs_rawfile.proofs.premultiplied.first_unmultiplied.Goals as goal

pub loop-pixel-preserved : goal.loop-pixel-preserved
loop-pixel-preserved c =
    let seen = rw (take_rest c.args.bytes.now (4 * c.loop-pixel.pixel)) at c.exceeds.ensures in
    (omega arith, c.loop-pixel.invariant.1 ∙ search_step c.args.bytes.now c.loop-pixel.pixel (omega arith) (sym seen ∙ c.if-exceeds.false))

pub returns-then-exceeds-clause-first : goal.returns-then-exceeds-clause-first
returns-then-exceeds-clause-first c =
    let seen = rw (take_rest c.args.bytes.now (4 * c.loop-pixel.pixel)) at c.exceeds.ensures in
    sym (c.loop-pixel.invariant.1 ∙ search_found c.args.bytes.now c.loop-pixel.pixel (omega arith) (sym seen ∙ c.if-exceeds.true))

pub returns-clause-first : goal.returns-clause-first
returns-clause-first c = sym (c.loop-pixel.invariant.1 ∙ search_end c.args.bytes.now c.loop-pixel.pixel (omega arith))
