use Rattle.std.proofs.Common.{refl, sym}
use Rattle.xs_blur.proofs.Blurring.{blurs_blank}
use Rattle.xs_blur.proofs.moving.blur.Goals as goal

pub returns-then-not-has_bytes-clause-blurs : goal.returns-then-not-has_bytes-clause-blurs
returns-then-not-has_bytes-clause-blurs c =
    blurs_blank c.args.n c.args.rect c.args.input.now c.blank.result (c.if-not-has_bytes.ensures.clear refl) c.blank.ensures (sym c.if-not-has_bytes.ensures.value)
