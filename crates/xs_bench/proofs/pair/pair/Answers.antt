use Rattle.std.proofs.Common.{refl, sym, ap}
use Rattle.xs_pixel.specs.Channels.{Channels}
use Rattle.xs_pixel.specs.Operations.{apply_of}
use Rattle.xs_bench.specs.Inputs.{raster_image}
use Rattle.xs_bench.proofs.Blank.{image_clear, shows_same}
use Rattle.xs_bench.proofs.pair.pair.Goals as goal

pub returns-then-not-has_bytes : goal.returns-then-not-has_bytes
returns-then-not-has_bytes c =
    let first = c.args.first.now in
    let second = c.args.second.now in
    shows_same _ _ _ _ c.under_clear.result c.requires
    (λ q. ap (λ (u : Channels). apply_of c.args.op u (raster_image second q)) (sym (image_clear first q (c.if-not-has_bytes.ensures.clear refl))))
    c.under_clear.ensures

pub returns-then-not-has_bytes-2 : goal.returns-then-not-has_bytes-2
returns-then-not-has_bytes-2 c =
    let first = c.args.first.now in
    let second = c.args.second.now in
    shows_same _ _ _ _ c.over_clear.result refl
    (λ q. ap (λ (d : Channels). apply_of c.args.op (raster_image first q) d) (sym (image_clear second q (c.if-not-has_bytes-2.ensures.clear refl))))
    c.over_clear.ensures
