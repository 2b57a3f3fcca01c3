use Rattle.std.proofs.Common.{[], ◌∷◌, get_or, refl, ap, ◌∙◌, arith}
use Rattle.xs_pixel.specs.Channels.{clear}
use Rattle.xs_pixel.specs.PixelRows.{pixels}
use Rattle.xs_pixel.proofs.PixelRowLemmas.{pixel_of_chunk}
use Rattle.xs_lanes.proofs.cm32.entry.Goals as goal

pub returns-clause-value : goal.returns-clause-value
returns-clause-value c =
    let table = c.args.table.now in
    pixel_of_chunk _ c.min-place.result table clear refl (omega (arith, c.requires, c.min-place.ensures))
    ∙ ap (λ k. get_or (pixels table) k clear ∷ []) c.min-place.ensures
