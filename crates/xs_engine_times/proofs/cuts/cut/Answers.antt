use Rattle.std.proofs.Common.{◌∙◌, ℕ, List, sym, ap₂, subst}
use Rattle.xs_rect.specs.Area.{Area}
use Rattle.xs_rect.specs.Tiles.{IsCut, tile_areas}
use Rattle.xs_engine_times.proofs.cuts.cut.Goals as goal

pub returns : goal.returns
returns c =
    let same = ap₂ (λ (w h : ℕ). tile_areas w h) c.requires.w c.requires.h in
    subst (λ (l : List Area). IsCut c.args.w c.args.h l) (c.in_ok-made.ensures.each ∙ same ∙ sym c.requires.tiles)
    c.in_ok-made.ensures.cut
