-- No side of an alias is longer than one of a raster without bytes.
use Rattle.std.proofs.Common.{◌≤◌, ℕ, subst, sym}
use Rattle.xs_rect.specs.Area.{Area}
use Rattle.xs_cache_timing.proofs.BlockLemmas.{has_sides}
use Rattle.xs_cache_timing.proofs.seat.blank_tile.Goals as goal

pub blank-raster-requires-clause-width : goal.blank-raster-requires-clause-width
blank-raster-requires-clause-width c =
    subst (λ (r : Area). r.w ≤ 192) (sym c.rect.ensures) (has_sides c.args.p.now c.args.k c.aliases-aliases.ensures.valid c.requires).0

pub blank-raster-requires-clause-height : goal.blank-raster-requires-clause-height
blank-raster-requires-clause-height c =
    subst (λ (r : Area). r.h ≤ 192) (sym c.rect.ensures) (has_sides c.args.p.now c.args.k c.aliases-aliases.ensures.valid c.requires).1
