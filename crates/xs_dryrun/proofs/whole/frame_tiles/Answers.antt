use Rattle.std.proofs.Common.{◌≤◌, List, length, sym, subst}
use Rattle.xs_rect.specs.Area.{Area}
use Rattle.xs_dryrun.specs.Filling.{IsFrame}
use Rattle.xs_dryrun.proofs.Frames.{is_frame, some_tiles, few_tiles}
use Rattle.xs_dryrun.proofs.whole.frame_tiles.Goals as goal

pub returns-clause-frame : goal.returns-clause-frame
returns-clause-frame c =
    subst (λ (areas : List Area). IsFrame areas) (sym c.in_ok-tiles.ensures.each)
    (is_frame c.args.w c.args.h c.requires.wide.0 c.requires.wide.1 c.requires.high.0 c.requires.high.1)

pub returns-clause-some : goal.returns-clause-some
returns-clause-some c =
    subst (λ (areas : List Area). 1 ≤ length areas) (sym c.in_ok-tiles.ensures.each)
    (some_tiles c.args.w c.args.h c.requires.wide.0 c.requires.high.0)

pub returns-clause-few : goal.returns-clause-few
returns-clause-few c =
    subst (λ (areas : List Area). length areas ≤ 4096) (sym c.in_ok-tiles.ensures.each)
    (few_tiles c.args.w c.args.h c.requires.wide.1 c.requires.high.1)
