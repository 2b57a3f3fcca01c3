use Rattle.std.proofs.Common.{ap}
use Rattle.xs_scene.specs.Records.{ColoursRecord}
use Rattle.xs_check.specs.Passes.{differ_in_row_or_style}
use Rattle.xs_check.proofs.Tests.{keys_decided}
use Rattle.xs_check.proofs.overlaps.PaletteOverlapsRequirementColours.look.Goals as goal

pub returns : goal.returns
returns c = rw (c.in_ok-path.ensures, c.items.ensures, ap (λ (x : ColoursRecord). x.keys) c.item.view_is) at (c.each_apart.ensures differ_in_row_or_style keys_decided)
