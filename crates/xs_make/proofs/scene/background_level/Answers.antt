use Rattle.std.proofs.Common.{ap, ◌∙◌}
use Rattle.xs_scene.specs.Names.{is_name}
use Rattle.xs_make.proofs.Names.{background_has_a_name}
use Rattle.xs_make.proofs.scene.background_level.Goals as goal

pub unreachable-requires : goal.unreachable-requires
unreachable-requires c = c.in_default.ensures (ap is_name c.in_ok-from_str.ensures.ok ∙ background_has_a_name)
