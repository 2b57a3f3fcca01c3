use Rattle.std.proofs.Common.{ap, ◌∙◌, refl}
use Rattle.xs_scene.specs.Names.{is_name}
use Rattle.xs_top.proofs.Making.{base_is_a_name}
use Rattle.xs_top.proofs.make.made_base.Goals as goal

pub unreachable-requires : goal.unreachable-requires
unreachable-requires c = c.in-None.ensures (ap is_name c.in_ok-from_str.ensures.ok ∙ base_is_a_name)
