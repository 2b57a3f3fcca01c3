use Rattle.std.proofs.Common.{ap, ◌∙◌}
use Rattle.xs_scene.specs.Names.{is_name}
use Rattle.xs_make.proofs.Names.{cels_have_names}
use Rattle.xs_make.proofs.scene.name.Goals as goal

pub unreachable-requires : goal.unreachable-requires
unreachable-requires c =
    c.in-None.ensures (ap is_name c.in_ok-cel_name.ensures ∙ cels_have_names c.args.m c.requires)
