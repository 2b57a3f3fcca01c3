use Rattle.std.proofs.Common.{◌≡◌, ◌*◌, ◌∷◌, map}
use Rattle.std.specs.List.{range_with_len}
use Rattle.xs_make.specs.Draws.{state_after}
use Rattle.xs_make.specs.Scenes.{clear_style, style_from}
use Rattle.xs_make.proofs.scene.palette.Given as goal

abbrev pub invariant-loop-style : goal.invariant-loop-style
invariant-loop-style l =
    record {
      styles : l.styles.items ≡ clear_style ∷ map (style_from l.initial.draws) (range_with_len 0 l._style);
      draws : l.draws ≡ state_after l.initial.draws (3 * l._style);
    }
